use Rattle.std.proofs.Common.{◌≡◌, ◌<◌, length, map, Some, slice_get, arith}
use Rattle.std.proofs.lemmas.Grind.{common_steps}
use Rattle.std.proofs.lemmas.List.{length-map}
use Rattle.std.proofs.lemmas.Option.{gets, slice_get_within}
use Rattle.bounded.specs.View.{held}
use Rattle.month.specs.View.{figures}
use Rattle.settlement.specs.Settling.{units_of, opening_units}
use Rattle.settlement.specs.Months.{Assessable}
use Rattle.book.proofs.Fits.{fit_all_lawful, months_of}
use Rattle.book.proofs.Told.{told_outstanding}
use Rattle.book.proofs.book.Book.outstanding.Goals as goal

pub returns : goal.returns
returns g c =
    let b = c.self.inside in
    let i = c.args.mechanism in
    let row = g.S.Schedule.meaning b.schedule in
    let ms = map figures b.months.items in
    let openings = held c.in_ok-opened.opened.terms.balances in
    let sound = c.self.invariant.0 in
    let suits : length row ≡ length (opening_units c.in_ok-opened.opened.terms.balances) = rw c.in_ok-opened.was at sound.suits in
    let at : slice_get c.as_slice.result.now i ≡ Some c.in_ok-opening.opening = grind (arith, common_steps, gets) in
    let inside : i < length c.as_slice.result.now = slice_get_within c.as_slice.result.now i _ at in
    let here : slice_get openings i ≡ Some c.in_ok-opening.opening = rw (← c.as_slice.ensures.value) at in
    let within : i < length openings = slice_get_within openings i _ here in
    let own : i < length row = omega (arith, suits, within, length-map openings (λ o. o.units)) in
    let lawful = fit_all_lawful row ms (months_of row b.opened b.months.items b.billed.items b.records.items sound) (g.met.S.Schedule.lawful b.schedule) i own in
    let all : Assessable row i ms = record { asked = record { own = own; up_to_7 = omega (arith, c.as_slice.ensures.most) }; lawful = lawful } in
    rw (← c.self.view_is, c.in_ok-opened.was) (told_outstanding row ms (map units_of b.billed.items) i openings c.in_ok-opening.opening c.outstanding.result here all (rw (← c.as_slice-2.ensures.value, ← c.as_slice-3.ensures.value) c.outstanding.ensures))
