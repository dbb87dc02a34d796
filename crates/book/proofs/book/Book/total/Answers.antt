use Rattle.std.proofs.Common.{◌≡◌, length, map, sym}
use Rattle.month.specs.View.{figures}
use Rattle.settlement.specs.Settling.{units_of, opening_units}
use Rattle.book.proofs.Fits.{fit_each_lawful, months_of}
use Rattle.book.proofs.Told.{told_total}
use Rattle.book.proofs.book.Book.total.Goals as goal

pub returns : goal.returns
returns g c =
    let b = c.self.inside in
    let row = g.S.Schedule.meaning b.schedule in
    let ms = map figures b.months.items in
    let balances = opening_units c.in_ok-opened.opened.terms.balances in
    let sound = c.self.invariant.0 in
    let suits : length row ≡ length balances = rw c.in_ok-opened.was at sound.suits in
    let all = fit_each_lawful row ms (months_of row b.opened b.months.items b.billed.items b.records.items sound) (g.met.S.Schedule.lawful b.schedule) (length balances) (sym suits) in
    rw (← c.self.view_is, c.in_ok-opened.was) (told_total row ms (map units_of b.billed.items) balances c.total.result all (rw (← c.as_slice.ensures.value, ← c.as_slice-2.ensures.value) c.total.ensures))
