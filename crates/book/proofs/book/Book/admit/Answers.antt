-- A month that is read is refused for its number, or for a mechanism that does not find it fit.
use Rattle.std.proofs.Common.{◌≡◌, length, ◌∙◌, sym, rules}
use Rattle.std.proofs.lemmas.Result.{err_from_is_err_and}
use Rattle.std.proofs.lemmas.List.{length-map}
use Rattle.settlement.specs.Settling.{opening_units}
use Rattle.book.proofs.Admitted.{late_refused, unfit_refused}
use Rattle.book.proofs.book.Book.admit.Goals as goal

pub returns-in_err-ask : goal.returns-in_err-ask
returns-in_err-ask g c =
    let p = err_from_is_err_and c.from_residual-in_err-ask.result c.from_residual-in_err-ask.ensures.1 in
    let b = c.self.inside in
    let row = g.S.Schedule.meaning b.schedule in
    let refused = late_refused c.args.kind row c.args.file.now c.in_ok-month.month c.in_ok-month.ensures.cases c.in-Some.opened b.months.items b.billed.items b.records.items c.in-Some.is c.from.result c.len.result (search rules) (search rules) (sym c.has_place.ensures ∙ c.in_err-ask.ensures.0) in
    rw (p.1, p.2, ← c.self.view_is, c.in_err-ask.ensures.1, ← c.from.ensures) refused

pub returns-in_err-ask_fit : goal.returns-in_err-ask_fit
returns-in_err-ask_fit g c =
    let p = err_from_is_err_and c.from_residual-in_err-ask_fit.result c.from_residual-in_err-ask_fit.ensures.1 in
    let b = c.self.inside in
    let row = g.S.Schedule.meaning b.schedule in
    let count : c.len-2.result ≡ length (opening_units c.in-Some.opened.terms.balances) = c.len-2.ensures.is ∙ sym (length-map _ (λ b. b.units)) in
    let refused = unfit_refused c.args.kind row c.args.file.now c.in_ok-month.month c.in_ok-month.ensures.cases c.in-Some.opened b.months.items b.billed.items b.records.items c.in-Some.is c.from.result c.len.result c.len-2.result c.in_err-ask_fit.field-0.0 c.self.invariant.0 (search rules) (search rules) (sym c.has_place.ensures ∙ c.in_ok-ask.ensures) count c.in_err-ask_fit.ensures in
    rw (p.1, p.2, ← c.self.view_is) refused
