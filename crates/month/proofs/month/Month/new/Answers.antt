use Rattle.std.proofs.Common.{◌≡◌, Some, None, ap, sym, ◌∙◌, subst, MatchResult}
use Rattle.std.proofs.lemmas.Result.{err_from_is_err_and}
use Rattle.fields.specs.Questions.{first_no}
use Rattle.fields.proofs.Asked.{carried_some, first_no_after, first_no_stop}
use Rattle.month.specs.Asked.{limits_asked, rules_asked, month_asked}
use Rattle.month.specs.Making.{Made, NotMade}
use Rattle.month.specs.Refusals.{month_refusal}
use Rattle.month.specs.Stated.{stated}
use Rattle.month.specs.declared.fault.MonthFault.{MonthFault}
use Rattle.month.specs.declared.statement.Statement.{Statement}
use Rattle.month.specs.Valid.{Valid}
use Rattle.month.specs.Validity.{within_valid, none_from, valid_made}
use Rattle.month.proofs.month.Month.new.Goals as goal

not_made : (s : Statement) (e : MonthFault) → first_no (month_asked (stated s)) ≡ Some e → NotMade s e
not_made s e first = record { first = first; told = carried_some month_refusal (month_asked (stated s)) e first }

pub returns-in_err-within : goal.returns-in_err-within
returns-in_err-within c =
    let s = c.args.statement in
    let r = c.from_residual.result in
    let p = err_from_is_err_and r c.from_residual.ensures.1 in
    let cases : MatchResult r (λ m. Made s m) (λ e. NotMade s e) = rw (p.1, p.2) (not_made s _ (first_no_stop (limits_asked (stated s)) (rules_asked (stated s)) _ c.in_err-within.ensures)) in
    record { cases = cases; valid = valid_made s r cases }

pub returns-in_err-ask_rules : goal.returns-in_err-ask_rules
returns-in_err-ask_rules c =
    let s = c.args.statement in
    let r = c.from_residual-in_err-ask_rules.result in
    let p = err_from_is_err_and r c.from_residual-in_err-ask_rules.ensures.1 in
    let w = c.in_ok-within.within in
    let limits : first_no (limits_asked (stated s)) ≡ None = ap (λ t. first_no (limits_asked (stated t))) (sym c.in_ok-within.ensures) ∙ none_from _ w.limits in
    let is = ap (λ t. first_no (rules_asked (stated t))) (sym c.in_ok-within.ensures) ∙ c.in_err-ask_rules.ensures in
    let cases : MatchResult r (λ m. Made s m) (λ e. NotMade s e) = rw (p.1, p.2) (not_made s _ (first_no_after (limits_asked (stated s)) (rules_asked (stated s)) limits ∙ is)) in
    record { cases = cases; valid = valid_made s r cases }

pub returns-clause-cases : goal.returns-clause-cases
returns-clause-cases c = record { valid = subst (λ t. Valid (stated t)) c.in_ok-within.ensures (within_valid c.in_ok-within.within c.in_ok-ask_rules.ensures); same = c.in_ok-within.ensures }
