use Rattle.std.proofs.Common.{◌++◌, ◌∷◌, [], ap, sym, subst, ◌∙◌}
use Rattle.bookcases.proofs.Kept.{keeps_entered}
use Rattle.bookcases.specs.Kept.{Keeps}
use Rattle.bookcases.proofs.docket.Docket.enter.Goals as goal

pub invariant_of-self-in-Ok : goal.invariant_of-self-in-Ok
invariant_of-self-in-Ok c =
    let kept = keeps_entered c.self.invariant c.in-Ok.ensures.cases c.in-Ok.ensures.owed in
    let pushed = c.push_reserved.ensures.items ∙ ap (λ ds. ds ++ c.in-Ok.duty ∷ []) c.reserve.ensures.items in
    subst (Keeps c.enter.new.self.account) (sym pushed) kept
