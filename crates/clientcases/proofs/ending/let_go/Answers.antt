use Rattle.std.proofs.Common.{◌∷◌, ap, subst, sym}
use Rattle.clientcases.specs.Covering.{Covered}
use Rattle.clientcases.proofs.Covering.{covered_without, covered_without_other, not_both}
use Rattle.clientcases.proofs.ending.let_go.Goals as goal

pub returns-in_default : goal.returns-in_default
returns-in_default c = λ ds covered. covered_without c.in_default.ensures.cases c.args.other.now.account ds covered

pub unreachable-requires : goal.unreachable-requires
unreachable-requires c = not_both c.requires c.in-Err.ensures.cases c.in-Err-give_up.ensures.cases

pub returns : goal.returns
returns c = λ ds covered.
    let one = ap (λ b. b.account) c.in-Err.ensures.refused in
    let covered_so = subst (λ d. Covered (d ∷ ds) c.args.one.now.account c.args.other.now.account) (sym c.in-Err.ensures.cases.same) covered in
    subst (λ b. Covered ds b c.give_up-2.new.self.account) (sym one) (covered_without_other c.in-Ok.ensures.cases c.args.one.now.account ds covered_so)
