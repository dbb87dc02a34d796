use Rattle.std.proofs.Common.{◌≡◌, take, sum_by}
use Rattle.month.specs.Amounts.{granted}
use Rattle.month.proofs.month.Month.lifeline_discount.Given as goal

abbrev pub invariant-loop-bracket : goal.invariant-loop-bracket
invariant-loop-bracket l = l.total ≡ sum_by (granted l.self.within.statement.sales) (take l.bracket-index l.bracket-items)
