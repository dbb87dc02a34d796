use Rattle.std.proofs.Common.{◌≡◌, ◌+◌, take, sum_by}
use Rattle.month.specs.Amounts.{kwh_of}
use Rattle.month.proofs.within.WithinLimits.sold.Given as goal

abbrev pub invariant-loop-bracket : goal.invariant-loop-bracket
invariant-loop-bracket l = l.kwh ≡ l.self.statement.sales.nonlifeline + sum_by kwh_of (take l.bracket-index l.bracket-items)
