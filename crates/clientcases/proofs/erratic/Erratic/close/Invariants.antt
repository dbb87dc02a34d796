use Rattle.std.proofs.Common.{length}
use Rattle.clientcases.specs.Covering.{Covered}
use Rattle.clientcases.proofs.erratic.Erratic.close.Given as goal

abbrev pub invariant-loop-duty : goal.invariant-loop-duty
invariant-loop-duty l = Covered l.duties.items l.book.account l.other.account

abbrev pub decreases-loop-duty : goal.decreases-loop-duty
decreases-loop-duty l = length l.duties.items
