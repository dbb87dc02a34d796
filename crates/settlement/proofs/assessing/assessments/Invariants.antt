use Rattle.std.proofs.Common.{map, take}
use Rattle.bounded.specs.View.{held}
use Rattle.month.specs.View.{figures}
use Rattle.schedule.specs.Rows.{MayBeAsked, numbered}
use Rattle.settlement.specs.Months.{Assesses}
use Rattle.settlement.proofs.assessing.assessments.Given as goal

abbrev pub invariant-loop-index : goal.invariant-loop-index
invariant-loop-index g l =
    MayBeAsked (g.S.Schedule.meaning l.schedule) l.number → Assesses (numbered (g.S.Schedule.meaning l.schedule) l.number) (map figures (take l.index l.months)) (held l.assessed)
