use Rattle.std.proofs.Common.{map, take}
use Rattle.bounded.specs.View.{held}
use Rattle.month.specs.View.{figures}
use Rattle.settlement.specs.Settling.{units_of}
use Rattle.settlement.specs.Positions.{ArePositions}
use Rattle.settlement.proofs.position.taking.positions.Given as goal

abbrev pub invariant-loop-number : goal.invariant-loop-number
invariant-loop-number g l =
    ArePositions (g.S.Schedule.meaning l.schedule) (map (λ b. b.units) (take l.number l.opening-items)) (map figures l.months) (map units_of l.bills) (held l.taken)
