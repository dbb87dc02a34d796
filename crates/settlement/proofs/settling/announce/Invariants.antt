use Rattle.std.proofs.Common.{◌≡◌, map, take}
use Rattle.settlement.specs.Settling.{units_of}
use Rattle.settlement.specs.Positions.{corrected}
use Rattle.settlement.proofs.settling.announce.Given as goal

abbrev pub invariant-loop-position : goal.invariant-loop-position
invariant-loop-position l = units_of l.rates ≡ map (corrected l.standing l.barred l.terms.spread.months) (take l.position-index l.position-items)
