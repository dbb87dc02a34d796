use Rattle.settlement.specs.Settling.{left_by}
use Rattle.settlement.proofs.Settled.{settled_from_positions}
use Rattle.settlement.proofs.settling.settle.Goals as goal

pub returns-clause-cases : goal.returns-clause-cases
returns-clause-cases g c =
    let closing = c.close-closing.ensures in
    let taken = c.in_ok-positions.ensures in
    (taken.0, rw (← c.is_barred.ensures) (settled_from_positions _ _ _ _ _ taken.1 _ (left_by c.args.before) _ _ closing.total closing.revenue c.standing_after-standing.ensures c.announce-rates.ensures))
