use Rattle.month.proofs.fault.MonthFaultDisplay.fmt.Goals as goal

pub returns-in-OutsideLimit-clause-writes : goal.returns-in-OutsideLimit-clause-writes
returns-in-OutsideLimit-clause-writes g c = rw (c.in-OutsideLimit.is, ← c.limits_of-limits.ensures) c.write-in-OutsideLimit.ensures.writes
