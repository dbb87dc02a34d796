use Rattle.std.proofs.Common.{◌≡◌, map, sum_by, ◌*◌, ◌≤◌, take, nat_abs}
use Rattle.settlement.specs.Bounds.{greatest_outstanding, greatest_recent}
use Rattle.settlement.specs.Numbers.{int_sum}
use Rattle.settlement.specs.Positions.{outstanding_of, recent_of}
use Rattle.settlement.proofs.settling.close.Given as goal

-- the sums so far, and how large they can be
abbrev pub invariant-loop-position : goal.invariant-loop-position
invariant-loop-position l = record {
  total : l.total ≡ int_sum (map outstanding_of (take l.position-index l.position-items));
  revenue : l.revenue ≡ sum_by recent_of (take l.position-index l.position-items);
  total_most : nat_abs l.total ≤ l.position-index * greatest_outstanding;
  revenue_most : l.revenue ≤ l.position-index * greatest_recent;
}
