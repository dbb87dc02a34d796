use Rattle.std.proofs.Common.{◌≡◌, ◌*◌, ◌≤◌, ◌+◌, nat_abs, map}
use Rattle.settlement.specs.Settling.{units_of}
use Rattle.settlement.specs.Bounds.{greatest_month_adds}
use Rattle.settlement.proofs.Balances.{balance_so_far}
use Rattle.settlement.proofs.balance.balance_of.Given as goal

abbrev pub invariant-loop-month : goal.invariant-loop-month
invariant-loop-month l = record {
  so_far : l.balance ≡ balance_so_far l.fn.opening.units l.number l.assessed (map units_of l.bills) l.month;
  size : nat_abs l.balance ≤ 1000000000000 + l.month * greatest_month_adds;
}
