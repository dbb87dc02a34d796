use Rattle.std.proofs.Common.{◌≡◌, ℕ, ◌*◌, ◌<◌, ◌≤◌, map, nat_abs}
use Rattle.month.specs.View.{figures}
use Rattle.schedule.specs.Rows.{numbered}
use Rattle.settlement.specs.Months.{AllLawful}
use Rattle.settlement.specs.Settling.{units_of}
use Rattle.settlement.specs.Bounds.{greatest_outstanding}
use Rattle.settlement.proofs.Balances.{total_so_far}
use Rattle.settlement.proofs.balance.total.Given as goal

abbrev pub invariant-loop-number : goal.invariant-loop-number
invariant-loop-number g l = record {
  so_far : l.total ≡ total_so_far (g.S.Schedule.meaning l.schedule) (map (λ o. o.units) l.opening-items) (map figures l.months) (map units_of l.bills) l.number;
  lawful : (i : ℕ) → i < l.number → AllLawful (numbered (g.S.Schedule.meaning l.schedule) i) (map figures l.months);
  size : nat_abs l.total ≤ l.number * greatest_outstanding;
}
