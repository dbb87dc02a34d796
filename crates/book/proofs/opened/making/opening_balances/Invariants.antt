use Rattle.std.proofs.Common.{◌≡◌, ◌≤◌, true, length, take}
use Rattle.std.specs.List.{list_all}
use Rattle.bounded.specs.View.{held}
use Rattle.settlement.specs.Settling.{opening_units}
use Rattle.book.specs.Opening.{is_balance}
use Rattle.book.proofs.opened.making.opening_balances.Given as goal

abbrev pub invariant-loop-units : goal.invariant-loop-units
invariant-loop-units l = record {
  fit : list_all is_balance (take l.units-index l.given) ≡ true;
  count : l.units-index ≤ 8 → length (held l.balances) ≡ l.units-index;
  so_far : l.units-index ≤ 8 → opening_units l.balances ≡ take l.units-index l.given;
}
