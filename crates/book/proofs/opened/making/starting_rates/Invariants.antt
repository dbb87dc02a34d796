use Rattle.std.proofs.Common.{◌≡◌, ◌≤◌, true, length, take, map, pos}
use Rattle.std.specs.List.{list_all}
use Rattle.bounded.specs.View.{held}
use Rattle.settlement.specs.Settling.{units_of}
use Rattle.book.specs.Opening.{is_starting_rate}
use Rattle.book.proofs.opened.making.starting_rates.Given as goal

abbrev pub invariant-loop-units : goal.invariant-loop-units
invariant-loop-units l = record {
  fit : list_all is_starting_rate (take l.units-index l.given) ≡ true;
  count : l.units-index ≤ 8 → length (held l.rates) ≡ l.units-index;
  so_far : l.units-index ≤ 8 → units_of l.rates ≡ map pos (take l.units-index l.given);
}
