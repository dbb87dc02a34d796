-- A cost averaged over its divisor, and rounded down twice.
use Rattle.std.specs.Prelude.{ℕ, ◌+◌, ◌*◌, ◌/◌, ◌<◌, ◌≤◌}
use Rattle.std.proofs.Common.{mul-le-mul_right, mul-lt-mul_of_pos_right, div-mul-le_self, arith}
use Rattle.std.proofs.Math.Nat.{lt-div-mul-add}
use Rattle.std.proofs.lemmas.Nat.{div_below, le-div}

module _ (cost divisor quantity : ℕ) (some : 0 < divisor) where
  -- the rate times the quantity is covered
  pub average_covered : cost / divisor * quantity ≤ cost * quantity / divisor
  average_covered = le-div _ _ divisor some (omega (arith, mul-le-mul_right quantity (div-mul-le_self cost divisor)))

  -- a rate more by one would be too much
  pub average_tight : 0 < quantity → cost * quantity / divisor < (cost / divisor + 1) * quantity
  average_tight sold = div_below _ divisor _ some (omega (arith, mul-lt-mul_of_pos_right (lt-div-mul-add {a = cost} some) sold))
