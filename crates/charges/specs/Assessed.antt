-- The figure of an assessment that adds up over months.
use Rattle.std.specs.Prelude.{ℕ, ◌≤◌}
use Rattle.std.proofs.Common.{rules}
use Rattle.bounded.specs.Sizes.{greatest_of_36}
use Rattle.charges.specs.declared.assessment.Assessment.{Assessment}

abbrev pub allowance_of : Assessment → ℕ
allowance_of a = a.answer.1

-- it is such that 36 of it still add up
pub allowance_small : (a : Assessment) → allowance_of a ≤ greatest_of_36
allowance_small a = search rules
