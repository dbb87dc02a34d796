-- A schedule means a row of mechanisms, numbered from 0.
use Rattle.std.specs.Prelude.{ℕ, ◌<◌, ◌≤◌, min, false, List, length, slice_index_or}
use Rattle.charges.specs.Meaning.{Meaning}

-- the numbers that a schedule is asked for: those of its own mechanisms, of the first eight
pub record MayBeAsked (row : List Meaning) (number : ℕ) : Type 0 where
  pub own : number < length row
  pub up_to_7 : number ≤ 7

-- what stands where a row has no mechanism, so that a definition is whole; nothing is asked of it
abbrev pub no_mechanism : Meaning
no_mechanism = record { fit = λ _. false; quantity = λ _. 0; assessed = λ _. (0, 0) }

-- the mechanism of this number
abbrev pub numbered : List Meaning → ℕ → Meaning
numbered row number = slice_index_or row number no_mechanism

-- a count as it is told: any above 8 as 9
abbrev pub told : ℕ → ℕ
told count = min count 9
