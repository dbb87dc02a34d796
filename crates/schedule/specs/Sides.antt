-- Where a number of two rows joined is found.
use Rattle.std.specs.Prelude.{◌≡◌, ℕ, List, ◌++◌, Option, Some, None}
use Rattle.charges.specs.Meaning.{Meaning}
use Rattle.schedule.specs.Rows.{MayBeAsked, numbered}

-- it names the same mechanism by a number that one of the rows may be asked for: of the first by itself, or of the second
pub record FoundIn (row joined : List Meaning) (n number : ℕ) : Type 0 where
  pub asked : MayBeAsked row n
  pub same : numbered row n ≡ numbered joined number

abbrev pub Found : List Meaning → List Meaning → ℕ → Option ℕ → Type 0
Found first second number None = FoundIn first (first ++ second) number number
Found first second number (Some n) = FoundIn second (first ++ second) n number
