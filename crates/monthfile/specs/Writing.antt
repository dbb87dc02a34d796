-- What writing a month's file may leave, beside what any writing leaves.
use Rattle.std.specs.Prelude.{◌≡◌, ℕ, List, take}
use Rattle.month.specs.declared.month.Month.{Month}
use Rattle.monthfile.specs.Reading.{Accepted}

-- the first n bytes are a file that is accepted as this month, and whatever file the month was read from is these bytes
pub record WroteBack (m : Month) (after : List ℕ) (n : ℕ) : Type 0 where
  pub accepted : Accepted (take n after) m
  pub same : (file : List ℕ) → Accepted file m → take n after ≡ file
