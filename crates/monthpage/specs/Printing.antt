-- What a reader had, what a writer then holds, and the status. Of a reader or a writer of which nothing is known, as standard input, nothing is asked.
use Rattle.std.specs.Prelude.{◌≡◌, ℕ, Bool, if◌then◌else◌, List, Option, IfSome}
use Rattle.std.specs.Io.KnownBytes.{Appends}
use Rattle.monthpage.specs.Pages.{Checks}

-- the status of a program that ends with whether all is good
abbrev pub status_of : Bool → ℕ
status_of good = if good then 0 else 1

-- the page of all that was to be read is written behind what the writer had, and the status tells whether it is that of a good file
pub record PrintsPage (cap : ℕ) (unread old new : Option (List ℕ)) (status : ℕ) : Type 0 where
  pub file : List ℕ
  pub read : IfSome unread (λ bytes. file ≡ bytes)
  pub page : List ℕ
  pub good : Bool
  pub checked : Checks cap file page good
  pub written : Appends old new page
  pub told : status ≡ status_of good
