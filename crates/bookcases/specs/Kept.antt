-- Duties kept beside a book.
use Rattle.std.specs.Prelude.{◌≡◌, ℕ, ◌<◌, true, List, [], ◌∷◌, length, Option, Some, None}
use Rattle.month.specs.Figures.{Figures}
use Rattle.settlement.specs.declared.record.Record.{Record}
use Rattle.book.specs.Account.{Account}
use Rattle.book.specs.Duties.{is_owed}
use Rattle.book.specs.declared.duty.Duty.{Duty}

-- the months of a book, and the records of them
abbrev pub months_of : Option Account → List Figures
months_of None = []
months_of (Some a) = a.months

abbrev pub records_of : Option Account → List Record
records_of None = []
records_of (Some a) = a.records

-- each duty is owed, and each is of a later month than the one before; the first is of one after the given month
abbrev pub Owing : Option Account → ℕ → List Duty → Type 0
Owing account month [] = Unit {0}
Owing account month (d ∷ ds) = (month < d.month) × (is_owed account d ≡ true) × Owing account d.month ds

-- a docket's book has this number once it is open
abbrev pub Numbered : Option Account → Type 0
Numbered None = Unit {0}
Numbered (Some a) = a.number ≡ 1

-- the book owes all that is kept, and has a record for each of its months
pub record Keeps (account : Option Account) (duties : List Duty) : Type 0 where
  pub owing : Owing account 0 duties
  pub recorded : length (records_of account) ≡ length (months_of account)
  pub numbered : Numbered account
