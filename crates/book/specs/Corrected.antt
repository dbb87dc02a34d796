-- What is announced of each mechanism, by what the book tells, and by what its schedule means for the months that stand.
use Rattle.std.specs.Prelude.{◌≡◌, ℕ, ◌-◌, ◌<◌, ◌≤◌, List, length, Option, Some, None}
use Rattle.charges.specs.Meaning.{Meaning}
use Rattle.schedule.specs.Rows.{numbered}
use Rattle.settlement.specs.CorrectionLaws.{Announcement}
use Rattle.settlement.specs.Months.{quantity_at, AllLawful}
use Rattle.book.specs.Account.{Account}
use Rattle.book.specs.Reading.{outstanding_told, standing_told, announced_told, mark_told}

-- the rate announced of mechanism i, and what it is announced by. Months count from 1, so the mark is that of the month before the last; an entry
-- and an amendment leave it as it was
pub record Announces (row : List Meaning) (account : Account) (i : ℕ) (a : Announcement) : Type 0 where
  pub rate : announced_told (Some account) i ≡ Some a.rate
  pub outstanding : outstanding_told row (Some account) i ≡ Some a.outstanding
  pub standing : standing_told (Some account) ≡ a.standing
  pub mark : mark_told (Some account) (length account.months - 1) ≡ a.mark
  pub spread : account.spread ≡ a.spread
  -- the last of the months that stand
  pub base_rate : ((numbered row i).assessed account.months).0 ≡ a.base_rate
  pub quantity : quantity_at (numbered row i) account.months (length account.months - 1) ≡ a.quantity

-- the book is open, and what is announced of each mechanism keeps the law
abbrev pub EachAnnounced : (Announcement → Type 0) → List Meaning → Option Account → Type 0
EachAnnounced law row None = ⊥
EachAnnounced law row (Some account) = (i : ℕ) → i < length row → (a : Announcement) × Announces row account i a × law a

-- what there is to correct by: a month stands, each month has a record, and each mechanism an opening balance and answers that keep its law
pub record Correctable (row : List Meaning) (account : Account) : Type 0 where
  pub spread : 1 ≤ account.spread
  pub some : 1 ≤ length account.months
  pub recorded : length account.records ≡ length account.months
  pub mechanisms : length account.balances ≡ length row
  pub lawful : (i : ℕ) → i < length row → AllLawful (numbered row i) account.months

abbrev pub BookCorrectable : List Meaning → Option Account → Type 0
BookCorrectable row None = ⊥
BookCorrectable row (Some account) = Correctable row account
