-- What is asked of a file that is to be entered, or to amend a month. One that is accepted is a posting.
use Rattle.std.specs.Prelude.{◌≡◌, ℕ, ◌+◌, ◌<◌, Bool, true, false, ◌&&◌, List, ◌∷◌, ◌++◌, length, Option, Some, None, ◌==◌, nat_le}
use Rattle.charges.specs.Meaning.{Meaning}
use Rattle.fields.specs.Questions.{first_no, carried}
use Rattle.month.specs.Figures.{Figures}
use Rattle.monthfile.specs.Questions.{file_asked, asked}
use Rattle.monthfile.specs.Reading.{States}
use Rattle.schedule.specs.Rows.{numbered}
use Rattle.settlement.specs.Numbers.{by_number}
use Rattle.book.specs.Account.{Account}
use Rattle.book.specs.Refusals.{book_refusal}
use Rattle.book.specs.declared.fault.BookFault.{BookFault}
use Rattle.book.specs.declared.fault.BookFault.TheVariants.{Month, WrongMonth, NotFit}
use Rattle.book.specs.declared.kind.PostingKind.{PostingKind}
use Rattle.book.specs.declared.kind.PostingKind.TheVariants.{Entry, Amendment}

-- of n standing months: an entry is of the one after them, an amendment of one of them
abbrev pub has_place : PostingKind → ℕ → ℕ → Bool
has_place Entry month n = month == n + 1
has_place Amendment month n = nat_le 1 month && nat_le month n

-- whether the book has a place for the month; a closed book has none
abbrev pub is_placed : PostingKind → Option Account → Figures → Bool
is_placed kind None m = false
is_placed kind (Some a) m = has_place kind m.month (length a.months)

-- question 13, of n mechanisms by number
abbrev pub fit_asked : List Meaning → ℕ → Figures → List (Bool × BookFault)
fit_asked row n m = by_number (λ i. ((numbered row i).fit m, NotFit i)) n

-- each mechanism finds the month fit
abbrev pub FitForEach : List Meaning → Figures → Type 0
FitForEach row m = (i : ℕ) → i < length row → (numbered row i).fit m ≡ true

-- questions 12 and 13
abbrev pub posting_asked : PostingKind → List Meaning → Option Account → Figures → List (Bool × BookFault)
posting_asked kind row account m = (is_placed kind account m, WrongMonth m.month) ∷ fit_asked row (length row) m

-- questions 1 to 13, of a file and of the figures that it states
abbrev pub all_asked : PostingKind → List Meaning → Option Account → List ℕ → Figures → List (Bool × BookFault)
all_asked kind row account file m = carried Month (asked file m) ++ posting_asked kind row account m

-- the fault is that of the first question answered no; questions 6 to 13 are asked of some figures, and where 1 to 5 are answered yes these are
-- the ones that the file states
pub record PostingRefused (kind : PostingKind) (row : List Meaning) (account : Option Account) (file : List ℕ) (e : BookFault) : Type 0 where
  pub asked_of : Figures
  pub states : first_no (file_asked file) ≡ None → States file asked_of
  pub first : first_no (all_asked kind row account file asked_of) ≡ Some e
  -- the same, by number, layer and place
  pub told : first_no (carried book_refusal (all_asked kind row account file asked_of)) ≡ Some (book_refusal e)
