-- What is asked of a duty, and what filing it or giving it up makes.
use Rattle.std.specs.Prelude.{◌≡◌, ℕ, Bool, true, false, ◌&&◌, List, [], ◌∷◌, Option, Some, None, ◌==◌}
use Rattle.settlement.specs.declared.record.Mark.{Mark}
use Rattle.settlement.specs.declared.record.Mark.TheVariants.{Pending, Filed, Missed}
use Rattle.settlement.specs.declared.record.Record.{Record}
use Rattle.fields.specs.Questions.{first_no}
use Rattle.fields.specs.declared.refusal.Layer.TheVariants as layer
use Rattle.book.specs.Account.{Account}
use Rattle.book.specs.Places.{of_month, changed_month}
use Rattle.book.specs.Reading.{mark_told}
use Rattle.book.specs.Refusals.{book_refusal}
use Rattle.book.specs.declared.duty.Duty.{Duty}
use Rattle.book.specs.declared.duty.ReturnedDuty.{ReturnedDuty}
use Rattle.book.specs.declared.fault.BookFault.{BookFault}
use Rattle.book.specs.declared.fault.BookFault.TheVariants.{NotPending}

-- what a duty shows
abbrev pub book_of : Duty → ℕ
book_of d = d.book

abbrev pub month_of : Duty → ℕ
month_of d = d.month

abbrev pub is_pending : Mark → Bool
is_pending Pending = true
is_pending Filed = false
is_pending Missed = false

abbrev pub pends : Option Record → Bool
pends None = false
pends (Some r) = is_pending r.mark

-- whether the duty is of a book of this number, and its month pending; a closed book owes none
abbrev pub is_owed : Option Account → Duty → Bool
is_owed None d = false
is_owed (Some a) d = d.book == a.number && pends (of_month a.records d.month)

-- the same in the words of the rule, by what the book tells: the duty has the number of the book, and its month the mark pending
abbrev pub Owes : Option Account → Duty → Type 0
Owes None d = ⊥
Owes (Some a) d = (d.book ≡ a.number) × (mark_told (Some a) d.month ≡ Some Pending)

-- question 14
abbrev pub duty_asked : Option Account → Duty → List (Bool × BookFault)
duty_asked account d = (is_owed account d, NotPending d.month) ∷ []

-- the book with this mark on a month
abbrev pub marked : Mark → ℕ → Account → Account
marked mark month a = record a { records = changed_month (λ r. record r { mark = mark }) month a.records }

abbrev pub marked_book : Mark → ℕ → Option Account → Option Account
marked_book mark month None = None
marked_book mark month (Some a) = Some (marked mark month a)

-- question 14 is answered yes, and the month is marked
pub record Spent (before after : Option Account) (duty : Duty) (mark : Mark) : Type 0 where
  pub asked : first_no (duty_asked before duty) ≡ None
  pub book : after ≡ marked_book mark duty.month before

-- it is answered no, and the duty is back
pub record Returned (before : Option Account) (duty : Duty) (e : ReturnedDuty) : Type 0 where
  pub first : first_no (duty_asked before duty) ≡ Some e.fault
  pub told : book_refusal e.fault ≡ record { number = 14; layer = layer.Book; place = duty.month }
  pub same : e.duty ≡ duty
