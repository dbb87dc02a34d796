-- What amending a month answers and makes.
use Rattle.std.specs.Prelude.{◌≡◌, ℕ, ◌-◌, ◌≤◌, List, length, take, Option, Some, None}
use Rattle.charges.specs.Meaning.{Meaning}
use Rattle.fields.specs.Questions.{first_no}
use Rattle.month.specs.Figures.{Figures}
use Rattle.month.specs.Valid.{Valid}
use Rattle.monthfile.specs.Layout.{file_of}
use Rattle.settlement.specs.Settling.{Answered, settled, left_by}
use Rattle.settlement.specs.Corrections.{is_barred}
use Rattle.settlement.specs.declared.record.Record.{Record}
use Rattle.book.specs.Account.{Account, marks_of, closings_of}
use Rattle.book.specs.Places.{of_month, changed_month}
use Rattle.book.specs.Postings.{posting_asked}
use Rattle.book.specs.declared.kind.PostingKind.TheVariants.{Amendment}

-- the book with these figures in place of those that stand for their month; what it was billed and its record stay
abbrev pub replaced : Figures → Account → Account
replaced m a = record a { months = changed_month (λ _. m) m.month a.months }

-- the record of the month before the last
abbrev pub record_before_last : Account → Option Record
record_before_last a = of_month a.records (length a.records - 1)

-- the answer to settling the months as they stand, after the standing that the month before the last left
abbrev pub answer_now : List Meaning → Account → Answered
answer_now row a = settled row a.spread a.balances a.months a.billed (left_by (record_before_last a)) (is_barred (record_before_last a))

-- a month that closes with the answer, and leaves its standing; its mark stays
abbrev pub closed_by : Answered → Record → Record
closed_by answer r = record r { closing = answer.closing; standing = answer.standing }

-- the answer carried out: its rates are announced, and the last month closes with it
abbrev pub carried_out : Answered → Account → Account
carried_out answer a = record a {
  announced = answer.rates;
  records = changed_month (closed_by answer) (length a.records) a.records;
}

abbrev pub settled_now : List Meaning → Account → Account
settled_now row a = carried_out (answer_now row a) a

-- the book is open, and a month stands
abbrev pub SomeMonth : Option Account → Type 0
SomeMonth None = ⊥
SomeMonth (Some a) = 1 ≤ length a.months

-- the book is open, and was settled with this answer
abbrev pub SettlesNow : List Meaning → Option Account → Option Account → Answered → Type 0
SettlesNow row None after answer = ⊥
SettlesNow row (Some a) after answer = (answer ≡ answer_now row a) × (after ≡ Some (settled_now row a))

-- the book is open, and has the figures in place of those that stood
abbrev pub Replaces : Option Account → Option Account → Figures → Type 0
Replaces None after m = ⊥
Replaces (Some a) after m = after ≡ Some (replaced m a)

-- the file states a month of which all questions are answered yes, it stands in place of the one that stood under its number, and the months that
-- then stand are settled
pub record Amended (row : List Meaning) (before after : Option Account) (file : List ℕ) (answer : Answered) (month : ℕ) : Type 0 where
  pub account : Account
  pub open_before : before ≡ Some account
  pub stated : Figures
  pub valid : Valid stated
  pub file_states : file ≡ file_of stated
  pub asked : first_no (posting_asked Amendment row before stated) ≡ None
  pub book : after ≡ Some (settled_now row (replaced stated account))
  pub answer_is : answer ≡ answer_now row (replaced stated account)
  pub month_is : month ≡ stated.month

-- what an amendment leaves as it was, of a book that is open before and after: what was agreed on at the opening, how many months stand and what
-- stands for all but the amended one, each month's billed rates and mark, and the closing figures of all but the last
pub record AmendmentKeeps (month : ℕ) (before after : Account) : Type 0 where
  pub number : after.number ≡ before.number
  pub spread : after.spread ≡ before.spread
  pub balances : after.balances ≡ before.balances
  pub count : length after.months ≡ length before.months
  pub others : (other : ℕ) → (other ≡ month → ⊥) → of_month after.months other ≡ of_month before.months other
  pub billed : after.billed ≡ before.billed
  pub marks : marks_of after ≡ marks_of before
  pub closings : take (length before.records - 1) (closings_of after) ≡ take (length before.records - 1) (closings_of before)

-- the same of a book that may be closed
abbrev pub AmendmentKeepsBook : ℕ → Option Account → Option Account → Type 0
AmendmentKeepsBook month None after = ⊥
AmendmentKeepsBook month (Some a) None = ⊥
AmendmentKeepsBook month (Some a) (Some b) = AmendmentKeeps month a b
