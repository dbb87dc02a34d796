-- What entering a month answers and makes.
use Rattle.std.specs.Prelude.{◌≡◌, ℕ, List, [], ◌∷◌, ◌++◌, Option, Some, None}
use Rattle.charges.specs.Meaning.{Meaning}
use Rattle.fields.specs.Questions.{first_no}
use Rattle.month.specs.Figures.{Figures}
use Rattle.month.specs.Valid.{Valid}
use Rattle.monthfile.specs.Layout.{file_of}
use Rattle.settlement.specs.Settling.{Answered, settled, left_by}
use Rattle.settlement.specs.Corrections.{is_barred}
use Rattle.settlement.specs.declared.record.Mark.TheVariants.{Pending}
use Rattle.book.specs.Account.{Account, last_record}
use Rattle.book.specs.Postings.{posting_asked}
use Rattle.book.specs.declared.duty.Duty.{Duty}
use Rattle.book.specs.declared.kind.PostingKind.TheVariants.{Entry}

-- the answer to entering a month: it is billed at the rates last announced, and settled after the months that stand
abbrev pub answer_to : List Meaning → Account → Figures → Answered
answer_to row a m = settled row a.spread a.balances (a.months ++ m ∷ []) (a.billed ++ a.announced ∷ []) (left_by (last_record a)) (is_barred (last_record a))

-- the book with the month added, and its answer carried out
abbrev pub added : Account → Figures → Answered → Account
added a m answer = record {
  number = a.number;
  spread = a.spread;
  balances = a.balances;
  announced = answer.rates;
  months = a.months ++ m ∷ [];
  billed = a.billed ++ a.announced ∷ [];
  records = a.records ++ (record { closing = answer.closing; mark = Pending; standing = answer.standing }) ∷ [];
}

abbrev pub with_month : List Meaning → Account → Figures → Account
with_month row a m = added a m (answer_to row a m)

-- the book is open, and this is its answer to the month
abbrev pub AnswersTo : List Meaning → Option Account → Figures → Answered → Type 0
AnswersTo row None m answer = ⊥
AnswersTo row (Some a) m answer = answer ≡ answer_to row a m

-- the book is open, the month is added with this answer, and the duty has the numbers of the book and of the month
abbrev pub Adds : Option Account → Option Account → Figures → Answered → Duty → Type 0
Adds None after m answer duty = ⊥
Adds (Some a) after m answer duty = (after ≡ Some (added a m answer)) × (duty.book ≡ a.number) × (duty.month ≡ m.month)

-- the file states a month of which all questions are answered yes, the book has it, and the answer and the duty are its own
pub record Entered (row : List Meaning) (before after : Option Account) (file : List ℕ) (answer : Answered) (duty : Duty) : Type 0 where
  pub account : Account
  pub open_before : before ≡ Some account
  pub stated : Figures
  pub valid : Valid stated
  pub file_states : file ≡ file_of stated
  pub asked : first_no (posting_asked Entry row before stated) ≡ None
  pub book : after ≡ Some (with_month row account stated)
  pub answer_is : answer ≡ answer_to row account stated
  pub duty_book : duty.book ≡ account.number
  pub duty_month : duty.month ≡ stated.month
