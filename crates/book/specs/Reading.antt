-- What a book tells when it is read: nothing for a number that names nothing.
use Rattle.std.specs.Prelude.{◌≡◌, ℕ, Bool, List, ◌∷◌, ℤ, Option, Some, None, is_some, slice_get}
use Rattle.std.specs.Option.{option_map, option_and_then}
use Rattle.charges.specs.Meaning.{Meaning}
use Rattle.fields.specs.Questions.{carried}
use Rattle.fields.specs.Room.{room_asked}
use Rattle.month.specs.Figures.{Figures}
use Rattle.monthfile.specs.Layout.{file_of}
use Rattle.schedule.specs.Rows.{numbered}
use Rattle.settlement.specs.Rules.{outstanding, total}
use Rattle.settlement.specs.declared.record.Closing.{Closing}
use Rattle.settlement.specs.declared.record.Mark.{Mark}
use Rattle.settlement.specs.declared.record.Mark.TheVariants.{Pending}
use Rattle.settlement.specs.declared.record.Record.{Record}
use Rattle.settlement.specs.declared.standing.Standing.{Standing}
use Rattle.settlement.specs.declared.standing.Standing.TheVariants.{Steady}
use Rattle.book.specs.Account.{Account, standing_of}
use Rattle.book.specs.Places.{of_month}
use Rattle.book.specs.declared.fault.BookFault.{BookFault}
use Rattle.book.specs.declared.fault.BookFault.TheVariants.{WrongMonth, Buffer}

abbrev pub outstanding_told : List Meaning → Option Account → ℕ → Option ℤ
outstanding_told row None i = None
outstanding_told row (Some a) i = option_map (λ opening. outstanding (numbered row i) i opening a.months a.billed) (slice_get a.balances i)

abbrev pub total_told : List Meaning → Option Account → Option ℤ
total_told row None = None
total_told row (Some a) = Some (total row a.balances a.months a.billed)

abbrev pub standing_told : Option Account → Standing
standing_told None = Steady
standing_told (Some a) = standing_of a

abbrev pub announced_told : Option Account → ℕ → Option ℤ
announced_told None i = None
announced_told (Some a) i = slice_get a.announced i

abbrev pub billed_told : Option Account → ℕ → ℕ → Option ℤ
billed_told None month i = None
billed_told (Some a) month i = option_and_then (λ rates. slice_get rates i) (of_month a.billed month)

abbrev pub record_told : Option Account → ℕ → Option Record
record_told None month = None
record_told (Some a) month = of_month a.records month

abbrev pub mark_told : Option Account → ℕ → Option Mark
mark_told account month = option_map (λ r. r.mark) (record_told account month)

-- the month has this mark, and every other month the one that it had
pub record MarkSet (before after : Option Account) (month : ℕ) (mark : Mark) : Type 0 where
  pub told : mark_told after month ≡ Some mark
  pub others : (other : ℕ) → (other ≡ month → ⊥) → mark_told after other ≡ mark_told before other

-- no month of the book has its filing pending; a closed book has no month
abbrev pub NonePending : Option Account → Type 0
NonePending account = (month : ℕ) → mark_told account month ≡ Some Pending → ⊥

abbrev pub closing_told : Option Account → ℕ → Option Closing
closing_told account month = option_map (λ r. r.closing) (record_told account month)

abbrev pub month_told : Option Account → ℕ → Option Figures
month_told None month = None
month_told (Some a) month = of_month a.months month

-- the file of a standing month, which writing it fills a buffer with
abbrev pub file_told : Option Account → ℕ → Option (List ℕ)
file_told account month = option_map file_of (month_told account month)

-- questions 12 and 16, of a month that is to be written into a buffer of n bytes
abbrev pub write_asked : Option Account → ℕ → ℕ → List (Bool × BookFault)
write_asked account month n = (is_some (month_told account month), WrongMonth month) ∷ carried Buffer (room_asked n)
