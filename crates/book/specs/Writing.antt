-- What writing a month may leave.
use Rattle.std.specs.Prelude.{◌≡◌, ℕ, List, length, Option, Some, None}
use Rattle.fields.specs.Questions.{first_no, carried}
use Rattle.fields.specs.Room.{Wrote}
use Rattle.month.specs.Figures.{Figures}
use Rattle.month.specs.Valid.{Valid}
use Rattle.monthfile.specs.Layout.{file_of}
use Rattle.book.specs.Account.{Account}
use Rattle.book.specs.Reading.{month_told, write_asked}
use Rattle.book.specs.Refusals.{book_refusal}
use Rattle.book.specs.declared.fault.BookFault.{BookFault}

-- the month stands, and its file fills the start of the buffer; what is past it stays
pub record WroteMonth (account : Option Account) (month : ℕ) (before after : List ℕ) (n : ℕ) : Type 0 where
  pub asked : first_no (write_asked account month (length before)) ≡ None
  pub stated : Figures
  pub stands : month_told account month ≡ Some stated
  pub valid : Valid stated
  pub wrote : Wrote before after n (file_of stated)

-- the first question answered no says why, and the buffer is as it was
pub record NotWritten (account : Option Account) (month : ℕ) (before after : List ℕ) (e : BookFault) : Type 0 where
  pub first : first_no (write_asked account month (length before)) ≡ Some e
  pub told : first_no (carried book_refusal (write_asked account month (length before))) ≡ Some (book_refusal e)
  pub kept : after ≡ before
