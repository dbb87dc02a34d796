-- What reading a file may answer.
use Rattle.std.specs.Prelude.{◌≡◌, ℕ, List, Some, None}
use Rattle.fields.specs.Questions.{first_no, carried}
use Rattle.month.specs.declared.fault.MonthFault.{MonthFault}
use Rattle.month.specs.declared.month.Month.{Month}
use Rattle.month.specs.Figures.{Figures, Counted}
use Rattle.month.specs.Refusals.{month_refusal}
use Rattle.month.specs.Valid.{Valid}
use Rattle.month.specs.View.{figures}
use Rattle.monthfile.specs.Layout.{file_of}
use Rattle.monthfile.specs.Questions.{file_asked, asked}

-- the file states one to eight sources and none to four brackets, and these figures
pub record States (file : List ℕ) (f : Figures) : Type 0 where
  pub counted : Counted f
  pub is : file ≡ file_of f

-- the file is that of the month, whose figures are valid
pub record Accepted (file : List ℕ) (m : Month) : Type 0 where
  pub valid : Valid (figures m)
  pub is : file ≡ file_of (figures m)

-- the fault is that of the first question answered no; questions 6 to 11 are asked of some figures, and where 1 to 5 are answered yes
-- these are the ones that the file states
pub record Refused (file : List ℕ) (e : MonthFault) : Type 0 where
  pub asked_of : Figures
  pub states : first_no (file_asked file) ≡ None → States file asked_of
  pub first : first_no (asked file asked_of) ≡ Some e
  -- the same, by number, layer and place
  pub told : first_no (carried month_refusal (asked file asked_of)) ≡ Some (month_refusal e)
