-- What making a month of a statement may answer.
use Rattle.std.specs.Prelude.{◌≡◌, Some}
use Rattle.fields.specs.Questions.{first_no, carried}
use Rattle.month.specs.declared.fault.MonthFault.{MonthFault}
use Rattle.month.specs.declared.month.Month.{Month}
use Rattle.month.specs.declared.statement.Statement.{Statement}
use Rattle.month.specs.Asked.{month_asked}
use Rattle.month.specs.Refusals.{month_refusal}
use Rattle.month.specs.Stated.{stated}
use Rattle.month.specs.Valid.{Valid}

-- the statement is valid, and the month keeps it as it is
pub record Made (s : Statement) (m : Month) : Type 0 where
  pub valid : Valid (stated s)
  pub same : m.within.statement ≡ s

-- the first of the questions 6 to 11 that is answered no
pub record NotMade (s : Statement) (e : MonthFault) : Type 0 where
  pub first : first_no (month_asked (stated s)) ≡ Some e
  -- the same, by number, layer and place
  pub told : first_no (carried month_refusal (month_asked (stated s))) ≡ Some (month_refusal e)
