-- What an open book holds, as plain numbers and lists.
use Rattle.std.specs.Prelude.{ℕ, List, [], map, length, ℤ, Option, Some, None}
use Rattle.month.specs.Figures.{Figures}
use Rattle.month.specs.View.{figures}
use Rattle.month.specs.declared.month.Month.{Month}
use Rattle.settlement.specs.Settling.{units_of, opening_units, left_by}
use Rattle.bounded.specs.declared.up_to.UpTo.{UpTo}
use Rattle.settlement.specs.declared.amounts.Rate.{Rate}
use Rattle.settlement.specs.declared.record.Closing.{Closing}
use Rattle.settlement.specs.declared.record.Record.{Record}
use Rattle.settlement.specs.declared.record.Mark.{Mark}
use Rattle.settlement.specs.declared.standing.Standing.{Standing}
use Rattle.book.specs.Places.{of_month}
use Rattle.book.specs.declared.opened.Opened.{Opened}

pub record Account : Type 0 where
  pub number : ℕ
  -- the months that a correction is spread over
  pub spread : ℕ
  -- the opening balances, by mechanism
  pub balances : List ℤ
  -- the rates last announced, by mechanism
  pub announced : List ℤ
  -- the months that stand, and for each the rates that it was billed at and its record
  pub months : List Figures
  pub billed : List (List ℤ)
  pub records : List Record

-- a book: its schedule, and what it holds where it is open
pub record BookState (S : Type 0) : Type 0 where
  pub schedule : S
  pub account : Option Account

abbrev pub account_of : Opened → List Month → List (UpTo Rate 8) → List Record → Account
account_of o months billed records = record {
  number = o.number;
  spread = o.terms.spread.months;
  balances = opening_units o.terms.balances;
  announced = units_of o.announced;
  months = map figures months;
  billed = map units_of billed;
  records = records;
}

abbrev pub held_by : Option Opened → List Month → List (UpTo Rate 8) → List Record → Option Account
held_by None months billed records = None
held_by (Some o) months billed records = Some (account_of o months billed records)

-- the marks of the months that stand
abbrev pub marks_of : Account → List Mark
marks_of a = map (λ r. r.mark) a.records

-- the figures that these closed with
abbrev pub closings_of : Account → List Closing
closings_of a = map (λ (r : Record). r.closing) a.records

abbrev pub marks_told : Option Account → List Mark
marks_told None = []
marks_told (Some a) = marks_of a

-- the record of the last month
abbrev pub last_record : Account → Option Record
last_record a = of_month a.records (length a.records)

-- the standing that the last month left; before month 1 it is steady
abbrev pub standing_of : Account → Standing
standing_of a = left_by (last_record a)
