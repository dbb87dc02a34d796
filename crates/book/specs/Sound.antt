-- What every book keeps.
use Rattle.std.specs.Prelude.{◌≡◌, ℕ, suc, ◌<◌, ◌≤◌, List, map, length, Option, Some, None}
use Rattle.bounded.specs.declared.up_to.UpTo.{UpTo}
use Rattle.charges.specs.Meaning.{Meaning, FitMonths}
use Rattle.month.specs.Figures.{Figures}
use Rattle.month.specs.View.{figures}
use Rattle.month.specs.declared.month.Month.{Month}
use Rattle.schedule.specs.Rows.{numbered}
use Rattle.settlement.specs.Settling.{opening_units}
use Rattle.settlement.specs.Numbers.{by_number}
use Rattle.settlement.specs.declared.amounts.Rate.{Rate}
use Rattle.settlement.specs.declared.record.Record.{Record}
use Rattle.book.specs.declared.opened.Opened.{Opened}

-- each mechanism finds each month fit
abbrev pub AllFit : List Meaning → List Figures → Type 0
AllFit row ms = (i : ℕ) → i < length row → FitMonths (numbered row i) ms

-- a closed book has no month; an open one has as many mechanisms as opening balances
abbrev pub Suits : List Meaning → ℕ → Option Opened → Type 0
Suits row months None = months ≡ 0
Suits row months (Some o) = length row ≡ length (opening_units o.terms.balances)

-- the months in order from month 1, each with its rates and its record, each found fit by each mechanism
pub record Sound (row : List Meaning) (opened : Option Opened) (months : List Month) (billed : List (UpTo Rate 8)) (records : List Record) : Type 0 where
  pub few : length months ≤ 36
  pub all_billed : length billed ≡ length months
  pub all_recorded : length records ≡ length months
  pub in_order : map (λ m. (figures m).month) months ≡ by_number suc (length months)
  pub fit : AllFit row (map figures months)
  pub suits : Suits row (length months) opened
