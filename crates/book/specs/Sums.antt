-- The sums over the standing months of a tally, and the rates by it. Mechanisms are meant by their
-- number in the row, which counts from 0. Months count from 1; the rules of settling count them from 0,
-- so that they are asked for month − 1.
use Rattle.std.specs.Prelude.{ℕ, suc, ◌-◌, Bool, List, length, take, ℤ, pos, ◌+ℤ◌, ◌-ℤ◌, ◌*ℤ◌}
use Rattle.std.specs.Prelude.{slice_index_or}
use Rattle.charges.specs.Meaning.{Meaning}
use Rattle.schedule.specs.Rows.{numbered}
use Rattle.settlement.specs.Corrections.{coming_rate}
use Rattle.settlement.specs.Months.{quantity_at}
use Rattle.settlement.specs.Numbers.{by_number, int_sum}
use Rattle.settlement.specs.Rules.{billed_rate}
use Rattle.settlement.specs.declared.record.Mark.{Mark}
use Rattle.settlement.specs.declared.standing.Standing.{Standing}
use Rattle.book.specs.Opening.{OpeningNumbers}
use Rattle.book.specs.Tally.{Tally, barred_by}

-- the sum of f over the standing months: of month 1, of month 2 and so on to the last
abbrev pub over_months : Tally → (ℕ → ℤ) → ℤ
over_months t f = int_sum (by_number (λ j. f (suc j)) (length t.months))

-- the rate that a month was billed at
abbrev pub billed_in_month : Tally → ℕ → ℕ → ℤ
billed_in_month t i month = billed_rate t.billed i (month - 1)

module _ (row : List Meaning) (t : Tally) where
  -- what a month is billed on
  abbrev pub quantity : ℕ → ℕ → ℕ
  quantity i month = quantity_at (numbered row i) t.months (month - 1)

  -- a month's own rate, and what may be recovered for it: both go by the months up to it
  abbrev pub own_rate : ℕ → ℕ → ℕ
  own_rate i month = ((numbered row i).assessed (take month t.months)).0

  abbrev pub allowance : ℕ → ℕ → ℕ
  allowance i month = ((numbered row i).assessed (take month t.months)).1

  -- all quantities, all allowances, and all that was billed, rate by rate on its quantity
  abbrev pub all_quantities : ℕ → ℤ
  all_quantities i = over_months t (λ month. pos (quantity i month))

  abbrev pub all_allowances : ℕ → ℤ
  all_allowances i = over_months t (λ month. pos (allowance i month))

  abbrev pub all_billed : ℕ → ℤ
  all_billed i = over_months t (λ month. pos (quantity i month) *ℤ billed_in_month t i month)

abbrev pub opening_balance : OpeningNumbers → ℕ → ℤ
opening_balance o i = slice_index_or o.balances i (pos 0)

module _ (row : List Meaning) (o : OpeningNumbers) (t : Tally) where
  -- opening balance + allowances − billed, of a mechanism and of all
  abbrev pub balance : ℕ → ℤ
  balance i = (opening_balance o i +ℤ all_allowances row t i) -ℤ all_billed row t i

  abbrev pub total_by_tally : ℤ
  total_by_tally = int_sum (by_number balance (length row))

  -- the rate announced: the last month's own rate and, while the standing is correcting, the balance
  -- over the spread and that month's quantity, rounded toward zero, cut, and 0 where it is upward and
  -- barred by these marks
  abbrev pub rate_by_tally : List Mark → Standing → ℕ → ℤ
  rate_by_tally marks standing i =
      let last : ℕ = length t.months in
      let barred : Bool = barred_by marks last in
      coming_rate (own_rate row t i last) standing barred o.spread (balance i) (quantity row t i last)
