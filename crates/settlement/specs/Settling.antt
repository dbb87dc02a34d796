-- What settling answers.
use Rattle.std.specs.Prelude.{◌≡◌, ℕ, ◌-◌, ◌<◌, Bool, List, map, length, ℤ, pos, Option, Some, None, slice_index_or}
use Rattle.bounded.specs.View.{held}
use Rattle.bounded.specs.declared.up_to.UpTo.{UpTo}
use Rattle.charges.specs.Meaning.{Meaning}
use Rattle.month.specs.Figures.{Figures}
use Rattle.schedule.specs.Rows.{numbered}
use Rattle.settlement.specs.Bands.{band}
use Rattle.settlement.specs.Corrections.{coming_rate}
use Rattle.settlement.specs.Months.{quantity_at, Settleable}
use Rattle.settlement.specs.Numbers.{by_number}
use Rattle.settlement.specs.Rules.{outstanding, total, revenue}
use Rattle.settlement.specs.Standings.{judged}
use Rattle.settlement.specs.declared.amounts.OpeningBalance.{OpeningBalance}
use Rattle.settlement.specs.declared.amounts.Rate.{Rate}
use Rattle.settlement.specs.declared.answer.Answer.{Answer}
use Rattle.settlement.specs.declared.record.Closing.{Closing}
use Rattle.settlement.specs.declared.record.Record.{Record}
use Rattle.settlement.specs.declared.standing.Standing.{Standing}
use Rattle.settlement.specs.declared.standing.Standing.TheVariants.{Steady}

abbrev pub units_of : UpTo Rate 8 → List ℤ
units_of rates = map (λ r. r.units) (held rates)

abbrev pub opening_units : UpTo OpeningBalance 8 → List ℤ
opening_units balances = map (λ b. b.units) (held balances)

-- an answer as plain numbers
pub record Answered : Type 0 where
  pub rates : List ℤ
  pub closing : Closing
  pub standing : Standing

abbrev pub answered : Answer → Answered
answered a = record { rates = units_of a.rates; closing = a.closing; standing = a.standing }

-- the standing that the month with this record left; where there is none it is steady
abbrev pub left_by : Option Record → Standing
left_by None = Steady
left_by (Some before) = before.standing

-- the rate announced for mechanism i
abbrev pub announced_rate : Meaning → ℕ → Standing → Bool → ℕ → ℤ → List Figures → List (List ℤ) → ℤ
announced_rate k i standing barred spread opening ms bills =
    coming_rate (k.assessed ms).0 standing barred spread (outstanding k i opening ms bills) (quantity_at k ms (length ms - 1))

-- the figures that the last of the months closes with, by the opening balances, of which there is one for each mechanism
abbrev pub closing_now : List Meaning → List ℤ → List Figures → List (List ℤ) → Closing
closing_now row balances ms bills = record { total = total row balances ms bills; revenue = revenue row (length balances) ms }

-- the standing after a month that closed with these figures, by the one that the month before left
abbrev pub standing_after : Standing → Closing → Standing
standing_after left closing = judged left (band closing.total closing.revenue)

-- the answer for the last of the months, by the standing that the month before it left, and by whether an upward correction is barred
abbrev pub settled : List Meaning → ℕ → List ℤ → List Figures → List (List ℤ) → Standing → Bool → Answered
settled row spread balances ms bills left barred =
    let closing = closing_now row balances ms bills in
    let standing = standing_after left closing in
    record {
      rates = by_number (λ i. announced_rate (numbered row i) i standing barred spread (slice_index_or balances i (pos 0)) ms bills) (length balances);
      closing = closing;
      standing = standing;
    }

-- each of the first n mechanisms can be settled: a month stands, at most 36 do, and its answers keep the law
abbrev pub FirstSettleable : List Meaning → ℕ → List Figures → Type 0
FirstSettleable row n ms = (i : ℕ) → i < n → Settleable (numbered row i) ms

-- there are n mechanisms, and each can be settled
pub record EachSettleable (row : List Meaning) (n : ℕ) (ms : List Figures) : Type 0 where
  pub count : n ≡ length row
  pub each : FirstSettleable row n ms
