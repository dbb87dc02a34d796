-- What is known of each mechanism after the last month.
use Rattle.std.specs.Prelude.{◌≡◌, ℕ, ◌-◌, List, length, Bool, ℤ, pos, Some, slice_get, slice_index_or}
use Rattle.charges.specs.Meaning.{Meaning}
use Rattle.month.specs.Figures.{Figures}
use Rattle.schedule.specs.Rows.{numbered}
use Rattle.settlement.specs.Settling.{FirstSettleable}
use Rattle.settlement.specs.Corrections.{coming_rate}
use Rattle.settlement.specs.Months.{quantity_at}
use Rattle.settlement.specs.Rules.{outstanding, recent}
use Rattle.settlement.specs.declared.position.Position.{Position}
use Rattle.settlement.specs.declared.standing.Standing.{Standing}

abbrev pub outstanding_of : Position → ℤ
outstanding_of p = p.outstanding

abbrev pub recent_of : Position → ℕ
recent_of p = p.recent

-- the rate announced
abbrev pub corrected : Standing → Bool → ℕ → Position → ℤ
corrected standing barred spread p = coming_rate p.last.answer.0 standing barred spread p.outstanding p.last.quantity

-- what is taken of mechanism i
pub record IsPosition (k : Meaning) (i : ℕ) (opening : ℤ) (ms : List Figures) (bills : List (List ℤ)) (p : Position) : Type 0 where
  pub outstanding : p.outstanding ≡ outstanding k i opening ms bills
  pub recent : p.recent ≡ recent k ms
  pub rate : p.last.answer.0 ≡ (k.assessed ms).0
  pub quantity : p.last.quantity ≡ quantity_at k ms (length ms - 1)

-- one for each opening balance, by number
pub record ArePositions (row : List Meaning) (balances : List ℤ) (ms : List Figures) (bills : List (List ℤ)) (ps : List Position) : Type 0 where
  pub settleable : FirstSettleable row (length balances) ms
  pub count : length ps ≡ length balances
  pub each : (i : ℕ) (p : Position) → slice_get ps i ≡ Some p → IsPosition (numbered row i) i (slice_index_or balances i (pos 0)) ms bills p
