-- What a mechanism answers for each of the months that stand.
use Rattle.std.specs.Prelude.{◌≡◌, ℕ, suc, ◌-◌, ◌<◌, ◌≤◌, List, map, length, take, slice_index}
use Rattle.charges.specs.Assessed.{allowance_of}
use Rattle.charges.specs.Meaning.{Meaning, LawfulAnswer}
use Rattle.charges.specs.declared.assessment.Assessment.{Assessment}
use Rattle.month.specs.Figures.{Figures}
use Rattle.schedule.specs.Rows.{MayBeAsked, numbered}
use Rattle.settlement.specs.Numbers.{by_number}

-- months are counted from 0 here; the base rate and the allowance of month j depend on the months up to it
abbrev pub assessed_at : Meaning → List Figures → ℕ → ℕ × ℕ
assessed_at k ms j = k.assessed (take (suc j) ms)

-- what the months are billed on
abbrev pub quantities : Meaning → List Figures → List ℕ
quantities k ms = map k.quantity ms

abbrev pub quantity_at : Meaning → List Figures → ℕ → ℕ
quantity_at k ms j = slice_index (quantities k ms) j

abbrev pub allowance_at : Meaning → List Figures → ℕ → ℕ
allowance_at k ms j = (assessed_at k ms j).1

-- the allowances, month by month
abbrev pub allowances : Meaning → List Figures → List ℕ
allowances k ms = by_number (allowance_at k ms) (length ms)

-- a month stands, and the mechanism's answer for the last one keeps the law
pub record LawfulLast (k : Meaning) (ms : List Figures) : Type 0 where
  pub some : 0 < length ms
  pub lawful : LawfulAnswer (quantity_at k ms (length ms - 1)) (k.assessed ms)

-- the assessment is the mechanism's answer for the last month
pub record AssessesLast (k : Meaning) (ms : List Figures) (a : Assessment) : Type 0 where
  pub lawful : LawfulLast k ms
  pub quantity : a.quantity ≡ quantity_at k ms (length ms - 1)
  pub answer : a.answer ≡ k.assessed ms

-- at most 36 months stand, and the mechanism's answer for each keeps the law, as it does where the months can stand
pub record AllLawful (k : Meaning) (ms : List Figures) : Type 0 where
  pub few : length ms ≤ 36
  pub lawful : (j : ℕ) → j < length ms → LawfulAnswer (quantity_at k ms j) (assessed_at k ms j)

-- a schedule is asked for this number, and the answers of its mechanism keep the law
pub record Assessable (row : List Meaning) (number : ℕ) (ms : List Figures) : Type 0 where
  pub asked : MayBeAsked row number
  pub lawful : AllLawful (numbered row number) ms

-- there are n mechanisms, and the answers of each keep the law
pub record EachLawful (row : List Meaning) (n : ℕ) (ms : List Figures) : Type 0 where
  pub count : n ≡ length row
  pub each : (i : ℕ) → i < n → AllLawful (numbered row i) ms

-- one mechanism's answers keep the law, and a month stands
pub record Settleable (k : Meaning) (ms : List Figures) : Type 0 where
  pub some : 0 < length ms
  pub lawful : AllLawful k ms

abbrev pub quantity_of : Assessment → ℕ
quantity_of a = a.quantity

abbrev pub rate_of : Assessment → ℕ
rate_of a = a.answer.0

-- the assessments are the mechanism's answers, month by month
pub record Assesses (k : Meaning) (ms : List Figures) (found : List Assessment) : Type 0 where
  pub lawful : AllLawful k ms
  pub quantities : map quantity_of found ≡ quantities k ms
  pub rates : map rate_of found ≡ by_number (λ j. (assessed_at k ms j).0) (length ms)
  pub allowances : map allowance_of found ≡ allowances k ms
