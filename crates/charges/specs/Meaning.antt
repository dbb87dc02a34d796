-- What a mechanism means: its answers, whatever program gives them.
use Rattle.std.specs.Prelude.{◌≡◌, ℕ, suc, ◌+◌, ◌*◌, ◌<◌, ◌≤◌, Bool, true, List, [], ◌∷◌, ◌++◌, length, All, Some, slice_get}
use Rattle.month.specs.Figures.{Figures}
use Rattle.month.specs.Valid.{Valid}

pub record Meaning : Type 0 where
  -- whether a month is fit, that is, may be charged for
  pub fit : Figures → Bool
  -- what a month is billed on
  pub quantity : Figures → ℕ
  -- of the last of the months that stand: the base rate, which is that month's own rate, and the allowance, which is what may be recovered for it
  pub assessed : List Figures → ℕ × ℕ

-- valid months, all of them fit
abbrev pub FitMonths : Meaning → List Figures → Type 0
FitMonths k ms = All (λ m. Valid m × (k.fit m ≡ true)) ms

-- the months are numbered 1, 2 and so on; j counts them from 0
abbrev pub InOrder : List Figures → Type 0
InOrder ms = (j : ℕ) (m : Figures) → slice_get ms j ≡ Some m → m.month ≡ suc j

-- months that may stand in a book, as far as this mechanism is asked about them
pub record CanStand (k : Meaning) (ms : List Figures) : Type 0 where
  pub few : length ms ≤ 36
  pub in_order : InOrder ms
  pub fit : FitMonths k ms

-- the law of one answer: the quantity at the base rate is covered by the allowance, and at one unit more would not be
pub record LawfulAnswer (quantity : ℕ) (answer : ℕ × ℕ) : Type 0 where
  pub least : 1 ≤ quantity
  pub most : quantity ≤ 10000000
  pub rate_limit : answer.0 ≤ 10000000
  pub covered : answer.0 * quantity ≤ answer.1
  pub tight : answer.1 < (answer.0 + 1) * quantity

-- what every mechanism keeps, of months that can stand and of no others; m is the last of them
abbrev pub Lawful : Meaning → Type 0
Lawful k = (before : List Figures) (m : Figures) → CanStand k (before ++ m ∷ []) → LawfulAnswer (k.quantity m) (k.assessed (before ++ m ∷ []))

-- a mechanism with a price for each month, by the month alone
pub record Pricing : Type 0 where
  pub meaning : Meaning
  pub price : Figures → ℕ

abbrev pub with_price : Meaning → (Figures → ℕ) → Pricing
with_price k price = record { meaning = k; price = price }

-- r is the price of the month m: the base rate of m as the last of months that can stand, whichever they are; and it is within its limit
pub record IsPrice (p : Pricing) (m : Figures) (r : ℕ) : Type 0 where
  pub is : r ≡ p.price m
  pub base_rate : (before : List Figures) → CanStand p.meaning (before ++ m ∷ []) → r ≡ (p.meaning.assessed (before ++ m ∷ [])).0
  pub limit : r ≤ 1000000

-- what a priced mechanism keeps in addition: of months that can stand the base rate is the price of the last, and a fit month's price has a limit
pub record LawfulPrice (p : Pricing) : Type 0 where
  pub base_rate : (before : List Figures) (m : Figures) → CanStand p.meaning (before ++ m ∷ [])
      → (p.meaning.assessed (before ++ m ∷ [])).0 ≡ p.price m
  pub limit : (m : Figures) → Valid m → p.meaning.fit m ≡ true → p.price m ≤ 1000000
