-- How numbers stand in a line: decimal, without leading zeros, and a minus before those below zero.
use Rattle.std.specs.Prelude.{◌≡◌, ℕ, suc, ◌+◌, ◌-◌, ◌*◌, ◌^◌, ◌<◌, ◌≤◌, List, ◌∷◌, length, All, fold, slice_index, ℤ, pos, negsuc, decimal}
use Rattle.std.specs.Fmt.{signed_decimal}

-- one of the digits 0 to 9
abbrev pub IsDigit : ℕ → Type 0
IsDigit d = (48 ≤ d) × (d ≤ 57)

-- what digits come to, the first being worth the most
abbrev pub digits_value : List ℕ → ℕ
digits_value ds = fold (λ n d. 10 * n + (d - 48)) 0 ds

-- the digits are those of n, and begin with 0 only where it stands alone
pub record Numeral (ds : List ℕ) (n : ℕ) : Type 0 where
  pub some : 0 < length ds
  pub digits : All IsDigit ds
  pub value : digits_value ds ≡ n
  pub no_leading_zero : slice_index ds 0 ≡ 48 → length ds ≡ 1

-- the same of a number of either sign
abbrev pub SignedNumeral : List ℕ → ℤ → Type 0
SignedNumeral text (pos n) = Numeral text n
SignedNumeral text (negsuc n) = (ds : List ℕ) × (text ≡ 45 ∷ ds) × Numeral ds (suc n)

-- what is written of a number of 64 bits reads back as that number
pub record NumbersReadBack : Type 0 where
  pub unsigned : (n : ℕ) → n < 2 ^ 64 → Numeral (decimal n) n
  pub above : (n : ℕ) → n < 2 ^ 63 → SignedNumeral (signed_decimal (pos n)) (pos n)
  pub below : (n : ℕ) → n < 2 ^ 63 → SignedNumeral (signed_decimal (negsuc n)) (negsuc n)
