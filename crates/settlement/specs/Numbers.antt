-- Lists and sums by number.
use Rattle.std.specs.Prelude.{ℕ, zero, suc, List, [], ◌∷◌, ◌++◌, ℤ, pos, ◌+ℤ◌}

-- f 0, f 1, up to the n-th
abbrev pub by_number : {X : Type 0} → (ℕ → X) → ℕ → List X
by_number f zero = []
by_number f (suc n) = by_number f n ++ f n ∷ []

abbrev pub int_sum : List ℤ → ℤ
int_sum [] = pos 0
int_sum (x ∷ xs) = x +ℤ int_sum xs
