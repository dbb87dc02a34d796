-- Lists by the number of a month, which counts from 1.
use Rattle.std.specs.Prelude.{ℕ, zero, suc, List, [], ◌∷◌, Option, None, slice_get}

-- what stands for this month; no month has the number 0
abbrev pub of_month : {X : Type 0} → List X → ℕ → Option X
of_month xs zero = None
of_month xs (suc j) = slice_get xs j

-- f done to the element at a place, which counts from 0
abbrev pub changed_at : {X : Type 0} → (X → X) → ℕ → List X → List X
changed_at f n [] = []
changed_at f zero (x ∷ xs) = f x ∷ xs
changed_at f (suc n) (x ∷ xs) = x ∷ changed_at f n xs

-- f done to what stands for this month
abbrev pub changed_month : {X : Type 0} → (X → X) → ℕ → List X → List X
changed_month f zero xs = xs
changed_month f (suc j) xs = changed_at f j xs
