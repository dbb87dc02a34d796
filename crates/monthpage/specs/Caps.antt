-- The cap that the arguments give.
use Rattle.std.specs.Prelude.{◌≡◌, ℕ, List, [], ◌∷◌, Result, Ok, IsErr}
use Rattle.std.specs.Str.Parse.{ParsesUnsigned}

-- 500 without one; the number of one that is decimal and below 2^64; any other is an error, and so are two
abbrev pub GivesCap : {E : Type 0} → List (List ℕ) → Result ℕ E → Type 0
GivesCap [] r = r ≡ Ok 500
GivesCap (word ∷ []) r = ParsesUnsigned 64 10 word r
GivesCap _ r = IsErr r
