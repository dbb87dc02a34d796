-- Lists by the number of a month.
use Rattle.std.proofs.Common.{◌≡◌, ℕ, zero, suc, ◌+◌, ◌≤◌, List, [], ◌∷◌, ◌++◌, map, length, Some, slice_get, refl, arith}
use Rattle.std.specs.Option.{option_map}
use Rattle.book.specs.Places.{of_month}

-- what is read of a month's element, and the element of what is read
pub of_month_map : {X Y : Type 0} (read : X → Y) (xs : List X) (n : ℕ) → of_month (map read xs) n ≡ option_map read (of_month xs n)
of_month_map read xs zero = refl
of_month_map read xs (suc j) = get_map xs j
  where
    get_map : (xs : List _) (j : ℕ) → slice_get (map read xs) j ≡ option_map read (slice_get xs j)
    get_map [] j = refl
    get_map (x ∷ xs) zero = refl
    get_map (x ∷ xs) (suc j) = get_map xs j

-- the months that stood before one was added stay
pub of_month_before : {X : Type 0} (xs ys : List X) (n : ℕ) → n ≤ length xs → of_month (xs ++ ys) n ≡ of_month xs n
of_month_before xs ys zero inside = refl
of_month_before [] ys (suc j) inside = absurd (omega arith)
of_month_before (x ∷ xs) ys (suc zero) inside = refl
of_month_before (x ∷ xs) ys (suc (suc j)) inside = of_month_before xs ys (suc j) (omega arith)

-- the month that was added
pub of_month_added : {X : Type 0} (xs : List X) (x : X) → of_month (xs ++ x ∷ []) (length xs + 1) ≡ Some x
of_month_added xs x = let next : length xs + 1 ≡ suc (length xs) = omega arith in rw next (added xs)
  where
    added : (xs : List _) → slice_get (xs ++ x ∷ []) (length xs) ≡ Some x
    added [] = refl
    added (y ∷ ys) = added ys
