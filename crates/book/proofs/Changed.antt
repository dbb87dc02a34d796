-- Lists with f done to the element at a place, or to what stands for a month.
use Rattle.std.proofs.Common.{◌≡◌, ℕ, zero, suc, ◌+◌, ◌-◌, ◌≤◌, List, [], ◌∷◌, ◌++◌, map, length, take, get_or, set, slice_get, refl, ap, arith}
use Rattle.std.specs.Option.{option_map}
use Rattle.book.specs.Places.{of_month, changed_at, changed_month}

-- a write of y
pub set_constant : {X : Type 0} (xs : List X) (n : ℕ) (y : X) → set xs n y ≡ changed_at (λ _. y) n xs
set_constant [] n y = refl
set_constant (x ∷ xs) zero y = refl
set_constant (x ∷ xs) (suc n) y = ap (λ zs. x ∷ zs) (set_constant xs n y)

module _ {X : Type 0} (f : X → X) where
  -- a write of f done to what stands there
  pub set_changed : (xs : List X) (n : ℕ) (x : X) → x ≡ get_or xs n x → set xs n (f x) ≡ changed_at f n xs
  set_changed [] n x is = refl
  set_changed (y ∷ ys) zero x is = ap (λ z. f z ∷ ys) is
  set_changed (y ∷ ys) (suc n) x is = ap (λ zs. y ∷ zs) (set_changed ys n x is)

  -- the place of a month is one below its number
  pub changed_place : (xs : List X) (month n : ℕ) → month ≡ n + 1 → changed_at f n xs ≡ changed_month f month xs
  changed_place xs zero n is = absurd (omega arith)
  changed_place xs (suc k) n is = ap (λ i. changed_at f i xs) (omega arith)

  pub changed_last : (xs : List X) (x : X) (n : ℕ) → n ≡ length xs → changed_at f n (xs ++ x ∷ []) ≡ xs ++ f x ∷ []
  changed_last [] x zero is = refl
  changed_last [] x (suc n) is = absurd (omega arith)
  changed_last (y ∷ ys) x zero is = absurd (omega arith)
  changed_last (y ∷ ys) x (suc n) is = ap (λ zs. y ∷ zs) (changed_last ys x n (omega arith))

  -- what stands before the place stays
  pub take_changed : (xs : List X) (n k : ℕ) → k ≤ n → take k (changed_at f n xs) ≡ take k xs
  take_changed xs n zero h = refl
  take_changed [] n (suc k) h = refl
  take_changed (x ∷ xs) zero (suc k) h = absurd (omega arith)
  take_changed (x ∷ xs) (suc n) (suc k) h = ap (λ zs. x ∷ zs) (take_changed xs n k (omega arith))

  -- what stands before the month stays
  pub take_before : (xs : List X) (month k : ℕ) → k ≤ month - 1 → take k (changed_month f month xs) ≡ take k xs
  take_before xs zero k h = refl
  take_before xs (suc n) k h = take_changed xs n k (omega arith)

  get_other : (xs : List X) (n k : ℕ) → (k ≡ n → ⊥) → slice_get (changed_at f n xs) k ≡ slice_get xs k
  get_other [] n k other = refl
  get_other (x ∷ xs) zero zero other = absurd (other refl)
  get_other (x ∷ xs) zero (suc k) other = refl
  get_other (x ∷ xs) (suc n) zero other = refl
  get_other (x ∷ xs) (suc n) (suc k) other = get_other xs n k (λ e. other (ap suc e))

  -- other months stay
  pub of_other_month : (xs : List X) (month other : ℕ) → (other ≡ month → ⊥) → of_month (changed_month f month xs) other ≡ of_month xs other
  of_other_month xs zero other is_other = refl
  of_other_month xs (suc n) zero is_other = refl
  of_other_month xs (suc n) (suc k) is_other = get_other xs n k (λ e. is_other (ap suc e))

  get_this : (xs : List X) (n : ℕ) → slice_get (changed_at f n xs) n ≡ option_map f (slice_get xs n)
  get_this [] n = refl
  get_this (x ∷ xs) zero = refl
  get_this (x ∷ xs) (suc n) = get_this xs n

  -- the month itself
  pub of_this_month : (xs : List X) (month : ℕ) → of_month (changed_month f month xs) month ≡ option_map f (of_month xs month)
  of_this_month xs zero = refl
  of_this_month xs (suc n) = get_this xs n

  pub length_changed_at : (xs : List X) (n : ℕ) → length (changed_at f n xs) ≡ length xs
  length_changed_at [] n = refl
  length_changed_at (x ∷ xs) zero = refl
  length_changed_at (x ∷ xs) (suc n) = ap suc (length_changed_at xs n)

  pub length_changed : (month : ℕ) (xs : List X) → length (changed_month f month xs) ≡ length xs
  length_changed zero xs = refl
  length_changed (suc n) xs = length_changed_at xs n

-- what is read of each element, where g is done to what is read of the changed one
pub map_changed_at : {X Y : Type 0} (f : X → X) (g : Y → Y) (read : X → Y) → ((x : X) → read (f x) ≡ g (read x)) → (xs : List X) (n : ℕ)
    → map read (changed_at f n xs) ≡ changed_at g n (map read xs)
map_changed_at f g read reads [] n = refl
map_changed_at f g read reads (x ∷ xs) zero = ap (λ y. y ∷ map read xs) (reads x)
map_changed_at f g read reads (x ∷ xs) (suc n) = ap (λ ys. read x ∷ ys) (map_changed_at f g read reads xs n)

-- what is read of each element, where f keeps it
module _ {X Y : Type 0} (f : X → X) (read : X → Y) (kept : (x : X) → read (f x) ≡ read x) where
  map_kept_at : (xs : List X) (n : ℕ) → map read (changed_at f n xs) ≡ map read xs
  map_kept_at [] n = refl
  map_kept_at (x ∷ xs) zero = ap (λ y. y ∷ map read xs) (kept x)
  map_kept_at (x ∷ xs) (suc n) = ap (λ ys. read x ∷ ys) (map_kept_at xs n)

  pub map_kept : (month : ℕ) (xs : List X) → map read (changed_month f month xs) ≡ map read xs
  map_kept zero xs = refl
  map_kept (suc n) xs = map_kept_at xs n

-- a list with an element has a last one
pub last_of : {X : Type 0} (xs : List X) → 1 ≤ length xs → (before : List X) × (x : X) × (xs ≡ before ++ x ∷ [])
last_of [] some = absurd (omega arith)
last_of (x ∷ []) some = ([], x, refl)
last_of (x ∷ y ∷ ys) some = let rest = last_of (y ∷ ys) (omega arith) in (x ∷ rest.0, rest.1, ap (λ l. x ∷ l) rest.2)
