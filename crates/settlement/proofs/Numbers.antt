-- Lists and sums by number.
use Rattle.std.proofs.Common.{◌≡◌, ℕ, zero, suc, ◌<◌, List, [], ◌∷◌, ◌++◌, length, map, refl, ap, sym, ◌∙◌, ℤ, ◌+ℤ◌, slice_index_or, arith}
use Rattle.std.proofs.lemmas.Grind.{common_steps}
use Rattle.std.proofs.lemmas.Int.{ints}
use Rattle.std.proofs.lemmas.List.{length-map, length_push, map_push, get_or-map, get_or_push, get_or_append_left, same_lists}
use Rattle.settlement.specs.Numbers.{by_number, int_sum}

pub length-by_number : {X : Type 0} (f : ℕ → X) (n : ℕ) → length (by_number f n) ≡ n
length-by_number f zero = refl
length-by_number f (suc n) = omega (arith, length-by_number f n, length_push (by_number f n) (f n))

pub index-by_number : {X : Type 0} (f : ℕ → X) (n i : ℕ) (d : X) → i < n → slice_index_or (by_number f n) i d ≡ f i
index-by_number f zero i d h = absurd (omega arith)
index-by_number f (suc n) i d h = grind (arith, common_steps, index-by_number f n i d, length-by_number f n, get_or_push, get_or_append_left)

-- functions alike below n give one list
pub by_number_same : {X : Type 0} (f g : ℕ → X) (n : ℕ) → ((i : ℕ) → i < n → f i ≡ g i) → by_number f n ≡ by_number g n
by_number_same f g zero h = refl
by_number_same f g (suc n) h = rw (by_number_same f g n (λ i l. h i (omega arith)), h n (omega arith)) refl

pub map-by_number : {X Y : Type 0} (h : X → Y) (f : ℕ → X) (n : ℕ) → map h (by_number f n) ≡ by_number (λ i. h (f i)) n
map-by_number h f zero = refl
map-by_number h f (suc n) = map_push h (by_number f n) (f n) ∙ ap (λ xs. xs ++ h (f n) ∷ []) (map-by_number h f n)

-- a list is the one by number where each of its elements is
pub is_by_number : {X Y : Type 0} (h : X → Y) (xs : List X) (d : X) (f : ℕ → Y)
    → ((i : ℕ) → i < length xs → h (slice_index_or xs i d) ≡ f i) → map h xs ≡ by_number f (length xs)
is_by_number h xs d f each =
    let long : length (map h xs) ≡ length (by_number f (length xs)) = omega (arith, length-map xs h, length-by_number f (length xs)) in
    same_lists (map h xs) (by_number f (length xs)) long (λ k e inside.
    let here : k < length xs = omega (arith, length-map xs h) in
    get_or-map h xs k d e here ∙ each k here ∙ sym (index-by_number f (length xs) k e here))

pub int_sum-push : (xs : List ℤ) (y : ℤ) → int_sum (xs ++ y ∷ []) ≡ int_sum xs +ℤ y
int_sum-push [] y = omega (arith, ints)
int_sum-push (x ∷ xs) y = omega (arith, ints, int_sum-push xs y)
