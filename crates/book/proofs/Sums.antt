-- What is outstanding is opening balance and allowances less what was billed.
use Rattle.std.proofs.Common.{◌≡◌, ℕ, zero, suc, ◌-◌, ◌<◌, List, length, refl, ap, sym, ◌∙◌, ℤ, pos, ◌+ℤ◌, ◌-ℤ◌, ◌*ℤ◌, Some, slice_get}
use Rattle.std.proofs.Common.{slice_index, arith}
use Rattle.std.proofs.Math.IntN.{*ℤ_comm}
use Rattle.std.proofs.lemmas.Int.{ints}
use Rattle.std.proofs.lemmas.Option.{slice_get-get_or}
use Rattle.charges.specs.Meaning.{Meaning}
use Rattle.month.specs.Figures.{Figures}
use Rattle.schedule.specs.Rows.{numbered}
use Rattle.settlement.specs.Months.{allowance_at, allowances, quantity_at}
use Rattle.settlement.specs.Numbers.{by_number, int_sum}
use Rattle.settlement.specs.Rules.{billed_rate, outstanding, total}
use Rattle.settlement.proofs.Numbers.{length-by_number, index-by_number, by_number_same, int_sum-push}
use Rattle.book.specs.Opening.{OpeningNumbers}
use Rattle.book.specs.Sums.{opening_balance, balance, total_by_tally}
use Rattle.book.specs.Tally.{Tally}

int_sum_of_differences : (f g : ℕ → ℤ) (n : ℕ) → int_sum (by_number (λ j. f j -ℤ g j) n) ≡ int_sum (by_number f n) -ℤ int_sum (by_number g n)
int_sum_of_differences f g zero = refl
int_sum_of_differences f g (suc n) =
    omega (arith, ints, int_sum_of_differences f g n, int_sum-push (by_number (λ j. f j -ℤ g j) n) (f n -ℤ g n), int_sum-push (by_number f n) (f n), int_sum-push (by_number g n) (g n))

-- what stands at a number in a list by number
pub get_by_number : {X : Type 0} (f : ℕ → X) (n i : ℕ) → i < n → slice_get (by_number f n) i ≡ Some (f i)
get_by_number f n i inside =
    slice_get-get_or (by_number f n) i (f i) (omega (arith, length-by_number f n)) ∙ ap Some (index-by_number f n i (f i) inside)

-- the place of a month, counted from 0, is one below its number
pub place_of_month : (j : ℕ) → suc j - 1 ≡ j
place_of_month j = omega arith

-- with months counted from 1
pub outstanding_is : (k : Meaning) (i : ℕ) (opening : ℤ) (ms : List Figures) (bills : List (List ℤ))
    → outstanding k i opening ms bills ≡ (opening +ℤ int_sum (by_number (λ j. pos (allowance_at k ms j)) (length ms))) -ℤ int_sum (by_number (λ j. pos (quantity_at k ms (suc j - 1)) *ℤ billed_rate bills i (suc j - 1)) (length ms))
outstanding_is k i opening ms bills =
    let allowed : ℕ → ℤ = λ j. pos (allowance_at k ms j) in
    let listed : ℕ → ℤ = λ j. pos (slice_index (allowances k ms) j) in
    let charged : ℕ → ℤ = λ j. billed_rate bills i j *ℤ pos (quantity_at k ms j) in
    let charged_then : ℕ → ℤ = λ j. pos (quantity_at k ms (suc j - 1)) *ℤ billed_rate bills i (suc j - 1) in
    let n : ℕ = length ms in
    let long : length (allowances k ms) ≡ n = length-by_number (allowance_at k ms) n in
    let count : int_sum (by_number (λ j. listed j -ℤ charged j) (length (allowances k ms))) ≡ int_sum (by_number (λ j. listed j -ℤ charged j) n) = ap (λ m. int_sum (by_number (λ j. listed j -ℤ charged j) m)) long in
    let each_listed : int_sum (by_number listed n) ≡ int_sum (by_number allowed n) = ap int_sum (by_number_same listed allowed n (λ j inside. ap pos (index-by_number (allowance_at k ms) n j 0 inside))) in
    let each_charged : int_sum (by_number charged n) ≡ int_sum (by_number charged_then n) = ap int_sum (by_number_same charged charged_then n (λ j inside. *ℤ_comm (billed_rate bills i j) (pos (quantity_at k ms j)) ∙ ap (λ p. pos (quantity_at k ms p) *ℤ billed_rate bills i p) (sym (place_of_month j)))) in
    let parts = int_sum_of_differences listed charged n in
    omega (arith, ints, count, parts, each_listed, each_charged)

module _ (row : List Meaning) (o : OpeningNumbers) (t : Tally) where
  pub outstanding_is_balance : (i : ℕ) → outstanding (numbered row i) i (opening_balance o i) t.months t.billed ≡ balance row o t i
  outstanding_is_balance i = outstanding_is (numbered row i) i (opening_balance o i) t.months t.billed

  -- with an opening balance for each mechanism
  pub total_is_together : length o.balances ≡ length row → total row o.balances t.months t.billed ≡ total_by_tally row o t
  total_is_together mechanisms =
      let each = λ (i : ℕ). outstanding (numbered row i) i (opening_balance o i) t.months t.billed in
      ap (λ n. int_sum (by_number each n)) mechanisms ∙ ap int_sum (by_number_same each (balance row o t) (length row) (λ i inside. outstanding_is_balance i))
