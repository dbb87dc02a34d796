-- What rounding the own rates down leaves over, where all answers keep the law.
use Rattle.std.proofs.Common.{◌≡◌, ℕ, zero, suc, ◌*◌, ◌<◌, ◌≤◌, List, length, ap, sym, subst, ℤ, pos, ◌+ℤ◌, ◌-ℤ◌, ◌*ℤ◌, ◌≤ℤ◌, ◌<ℤ◌, arith}
use Rattle.std.proofs.Math.IntN.{suc_ℤ-*ℤ, zero-*ℤ}
use Rattle.std.proofs.lemmas.Int.{ints}
use Rattle.charges.specs.Meaning.{Meaning, LawfulAnswer}
use Rattle.schedule.specs.Rows.{numbered}
use Rattle.settlement.specs.Months.{assessed_at, quantity_at, AllLawful}
use Rattle.settlement.specs.Numbers.{by_number, int_sum}
use Rattle.settlement.proofs.Numbers.{int_sum-push}
use Rattle.book.specs.Facts.{rounding_rest, RestWithin}
use Rattle.book.specs.Opening.{OpeningNumbers}
use Rattle.book.specs.Sums.{balance, all_quantities, quantity, own_rate, allowance, billed_in_month}
use Rattle.book.specs.Tally.{Tally}
use Rattle.book.proofs.Sums.{place_of_month}

int_sum_more : (f : ℕ → ℤ) (n : ℕ) → int_sum (by_number f (suc n)) ≡ int_sum (by_number f n) +ℤ f n
int_sum_more f n = int_sum-push (by_number f n) (f n)

-- a quantity at the difference of a month's own rate and the one that it was billed at
at_difference : (own q : ℕ) (billed : ℤ) → pos q *ℤ (pos own -ℤ billed) ≡ pos (own * q) -ℤ (pos q *ℤ billed)
at_difference own zero billed = omega (arith, ints, zero-*ℤ (pos own -ℤ billed), zero-*ℤ billed)
at_difference own (suc q) billed =
    let more : pos (suc q) *ℤ (pos own -ℤ billed) ≡ (pos q *ℤ (pos own -ℤ billed)) +ℤ (pos own -ℤ billed) = suc_ℤ-*ℤ (pos q) (pos own -ℤ billed) in
    let more_billed : pos (suc q) *ℤ billed ≡ (pos q *ℤ billed) +ℤ billed = suc_ℤ-*ℤ (pos q) billed in
    omega (arith, ints, at_difference own q billed, more, more_billed)

module _ (row : List Meaning) (t : Tally) (i : ℕ) (all : AllLawful (numbered row i) t.months) where
  -- of the month at place j of the standing ones, which counts from 0: its allowance, what it was billed, what it was billed below its own rate, its
  -- quantity
  abbrev allowed : ℕ → ℤ
  allowed j = pos (allowance row t i (suc j))

  abbrev billed : ℕ → ℤ
  billed j = pos (quantity row t i (suc j)) *ℤ billed_in_month t i (suc j)

  abbrev short : ℕ → ℤ
  short j = pos (quantity row t i (suc j)) *ℤ (pos (own_rate row t i (suc j)) -ℤ billed_in_month t i (suc j))

  abbrev used : ℕ → ℤ
  used j = pos (quantity row t i (suc j))

  lawful_month : (j : ℕ) → j < length t.months → LawfulAnswer (quantity row t i (suc j)) (assessed_at (numbered row i) t.months j)
  lawful_month j inside = subst (λ p. LawfulAnswer (quantity_at (numbered row i) t.months p) (assessed_at (numbered row i) t.months j)) (sym (place_of_month j)) (all.lawful j inside)

  -- a month leaves over at least 0, and less than its quantity
  month_covered : (j : ℕ) → j < length t.months → (short j +ℤ billed j) ≤ℤ allowed j
  month_covered j inside =
      omega (arith, ints, at_difference (own_rate row t i (suc j)) (quantity row t i (suc j)) (billed_in_month t i (suc j)), (lawful_month j inside).covered)

  month_tight : (j : ℕ) → j < length t.months → allowed j <ℤ ((short j +ℤ billed j) +ℤ used j)
  month_tight j inside =
      omega (arith, ints, at_difference (own_rate row t i (suc j)) (quantity row t i (suc j)) (billed_in_month t i (suc j)), (lawful_month j inside).tight)

  -- so do the first n months
  covered : (n : ℕ) → n ≤ length t.months → (int_sum (by_number short n) +ℤ int_sum (by_number billed n)) ≤ℤ int_sum (by_number allowed n)
  covered zero few = omega (arith, ints)
  covered (suc n) few =
      omega (arith, ints, covered n (omega arith), month_covered n few, int_sum_more short n, int_sum_more billed n, int_sum_more allowed n)

  tight : (n : ℕ) → n ≤ length t.months
      → (int_sum (by_number allowed n) +ℤ pos n) ≤ℤ ((int_sum (by_number short n) +ℤ int_sum (by_number billed n)) +ℤ int_sum (by_number used n))
  tight zero few = omega (arith, ints)
  tight (suc n) few =
      omega (arith, ints, tight n (omega arith), month_tight n few, int_sum_more short n, int_sum_more billed n, int_sum_more allowed n, int_sum_more used n)

  -- with no month there is nothing to sum
  no_month : (f : ℕ → ℤ) (n : ℕ) → n ≡ 0 → int_sum (by_number f n) ≡ pos 0
  no_month f n none = ap (λ m. int_sum (by_number f m)) none

  pub rest_bounded : (o : OpeningNumbers) (outstanding : ℕ → ℤ) → outstanding i ≡ balance row o t i
      → RestWithin (length t.months) (all_quantities row t i) (rounding_rest row o t outstanding i)
  rest_bounded o outstanding is =
      let n : ℕ = length t.months in
      let least = covered n (omega arith) in
      let most = tight n (omega arith) in
      record {
        least = omega (arith, ints, is, least);
        most = λ some. omega (arith, ints, is, most);
        none = λ none. omega (arith, ints, is, no_month allowed n none, no_month billed n none, no_month short n none);
      }
