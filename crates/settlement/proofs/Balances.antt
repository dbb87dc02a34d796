-- How large what a month adds to a balance may be, what a balance is after some of the months, and the total of some of the mechanisms.
use Rattle.std.proofs.Common.{◌≡◌, ℕ, suc, ◌+◌, ◌<◌, ◌≤◌, List, length, map, ap, sym, ◌∙◌, ℤ, pos, negsuc, ◌+ℤ◌, ◌-ℤ◌, ◌*ℤ◌, ◌≤ℤ◌, get_or}
use Rattle.std.proofs.Common.{slice_index, slice_index_or, w64, to_z, of_z, arith}
use Rattle.std.proofs.lemmas.Int.{ints}
use Rattle.std.proofs.lemmas.Nat.{mul-le}
use Rattle.std.proofs.lemmas.List.{length-map, get_or-map}
use Rattle.std.proofs.Math.IntN.{pos-*ℤ-pos, negsuc-*ℤ-pos}
use Rattle.charges.specs.Assessed.{allowance_of}
use Rattle.charges.specs.Meaning.{Meaning}
use Rattle.charges.specs.declared.assessment.Assessment.{Assessment}
use Rattle.month.specs.Figures.{Figures}
use Rattle.schedule.specs.Rows.{numbered}
use Rattle.settlement.proofs.Numbers.{int_sum-push}
use Rattle.settlement.specs.Months.{quantity_of}
use Rattle.settlement.specs.Numbers.{by_number, int_sum}
use Rattle.settlement.specs.Rules.{billed_rate, outstanding, total}
use Rattle.settlement.specs.declared.amounts.OpeningBalance.{OpeningBalance}

-- what a quantity is charged at a rate, at least and at most
pub charged_least : (r : ℤ) (q : ℕ) → negsuc 999999 ≤ℤ r → q ≤ 10000000 → negsuc 9999999999999 ≤ℤ (r *ℤ pos q)
charged_least (pos n) q low few = rw (pos-*ℤ-pos n q) (omega (arith, ints))
charged_least (negsuc n) q low few = rw (negsuc-*ℤ-pos n q) (omega (arith, ints, mul-le (suc n) q 1000000 10000000 (omega (arith, ints)) few))

pub charged_most : (r : ℤ) (q : ℕ) → r ≤ℤ pos 11000000 → q ≤ 10000000 → (r *ℤ pos q) ≤ℤ pos 110000000000000
charged_most (pos n) q high few = rw (pos-*ℤ-pos n q) (omega (arith, ints, mul-le n q 11000000 10000000 (omega (arith, ints)) few))
charged_most (negsuc n) q high few = rw (negsuc-*ℤ-pos n q) (omega (arith, ints))

-- what the code's product gives
pub charged_is : (r : ℤ) (q : ℕ) → negsuc 999999 ≤ℤ r → r ≤ℤ pos 11000000 → q ≤ 10000000
    → to_z w64 (of_z w64 (to_z w64 (of_z w64 r) *ℤ to_z w64 q)) ≡ r *ℤ pos q
charged_is r q low high few =
    let least = charged_least r q low few in
    let most = charged_most r q high few in
    let rate : to_z w64 (of_z w64 r) ≡ r = omega (arith, ints) in
    let quantity : to_z w64 q ≡ pos q = omega (arith, ints) in
    rw (rate, quantity) (omega (arith, ints))

-- a sum by number, of one more number
pub sum_one_more : (start : ℤ) (f : ℕ → ℤ) (n : ℕ) → start +ℤ int_sum (by_number f (n + 1)) ≡ (start +ℤ int_sum (by_number f n)) +ℤ f n
sum_one_more start f n = let e : n + 1 ≡ suc n = omega arith in rw e (omega (arith, ints, int_sum-push (by_number f n) (f n)))

-- what mechanism i has outstanding after n of the months
abbrev pub balance_so_far : ℤ → ℕ → List Assessment → List (List ℤ) → ℕ → ℤ
balance_so_far opening i found bills n =
    opening +ℤ int_sum (by_number (λ j. pos (slice_index (map allowance_of found) j) -ℤ (billed_rate bills i j *ℤ pos (slice_index (map quantity_of found) j))) n)

-- month n adds the month_adds of its assessment
pub one_month_more : (opening : ℤ) (i : ℕ) (found : List Assessment) (bills : List (List ℤ)) (n : ℕ) (a : Assessment) → a ≡ get_or found n a
    → n < length found
    → balance_so_far opening i found bills (n + 1) ≡ balance_so_far opening i found bills n +ℤ (pos a.answer.1 -ℤ (billed_rate bills i n *ℤ pos a.quantity))
one_month_more opening i found bills n a at within =
    let allowance : slice_index (map allowance_of found) n ≡ a.answer.1 = get_or-map allowance_of found n a 0 within ∙ ap allowance_of (sym at) in
    let quantity : slice_index (map quantity_of found) n ≡ a.quantity = get_or-map quantity_of found n a 0 within ∙ ap quantity_of (sym at) in
    rw (sym allowance, sym quantity) (sum_one_more opening _ n)

-- what the first n mechanisms have outstanding together
abbrev pub total_so_far : List Meaning → List ℤ → List Figures → List (List ℤ) → ℕ → ℤ
total_so_far row balances ms bills n = int_sum (by_number (λ i. outstanding (numbered row i) i (slice_index_or balances i (pos 0)) ms bills) n)

-- mechanism n adds its balance
pub one_mechanism_more : (row : List Meaning) (openings : List OpeningBalance) (ms : List Figures) (bills : List (List ℤ)) (n : ℕ) (x : OpeningBalance) (b : ℤ)
    → n < length openings → x ≡ get_or openings n x → b ≡ outstanding (numbered row n) n x.units ms bills
    → total_so_far row (map (λ o. o.units) openings) ms bills (n + 1) ≡ total_so_far row (map (λ o. o.units) openings) ms bills n +ℤ b
one_mechanism_more row openings ms bills n x b within at is =
    let balances : List ℤ = map (λ o. o.units) openings in
    let opening : slice_index_or balances n (pos 0) ≡ x.units = get_or-map (λ o. o.units) openings n x (pos 0) within ∙ ap (λ o. o.units) (sym at) in
    let next : n + 1 ≡ suc n = omega arith in
    rw (next, is, ← opening) (int_sum-push (by_number (λ i. outstanding (numbered row i) i (slice_index_or balances i (pos 0)) ms bills) n) _)

-- after all of them it is the total
pub all_mechanisms : (row : List Meaning) (openings : List OpeningBalance) (balances : List ℤ) (ms : List Figures) (bills : List (List ℤ)) (n : ℕ) (t : ℤ)
    → map (λ o. o.units) openings ≡ balances → n ≡ length openings → t ≡ total_so_far row (map (λ o. o.units) openings) ms bills n
    → t ≡ total row balances ms bills
all_mechanisms row openings balances ms bills n t same all so_far =
    let counted : n ≡ length balances = all ∙ sym (length-map openings (λ o. o.units)) ∙ ap length same in
    so_far ∙ ap (λ bs. total_so_far row bs ms bills n) same ∙ ap (total_so_far row balances ms bills) counted
