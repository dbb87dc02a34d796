-- What a mechanism answers, month by month, and the position that is taken of it.
use Rattle.std.proofs.Common.{◌≡◌, ℕ, zero, suc, ◌+◌, ◌-◌, ◌<◌, ◌≤◌, List, [], ◌∷◌, ◌++◌, map, length, get_or, slice_index_or, sum, sum_by}
use Rattle.std.proofs.Common.{take, refl, ap, sym, ◌∙◌, ℤ, Option, Some, None, MatchOption, slice_get, arith}
use Rattle.std.proofs.lemmas.Nat.{mul-le}
use Rattle.std.proofs.Math.Nat.{mul-le-mul_right}
use Rattle.std.proofs.lemmas.List.Sums.{sum-map, sum_by-le}
use Rattle.std.proofs.lemmas.Grind.{common_steps}
use Rattle.std.proofs.lemmas.List.{length-map, length_push, map_push, get_or-map, get_or-take, length-take-le, take-append-le, take-map, take_all}
use Rattle.std.proofs.lemmas.Option.{slice_get_within, get_or_from_slice_get}
use borrow.Author.Count.{below_more}
use Rattle.bounded.specs.Ends.{latest}
use Rattle.bounded.proofs.Ends.{latest_length, latest_map}
use Rattle.bounded.specs.View.{held, Grew}
use Rattle.bounded.specs.declared.up_to.UpTo.{UpTo}
use Rattle.charges.specs.Assessed.{allowance_of}
use Rattle.charges.specs.Meaning.{Meaning, LawfulAnswer}
use Rattle.charges.specs.declared.assessment.Assessment.{Assessment}
use Rattle.month.specs.Figures.{Figures}
use Rattle.month.specs.View.{figures}
use Rattle.month.specs.declared.month.Month.{Month}
use Rattle.settlement.specs.Bounds.{greatest_allowance, greatest_recent}
use Rattle.settlement.specs.Rules.{balance_after, recent}
use Rattle.settlement.specs.Months.{allowances, assessed_at, quantity_at, LawfulLast, AssessesLast, AllLawful, Settleable, Assesses}
use Rattle.settlement.specs.Months.{quantity_of, rate_of}
use Rattle.settlement.specs.Numbers.{by_number}
use Rattle.settlement.specs.Positions.{IsPosition}
use Rattle.settlement.specs.declared.position.Position.{Position}
use Rattle.settlement.proofs.Numbers.{index-by_number, by_number_same}

-- one element more of a list that has it
next_taken : {X : Type 0} (xs : List X) (n : ℕ) → n < length xs → (x : X) × (take (n + 1) xs ≡ take n xs ++ x ∷ [])
next_taken [] n h = absurd (omega arith)
next_taken (x ∷ xs) zero h = (x, refl)
next_taken (x ∷ xs) (suc n) h =
    let next = next_taken xs n (omega arith) in
    let one : suc n + 1 ≡ suc (n + 1) = omega arith in
    (next.0, rw one (ap (λ ys. x ∷ ys) next.1))

module _ (k : Meaning) where
  -- lawful answers for all months are lawful for those up to each
  lawful_up_to : (ms : List Figures) (n : ℕ) → AllLawful k ms → n < length ms → LawfulLast k (take (n + 1) ms)
  lawful_up_to ms n all h =
      let long : length (take (n + 1) ms) ≡ n + 1 = length-take-le (n + 1) ms (omega arith) in
      let at : length (take (n + 1) ms) - 1 ≡ n = omega arith in
      let one : suc n ≡ n + 1 = omega arith in
      let same : quantity_at k (take (n + 1) ms) n ≡ quantity_at k ms n = ap (λ q. get_or q n 0) (sym (take-map k.quantity (n + 1) ms)) ∙ get_or-take (n + 1) (map k.quantity ms) n 0 (omega arith) in
      record { some = omega arith; lawful = rw (at, same, ← one) (all.lawful n h) }

  module _ (ms : List Figures) (m : Figures) where
    quantity_before : (j : ℕ) → j < length ms → quantity_at k (ms ++ m ∷ []) j ≡ quantity_at k ms j
    quantity_before j h = grind (arith, common_steps)

    quantity_last : (j : ℕ) → j ≡ length ms → quantity_at k (ms ++ m ∷ []) j ≡ k.quantity m
    quantity_last j e = grind (arith, common_steps)

    answer_before : (j : ℕ) → j < length ms → assessed_at k (ms ++ m ∷ []) j ≡ assessed_at k ms j
    answer_before j h = ap k.assessed (take-append-le (suc j) ms (m ∷ []) h)

    answer_last : (j : ℕ) → j ≡ length ms → assessed_at k (ms ++ m ∷ []) j ≡ k.assessed (ms ++ m ∷ [])
    answer_last j e = ap k.assessed (take_all (suc j) (ms ++ m ∷ []) (omega (arith, length_push ms m)))

    answers_more : (part : ℕ × ℕ → ℕ)
        → by_number (λ j. part (assessed_at k (ms ++ m ∷ []) j)) (length (ms ++ m ∷ [])) ≡ by_number (λ j. part (assessed_at k ms j)) (length ms) ++ part (k.assessed (ms ++ m ∷ [])) ∷ []
    answers_more part =
        let long : length (ms ++ m ∷ []) ≡ suc (length ms) = omega (arith, length_push ms m) in
        rw (long, answer_last (length ms) refl, by_number_same (λ j. part (assessed_at k (ms ++ m ∷ []) j)) (λ j. part (assessed_at k ms j)) (length ms) (λ j h. ap part (answer_before j h))) refl

    lawful_more : AllLawful k ms → LawfulLast k (ms ++ m ∷ []) → length ms < 36 → AllLawful k (ms ++ m ∷ [])
    lawful_more all last few =
        let at : length (ms ++ m ∷ []) - 1 ≡ length ms = omega (arith, length_push ms m) in
        record {
          few = omega (arith, length_push ms m);
          lawful = λ j h. below_more (λ i. LawfulAnswer (quantity_at k (ms ++ m ∷ []) i) (assessed_at k (ms ++ m ∷ []) i)) (length ms) (λ i b. rw (quantity_before i b, answer_before i b) (all.lawful i b)) (rw (answer_last (length ms) refl) (rw at at last.lawful)) j (omega (arith, length_push ms m));
        }

    -- one month more, and its assessment
    pub assesses_more : (found : List Assessment) (a : Assessment) → Assesses k ms found → AssessesLast k (ms ++ m ∷ []) a
        → length found < 36 → Assesses k (ms ++ m ∷ []) (found ++ a ∷ [])
    assesses_more found a so_far last few =
        let long : length found ≡ length ms = omega (arith, simp length-map at (ap length so_far.quantities)) in
        let newest : a.quantity ≡ k.quantity m = last.quantity ∙ quantity_last _ (omega (arith, length_push ms m)) in
        record {
          lawful = lawful_more so_far.lawful last.lawful (omega arith);
          quantities = rw (map_push quantity_of found a, map_push k.quantity ms m, so_far.quantities, newest) refl;
          rates = rw (map_push rate_of found a, answers_more (λ p. p.0), so_far.rates) (λ i. by_number (λ j. (assessed_at k ms j).0) (length ms) ++ (last.answer i).0 ∷ []);
          allowances = rw (map_push allowance_of found a, answers_more (λ p. p.1), so_far.allowances) (λ i. allowances k ms ++ (last.answer i).1 ∷ []);
        }

  -- one month more of those that stand, and its assessment, in a list with room for no more than may stand
  pub assesses_next : (months : List Month) (n : ℕ) {room : ℕ} (before after : UpTo Assessment room) (a : Assessment) → room ≤ 36
      → Assesses k (map figures (take n months)) (held before) → AssessesLast k (map figures (take (n + 1) months)) a → n < length months
      → Grew before after a → Assesses k (map figures (take (n + 1) months)) (held after)
  assesses_next months n before after a most so_far last h grew =
      let next = next_taken months n h in
      let is : map figures (take (n + 1) months) ≡ map figures (take n months) ++ figures next.0 ∷ [] = ap (map figures) next.1 ∙ map_push figures (take n months) next.0 in
      rw (is, grew.items) (assesses_more (map figures (take n months)) (figures next.0) (held before) a so_far (rw is at last) (omega (arith, grew.room, most)))

  -- where the answer for one month breaks the law, those for all do
  pub unlawful_by : (months : List Month) (n : ℕ) → ¬ LawfulLast k (map figures (take (n + 1) months)) → n < length months
      → ¬ AllLawful k (map figures months)
  unlawful_by months n broken h all = broken (rw (← take-map) (lawful_up_to (map figures months) n all (omega (arith, length-map months figures))))

  module _ (ms : List Figures) (found : List Assessment) (s : Assesses k ms found) where
    -- one assessment for each month
    as_many : length found ≡ length ms
    as_many = omega (arith, simp length-map at (ap length s.quantities))

    module _ (a : Assessment) (some : 0 < length found) (is : a ≡ slice_index_or found (length found - 1) a) where
      -- what the last assessment has, read in the list
      last_read : (read : Assessment → ℕ) → read a ≡ get_or (map read found) (length found - 1) 0
      last_read read = ap read is ∙ sym (get_or-map read found (length found - 1) a 0 (omega arith))

      last_rate : a.answer.0 ≡ (k.assessed ms).0
      last_rate =
          let whole : take (suc (length found - 1)) ms ≡ ms = take_all (suc (length found - 1)) ms (omega (arith, as_many)) in
          last_read rate_of ∙ ap (λ rs. get_or rs (length found - 1) 0) s.rates ∙ index-by_number (λ j. (assessed_at k ms j).0) (length ms) (length found - 1) 0 (omega (arith, as_many)) ∙ ap (λ qs. (k.assessed qs).0) whole

      last_quantity : a.quantity ≡ quantity_at k ms (length ms - 1)
      last_quantity = last_read quantity_of ∙ ap (λ qs. get_or qs (length found - 1) 0) s.quantities ∙ ap (λ n. quantity_at k ms (n - 1)) as_many

    recent_allowed : sum_by allowance_of (latest 3 found) ≡ recent k ms
    recent_allowed = sym (sum-map allowance_of (latest 3 found)) ∙ ap sum (sym (latest_map allowance_of 3 found) ∙ ap (latest 3) s.allowances)

    -- the position, by the assessments of the months that stand
    pub is_position : (i : ℕ) (opening : ℤ) (bills : List (List ℤ)) (p : Position)
        → p.outstanding ≡ balance_after opening i (map allowance_of found) (map quantity_of found) bills
        → p.recent ≡ sum_by allowance_of (latest 3 found) → 0 < length found → p.last ≡ slice_index_or found (length found - 1) p.last
        → Settleable k ms × IsPosition k i opening ms bills p
    is_position i opening bills p outstanding recent some last = (
      record { some = omega (arith, as_many); lawful = s.lawful },
      record {
        outstanding = rw (← s.allowances, ← s.quantities) outstanding;
        recent = recent ∙ recent_allowed;
        rate = last_rate p.last some last;
        quantity = last_quantity p.last some last;
      },
    )

    -- where nothing is assessed, no month stands
    pub not_settleable : length found ≤ 0 → ¬ Settleable k ms
    not_settleable none settleable = omega (arith, settleable.some, as_many)

-- what is made of the mechanism's answer for the last month m
module _ (k : Meaning) (months : List Month) (m : Month) (last : Some m ≡ slice_get months (length months - 1)) (quantity : ℕ) (answer : ℕ × ℕ) (quantity_is : quantity ≡ k.quantity (figures m)) (answer_is : answer ≡ k.assessed (map figures months)) where
  quantity_of_last : quantity ≡ quantity_at k (map figures months) (length (map figures months) - 1)
  quantity_of_last =
      let ms = map figures months in
      let inside = slice_get_within months (length months - 1) m (sym last) in
      let long : length ms ≡ length months = length-map months figures in
      rw (long, get_or-map k.quantity ms (length months - 1) (figures m) 0 (omega arith), get_or-map figures months (length months - 1) m (figures m) inside, get_or_from_slice_get months (length months - 1) m m (sym last)) quantity_is

  pub last_assessed : (made : Option Assessment)
      → MatchOption made (¬ LawfulAnswer quantity answer) (λ a. (a.quantity ≡ quantity) × (a.answer ≡ answer))
      → MatchOption made (¬ LawfulLast k (map figures months)) (AssessesLast k (map figures months))
  last_assessed None broken = λ l. broken (rw (quantity_of_last, answer_is) l.lawful)
  last_assessed (Some a) is =
      let quantity_now = is.0 ∙ quantity_of_last in
      let now : a.answer ≡ k.assessed (map figures months) = is.1 ∙ answer_is in
      record {
        lawful = record {
          some = omega (arith, length-map months figures, slice_get_within months (length months - 1) m (sym last));
          lawful = rw (← quantity_now, ← now) a.lawful;
        };
        quantity = quantity_now;
        answer = now;
      }

-- the law bounds an allowance
allowance_most : (a : Assessment) → allowance_of a ≤ greatest_allowance
allowance_most a = omega (arith, a.lawful.tight, mul-le (a.answer.0 + 1) a.quantity 10000001 10000000 (omega (arith, a.lawful.rate_limit)) a.lawful.most)

-- the allowances of three months at most
pub recent_most : (found : List Assessment) → sum_by allowance_of (latest 3 found) ≤ greatest_recent
recent_most found =
    omega (arith, sum_by-le allowance_of greatest_allowance (latest 3 found) (λ k d h. allowance_most (slice_index_or (latest 3 found) k d)), latest_length 3 found, mul-le-mul_right {m = length (latest 3 found)} {n = 3} greatest_allowance (omega (arith, latest_length 3 found)))
