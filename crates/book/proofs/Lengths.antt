-- How long the lists of a tally are, and what an answer leaves at the end of its closing figures.
use Rattle.std.proofs.Common.{◌≡◌, ℕ, zero, suc, ◌-◌, ◌≤◌, true, List, [], ◌∷◌, ◌++◌, length, take, fold, All, ℤ, refl, ap, sym, ◌∙◌, arith}
use Rattle.std.proofs.lemmas.Bool.Decides.{nat_tests}
use Rattle.std.proofs.lemmas.List.{length_push, take_at}
use Rattle.std.proofs.lemmas.List.Elements.{All-head, All-push, All-tail}
use Rattle.month.specs.Figures.{Figures}
use Rattle.settlement.specs.Settling.{Answered}
use Rattle.book.specs.Opening.{OpeningNumbers}
use Rattle.book.specs.Places.{changed_month}
use Rattle.book.specs.Postings.{has_place}
use Rattle.book.specs.Tally.{Posting, Tally, counted, posted, tally, no_months}
use Rattle.book.specs.declared.kind.PostingKind.{PostingKind}
use Rattle.book.specs.declared.kind.PostingKind.TheVariants.{Entry, Amendment}
use Rattle.book.proofs.Changed.{length_changed}

-- as many rates and closing figures as months
pub record AsLong (t : Tally) : Type 0 where
  pub billed : length t.billed ≡ length t.months
  pub closings : length t.closings ≡ length t.months

counted_as_long : (kind : PostingKind) (m : Figures) (answer : Answered) (t : Tally) → AsLong t → AsLong (counted kind m answer t)
counted_as_long Entry m answer t long = record {
  billed = omega (arith, long.billed, length_push t.billed t.announced, length_push t.months m);
  closings = omega (arith, long.closings, length_push t.closings answer.closing, length_push t.months m);
}
counted_as_long Amendment m answer t long =
    let months = length_changed (λ _. m) m.month t.months in
    record {
      billed = long.billed ∙ sym months;
      closings = length_changed (λ _. answer.closing) (length t.closings) t.closings ∙ long.closings ∙ sym months;
    }

postings_as_long : (ps : List Posting) (t : Tally) → AsLong t → AsLong (fold posted t ps)
postings_as_long [] t long = long
postings_as_long (p ∷ ps) t long = postings_as_long ps (posted t p) (counted_as_long p.kind p.stated p.answer t long)

pub tally_as_long : (o : OpeningNumbers) (ps : List Posting) → AsLong (tally o ps)
tally_as_long o ps = postings_as_long ps (no_months o) (record { billed = refl; closings = refl })

-- a rate for each of n mechanisms, in each list that a month was billed at and in the one last announced
pub record Rated (n : ℕ) (t : Tally) : Type 0 where
  pub billed : All (λ rates. length rates ≡ n) t.billed
  pub announced : length t.announced ≡ n

module _ (n : ℕ) where
  counted_rated : (kind : PostingKind) (m : Figures) (answer : Answered) (t : Tally) → length answer.rates ≡ n → Rated n t
      → Rated n (counted kind m answer t)
  counted_rated Entry m answer t long rated =
      record { billed = All-push (λ (rates : List ℤ). length rates ≡ n) t.billed t.announced rated.billed rated.announced; announced = long }
  counted_rated Amendment m answer t long rated = record { billed = rated.billed; announced = long }

  pub postings_rated : (ps : List Posting) (t : Tally) → All (λ p. length p.answer.rates ≡ n) ps → Rated n t → Rated n (fold posted t ps)
  postings_rated [] t each rated = rated
  postings_rated (p ∷ ps) t each rated =
      postings_rated ps (posted t p) (All-tail (λ q. length q.answer.rates ≡ n) p ps each) (counted_rated p.kind p.stated p.answer t (All-head (λ q. length q.answer.rates ≡ n) p ps each) rated)

-- the last of the elements is put
last_changed : {X : Type 0} (x : X) (n : ℕ) (xs : List X) → length xs ≡ suc n
    → changed_month (λ _. x) (length xs) xs ≡ take n (changed_month (λ _. x) (length xs) xs) ++ x ∷ []
last_changed x n [] long = absurd (omega arith)
last_changed x zero (y ∷ []) long = refl
last_changed x zero (y ∷ _ ∷ _) long = absurd (omega arith)
last_changed x (suc n) (y ∷ []) long = absurd (omega arith)
last_changed x (suc n) (y ∷ z ∷ zs) long = ap (λ ys. y ∷ ys) (last_changed x n (z ∷ zs) (omega arith))

-- a posting that has its place leaves some month
pub some_month : (kind : PostingKind) (m : Figures) (answer : Answered) (t : Tally) → has_place kind m.month (length t.months) ≡ true
    → 1 ≤ length (counted kind m answer t).months
some_month Entry m answer t placed = omega (arith, length_push t.months m)
some_month Amendment m answer t placed =
    omega (arith, length_changed (λ _. m) m.month t.months, place_within m.month (length t.months) placed)
  where
    place_within : (month n : ℕ) → has_place Amendment month n ≡ true → 1 ≤ n
    place_within month n placed = grind (arith, nat_tests)

-- the answer's closing figures are the last
pub closes_with : (kind : PostingKind) (m : Figures) (answer : Answered) (t : Tally) → AsLong t
    → has_place kind m.month (length t.months) ≡ true
    → (counted kind m answer t).closings ≡ take (length (counted kind m answer t).months - 1) (counted kind m answer t).closings ++ answer.closing ∷ []
closes_with Entry m answer t long placed =
    ap (λ cs. cs ++ answer.closing ∷ []) (sym (take_at t.closings (answer.closing ∷ []) (length (t.months ++ m ∷ []) - 1) (omega (arith, long.closings, length_push t.months m))))
closes_with Amendment m answer t long placed =
    let some = some_month Amendment m answer t placed in
    let n : ℕ = length t.closings - 1 in
    let stand = length_changed (λ _. m) m.month t.months in
    let last : length (changed_month (λ _. m) m.month t.months) - 1 ≡ n = omega (arith, long.closings, stand) in
    rw last (last_changed answer.closing n t.closings (omega (arith, long.closings, stand, some)))
