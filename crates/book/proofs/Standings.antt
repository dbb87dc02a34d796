-- The standings that months leave, by the figures that they closed with, and the bar by their marks.
use Rattle.std.proofs.Common.{◌≡◌, ℕ, zero, suc, ◌+◌, ◌≤◌, ◌⊎◌, inl, inr, List, [], ◌∷◌, ◌++◌, map, length, take, ap, sym, ◌∙◌, arith}
use Rattle.std.proofs.lemmas.List.{length_push, map_push, take_all, take-append-le, length-map}
use Rattle.std.proofs.lemmas.List.Sums.{fold_push}
use Rattle.settlement.specs.Settling.{left_by, standing_after}
use Rattle.settlement.specs.Corrections.{not_filed, is_barred}
use Rattle.settlement.specs.declared.record.Closing.{Closing}
use Rattle.settlement.specs.declared.record.Record.{Record}
use Rattle.settlement.specs.declared.standing.Standing.TheVariants.{Steady}
use Rattle.book.specs.Places.{of_month}
use Rattle.book.specs.Reconciled.{standing_left}
use Rattle.book.proofs.OfMonth.{of_month_map, of_month_before, of_month_added}

-- the figures that months with these records closed with
abbrev closed_with : List Record → List Closing
closed_with rs = map (λ (r : Record). r.closing) rs

-- each standing is the one that the closing figures up to it leave
abbrev pub StandingsLeft : List Record → Type 0
StandingsLeft rs = (n : ℕ) → n ≤ length rs → left_by (of_month rs n) ≡ standing_left (take n (closed_with rs))

pub last_left : (rs : List Record) → StandingsLeft rs → left_by (of_month rs (length rs)) ≡ standing_left (closed_with rs)
last_left rs left = left (length rs) (omega arith) ∙ ap standing_left (take_all (length rs) (closed_with rs) (omega (arith, length-map rs (λ (x : Record). x.closing))))

-- the standing that one more month leaves
pub left_more : (cs : List Closing) (c : Closing) → standing_left (cs ++ c ∷ []) ≡ standing_after (standing_left cs) c
left_more cs c = fold_push _ Steady cs c

-- a number up to one more
up_to_next : (n k : ℕ) → n ≤ k + 1 → (n ≤ k) ⊎ (n ≡ k + 1)
up_to_next zero k h = inl (omega arith)
up_to_next (suc n) zero h = inr (omega arith)
up_to_next (suc n) (suc k) h = elim (up_to_next n k (omega arith)) [ inl l ↦ inl (omega arith) | inr e ↦ inr (omega arith) ]

-- the standings of some months, and of these with one month more
module _ (rs : List Record) (r : Record) where
  closed_with_last : closed_with (rs ++ r ∷ []) ≡ closed_with rs ++ r.closing ∷ []
  closed_with_last = map_push (λ (x : Record). x.closing) rs r

  long : length (closed_with rs) ≡ length rs
  long = length-map rs (λ (x : Record). x.closing)

  closed_before : (n : ℕ) → n ≤ length rs → take n (closed_with (rs ++ r ∷ [])) ≡ take n (closed_with rs)
  closed_before n early = ap (take n) closed_with_last ∙ take-append-le n (closed_with rs) (r.closing ∷ []) (omega (arith, long))

  pub left_before_last : StandingsLeft (rs ++ r ∷ []) → StandingsLeft rs
  left_before_last left n early =
      ap left_by (sym (of_month_before rs (r ∷ []) n early)) ∙ left n (omega (arith, length_push rs r)) ∙ ap standing_left (closed_before n early)

  pub left_with_last : StandingsLeft rs → r.standing ≡ standing_after (left_by (of_month rs (length rs))) r.closing → StandingsLeft (rs ++ r ∷ [])
  left_with_last left judged n inside =
      let stood : n ≤ length rs → left_by (of_month (rs ++ r ∷ []) n) ≡ standing_left (take n (closed_with (rs ++ r ∷ []))) = λ early.
      ap left_by (of_month_before rs (r ∷ []) n early) ∙ left n early ∙ ap standing_left (sym (closed_before n early)) in
      let last : n ≡ length rs + 1 → left_by (of_month (rs ++ r ∷ []) n) ≡ standing_left (take n (closed_with (rs ++ r ∷ []))) = λ next.
      ap (λ k. left_by (of_month (rs ++ r ∷ []) k)) next
      ∙ ap left_by (of_month_added rs r)
      ∙ judged
      ∙ ap (λ before. standing_after before r.closing) (last_left rs left)
      ∙ sym (left_more (closed_with rs) r.closing)
      ∙ ap standing_left (sym (ap (take n) closed_with_last ∙ take_all n (closed_with rs ++ r.closing ∷ []) (omega (arith, long, length_push (closed_with rs) r.closing)))) in
      elim (up_to_next n (length rs) (omega (arith, length_push rs r))) [ inl early ↦ stood early | inr next ↦ last next ]

-- no month but one that stands and was not filed bars a correction
pub bar_by_marks : (rs : List Record) (n : ℕ) → is_barred (of_month rs n) ≡ not_filed (of_month (map (λ (r : Record). r.mark) rs) n)
bar_by_marks rs n = ap not_filed (sym (of_month_map (λ (r : Record). r.mark) rs n))
