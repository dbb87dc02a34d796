-- The positions of the mechanisms, one after another.
use Rattle.std.proofs.Common.{◌≡◌, ℕ, ◌+◌, ◌<◌, ◌≤◌, List, [], ◌∷◌, ◌++◌, map, length, get_or, slice_index_or, take, refl, ap, sym, ◌∙◌, ℤ}
use Rattle.std.proofs.Common.{pos, Some, slice_get, arith}
use Rattle.std.proofs.lemmas.List.{length-map, length_push, length-take-le, map_more, get_or_push, get_or_append_left}
use Rattle.std.proofs.lemmas.Option.{slice_get_within, get_or_from_slice_get, slice_get-get_or}
use borrow.Author.Count.{below_more}
use Rattle.bounded.specs.View.{held, Grew}
use Rattle.bounded.specs.declared.up_to.UpTo.{UpTo}
use Rattle.charges.specs.Meaning.{Meaning}
use Rattle.month.specs.Figures.{Figures}
use Rattle.schedule.specs.Rows.{MayBeAsked, numbered}
use Rattle.settlement.specs.Months.{Settleable}
use Rattle.settlement.specs.Positions.{IsPosition, ArePositions}
use Rattle.settlement.specs.Settling.{opening_units}
use Rattle.settlement.specs.declared.amounts.OpeningBalance.{OpeningBalance}
use Rattle.settlement.specs.declared.position.Position.{Position}

-- where each mechanism has an opening balance, the number of a balance is one that a schedule is asked for
pub own_number : (row : List Meaning) (balances : UpTo OpeningBalance 8) (items : List OpeningBalance) (number : ℕ)
    → length (opening_units balances) ≡ length row → items ≡ held balances → length items ≤ 8 → number < length items
    → MayBeAsked row number × (number < length (opening_units balances))
own_number row balances items number count is few inside =
    let here : number < length (opening_units balances) = omega (arith, inside, ap length is, length-map (held balances) (λ b. b.units)) in
    (record { own = omega (arith, here, count); up_to_7 = omega (arith, few, inside) }, here)

module _ (row : List Meaning) (ms : List Figures) (bills : List (List ℤ)) where
  -- before the first mechanism
  pub no_positions : (ps : List Position) → ps ≡ [] → ArePositions row [] ms bills ps
  no_positions ps none = rw none (record { settleable = λ i h. absurd (omega arith); count = refl; each = λ i p h. absurd (omega (arith, slice_get_within [] i p h)) })

  module _ (bs : List ℤ) (ps : List Position) (s : ArePositions row bs ms bills ps) where
    module _ (b : ℤ) (p : Position) (is : IsPosition (numbered row (length bs)) (length bs) b ms bills p) where
      -- what stands at i is the position of mechanism i
      Each : ℕ → Type 0
      Each i = (q : Position) → slice_get (ps ++ p ∷ []) i ≡ Some q → IsPosition (numbered row i) i (slice_index_or (bs ++ b ∷ []) i (pos 0)) ms bills q

      each_before : (i : ℕ) → i < length bs → Each i
      unfolding Each
      each_before i h q got =
          let inside : i < length ps = omega (arith, s.count) in
          let same : get_or ps i q ≡ q = sym (get_or_append_left ps (p ∷ []) q i inside) ∙ get_or_from_slice_get (ps ++ p ∷ []) i q q got in
          rw get_or_append_left (s.each i q (slice_get-get_or ps i q inside ∙ ap Some same))

      each_last : Each (length bs)
      unfolding Each
      each_last q got =
          let same : p ≡ q = sym (get_or_push ps p q (length bs) s.count) ∙ get_or_from_slice_get (ps ++ p ∷ []) (length bs) q q got in
          rw (← same, get_or_push bs b (pos 0) (length bs) refl) is

      positions_more : Settleable (numbered row (length bs)) ms → ArePositions row (bs ++ b ∷ []) ms bills (ps ++ p ∷ [])
      unfolding Each
      positions_more settleable = record {
        settleable = λ i h. below_more (λ j. Settleable (numbered row j) ms) (length bs) s.settleable settleable i (omega (arith, length_push bs b));
        count = omega (arith, length_push bs b, length_push ps p, s.count);
        each = λ i q got. below_more Each (length bs) each_before each_last i (omega (arith, slice_get_within (ps ++ p ∷ []) i q got, length_push ps p, s.count)) q got;
      }

  module _ (openings : List OpeningBalance) (n : ℕ) (h : n < length openings) where
    front_length : length (map (λ b. b.units) (take n openings)) ≡ n
    front_length = omega (arith, length-map (take n openings) (λ b. b.units), length-take-le n openings (omega arith))

    -- one mechanism more, with its position
    pub positions_next : (x : OpeningBalance) (before after : UpTo Position 8) (p : Position)
        → ArePositions row (map (λ b. b.units) (take n openings)) ms bills (held before) → x ≡ get_or openings n x
        → Settleable (numbered row n) ms × IsPosition (numbered row n) n x.units ms bills p → Grew before after p
        → ArePositions row (map (λ b. b.units) (take (n + 1) openings)) ms bills (held after)
    positions_next x before after p so_far at is grew =
        let next : map (λ b. b.units) (take (n + 1) openings) ≡ map (λ b. b.units) (take n openings) ++ x.units ∷ [] = map_more (λ b. b.units) openings n x h ∙ ap (λ y. map (λ b. b.units) (take n openings) ++ y.units ∷ []) (sym at) in
        rw (next, grew.items) (positions_more (map (λ b. b.units) (take n openings)) (held before) so_far x.units p (rw front_length is.1) (rw front_length is.0))

    -- the list has room as long as there are opening balances
    pub taken_so_far : (ps : List Position) → ArePositions row (map (λ b. b.units) (take n openings)) ms bills ps → length ps ≡ n
    taken_so_far ps so_far = so_far.count ∙ front_length
