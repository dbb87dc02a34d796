-- From the positions to what settling answers.
use Rattle.std.proofs.Common.{◌≡◌, ℕ, ◌+◌, ◌<◌, Bool, List, [], ◌∷◌, length, map, take, get_or, sum, sum_by, sym, ap, ◌∙◌, ℤ, pos, ◌+ℤ◌}
use Rattle.std.proofs.Common.{Some, slice_get, slice_index_or}
use Rattle.std.proofs.lemmas.List.{map_more}
use Rattle.std.proofs.lemmas.List.Sums.{sum-map}
use Rattle.std.proofs.lemmas.Option.{slice_get-get_or}
use Rattle.charges.specs.Meaning.{Meaning}
use Rattle.month.specs.Figures.{Figures}
use Rattle.schedule.specs.Rows.{numbered}
use Rattle.settlement.specs.Settling.{Answered, announced_rate, settled, closing_now, standing_after}
use Rattle.settlement.specs.Numbers.{by_number, int_sum}
use Rattle.settlement.specs.Positions.{outstanding_of, recent_of, corrected, IsPosition, ArePositions}
use Rattle.settlement.specs.Rules.{total, revenue}
use Rattle.settlement.specs.declared.position.Position.{Position}
use Rattle.settlement.specs.declared.standing.Standing.{Standing}
use Rattle.settlement.proofs.Numbers.{int_sum-push, is_by_number}

-- the sum so far, and the next element x
pub int_sum_more : {X : Type 0} (f : X → ℤ) (xs : List X) (i : ℕ) (x : X) → i < length xs → x ≡ get_or xs i x
    → int_sum (map f (take (i + 1) xs)) ≡ int_sum (map f (take i xs)) +ℤ f x
int_sum_more f xs i x h is =
    let so_far = map f (take i xs) in
    ap int_sum (map_more f xs i x h) ∙ int_sum-push so_far (f (get_or xs i x)) ∙ ap (λ y. int_sum so_far +ℤ f y) (sym is)

-- what is read of n elements is the list by number where each element's is
map_is_by_number : {X Y : Type 0} (h : X → Y) (xs : List X) (f : ℕ → Y) (n : ℕ) → length xs ≡ n
    → ((i : ℕ) (x : X) → slice_get xs i ≡ Some x → h x ≡ f i) → map h xs ≡ by_number f n
map_is_by_number h [] f n count each = ap (by_number f) count
map_is_by_number h (x ∷ xs) f n count each =
    let all = x ∷ xs in
    is_by_number h all x f (λ i inside. each i _ (slice_get-get_or all i x inside)) ∙ ap (by_number f) count

module _ (row : List Meaning) (balances : List ℤ) (ms : List Figures) (bills : List (List ℤ)) (ps : List Position) (are : ArePositions row balances ms bills ps) where
  -- what is read of each position, by number
  positions_by_number : {Y : Type 0} (h : Position → Y) (f : ℕ → Y)
      → ((i : ℕ) (p : Position) → IsPosition (numbered row i) i (slice_index_or balances i (pos 0)) ms bills p → h p ≡ f i)
      → map h ps ≡ by_number f (length balances)
  positions_by_number h f each = map_is_by_number h ps f (length balances) are.count (λ i p here. each i p (are.each i p here))

  total_of_positions : int_sum (map outstanding_of ps) ≡ total row balances ms bills
  total_of_positions = ap int_sum (positions_by_number outstanding_of _ (λ i p is. is.outstanding))

  revenue_of_positions : sum_by recent_of ps ≡ revenue row (length balances) ms
  revenue_of_positions = sym (sum-map recent_of ps) ∙ ap sum (positions_by_number recent_of _ (λ i p is. is.recent))

  -- an answer worked out from the positions is the one that the rules give
  pub settled_from_positions : (spread : ℕ) (left : Standing) (barred : Bool) (a : Answered)
      → a.closing.total ≡ int_sum (map outstanding_of ps) → a.closing.revenue ≡ sum_by recent_of ps
      → a.standing ≡ standing_after left a.closing → a.rates ≡ map (corrected a.standing barred spread) ps
      → a ≡ settled row spread balances ms bills left barred
  settled_from_positions spread left barred a total_is revenue_is standing_is rates_is =
      let total_now = total_is ∙ total_of_positions in
      let revenue_now = revenue_is ∙ revenue_of_positions in
      let closing : a.closing ≡ closing_now row balances ms bills = λ i. record { total = total_now i; revenue = revenue_now i } in
      let standing = standing_is ∙ ap (standing_after left) closing in
      let rate : Standing → ℕ → ℤ = λ s i. announced_rate (numbered row i) i s barred spread (slice_index_or balances i (pos 0)) ms bills in
      let rates = rates_is ∙ positions_by_number (corrected a.standing barred spread) (rate a.standing) (λ i p is. cc) ∙ ap (λ s. by_number (rate s) (length balances)) standing in
      λ i. record { rates = rates i; closing = closing i; standing = standing i }
