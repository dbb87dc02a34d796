-- The last of the months.
use Rattle.std.specs.Prelude.{◌≡◌, ℕ, ◌-◌, true, List, [], ◌∷◌, ◌++◌, map, length, take, nat_lt, slice_index_or, refl}
use Rattle.std.proofs.Common.{arith}
use Rattle.std.proofs.lemmas.Grind.{common_steps}
use Rattle.std.proofs.lemmas.List.Elements.{All-contains, Contains-push}
use Rattle.month.specs.declared.month.Month.{Month}
use Rattle.month.specs.Figures.{Figures}
use Rattle.month.specs.Valid.{Valid}
use Rattle.month.specs.View.{figures}
use Rattle.charges.specs.Charges.{for_last}
use Rattle.charges.specs.Meaning.{Meaning, CanStand}

pub last_answered : (answer : Figures → ℕ × ℕ) (before : List Figures) (m : Figures) → for_last answer (before ++ m ∷ []) ≡ answer m
last_answered answer [] m = refl
last_answered answer (x ∷ []) m = refl
last_answered answer (x ∷ y ∷ ys) m = last_answered answer (y ∷ ys) m

-- what is known of the last of months that can stand
pub last_fit : (k : Meaning) (before : List Figures) (m : Figures) → CanStand k (before ++ m ∷ []) → Valid m × (k.fit m ≡ true)
last_fit k before m stands = All-contains (λ f. Valid f × (k.fit f ≡ true)) (before ++ m ∷ []) m stands.fit (Contains-push before m)

-- a slice of months, as it is told whether it has a last one
module _ (ms : List Month) where
  ends_in : (m : Month) → true ≡ nat_lt 0 (length ms) → m ≡ slice_index_or ms (length ms - 1) m
      → map figures ms ≡ map figures (take (length ms - 1) ms) ++ figures m ∷ []
  ends_in m h e = grind (arith, common_steps)

  pub with_last : (answer : Figures → ℕ × ℕ) (m : Month) → true ≡ nat_lt 0 (length ms) → m ≡ slice_index_or ms (length ms - 1) m
      → for_last answer (map figures ms) ≡ answer (figures m)
  with_last answer m h e = simp (ends_in m h e, last_answered)
