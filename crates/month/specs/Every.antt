-- A test of each element of a list.
use Rattle.std.specs.Prelude.{◌≡◌, Bool, true, List, All}
use Rattle.std.specs.List.{list_all}
use Rattle.std.proofs.lemmas.List.Elements.{All-weaker}
use Rattle.std.proofs.lemmas.List.Sums.{AllPass-from_list_all, list_all-from_AllPass}

-- a test of each element, and the fact that it tells
module _ {X : Type 0} (p : X → Bool) (P : X → Type 0) where
  pub all_from_every : ((x : X) → p x ≡ true → P x) → (xs : List X) → list_all p xs ≡ true → All P xs
  all_from_every tells xs e = All-weaker (λ x. p x ≡ true) P tells xs (AllPass-from_list_all p xs e)

  pub every_from_all : ((x : X) → P x → p x ≡ true) → (xs : List X) → All P xs → list_all p xs ≡ true
  every_from_all tests xs a = list_all-from_AllPass p xs (All-weaker P (λ x. p x ≡ true) tests xs a)
