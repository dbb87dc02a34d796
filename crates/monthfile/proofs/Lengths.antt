-- How long the values of a month file are.
use Rattle.std.proofs.Common.{◌≡◌, ℕ, ◌*◌, List, length, ap, ◌∙◌}
use Rattle.std.specs.List.{flat_map}
use Rattle.fields.proofs.Rows.{length_joined, length_eights}
use Rattle.monthfile.specs.Layout.{bytes_by}

module _ {X : Type 0} (numbers : X → List ℕ) (three : (x : X) → length (numbers x) ≡ 3) where
  pub length_entry : (x : X) → length (bytes_by numbers x) ≡ 24
  length_entry x = length_eights (numbers x) ∙ ap (λ n. 8 * n) (three x)

  pub length_entries : (xs : List X) → length (flat_map (bytes_by numbers) xs) ≡ 24 * length xs
  length_entries xs = length_joined (bytes_by numbers) 24 length_entry xs
