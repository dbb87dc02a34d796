-- A file states one month's figures: no other figures have the same file.
use Rattle.std.proofs.Common.{◌≡◌, ℕ, List, [], ◌∷◌, length, refl, arith}
use Rattle.std.specs.List.{flat_map}
use Rattle.fields.proofs.Numerals.{be_same}
use Rattle.fields.proofs.Rows.{joined_same, eights_same, fields_same}
use Rattle.month.specs.declared.parts.Source.{Source}
use Rattle.month.specs.declared.parts.Energy.{Energy}
use Rattle.month.specs.declared.parts.Exempt.{Exempt}
use Rattle.month.specs.declared.parts.Bracket.{Bracket}
use Rattle.month.specs.declared.parts.Sales.{Sales}
use Rattle.month.specs.Figures.{Figures}
use Rattle.monthfile.specs.Layout.{source_numbers, energy_numbers, bracket_numbers, sales_numbers, bytes_by, values, file_of}
use Rattle.monthfile.proofs.Lengths.{length_entry}

source_same : (x y : Source) → source_numbers x ≡ source_numbers y → x ≡ y
source_same x y n = grind arith

bracket_same : (x y : Bracket) → bracket_numbers x ≡ bracket_numbers y → x ≡ y
bracket_same x y n = grind arith

sales_same : (x y : Sales) → sales_numbers x ≡ sales_numbers y → x ≡ y
sales_same x y n = grind arith

energy_same : (x y : Energy) (v w : Exempt) → energy_numbers x v ≡ energy_numbers y w → (x ≡ y) × (v ≡ w)
energy_same x y v w n = (grind arith, grind arith)

-- the seven values, one by one
module _ {a1 a2 a3 a4 a5 a6 a7 b1 b2 b3 b4 b5 b6 b7 : List ℕ} (e : a1 ∷ a2 ∷ a3 ∷ a4 ∷ a5 ∷ a6 ∷ a7 ∷ [] ≡ b1 ∷ b2 ∷ b3 ∷ b4 ∷ b5 ∷ b6 ∷ b7 ∷ []) where
  seven : (a1 ≡ b1) × (a2 ≡ b2) × (a3 ≡ b3) × (a4 ≡ b4) × (a5 ≡ b5) × (a6 ≡ b6) × (a7 ≡ b7)
  seven = ((cc), (cc), (cc), (cc), (cc), (cc), (cc))

-- entries told apart by their numbers are told apart by their bytes, one by one and in a row
module _ {X : Type 0} (numbers : X → List ℕ) (three : (x : X) → length (numbers x) ≡ 3) (same : (x y : X) → numbers x ≡ numbers y → x ≡ y) where
  entry_same : (x y : X) → bytes_by numbers x ≡ bytes_by numbers y → x ≡ y
  entry_same x y e = same x y (eights_same (numbers x) (numbers y) e)

  entries_same : (xs ys : List X) → flat_map (bytes_by numbers) xs ≡ flat_map (bytes_by numbers) ys → xs ≡ ys
  entries_same xs ys e = joined_same (bytes_by numbers) 24 (omega arith) (length_entry numbers three) entry_same xs ys e

pub file_same : (f g : Figures) → file_of f ≡ file_of g → f ≡ g
file_same f g e =
    let v = seven (fields_same 1 (values f) (values g) refl e) in
    let month = be_same 1 f.month g.month v.0 in
    let sources = entries_same source_numbers (λ x. refl) source_same f.sources g.sources v.1 in
    let pilferage = eights_same (f.pilferage ∷ []) (g.pilferage ∷ []) v.2 in
    let transmission = entry_same source_numbers (λ x. refl) source_same f.transmission g.transmission v.3 in
    let energy = energy_same f.energy g.energy f.exempt g.exempt (eights_same (energy_numbers f.energy f.exempt) (energy_numbers g.energy g.exempt) v.4) in
    let brackets = entries_same bracket_numbers (λ x. refl) bracket_same f.brackets g.brackets v.5 in
    let sales = entry_same sales_numbers (λ x. refl) sales_same f.sales g.sales v.6 in
    grind arith
