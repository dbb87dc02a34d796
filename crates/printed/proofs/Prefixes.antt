-- Frames are told apart by their bytes, also where other bytes follow.
use Rattle.std.proofs.Common.{◌≡◌, ℕ, List, [], ◌∷◌, ◌++◌, map, length, ℤ, get_or, refl, ap, sym, ◌∙◌, arith, length-append}
use Rattle.std.specs.Int.{cast_signed, w64}
use Rattle.std.specs.List.{All}
use Rattle.std.specs.Prelude.{FitsSigned}
use Rattle.std.proofs.lemmas.Int.{to_z-of_z}
use Rattle.std.proofs.lemmas.List.{length-map}
use Rattle.std.proofs.lemmas.List.Elements.{All-head, All-tail}
use Rattle.book.specs.Opening.{Given}
use Rattle.fields.specs.Bytes.{eights}
use Rattle.fields.proofs.Rows.{cut_same, field_same, length_eights, eights_same}
use Rattle.printed.specs.Frames.{Framed, WellFormed, twos_complement, opening_value, frame_bytes}
use Rattle.printed.specs.Frames.Framed.{Opens, Enters, Amends}

-- numbers that fit 64 bits are told apart by their two's complements
twos_complement_same : (y z : ℤ) → FitsSigned w64 y → FitsSigned w64 z → twos_complement y ≡ twos_complement z → y ≡ z
twos_complement_same y z f g e = sym (to_z-of_z w64 y f) ∙ ap (cast_signed w64) e ∙ to_z-of_z w64 z g

balances_same : (ys zs : List ℤ) → All (FitsSigned w64) ys → All (FitsSigned w64) zs → map twos_complement ys ≡ map twos_complement zs → ys ≡ zs
balances_same [] [] f g e = refl
balances_same [] (z ∷ zs) f g e = absurd (omega (arith, ap length e))
balances_same (y ∷ ys) [] f g e = absurd (omega (arith, ap length e))
balances_same (y ∷ ys) (z ∷ zs) f g e =
    let here : twos_complement y ≡ twos_complement z = cc in
    let later : map twos_complement ys ≡ map twos_complement zs = cc in
    let first = twos_complement_same y z (All-head (FitsSigned w64) y ys f) (All-head (FitsSigned w64) z zs g) here in
    let rest = balances_same ys zs (All-tail (FitsSigned w64) y ys f) (All-tail (FitsSigned w64) z zs g) later in
    cc

opening_same : (k l : ℕ) (g h : Given) → WellFormed (Opens k g) → WellFormed (Opens l h) → opening_value k g ≡ opening_value l h
    → Opens k g ≡ Opens l h
opening_same k l g h p q e =
    let terms = cut_same (eights (k ∷ g.spread ∷ g.number ∷ [])) (eights g.rates ++ eights (map twos_complement g.balances)) (eights (l ∷ h.spread ∷ h.number ∷ [])) (eights h.rates ++ eights (map twos_complement h.balances)) (length_eights (k ∷ g.spread ∷ g.number ∷ []) ∙ sym (length_eights (l ∷ h.spread ∷ h.number ∷ []))) e in
    let rows = cut_same (eights g.rates) (eights (map twos_complement g.balances)) (eights h.rates) (eights (map twos_complement h.balances)) (omega (arith, length_eights g.rates, length_eights h.rates, p.0, q.0)) terms.1 in
    let three : k ∷ g.spread ∷ g.number ∷ [] ≡ l ∷ h.spread ∷ h.number ∷ [] = eights_same _ _ terms.0 in
    let rates = eights_same g.rates h.rates rows.0 in
    let balances = balances_same g.balances h.balances p.2 q.2 (eights_same _ _ rows.1) in
    let cap_is : k ≡ l = cc in
    let spread : g.spread ≡ h.spread = cc in
    let number : g.number ≡ h.number = cc in
    λ i. Opens (cap_is i) (record { number = number i; spread = spread i; rates = rates i; balances = balances i })

-- the tag that a frame begins with
abbrev tag_of : Framed → ℕ
tag_of (Opens k g) = 15
tag_of (Enters file) = 16
tag_of (Amends file) = 17

first_byte : (f : Framed) (r : List ℕ) → get_or (frame_bytes f ++ r) 0 0 ≡ tag_of f
first_byte (Opens k g) r = refl
first_byte (Enters file) r = refl
first_byte (Amends file) r = refl

tags_same : (f g : Framed) (r s : List ℕ) → frame_bytes f ++ r ≡ frame_bytes g ++ s → tag_of f ≡ tag_of g
tags_same f g r s e = sym (first_byte f r) ∙ ap (λ l. get_or l 0 0) e ∙ first_byte g s

-- bytes that begin with a frame begin with no other
pub frame_same : (f g : Framed) (r s : List ℕ) → WellFormed f → WellFormed g → frame_bytes f ++ r ≡ frame_bytes g ++ s → (f ≡ g) × (r ≡ s)
frame_same (Opens k g) (Opens l h) r s p q e =
    let parts = field_same 15 (opening_value k g) (opening_value l h) r s e in
    (opening_same k l g h p q parts.0, parts.1)
frame_same (Enters v) (Enters w) r s p q e =
    let parts = field_same 16 v w r s e in
    (ap Enters parts.0, parts.1)
frame_same (Amends v) (Amends w) r s p q e =
    let parts = field_same 17 v w r s e in
    (ap Amends parts.0, parts.1)
frame_same f g r s p q e = absurd (omega (arith, tags_same f g r s e))

-- an opening's value has 88 bytes
pub opening_long : (k : ℕ) (g : Given) → WellFormed (Opens k g) → length (opening_value k g) ≡ 88
opening_long k g formed =
    let balances : length (map twos_complement g.balances) ≡ 4 = simp length-map formed.1 in
    omega (
      arith,
      length-append (eights (k ∷ g.spread ∷ g.number ∷ [])) (eights g.rates ++ eights (map twos_complement g.balances)),
      length-append (eights g.rates) (eights (map twos_complement g.balances)),
      length_eights (k ∷ g.spread ∷ g.number ∷ []),
      length_eights g.rates,
      length_eights (map twos_complement g.balances),
      formed.0,
    )
