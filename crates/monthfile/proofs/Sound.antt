-- The file of counted figures answers questions 1 to 5 with yes.
use Rattle.std.proofs.Common.{◌≡◌, ℕ, ◌+◌, ◌*◌, ◌<◌, ◌≤◌, List, [], ◌∷◌, ◌++◌, length, None, sym, refl, ap, ◌∙◌, append_assoc, append-nil, arith}
use Rattle.std.proofs.lemmas.Bool.{eq-eqb}
use Rattle.fields.specs.declared.due.Due.{Due}
use Rattle.fields.specs.Bytes.{field_of, fields_of}
use Rattle.fields.specs.Heads.{field_asked, size_at, Parts}
use Rattle.fields.specs.Questions.{first_no, carried}
use Rattle.fields.proofs.Asked.{first_no_after, carried_none}
use Rattle.fields.proofs.Numerals.{length_be}
use Rattle.fields.proofs.Rows.{length_eights}
use Rattle.fields.proofs.Present.{field_present, past_present}
use Rattle.month.specs.declared.fault.FileFault.TheVariants.{Field}
use Rattle.month.specs.Figures.{Figures, Counted}
use Rattle.monthfile.specs.Layout.{source_numbers, energy_numbers, bracket_numbers, sales_numbers, values, file_of}
use Rattle.monthfile.specs.Questions.{asked_from, file_asked, dues}
use Rattle.monthfile.proofs.Lengths.{length_entry, length_entries}

-- the values have the tags from `tag` on, and lengths that are allowed
abbrev Allowed : ℕ → List Due → List (List ℕ) → Type 0
Allowed tag [] [] = Unit {0}
Allowed tag [] (v ∷ vs) = ⊥
Allowed tag (d ∷ ds) [] = ⊥
Allowed tag (d ∷ ds) (v ∷ vs) = (d.tag ≡ tag) × Parts d (length v) × Allowed (tag + 1) ds vs

all_there : (file pre : List ℕ) (tag : ℕ) (ds : List Due) (vs : List (List ℕ)) → Allowed tag ds vs → file ≡ pre ++ fields_of tag vs
    → first_no (asked_from file (length pre) ds) ≡ None
all_there file pre tag [] [] h is = rw (eq-eqb (length pre) (length file) (sym (ap length (is ∙ append-nil pre))))
all_there file pre tag [] (v ∷ vs) h is = absurd h
all_there file pre tag (d ∷ ds) [] h is = absurd h
all_there file pre tag (d ∷ ds) (v ∷ vs) h is =
    let rest = fields_of (tag + 1) vs in
    let here : file ≡ pre ++ (field_of d.tag v ++ rest) = is ∙ ap (λ t. pre ++ (field_of t v ++ rest)) (sym h.0) in
    let next : file ≡ (pre ++ field_of d.tag v) ++ rest = here ∙ sym (append_assoc pre (field_of d.tag v) rest) in
    first_no_after (carried Field (field_asked file (length pre) d)) (asked_from file (length pre + 3 + size_at file (length pre)) ds) (carried_none Field (field_asked file (length pre) d) (field_present file pre v rest d here h.1))
    ∙ ap (λ p. first_no (asked_from file p ds)) (past_present file pre v rest d here h.1)
    ∙ all_there file (pre ++ field_of d.tag v) (tag + 1) ds vs h.2 next

parts_of : (d : Due) (n k : ℕ) → n ≡ d.each * k → 0 < d.each → d.least ≤ k → k ≤ d.most → Parts d n
parts_of d n k is pos low high = record { count = k; some = pos; whole = is; enough = low; few = high }

allowed : (f : Figures) → Counted f → Allowed 1 dues (values f)
allowed f few = (
  refl,
  parts_of _ _ 1 (length_be 2 f.month) (omega arith) (omega arith) (omega arith),
  (
    refl,
    parts_of _ _ (length f.sources) (length_entries source_numbers (λ x. refl) f.sources) (omega arith) few.some_source few.few_sources,
    (
      refl,
      parts_of _ _ 1 (length_eights (f.pilferage ∷ [])) (omega arith) (omega arith) (omega arith),
      (
        refl,
        parts_of _ _ 1 (length_entry source_numbers (λ x. refl) f.transmission) (omega arith) (omega arith) (omega arith),
        (
          refl,
          parts_of _ _ 1 (length_eights (energy_numbers f.energy f.exempt)) (omega arith) (omega arith) (omega arith),
          (
            refl,
            parts_of _ _ (length f.brackets) (length_entries bracket_numbers (λ x. refl) f.brackets) (omega arith) (omega arith) few.few_brackets,
            (refl, parts_of _ _ 1 (length_entry sales_numbers (λ x. refl) f.sales) (omega arith) (omega arith) (omega arith), tt),
          ),
        ),
      ),
    ),
  ),
)

pub asked_none : (file : List ℕ) (f : Figures) → Counted f → file ≡ file_of f → first_no (file_asked file) ≡ None
asked_none file f few is = all_there file [] 1 dues (values f) (allowed f few) is
