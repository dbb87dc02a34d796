-- A reader that passes from field to field of a month file.
use Rattle.std.proofs.Common.{◌≡◌, ℕ, zero, suc, ◌+◌, ◌<◌, ◌≤◌, true, false, eqb, ◌≢◌, List, [], ◌∷◌, ◌++◌, map, length, get_or, take, drop}
use Rattle.std.proofs.Common.{set, Some, None, sym, refl, ap, ◌∙◌, subst, append_assoc, append-nil, arith, Bor, below_more}
use Rattle.std.proofs.lemmas.List.{drop_all, take_all, take_more_set, drop_more, length-set, length-take-le, get_or-set_same}
use Rattle.std.proofs.lemmas.List.{get_or-set_other, get_or-map, length-map}
use Rattle.std.proofs.lemmas.Bool.{eqb-true}
use Rattle.fields.specs.declared.due.Due.{Due}
use Rattle.fields.specs.declared.fault.FieldFault.{FieldFault}
use Rattle.fields.specs.Bytes.{field_of, fields_of}
use Rattle.fields.specs.Heads.{field_asked, size_at, next_offset, FieldAt, NoFieldAt, Parts}
use Rattle.fields.specs.Questions.{first_no, carried}
use Rattle.fields.proofs.Asked.{first_no_after, first_no_stop, carried_none, carried_some}
use Rattle.fields.proofs.Heads.{byte_left, no_byte_left}
use Rattle.month.specs.declared.fault.FileFault.TheVariants.{Field, GoesOn}
use Rattle.monthfile.specs.Questions.{asked_from, file_asked, dues}
use Rattle.monthfile.specs.Values.{MadeOf}

abbrev pub no_due : Due
no_due = record { tag = 0; each = 0; least = 0; most = 0 }

-- the first i fields were read, with these values, and a reader of `bytes` stands at `at`
pub record Progress (file : List ℕ) (values : List (List ℕ)) (i : ℕ) (bytes : List ℕ) (at : ℕ) : Type 0 where
  pub seven : length values ≡ 7
  pub same : bytes ≡ file
  pub read : file ≡ fields_of 1 (take i values) ++ drop at file
  pub asked : first_no (file_asked file) ≡ first_no (asked_from file at (drop i dues))
  pub parts : (k : ℕ) → k < i → Parts (get_or dues k no_due) (length (get_or values k []))

pub begin : (file : List ℕ) (values : List (List ℕ)) (bytes : List ℕ) (at : ℕ) → length values ≡ 7 → bytes ≡ file → at ≡ 0
    → Progress file values 0 bytes at
begin file values bytes at seven same none = record {
  seven = seven;
  same = same;
  read = ap (λ p. drop p file) (sym none);
  asked = ap (λ p. first_no (asked_from file p dues)) (sym none);
  parts = λ k h. absurd (omega arith);
}

fields_push : (tag : ℕ) (vs : List (List ℕ)) (v : List ℕ) → fields_of tag (vs ++ v ∷ []) ≡ fields_of tag vs ++ field_of (tag + length vs) v
fields_push tag [] v = append-nil (field_of tag v) ∙ ap (λ t. field_of t v) (omega arith)
fields_push tag (w ∷ vs) v =
    let rest = fields_push (tag + 1) vs v in
    let count : tag + 1 + length vs ≡ tag + length (w ∷ vs) = omega arith in
    ap (λ l. field_of tag w ++ l) (rest ∙ ap (λ t. fields_of (tag + 1) vs ++ field_of t v) count) ∙ sym (append_assoc (field_of tag w) (fields_of (tag + 1) vs) (field_of (tag + length (w ∷ vs)) v))

-- the tags count up from 1
due_tag : (i : ℕ) → i < 7 → (get_or dues i no_due).tag ≡ 1 + i
due_tag zero h = refl
due_tag (suc zero) h = refl
due_tag (suc (suc zero)) h = refl
due_tag (suc (suc (suc zero))) h = refl
due_tag (suc (suc (suc (suc zero)))) h = refl
due_tag (suc (suc (suc (suc (suc zero))))) h = refl
due_tag (suc (suc (suc (suc (suc (suc zero)))))) h = refl
due_tag (suc (suc (suc (suc (suc (suc (suc i))))))) h = absurd (omega arith)

module _ {file : List ℕ} {values : List (List ℕ)} {i : ℕ} {bytes : List ℕ} {at : ℕ} (s : Progress file values i bytes at) where
  module _ (h : i < 7) where
    left : first_no (asked_from file at (drop i dues)) ≡ first_no (carried Field (field_asked file at (get_or dues i no_due)) ++ asked_from file (at + 3 + size_at file at) (drop (i + 1) dues))
    left = ap (λ ds. first_no (asked_from file at ds)) (drop_more dues i no_due h)

    pub pass : {at' : ℕ} {bytes' value : List ℕ} → FieldAt bytes at at' (get_or dues i no_due) value → bytes' ≡ bytes
        → Progress file (set values i value) (i + 1) bytes' at'
    pass {at'} {bytes'} {value} took kept =
        let d = get_or dues i no_due in
        let t = subst (λ b. FieldAt b at at' d value) s.same took in
        let next : at + 3 + size_at file at ≡ at' = omega (arith, t.size, t.moved) in
        let long : length (take i values) ≡ i = length-take-le i values (omega (arith, s.seven)) in
        let tag : d.tag ≡ 1 + length (take i values) = due_tag i h ∙ ap (λ n. 1 + n) (sym long) in
        let within : i < length values = omega (arith, s.seven) in
        let grown : fields_of 1 (take (i + 1) (set values i value)) ≡ fields_of 1 (take i values) ++ field_of d.tag value = ap (fields_of 1) (take_more_set values i value within) ∙ fields_push 1 (take i values) value ∙ ap (λ t'. fields_of 1 (take i values) ++ field_of t' value) (sym tag) in
        record {
          seven = length-set values i value ∙ s.seven;
          same = kept ∙ s.same;
          read = s.read ∙ ap (λ l. fields_of 1 (take i values) ++ l) t.split ∙ sym (append_assoc (fields_of 1 (take i values)) (field_of d.tag value) (drop at' file)) ∙ ap (λ l. l ++ drop at' file) (sym grown);
          asked = s.asked ∙ left ∙ first_no_after (carried Field (field_asked file at d)) (asked_from file (at + 3 + size_at file at) (drop (i + 1) dues)) (carried_none Field (field_asked file at d) t.asked) ∙ ap (λ p. first_no (asked_from file p (drop (i + 1) dues))) next;
          parts = below_more (λ k. Parts (get_or dues k no_due) (length (get_or (set values i value) k []))) i
              (λ k below. let other : k ≢ i = omega arith in subst (λ v. Parts (get_or dues k no_due) (length v)) (sym (get_or-set_other values i k value [] other)) (s.parts k below))
              (subst (λ v. Parts d (length v)) (sym (get_or-set_same values i value [] within)) t.allowed);
        }

    pub stop : {at' : ℕ} {e : FieldFault} → NoFieldAt bytes at at' (get_or dues i no_due) e → first_no (file_asked file) ≡ Some (Field e)
    stop {at'} {e} stopped =
        let d = get_or dues i no_due in
        let is = subst (λ b. first_no (field_asked b at d) ≡ Some e) s.same stopped.asked in
        s.asked ∙ left ∙ first_no_stop (carried Field (field_asked file at d)) (asked_from file (at + 3 + size_at file at) (drop (i + 1) dues)) (Field e) (carried_some Field (field_asked file at d) e is)

  module _ (done : 7 ≤ i) where
    end : asked_from file at (drop i dues) ≡ asked_from file at []
    end = ap (asked_from file at) (drop_all i dues done)

    pub goes_on : (p : ℕ) → Some p ≡ next_offset bytes at → first_no (file_asked file) ≡ Some (GoesOn p)
    goes_on p more =
        let left_over = byte_left bytes at p more in
        s.asked ∙ ap first_no end ∙ rw (subst (λ b. eqb at (length b) ≡ false) s.same left_over.0) (ap (λ n. Some (GoesOn n)) (sym left_over.1))

    all_read : None ≡ next_offset bytes at → file ≡ fields_of 1 values
    all_read ends =
        let stops : at ≡ length file = eqb-true at (length file) (subst (λ b. eqb at (length b) ≡ true) s.same (no_byte_left bytes at ends)) in
        s.read ∙ ap (λ l. fields_of 1 (take i values) ++ l) (drop_all at file (omega arith)) ∙ append-nil (fields_of 1 (take i values)) ∙ ap (fields_of 1) (take_all i values (omega (arith, s.seven)))

-- seven values, one by one
seven_of : (vs : List (List ℕ)) → length vs ≡ 7
    → vs ≡ get_or vs 0 [] ∷ get_or vs 1 [] ∷ get_or vs 2 [] ∷ get_or vs 3 [] ∷ get_or vs 4 [] ∷ get_or vs 5 [] ∷ get_or vs 6 [] ∷ []
seven_of vs long =
    let one = drop_more vs 0 [] (omega arith) in
    let two = drop_more vs 1 [] (omega arith) in
    let three = drop_more vs 2 [] (omega arith) in
    let four = drop_more vs 3 [] (omega arith) in
    let five = drop_more vs 4 [] (omega arith) in
    let six = drop_more vs 5 [] (omega arith) in
    let seven = drop_more vs 6 [] (omega arith) in
    let none = drop_all 7 vs (omega arith) in
    cc

-- all seven fields were read, and the file stops
module _ {file : List ℕ} {values : List (List ℕ)} {i : ℕ} {bytes : List ℕ} {at : ℕ} (s : Progress file values i bytes at) (done : 7 ≤ i) (ends : None ≡ next_offset bytes at) where
  parts_at : (k : ℕ) (v : List ℕ) → v ≡ get_or values k [] → k < 7 → Parts (get_or dues k no_due) (length v)
  parts_at k v is h = subst (λ w. Parts (get_or dues k no_due) (length w)) (sym is) (s.parts k (omega arith))

  pub made_of : {month sources pilferage transmission energy brackets sales : List ℕ} → month ≡ get_or values 0 []
      → sources ≡ get_or values 1 [] → pilferage ≡ get_or values 2 [] → transmission ≡ get_or values 3 [] → energy ≡ get_or values 4 []
      → brackets ≡ get_or values 5 [] → sales ≡ get_or values 6 [] → MadeOf file month sources pilferage transmission energy brackets sales
  made_of {month} {sources} {pilferage} {transmission} {energy} {brackets} {sales} is_month is_sources is_pilferage is_transmission is_energy is_brackets is_sales =
      let all = seven_of values s.seven in
      let same : values ≡ month ∷ sources ∷ pilferage ∷ transmission ∷ energy ∷ brackets ∷ sales ∷ [] = cc in
      let of_month = parts_at 0 month is_month (omega arith) in
      let of_sources = parts_at 1 sources is_sources (omega arith) in
      let of_pilferage = parts_at 2 pilferage is_pilferage (omega arith) in
      let of_transmission = parts_at 3 transmission is_transmission (omega arith) in
      let of_energy = parts_at 4 energy is_energy (omega arith) in
      let of_brackets = parts_at 5 brackets is_brackets (omega arith) in
      let of_sales = parts_at 6 sales is_sales (omega arith) in
      record {
        whole = all_read s done ends ∙ ap (fields_of 1) same;
        month_long = omega (arith, of_month.whole, of_month.enough, of_month.few);
        sources_whole = omega (arith, of_sources.whole);
        sources_some = omega (arith, of_sources.whole, of_sources.enough);
        sources_few = omega (arith, of_sources.whole, of_sources.few);
        pilferage_long = omega (arith, of_pilferage.whole, of_pilferage.enough, of_pilferage.few);
        transmission_long = omega (arith, of_transmission.whole, of_transmission.enough, of_transmission.few);
        energy_long = omega (arith, of_energy.whole, of_energy.enough, of_energy.few);
        brackets_whole = omega (arith, of_brackets.whole);
        brackets_few = omega (arith, of_brackets.whole, of_brackets.few);
        sales_long = omega (arith, of_sales.whole, of_sales.enough, of_sales.few);
      }

-- what stands at k behind a reference
pub value_at : (refs : List (Bor (List ℕ))) (k : ℕ) (d : Bor (List ℕ)) → length (map (λ r. r.now) refs) ≡ 7 → k < 7
    → (get_or refs k d).now ≡ get_or (map (λ r. r.now) refs) k []
value_at refs k d seven h = sym (get_or-map (λ r. r.now) refs k d [] (omega (arith, length-map refs (λ r. r.now))))
