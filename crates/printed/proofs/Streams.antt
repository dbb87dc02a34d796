-- A stream goes on with a frame exactly where the reader finds the field that is due by its next tag.
use Rattle.std.proofs.Common.{◌≡◌, ℕ, ◌+◌, ◌<◌, Bool, true, false, List, [], ◌∷◌, ◌++◌, length, take, drop, ◌==◌, nat_le, slice_get}
use Rattle.std.proofs.Common.{slice_index, get_or, Some, None, refl, ap, sym, ◌∙◌, subst, arith, length-drop, take-append-drop}
use Rattle.std.proofs.Common.{length-take-le, add-zero}
use Rattle.std.proofs.lemmas.Option.{slice_get_within, get_or_from_slice_get}
use Rattle.std.proofs.lemmas.List.{get_or-drop}
use Rattle.fields.specs.Bytes.{field_of}
use Rattle.fields.specs.Heads.{field_asked, size_at, allows_length, Parts, NoFieldAt}
use Rattle.fields.specs.Questions.{first_no}
use Rattle.fields.specs.Refusals.{field_refusal}
use Rattle.fields.specs.declared.due.Due.{Due}
use Rattle.fields.specs.declared.fault.FieldFault.{FieldFault}
use Rattle.fields.specs.declared.fault.FieldFault.TheVariants.{NoHead, WrongTag, WrongLength, CutShort}
use Rattle.fields.proofs.Asked.{some_none}
use Rattle.fields.proofs.Present.{field_present}
use Rattle.printed.specs.Frames.{NoFrameAt}
use Rattle.printed.specs.declared.no_frame.NoFrame.{NoFrame}

-- what an opening is read as, and what an entry or an amendment is
abbrev pub opening_due : Due
opening_due = record { tag = 15; each = 88; least = 1; most = 1 }

abbrev pub file_due : ℕ → Due
file_due tag = record { tag = tag; each = 1; least = 0; most = 65535 }

opening_parts : (n : ℕ) → n ≡ 88 → Parts opening_due n
opening_parts n long = record { count = 1; some = omega arith; whole = long; enough = omega arith; few = omega arith }

file_parts : (tag n : ℕ) → n < 65536 → Parts (file_due tag) n
file_parts tag n short = record { count = n; some = omega arith; whole = omega arith; enough = omega arith; few = omega arith }

-- any fault of a field has the offset of its head
module _ (p : ℕ) (e : FieldFault) where
  place_is : (f : FieldFault) → Some f ≡ Some e → (field_refusal f).place ≡ p → (field_refusal e).place ≡ p
  place_is f is at = let same : f ≡ e = cc in ap (λ x. (field_refusal x).place) (sym same) ∙ at

  place_among : (head tag size value : Bool)
      → first_no ((head, NoHead p) ∷ (tag, WrongTag p) ∷ (size, WrongLength p) ∷ (value, CutShort p) ∷ []) ≡ Some e
      → (field_refusal e).place ≡ p
  place_among false tag size value is = place_is (NoHead p) is refl
  place_among true false size value is = place_is (WrongTag p) is refl
  place_among true true false value is = place_is (WrongLength p) is refl
  place_among true true true false is = place_is (CutShort p) is refl
  place_among true true true true is = absurd (some_none (sym is))

  place_asked : (bs : List ℕ) (d : Due) → first_no (field_asked bs p d) ≡ Some e → (field_refusal e).place ≡ p
  place_asked bs d is = place_among (nat_le (p + 3) (length bs)) (slice_index bs p == d.tag) (allows_length d (size_at bs p)) (nat_le (p + 3 + size_at bs p) (length bs)) is

module _ (bs : List ℕ) (p : ℕ) (tag : ℕ) (next : slice_get bs p ≡ Some tag) where
  within : p < length bs
  within = slice_get_within bs p tag next

  -- what goes on with a field goes on with its tag
  tag_of : (other : ℕ) (value later : List ℕ) → drop p bs ≡ field_of other value ++ later → other ≡ tag
  tag_of other value later is =
      let here : get_or bs p 0 ≡ tag = get_or_from_slice_get bs p tag 0 next in
      let dropped : get_or (drop p bs) 0 0 ≡ get_or bs (p + 0) 0 = rw get_or-drop in
      let first : get_or (drop p bs) 0 0 ≡ other = ap (λ l. get_or l 0 0) is in
      sym first ∙ dropped ∙ ap (λ i. get_or bs i 0) (add-zero p) ∙ here

  -- the due field is found where it stands
  found : (d : Due) (e : FieldFault) (value later : List ℕ) → Parts d (length value) → drop p bs ≡ field_of d.tag value ++ later
      → first_no (field_asked bs p d) ≡ Some e → ⊥
  found d e value later parts is stopped =
      let whole : bs ≡ take p bs ++ (field_of d.tag value ++ later) = sym (take-append-drop p bs) ∙ ap (λ l. take p bs ++ l) is in
      let at : length (take p bs) ≡ p = length-take-le p bs (omega (arith, within)) in
      let yes : first_no (field_asked bs p d) ≡ None = subst (λ (i : ℕ). first_no (field_asked bs i d) ≡ None) at (field_present bs (take p bs) value later d whole parts) in
      some_none (sym stopped ∙ yes)

  module _ (q : ℕ) (e : FieldFault) (due : Due) (stopped : NoFieldAt bs p q due e) where
    -- where a field is not found, none stands that would have been due by the tag
    not_there : (d : Due) (value later : List ℕ) → Parts d (length value) → (d.tag ≡ tag → d ≡ due) → drop p bs ≡ field_of d.tag value ++ later → ⊥
    not_there d value later parts by_tag here =
        let asked : first_no (field_asked bs p d) ≡ Some e = subst (λ (x : Due). first_no (field_asked bs p x) ≡ Some e) (sym (by_tag (tag_of d.tag value later here))) stopped.asked in
        found d e value later parts here asked

    -- the field that was due by the tag is not there
    pub no_frame_at : (15 ≡ tag → opening_due ≡ due) → (16 ≡ tag → file_due 16 ≡ due) → (17 ≡ tag → file_due 17 ≡ due) → (told : NoFrame)
        → told.at ≡ (field_refusal e).place → NoFrameAt bs p q told
    no_frame_at opening entry amendment told place = record {
      none = record {
        some = rw length-drop (omega (arith, within));
        no_opening = λ value later long here. not_there opening_due value later (opening_parts (length value) long) opening here;
        no_entry = λ file later short here. not_there (file_due 16) file later (file_parts 16 (length file) short) entry here;
        no_amendment = λ file later short here. not_there (file_due 17) file later (file_parts 17 (length file) short) amendment here;
      };
      told = place ∙ place_asked p e bs due stopped.asked;
      stays = stopped.stays;
    }
