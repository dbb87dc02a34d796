-- Byte 10 stands at a line's end and nowhere else.
use Rattle.std.proofs.Common.{ℕ, zero, suc, ◌/◌, ◌%◌, ◌<◌, ◌==◌, ℤ, pos, negsuc, Bool, true, false, cond, List, [], ◌∷◌, ◌++◌, map, length}
use Rattle.std.proofs.Common.{codes, subst, ⊎_elim, arith, rules}
use Rattle.std.specs.Fmt.{digits, digits_onto, digit_glyph, decimal, signed_decimal}
use Rattle.std.specs.List.{All}
use Rattle.std.proofs.lemmas.Bool.Decides.{nat_tests}
use Rattle.std.proofs.lemmas.Bool.{cases_lt}
use Rattle.std.proofs.lemmas.List.{append_assoc, get_or_append_left, get_or_push, length_push}
use Rattle.std.proofs.lemmas.List.Elements.{All-nil, All-cons, All-append, All-get_or, All-from_recursion}
use Rattle.fields.specs.Words.{layer_word, refusal_words}
use Rattle.fields.specs.declared.refusal.Layer.{Layer}
use Rattle.fields.specs.declared.refusal.Layer.TheVariants.{File, Month, Book}
use Rattle.fields.specs.declared.refusal.Refusal.{Refusal}
use Rattle.settlement.specs.Settling.{Answered, answered}
use Rattle.settlement.specs.Words.{standing_word}
use Rattle.settlement.specs.declared.standing.Standing.{Standing}
use Rattle.settlement.specs.declared.standing.Standing.TheVariants.{Steady, Correcting}
use Rattle.printed.specs.Lines.{call_letter, letter, answer_fields, told_fields, spaced, line_bytes, OneLine}
use Rattle.printed.specs.declared.call.Call.{Call}
use Rattle.printed.specs.declared.call.Call.TheVariants.{Opening, Entry, Amendment}
use Rattle.printed.specs.declared.line.Line.{Line}
use Rattle.printed.specs.declared.line.Line.TheVariants.{Opened, Entered, Amended, Refused, NoFrame}

-- every other byte of a line is above 10
abbrev Above : ℕ → Type 0
Above b = 10 < b

abbrev AllAbove : List ℕ → Type 0
AllAbove bs = All Above bs

either_above : (b : Bool) (xs ys : List ℕ) → AllAbove xs → AllAbove ys → AllAbove (cond b xs ys)
either_above true xs ys h k = h
either_above false xs ys h k = k

glyph_above : (d : ℕ) → Above (digit_glyph false d)
glyph_above d = grind (arith, nat_tests)

onto_above : (k n : ℕ) (bs : List ℕ) → AllAbove bs → AllAbove (digits_onto k 10 false n bs)
onto_above zero n bs h = h
onto_above (suc k) n bs h =
    let d = digit_glyph false (n % 10) in
    let more = All-cons Above d bs (glyph_above (n % 10)) h in
    either_above (n / 10 == 0) (d ∷ bs) (digits_onto k 10 false (n / 10) (d ∷ bs)) more (onto_above k (n / 10) (d ∷ bs) more)

decimal_above : (n : ℕ) → AllAbove (decimal n)
unfolding digits
decimal_above n = onto_above 64 n [] (All-nil Above)

signed_above : (z : ℤ) → AllAbove (signed_decimal z)
signed_above (pos n) = decimal_above n
signed_above (negsuc n) = All-cons Above 45 (decimal (suc n)) (omega arith) (decimal_above (suc n))

call_above : (c : Call) → AllAbove (call_letter c)
call_above Opening = All-from_recursion Above (codes "O") (search rules)
call_above Entry = All-from_recursion Above (codes "E") (search rules)
call_above Amendment = All-from_recursion Above (codes "A") (search rules)

letter_above : (l : Line) → AllAbove (letter l)
letter_above (Opened number) = call_above Opening
letter_above (Entered month answer) = call_above Entry
letter_above (Amended month answer) = call_above Amendment
letter_above (Refused call refusal) = call_above call
letter_above (NoFrame at) = All-from_recursion Above (codes "X") (search rules)

layer_above : (l : Layer) → AllAbove (layer_word l)
layer_above File = All-from_recursion Above (codes "file") (search rules)
layer_above Month = All-from_recursion Above (codes "month") (search rules)
layer_above Book = All-from_recursion Above (codes "book") (search rules)

standing_above : (s : Standing) → AllAbove (standing_word s)
standing_above Steady = All-from_recursion Above (codes "steady") (search rules)
standing_above Correcting = All-from_recursion Above (codes "correcting") (search rules)

refusal_above : (r : Refusal) → AllAbove (refusal_words r)
refusal_above r =
    let space = All-from_recursion Above (codes " ") (search rules) in
    let place = All-append Above (codes " ") _ space (decimal_above r.place) in
    let layer = All-append Above (codes " ") _ space (All-append Above (layer_word r.layer) _ (layer_above r.layer) place) in
    All-append Above (codes "refused ") _ (All-from_recursion Above (codes "refused ") (search rules)) (All-append Above (decimal r.number) _ (decimal_above r.number) layer)

-- one field before others
field_above : (f : List ℕ) (fs : List (List ℕ)) → AllAbove f → AllAbove (spaced fs) → AllAbove (spaced (f ∷ fs))
field_above f fs one rest = All-cons Above 32 (f ++ spaced fs) (omega arith) (All-append Above f (spaced fs) one rest)

rates_above : (zs : List ℤ) (fs : List (List ℕ)) → AllAbove (spaced fs) → AllAbove (spaced (map signed_decimal zs ++ fs))
rates_above [] fs rest = rest
rates_above (z ∷ zs) fs rest = field_above (signed_decimal z) (map signed_decimal zs ++ fs) (signed_above z) (rates_above zs fs rest)

answer_above : (month : ℕ) (a : Answered) → AllAbove (spaced (answer_fields month a))
answer_above month a =
    let standing = standing_word a.standing ∷ [] in
    let revenue = decimal a.closing.revenue ∷ standing in
    let total = signed_decimal a.closing.total ∷ revenue in
    let last = field_above (standing_word a.standing) [] (standing_above a.standing) (All-nil Above) in
    let two = field_above (decimal a.closing.revenue) standing (decimal_above a.closing.revenue) last in
    let three = field_above (signed_decimal a.closing.total) revenue (signed_above a.closing.total) two in
    field_above (decimal month) (map signed_decimal a.rates ++ total) (decimal_above month) (rates_above a.rates total three)

fields_above : (l : Line) → AllAbove (spaced (told_fields l))
fields_above (Opened number) = field_above (decimal number) [] (decimal_above number) (All-nil Above)
fields_above (Entered month answer) = answer_above month (answered answer)
fields_above (Amended month answer) = answer_above month (answered answer)
fields_above (Refused call refusal) = field_above (refusal_words refusal) [] (refusal_above refusal) (All-nil Above)
fields_above (NoFrame at) = field_above (decimal at) [] (decimal_above at) (All-nil Above)

-- bytes above 10, and then 10
ended : (bs : List ℕ) → AllAbove bs → OneLine (bs ++ 10 ∷ [])
ended bs above = record {
  some = omega (arith, length_push bs 10);
  ends = λ i within. (
    λ is. ⊎_elim
        (λ low. absurd (omega (arith, is, get_or_append_left bs (10 ∷ []) 0 i low, All-get_or Above bs i 0 low above)))
        (λ high. omega (arith, length_push bs 10))
        (cases_lt i (length bs)),
    λ last. get_or_push bs 10 0 i (omega (arith, length_push bs 10)),
  );
}

pub one_line : (l : Line) → OneLine (line_bytes l)
one_line l =
    subst OneLine (append_assoc (letter l) (spaced (told_fields l)) (10 ∷ [])) (ended (letter l ++ spaced (told_fields l)) (All-append Above (letter l) _ (letter_above l) (fields_above l)))
