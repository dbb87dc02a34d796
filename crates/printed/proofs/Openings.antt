-- An opening's numbers in the value that states them.
use Rattle.std.proofs.Common.{◌≡◌, ℕ, ◌≤◌, List, [], ◌∷◌, length, map, take, drop, ℤ, slice_index_or, Some, None, refl, ap, ◌∙◌, subst}
use Rattle.std.proofs.Common.{arith, take-append-drop, length-take-le}
use Rattle.std.proofs.lemmas.Bool.{le-leb}
use Rattle.book.specs.Account.{BookState}
use Rattle.book.specs.Opening.{Given, opening_asked, newly_opened}
use Rattle.book.specs.Refusals.{book_refusal}
use Rattle.book.specs.declared.fault.BookFault.TheVariants.{Opening as NotOpen}
use Rattle.fields.specs.Questions.{first_no, carried}
use Rattle.fields.proofs.Asked.{carried_none}
use Rattle.schedule.specs.Four.{four_charges, cap_of}
use Rattle.schedule.specs.declared.four.FourCharges.{FourCharges}
use Rattle.fields.specs.Bytes.{eights}
use Rattle.fields.proofs.Rows.{length_eights}
use Rattle.printed.specs.Frames.{opening_value, twos_complement}
use Rattle.printed.specs.Runs.{State, state_of, OpensBy}

-- a list of three is its elements
three : (ns : List ℕ) → length ns ≡ 3 → ns ≡ slice_index_or ns 0 0 ∷ slice_index_or ns 1 0 ∷ slice_index_or ns 2 0 ∷ []
three [] long = absurd (omega arith)
three (a ∷ []) long = absurd (omega arith)
three (a ∷ b ∷ []) long = absurd (omega arith)
three (a ∷ b ∷ c ∷ []) long = refl
three (a ∷ b ∷ c ∷ d ∷ ds) long = absurd (omega arith)

-- a value cut after three numbers, and after the starting rates, is that of the numbers which its parts are
pub value_of_parts : (value terms rates : List ℕ) (balances : List ℤ) → 24 ≤ length value → take 24 value ≡ eights terms
    → take 32 (drop 24 value) ≡ eights rates → drop 32 (drop 24 value) ≡ eights (map twos_complement balances)
    → value ≡ opening_value (slice_index_or terms 0 0) (record { spread = slice_index_or terms 1 0; number = slice_index_or terms 2 0; rates = rates; balances = balances })
value_of_parts value terms rates balances long first second third =
    let count : length terms ≡ 3 = omega (arith, length_eights terms, ap length first, length-take-le 24 value long) in
    let is_terms = three terms count in
    let whole = take-append-drop 24 value in
    let later = take-append-drop 32 (drop 24 value) in
    cc

-- question 15 is answered yes of the cap, and then at places 2 to 6, and the book stands over the charges that were made with the cap
pub opens_by : (before : State) (book : BookState FourCharges) (cap : ℕ) (g asked_of : Given) (charges : FourCharges) → cap ≤ 5000
    → four_charges (cap_of charges) ≡ four_charges cap → asked_of ≡ g
    → first_no (opening_asked 4 before.account asked_of) ≡ None → book.account ≡ Some (newly_opened asked_of) → book.schedule ≡ charges → OpensBy before cap g (state_of book)
opens_by before book cap g asked_of charges limit made same none opened over = record {
  asked =
      let later : first_no (opening_asked 4 before.account g) ≡ None = subst (λ (x : Given). first_no (opening_asked 4 before.account x) ≡ None) same none in
      rw (le-leb cap 5000 limit) (carried_none book_refusal (carried NotOpen (opening_asked 4 before.account g)) (carried_none NotOpen (opening_asked 4 before.account g) later));
  book =
      let row : four_charges (cap_of book.schedule) ≡ four_charges cap = ap (λ x. four_charges (cap_of x)) over ∙ made in
      let account : book.account ≡ Some (newly_opened g) = opened ∙ ap (λ x. Some (newly_opened x)) same in
      λ i. record { charges = row i; account = account i };
}
