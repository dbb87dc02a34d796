-- What a yes to questions 12 and 13 says: the book has a place for the month, and each mechanism finds it fit.
use Rattle.std.proofs.Common.{◌≡◌, ℕ, zero, suc, ◌+◌, ◌<◌, ◌≤◌, Bool, true, List, [], ◌∷◌, ◌++◌, length, Some, None, sym, ap, ◌∙◌, subst, arith}
use Rattle.std.proofs.lemmas.Grind.{common_steps}
use Rattle.std.proofs.lemmas.Bool.Decides.{nat_tests}
use Rattle.std.proofs.lemmas.List.{length-map}
use Rattle.bounded.specs.declared.up_to.UpTo.{UpTo}
use Rattle.charges.specs.Meaning.{Meaning}
use Rattle.fields.specs.Questions.{first_no}
use Rattle.fields.proofs.Asked.{Yes, all_yes}
use Rattle.month.specs.declared.month.Month.{Month}
use Rattle.month.specs.Figures.{Figures}
use Rattle.month.specs.View.{figures}
use Rattle.schedule.specs.Rows.{numbered}
use Rattle.settlement.specs.Numbers.{by_number}
use Rattle.settlement.specs.declared.amounts.Rate.{Rate}
use Rattle.settlement.specs.declared.record.Record.{Record}
use Rattle.book.specs.Account.{BookState, held_by}
use Rattle.book.specs.Postings.{has_place, fit_asked, posting_asked, FitForEach}
use Rattle.book.specs.declared.fault.BookFault.TheVariants.{NotFit}
use Rattle.book.specs.declared.kind.PostingKind.{PostingKind}
use Rattle.book.specs.declared.kind.PostingKind.TheVariants.{Entry, Amendment}
use Rattle.book.specs.declared.opened.Opened.{Opened}

yes_parts : {F : Type 0} (qs rs : List (Bool × F)) → Yes (qs ++ rs) → Yes qs × Yes rs
yes_parts [] rs y = (tt, y)
yes_parts (q ∷ qs) rs y = let rest = yes_parts qs rs y.1 in ((y.0, rest.0), rest.1)

-- each of n questions is answered yes
yes_numbered : {F : Type 0} (asked : ℕ → Bool × F) (n i : ℕ) → i < n → Yes (by_number asked n) → (asked i).0 ≡ true
yes_numbered asked zero i inside y = absurd (omega arith)
yes_numbered asked (suc n) i inside y =
    let parts = yes_parts (by_number asked n) (asked n ∷ []) y in
    grind (arith, common_steps, yes_numbered asked n i)

-- what is asked of a book is asked of what it holds
pub asked_inside : (kind : PostingKind) {S : Type 0} (meaning : S → List Meaning) (held now : BookState S) (m : Figures) → held ≡ now
    → first_no (posting_asked kind (meaning now.schedule) now.account m) ≡ None
    → first_no (posting_asked kind (meaning held.schedule) held.account m) ≡ None
asked_inside kind meaning held now m is clear = subst (λ b. first_no (posting_asked kind (meaning b.schedule) b.account m) ≡ None) (sym is) clear

pub record Admits (kind : PostingKind) (row : List Meaning) (standing : ℕ) (m : Figures) : Type 0 where
  pub placed : has_place kind m.month standing ≡ true
  pub fit : FitForEach row m

-- a yes to question 13
pub fit_for_each : (row : List Meaning) (m : Figures) → Yes (fit_asked row (length row) m) → FitForEach row m
fit_for_each row m all i inside = yes_numbered (λ n. ((numbered row n).fit m, NotFit n)) (length row) i inside all

pub admits : (kind : PostingKind) (row : List Meaning) (o : Opened) (months : List Month) (billed : List (UpTo Rate 8)) (records : List Record) (m : Figures)
    → first_no (posting_asked kind row (held_by (Some o) months billed records) m) ≡ None → Admits kind row (length months) m
admits kind row o months billed records m clear =
    let yes = all_yes (posting_asked kind row (held_by (Some o) months billed records) m) clear in
    record {
      placed = ap (has_place kind m.month) (sym (length-map months figures)) ∙ yes.0;
      fit = fit_for_each row m yes.1;
    }

-- an entry is of the month after those that stand
pub next_month : (month standing : ℕ) → has_place Entry month standing ≡ true → month ≡ standing + 1
next_month month standing placed = grind (arith, nat_tests)

-- an amendment is of a month that stands
pub standing_month : (month standing : ℕ) → has_place Amendment month standing ≡ true → (1 ≤ month) × (month ≤ standing)
standing_month month standing placed = (grind (arith, nat_tests), grind (arith, nat_tests))
