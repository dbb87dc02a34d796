-- Of each month there are no more duties about than books in which it is pending, after each call and each duty that is spent.
use Rattle.std.proofs.Common.{◌≡◌, ℕ, ◌+◌, ◌≤◌, Bool, true, false, ◌==◌, if◌then◌else◌, List, [], ◌∷◌, Option, Some, None, refl, sym, subst, arith}
use Rattle.std.proofs.lemmas.Bool.{and_parts, false≢true}
use Rattle.std.proofs.lemmas.Bool.Decides.{nat_tests}
use Rattle.std.proofs.lemmas.List.Sums.{sum_by-cons}
use Rattle.fields.specs.Questions.{first_no}
use Rattle.fields.proofs.Asked.{all_yes, some_none}
use Rattle.settlement.specs.declared.record.Mark.{Mark}
use Rattle.book.specs.Account.{Account}
use Rattle.book.specs.Duties.{pends, is_owed, duty_asked, marked, Spent, Returned}
use Rattle.book.specs.Places.{of_month}
use Rattle.book.specs.declared.duty.Duty.{Duty}
use Rattle.book.specs.declared.duty.ReturnedDuty.{ReturnedDuty}
use Rattle.book.proofs.Changed.{of_other_month}
use Rattle.clientcases.specs.Covering.{is_of, pending, Covered}

-- marking the month of a duty takes no more from what is pending than the duty

marked_covers : (mark : Mark) (a : Account) (d : Duty) → is_owed (Some a) d ≡ true → (book month : ℕ)
    → pending book month (Some a) ≤ is_of book month d + pending book month (Some (marked mark d.month a))
marked_covers mark a d owed book month =
    let number : (d.book == a.number) ≡ true = (and_parts (d.book == a.number) (pends (of_month a.records d.month)) owed).0 in
    let other = of_other_month (λ r. record r { mark = mark }) a.records d.month month in
    grind (arith, nat_tests)

-- so does spending it
pub spent_covers : (mark : Mark) (before after : Option Account) (d : Duty) → Spent before after d mark → (book month : ℕ)
    → pending book month before ≤ is_of book month d + pending book month after
spent_covers mark None after d spent book month = absurd (false≢true (all_yes (duty_asked None d) spent.asked).0)
spent_covers mark (Some a) after d spent book month =
    subst (λ b. pending book month (Some a) ≤ is_of book month d + pending book month b) (sym spent.book) (marked_covers mark a d (all_yes (duty_asked (Some a) d) spent.asked).0 book month)

module _ {mark : Mark} {before after : Option Account} {d : Duty} (spent : Spent before after d mark) where
  pub covered_without : (other : Option Account) (ds : List Duty) → Covered (d ∷ ds) before other → Covered ds after other
  covered_without other ds covered book month =
      omega (arith, covered book month, spent_covers mark before after d spent book month, sum_by-cons (is_of book month) d ds)

  pub covered_without_other : (one : Option Account) (ds : List Duty) → Covered (d ∷ ds) one before → Covered ds one after
  covered_without_other one ds covered book month =
      omega (arith, covered book month, spent_covers mark before after d spent book month, sum_by-cons (is_of book month) d ds)

-- a duty that comes back is of no month that is pending there
none_pending : (owed : Bool) {F : Type 0} (fault told : F) → first_no ((owed, fault) ∷ []) ≡ Some told → ◌≡◌ {A = ℕ} (if owed then 1 else 0) 0
none_pending true fault told asked = absurd (some_none (sym asked))
none_pending false fault told asked = refl

returned_pends : {account : Option Account} {d : Duty} {e : ReturnedDuty} → Returned account d e → pending d.book d.month account ≡ 0
returned_pends {account = None} returned = refl
returned_pends {account = Some a} {d = d} returned = none_pending (is_owed (Some a) d) _ _ returned.first

-- so not both books refuse one that is covered
pub not_both : {one other : Option Account} {d : Duty} {e f : ReturnedDuty} → Covered (d ∷ []) one other → Returned one d e
    → Returned other e.duty f → ⊥
not_both {one = one} {other = other} {d = d} {e = e} {f = f} covered here there =
    let again : Returned other d f = subst (λ x. Returned other x f) here.same there in
    let whole : is_of d.book d.month d ≡ 1 = grind (arith, nat_tests) in
    omega (arith, covered d.book d.month, returned_pends here, returned_pends again, whole)
