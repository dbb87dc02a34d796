-- Which filings are left pending.
use Rattle.std.proofs.Common.{◌≡◌, ℕ, zero, suc, Bool, true, false, List, [], ◌∷◌, ◌++◌, map, Option, Some, None, Ok, Err, Result, IsOk}
use Rattle.std.proofs.Common.{MatchResult, ◌↔◌, ◌==◌, slice_get, refl, ap, sym, ◌∙◌, arith}
use Rattle.std.specs.Cmp.Derive.{both_true}
use Rattle.std.specs.Option.{option_map}
use Rattle.std.proofs.lemmas.Bool.{and_parts, false≢true}
use Rattle.std.proofs.lemmas.Bool.Decides.{nat_tests}
use Rattle.fields.proofs.Asked.{all_yes, none_from_yes, some_none}
use Rattle.settlement.specs.declared.record.Mark.{Mark}
use Rattle.settlement.specs.declared.record.Mark.TheVariants.{Pending, Filed, Missed}
use Rattle.settlement.specs.declared.record.Record.{Record}
use Rattle.book.specs.Account.{Account}
use Rattle.book.specs.Amending.{AmendmentKeeps}
use Rattle.book.specs.Duties.{is_pending, pends, is_owed, Owes, duty_asked, Spent, Returned}
use Rattle.book.specs.Places.{of_month, changed_at, changed_month}
use Rattle.book.specs.declared.duty.Duty.{Duty}
use Rattle.book.specs.declared.duty.ReturnedDuty.{ReturnedDuty}
use Rattle.book.proofs.OfMonth.{of_month_map}

-- no record at any place pends
abbrev NoneAt : List Record → Type 0
NoneAt rs = (place : ℕ) → option_map (λ r. r.mark) (slice_get rs place) ≡ Some Pending → ⊥

-- the same by the number of a month
abbrev pub NoneOf : List Record → Type 0
NoneOf rs = (month : ℕ) → option_map (λ r. r.mark) (of_month rs month) ≡ Some Pending → ⊥

mark_is_pending : (m : Mark) → is_pending m ≡ true → m ≡ Pending
mark_is_pending Pending is = refl
mark_is_pending Filed is = absurd (false≢true is)
mark_is_pending Missed is = absurd (false≢true is)

abbrev is_told_pending : Option Mark → Bool
is_told_pending None = false
is_told_pending (Some mark) = is_pending mark

pends_by_mark : (r : Option Record) → pends r ≡ is_told_pending (option_map (λ r. r.mark) r)
pends_by_mark None = refl
pends_by_mark (Some r) = refl

told_pending : (r : Option Record) → pends r ≡ true → option_map (λ r. r.mark) r ≡ Some Pending
told_pending None is = absurd (false≢true is)
told_pending (Some r) is = ap Some (mark_is_pending r.mark is)

same_number : (m n : ℕ) → (m == n) ≡ true → m ≡ n
same_number m n is = grind (arith, nat_tests)

equal_number : (m n : ℕ) → m ≡ n → (m == n) ≡ true
equal_number m n is = grind (arith, nat_tests)

-- a duty that is owed is so in the words of the rule, and the other way round
owed_by_rule : (account : Option Account) (duty : Duty) → is_owed account duty ≡ true → Owes account duty
owed_by_rule None duty is = absurd (false≢true is)
owed_by_rule (Some a) duty is =
    let both = and_parts _ _ is in
    (same_number duty.book a.number both.0, told_pending (of_month a.records duty.month) both.1)

owed_if_rule : (account : Option Account) (duty : Duty) → Owes account duty → is_owed account duty ≡ true
owed_if_rule None duty owes = absurd owes
owed_if_rule (Some a) duty owes =
    let pending : pends (of_month a.records duty.month) ≡ true = pends_by_mark (of_month a.records duty.month) ∙ ap is_told_pending owes.1 in
    both_true (equal_number duty.book a.number owes.0) pending

-- a duty is spent exactly where the book owes it
pub spent_where_owed : (r : Result Unit ReturnedDuty) (before after : Option Account) (duty : Duty) (mark : Mark)
    → MatchResult r (λ _. Spent before after duty mark) (λ e. Returned before duty e) → IsOk r ↔ Owes before duty
spent_where_owed (Ok _) before after duty mark s = (λ _. owed_by_rule before duty (all_yes (duty_asked before duty) s.asked).0, λ _. refl)
spent_where_owed (Err e) before after duty mark s = (
  λ ok. absurd (false≢true ok),
  λ owes. absurd (some_none (sym s.first ∙ none_from_yes (duty_asked before duty) (owed_if_rule before duty owes, tt))),
)

-- whether a month pends, by the marks alone
pends_marked : (rs : List Record) (month : ℕ) → pends (of_month rs month) ≡ is_told_pending (of_month (map (λ r. r.mark) rs) month)
pends_marked rs month = pends_by_mark (of_month rs month) ∙ ap is_told_pending (sym (of_month_map (λ r. r.mark) rs month))

-- an amendment keeps what pends
pub pends_amended : (month : ℕ) (a b : Account) → AmendmentKeeps month a b → (n : ℕ) → pends (of_month b.records n) ≡ pends (of_month a.records n)
pends_amended month a b keeps n = pends_marked b.records n ∙ ap (λ marks. is_told_pending (of_month marks n)) keeps.marks ∙ sym (pends_marked a.records n)

module _ (mark : Mark) (ends : is_pending mark ≡ false) where
  abbrev with_mark : Record → Record
  with_mark r = record r { mark = mark }

  -- where none pended before one was added, the one that pends is the one added; with this mark it does not, and then none pends
  none_at_once_marked : (rs : List Record) (added : Record) (place : ℕ) → NoneAt rs → pends (slice_get (rs ++ added ∷ []) place) ≡ true
      → NoneAt (changed_at with_mark place (rs ++ added ∷ []))
  none_at_once_marked [] added zero none pending zero is = false≢true (sym ends ∙ ap is_told_pending is)
  none_at_once_marked [] added zero none pending (suc n) is = cc
  none_at_once_marked [] added (suc place) none pending n is = absurd (false≢true pending)
  none_at_once_marked (r ∷ rs) added zero none pending n is = none zero (ap Some (mark_is_pending r.mark pending))
  none_at_once_marked (r ∷ rs) added (suc place) none pending zero is = none zero is
  none_at_once_marked (r ∷ rs) added (suc place) none pending (suc n) is = none_at_once_marked rs added place (λ k. none (suc k)) pending n is

  pub none_once_marked : (rs : List Record) (added : Record) (month : ℕ) → NoneOf rs → pends (of_month (rs ++ added ∷ []) month) ≡ true
      → NoneOf (changed_month with_mark month (rs ++ added ∷ []))
  none_once_marked rs added zero none pending month is = absurd (false≢true pending)
  none_once_marked rs added (suc place) none pending zero is = cc
  none_once_marked rs added (suc place) none pending (suc n) is = none_at_once_marked rs added place (λ k. none (suc k)) pending n is

-- a duty that is spent was owed
pub owed : {before after : Option Account} {duty : Duty} {mark : Mark} → Spent before after duty mark → is_owed before duty ≡ true
owed {before} {after} {duty} spent = (all_yes (duty_asked before duty) spent.asked).0

pub owed_pends : (a : Account) (duty : Duty) → is_owed (Some a) duty ≡ true → pends (of_month a.records duty.month) ≡ true
owed_pends a duty is = (and_parts _ _ is).1
