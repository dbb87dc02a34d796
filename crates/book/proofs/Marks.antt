-- A mark put on a month changes nothing that the tally speaks of.
use Rattle.std.proofs.Common.{◌≡◌, ℕ, zero, suc, ◌-◌, ◌<◌, true, List, [], ◌∷◌, ◌++◌, map, length, take, get_or, set, Option, Some, None}
use Rattle.std.proofs.Common.{Ok, Err, Result, OnOk, OnErr, MatchResult, sym, refl, ap, subst, ◌∙◌, arith}
use Rattle.std.specs.Option.{option_map, unwrap_or}
use Rattle.std.proofs.lemmas.Bool.{and_parts, cond-true, false≢true}
use Rattle.std.proofs.lemmas.List.{map_push}
use Rattle.bounded.specs.declared.up_to.UpTo.{UpTo}
use Rattle.charges.specs.Meaning.{Meaning}
use Rattle.fields.proofs.Asked.{all_yes, some_none}
use Rattle.month.specs.declared.month.Month.{Month}
use Rattle.settlement.specs.Settling.{left_by}
use Rattle.settlement.specs.declared.amounts.Rate.{Rate}
use Rattle.settlement.specs.declared.record.Mark.{Mark}
use Rattle.settlement.specs.declared.record.Record.{Record}
use Rattle.settlement.specs.declared.standing.Standing.TheVariants.{Steady}
use Rattle.book.specs.Account.{Account, BookState, held_by}
use Rattle.book.specs.Duties.{pends, is_owed, duty_asked, marked, marked_book, Spent, Returned}
use Rattle.book.specs.Opening.{OpeningNumbers}
use Rattle.book.specs.Places.{of_month, changed_month}
use Rattle.book.specs.Reading.{MarkSet}
use Rattle.book.specs.Reconciled.{Reconciled, BookReconciled, standing_left}
use Rattle.book.specs.Tally.{Posting}
use Rattle.book.specs.declared.duty.Duty.{Duty}
use Rattle.book.specs.declared.duty.ReturnedDuty.{ReturnedDuty}
use Rattle.book.specs.declared.opened.Opened.{Opened}
use Rattle.book.proofs.Changed.{set_changed, changed_place, length_changed, map_kept, of_other_month}

-- the last element, by what is read of it
pub last_read : {X Y : Type 0} (read : X → Y) (xs : List X) (ys : List Y) (y : Y) → map read xs ≡ ys ++ y ∷ []
    → (zs : List X) × (z : X) × (xs ≡ zs ++ z ∷ []) × (read z ≡ y)
last_read read [] [] y e = absurd (cc)
last_read read [] (_ ∷ _) y e = absurd (cc)
last_read read (x ∷ []) [] y e = ([], x, refl, (cc))
last_read read (x ∷ _ ∷ _) [] y e = absurd (cc)
last_read read (x ∷ xs) (_ ∷ ys) y e =
    let rest = last_read read xs ys y (cc) in
    (x ∷ rest.0, rest.1, ap (λ l. x ∷ l) rest.2, rest.3)

-- the standing that a month left, by the standings alone
left_read : (rs : List Record) (n : ℕ) → left_by (of_month rs n) ≡ unwrap_or (of_month (map (λ r. r.standing) rs) n) Steady
left_read rs zero = refl
left_read [] (suc n) = refl
left_read (r ∷ rs) (suc zero) = refl
left_read (r ∷ rs) (suc (suc n)) = left_read rs (suc n)

marked_reconciled : (mark : Mark) (month : ℕ) (row : List Meaning) (o : OpeningNumbers) (ps : List Posting) (a : Account)
    → Reconciled row o ps a → Reconciled row o ps (marked mark month a)
marked_reconciled mark month row o ps a h =
    let put = λ (r : Record). record r { mark = mark } in
    let closings = map_kept put (λ r. r.closing) (λ _. refl) month a.records in
    let standings = map_kept put (λ r. r.standing) (λ _. refl) month a.records in
    let as_long = length_changed put month a.records in
    record {
      spread = h.spread;
      balances = h.balances;
      mechanisms = h.mechanisms;
      recorded = as_long ∙ h.recorded;
      counted = (λ i. record { months = a.months; billed = a.billed; closings = closings i; announced = a.announced }) ∙ h.counted;
      standings = λ n within.
          left_read _ n ∙ ap (λ ss. unwrap_or (of_month ss n) Steady) standings ∙ sym (left_read a.records n) ∙ h.standings n (omega arith) ∙ ap (λ cs. standing_left (take n cs)) (sym closings);
      closed = λ before r is.
          let was = last_read (λ r. r.closing) a.records (map (λ r. r.closing) before) r.closing (sym closings ∙ ap (map (λ r. r.closing)) is ∙ map_push _ before r) in
          sym was.3 ∙ h.closed was.0 was.1 was.2;
      files = h.files;
      by_rule = h.by_rule;
    }

spent_reconciled : (row : List Meaning) (o : OpeningNumbers) (ps : List Posting) (before after : Option Account) (duty : Duty) (mark : Mark)
    → Spent before after duty mark → BookReconciled row o ps before → BookReconciled row o ps after
spent_reconciled row o ps None after duty mark s h = absurd h
spent_reconciled row o ps (Some a) after duty mark s h =
    subst (BookReconciled row o ps) (sym s.book) (marked_reconciled mark duty.month row o ps a h)

-- a duty that is spent or refused leaves the book in agreement with its tally
pub duty_reconciled : {S : Type 0} (r : Result Unit ReturnedDuty) (row : List Meaning) (o : OpeningNumbers) (ps : List Posting) (before after : BookState S) (duty : Duty) (mark : Mark)
    → MatchResult r (λ _. Spent before.account after.account duty mark) (λ e. Returned before.account duty e) → OnErr r (after ≡ before)
    → BookReconciled row o ps before.account → BookReconciled row o ps after.account
duty_reconciled (Ok _) row o ps before after duty mark s same h = spent_reconciled row o ps _ _ duty mark s h
duty_reconciled (Err _) row o ps before after duty mark s same h = subst (λ b. BookReconciled row o ps b.account) (sym same) h

-- the record written is the month's, with the mark
mark_written : (mark : Mark) (month n : ℕ) (rs : List Record) (r : Record) → pends (of_month rs month) ≡ true → n ≡ month - 1 → r ≡ get_or rs n r → set rs n (record r { mark = mark }) ≡ changed_month (λ r. record r { mark = mark }) month rs
mark_written mark zero n rs r pending at is = absurd (false≢true pending)
mark_written mark (suc k) n rs r pending at is =
    let put = λ (r : Record). record r { mark = mark } in
    set_changed put rs n r is ∙ changed_place put rs (suc k) n (omega arith)

place_within : (rs : List Record) (k : ℕ) → pends (of_month rs (suc k)) ≡ true → k < length rs
place_within [] k pending = absurd (false≢true pending)
place_within (r ∷ rs) zero pending = omega arith
place_within (r ∷ rs) (suc k) pending = omega (arith, place_within rs k pending)

month_within : (month n : ℕ) (rs : List Record) → pends (of_month rs month) ≡ true → n ≡ month - 1 → n < length rs
month_within zero n rs pending at = absurd (false≢true pending)
month_within (suc k) n rs pending at = omega (arith, place_within rs k pending)

-- the month of a duty that is owed stands
pub owed_within : (opened : Option Opened) (months : List Month) (billed : List (UpTo Rate 8)) (rs : List Record) (before : Option Account) (duty : Duty) (n : ℕ)
    → held_by opened months billed rs ≡ before → is_owed before duty ≡ true → n ≡ duty.month - 1 → n < length rs
owed_within None months billed rs before duty n was owed at =
    absurd (false≢true (ap (λ a. is_owed a duty) was ∙ owed))
owed_within (Some o) months billed rs before duty n was owed at =
    let pending = and_parts _ _ (ap (λ a. is_owed a duty) was ∙ owed) in
    month_within duty.month n rs pending.1 at

-- a book that owes the duty spends it by a write of the mark
pub spent_by_write : (opened : Option Opened) (months : List Month) (billed : List (UpTo Rate 8)) (rs : List Record) (before : Option Account) (duty : Duty) (mark : Mark) (n : ℕ) (r : Record) → held_by opened months billed rs ≡ before → is_owed before duty ≡ true → n ≡ duty.month - 1 → r ≡ get_or rs n r → Spent before (held_by opened months billed (set rs n (record r { mark = mark }))) duty mark
spent_by_write None months billed rs before duty mark n r was owed at is =
    absurd (false≢true (ap (λ a. is_owed a duty) was ∙ owed))
spent_by_write (Some o) months billed rs before duty mark n r was owed at is =
    let pending = and_parts _ _ (ap (λ a. is_owed a duty) was ∙ owed) in
    record {
      asked = cond-true _ _ _ owed;
      book = ap (λ rs. held_by (Some o) months billed rs) (mark_written mark duty.month n rs r pending.1 at is) ∙ ap (marked_book mark duty.month) was;
    }

-- read afterwards, the month of a duty that was spent has the mark, and every other month the one that it had
of_marked : (mark : Mark) (month : ℕ) (rs : List Record) → pends (of_month rs month) ≡ true → option_map (λ r. r.mark) (of_month (changed_month (λ r. record r { mark = mark }) month rs) month) ≡ Some mark
of_marked mark zero rs pending = absurd (false≢true pending)
of_marked mark (suc zero) [] pending = absurd (false≢true pending)
of_marked mark (suc zero) (r ∷ rs) pending = refl
of_marked mark (suc (suc n)) [] pending = absurd (false≢true pending)
of_marked mark (suc (suc n)) (r ∷ rs) pending = of_marked mark (suc n) rs pending

spent_marks : (before after : Option Account) (duty : Duty) (mark : Mark) → Spent before after duty mark → MarkSet before after duty.month mark
spent_marks None after duty mark s = absurd (some_none s.asked)
spent_marks (Some a) after duty mark s =
    let pending = (and_parts _ _ (all_yes (duty_asked (Some a) duty) s.asked).0).1 in
    let put = λ (r : Record). record r { mark = mark } in
    rw s.book (record {
      told = of_marked mark duty.month a.records pending;
      others = λ other is_other. ap (option_map (λ r. r.mark)) (of_other_month put a.records duty.month other is_other);
    })

-- so it is where a duty was spent or refused
pub duty_marks : (r : Result Unit ReturnedDuty) (before after : Option Account) (duty : Duty) (mark : Mark)
    → MatchResult r (λ _. Spent before after duty mark) (λ e. Returned before duty e) → OnOk r (MarkSet before after duty.month mark)
duty_marks (Ok _) before after duty mark s = spent_marks before after duty mark s
duty_marks (Err _) before after duty mark s = tt
