-- A client that sends on at once each duty that it is handed leaves no filing pending.
use Rattle.std.proofs.Common.{◌≡◌, ℕ, zero, suc, true, false, List, [], ◌∷◌, ◌++◌, Option, Some, None, refl, ap, sym, ◌∙◌, subst}
use Rattle.charges.specs.Meaning.{Meaning}
use Rattle.settlement.specs.Settling.{answered}
use Rattle.settlement.specs.declared.record.Mark.{Mark}
use Rattle.settlement.specs.declared.record.Mark.TheVariants.{Filed, Missed}
use Rattle.settlement.specs.declared.record.Record.{Record}
use Rattle.book.specs.Account.{Account}
use Rattle.book.specs.Amending.{AmendmentKeepsBook}
use Rattle.book.specs.Duties.{Spent as DutySpent, is_pending, pends}
use Rattle.book.specs.Opening.{Given, newly_opened}
use Rattle.book.specs.Places.{of_month, changed_month}
use Rattle.book.specs.Reading.{NonePending}
use Rattle.book.specs.declared.duty.Duty.{Duty}
use Rattle.book.proofs.Amended.{amended_keeps}
use Rattle.book.proofs.OfMonth.{of_month_map}
use Rattle.book.proofs.Pending.{NoneOf, none_once_marked, owed, owed_pends}
use Rattle.client.specs.Acting.{Acted, EntryActed, AmendmentActed, DutyActed}
use Rattle.client.specs.Handing.{handed, sent}
use Rattle.client.specs.Runs.{Exchange, first_told, Played, Talk, Run}
use Rattle.client.specs.Telling.{Told}
use Rattle.client.specs.declared.call.Call.{Call}
use Rattle.client.specs.declared.call.Call.TheVariants.{Enter, Amend, File, GiveUp}
use Rattle.client.specs.declared.outcome.Outcome.{Outcome}
use Rattle.client.specs.declared.outcome.Outcome.TheVariants.{Entered, Amended, Spent, Refused, Returned}

-- none but the last of the records pends
record LastAlone (rs : List Record) : Type 0 where
  earlier : List Record
  last : Record
  split : rs ≡ earlier ++ last ∷ []
  none : NoneOf earlier

-- the one that pends is the last; with another mark it does not
none_but_last_marked : (mark : Mark) (rs : List Record) (month : ℕ) → is_pending mark ≡ false → LastAlone rs → pends (of_month rs month) ≡ true → NoneOf (changed_month (λ r. record r { mark = mark }) month rs)
none_but_last_marked mark rs month settles alone pending =
    subst (λ (l : List Record). NoneOf (changed_month (λ r. record r { mark = mark }) month l)) (sym alone.split) (none_once_marked mark settles alone.earlier alone.last month alone.none (subst (λ (l : List Record). pends (of_month l month) ≡ true) alone.split pending))

-- the same of a book
abbrev ClearButLast : Option Account → Type 0
ClearButLast None = ⊥
ClearButLast (Some a) = LastAlone a.records

none_newly_opened : (g : Given) → NonePending (Some (newly_opened g))
none_newly_opened g zero is = cc
none_newly_opened g (suc place) is = cc

-- as a run goes on, a month pends where its duty is with the client, and no other does
abbrev Pends : List Duty → Option Account → Type 0
Pends [] account = NonePending account
Pends (duty ∷ duties) account = ClearButLast account

abbrev Leaves : Outcome → Option Account → Type 0
Leaves outcome account = Pends (handed outcome) account

abbrev LeftBy : Told → Type 0
LeftBy told = Leaves told.outcome told.account

spending_clears : (mark : Mark) (before after : Option Account) (duty : Duty) → is_pending mark ≡ false → DutySpent before after duty mark
    → ClearButLast before → NonePending after
spending_clears mark None after duty settles spent alone = absurd alone
spending_clears mark (Some a) after duty settles spent alone =
    subst NonePending (sym spent.book) (none_but_last_marked mark a.records duty.month settles alone (owed_pends a duty (owed spent)))

duty_leaves : (mark : Mark) (before after : Option Account) (duty : Duty) (outcome : Outcome) → is_pending mark ≡ false
    → DutyActed mark before duty outcome after → ClearButLast before → Leaves outcome after
duty_leaves mark before after duty Spent settles acted alone = spending_clears mark before after duty settles acted alone
duty_leaves mark before after duty (Returned returned) settles acted alone = subst ClearButLast (sym acted.1) alone
duty_leaves mark before after duty outcome settles acted alone = absurd acted

entry_leaves : (row : List Meaning) (before after : Option Account) (file : List ℕ) (outcome : Outcome)
    → EntryActed row before file outcome after → NonePending before → Leaves outcome after
entry_leaves row before after file (Entered marks answer duty) acted clear =
    let entered = acted.1 in
    subst ClearButLast (sym entered.book) (record { earlier = entered.account.records; last = _; split = refl; none = subst NonePending entered.open_before clear })
entry_leaves row before after file (Refused fault) acted clear = subst NonePending (sym acted.1) clear
entry_leaves row before after file outcome acted clear = absurd acted

none_amended : (month : ℕ) (before after : Option Account) → AmendmentKeepsBook month before after → NonePending before → NonePending after
none_amended month None after keeps none = absurd keeps
none_amended month (Some a) None keeps none = absurd keeps
none_amended month (Some a) (Some b) keeps none =
    λ m is. none m (sym (of_month_map (λ r. r.mark) a.records m) ∙ ap (λ marks. of_month marks m) (sym keeps.marks) ∙ of_month_map (λ r. r.mark) b.records m ∙ is)

amendment_leaves : (row : List Meaning) (before after : Option Account) (file : List ℕ) (outcome : Outcome)
    → AmendmentActed row before file outcome after → NonePending before → Leaves outcome after
amendment_leaves row before after file (Amended marks answer month) acted clear = none_amended month before after (amended_keeps row before after file (answered answer) month acted.1) clear
amendment_leaves row before after file (Refused fault) acted clear = subst NonePending (sym acted.1) clear
amendment_leaves row before after file outcome acted clear = absurd acted

-- one call, that spends the duty that pends
call_leaves : (row : List Meaning) (call : Call) (before after : Option Account) (outcome : Outcome) → Acted row before call outcome after
    → Pends (sent (Some call)) before → Leaves outcome after
call_leaves row (Enter file) before after outcome acted clear = entry_leaves row before after file.items outcome acted clear
call_leaves row (Amend file) before after outcome acted clear = amendment_leaves row before after file.items outcome acted clear
call_leaves row (File duty) before after outcome acted alone = duty_leaves Filed before after duty outcome refl acted alone
call_leaves row (GiveUp duty) before after outcome acted alone = duty_leaves Missed before after duty outcome refl acted alone

-- any client whose next call sends the duty that it is handed, and no other
module _ {C : Type 0} (answers : C → List Meaning → Told → C → Option Call → Type 0) (row : List Meaning)
    (sends_on : (client next : C) (told : Told) (call : Option Call) → answers client row told next call → sent call ≡ handed told.outcome) where
  -- both sides of the transcript, call after call
  calls_leave : (client last : C) (es : List Exchange) (final : Told) → Talk answers row client es last → Played row es final
      → LeftBy (first_told es final) → LeftBy final
  calls_leave client last [] final talk played left = left
  calls_leave client last (e ∷ es) final talk played left =
      let next = first_told es final in
      let spent = subst (λ ds. Pends ds e.told.account) (sym (sends_on client talk.0 e.told (Some e.call) talk.1)) left in
      calls_leave talk.0 last es final talk.2 played.1 (call_leaves row e.call e.told.account next.account next.outcome played.0 spent)

  -- once it ends the run it was handed no duty
  pub none_left_pending : {g : Given} {most : ℕ} {first last : C} {before after : Option Account}
      → Run answers row g most first last None before after → NonePending after
  none_left_pending {g} {most} {first} {last} {before} {after} ran =
      let at_first : LeftBy (first_told ran.exchanges ran.final) = subst LeftBy (sym ran.begins) (none_newly_opened g) in
      let at_last = calls_leave first ran.client ran.exchanges ran.final ran.talk ran.played at_first in
      let none = subst (λ ds. Pends ds ran.final.account) (sym (sends_on ran.client last ran.final None ran.ends.0)) at_last in
      subst NonePending (sym ran.leaves) none
