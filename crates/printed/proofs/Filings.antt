-- A month that is entered is filed at once, and none is left pending.
use Rattle.std.proofs.Common.{◌≡◌, ℕ, zero, suc, true, List, [], ◌∷◌, Option, Some, None, slice_get, refl, ap, sym, ◌∙◌, subst}
use Rattle.std.specs.Option.{option_map}
use Rattle.std.proofs.lemmas.Bool.{false≢true}
use Rattle.book.specs.Account.{Account}
use Rattle.book.specs.Amending.{AmendmentKeepsBook}
use Rattle.book.specs.Duties.{pends, Spent}
use Rattle.book.specs.Entering.{with_month}
use Rattle.book.specs.Places.{of_month, changed_at, changed_month}
use Rattle.book.specs.Reading.{mark_told, NonePending}
use Rattle.book.specs.declared.duty.Duty.{Duty}
use Rattle.book.proofs.OfMonth.{of_month_map}
use Rattle.book.proofs.Pending.{none_once_marked, owed, owed_pends}
use Rattle.settlement.specs.declared.answer.Answer.{Answer}
use Rattle.settlement.specs.declared.record.Mark.TheVariants.{Filed}
use Rattle.settlement.specs.declared.record.Record.{Record}
use Rattle.printed.specs.Runs.{State, EntersBy}
use Rattle.printed.specs.declared.line.Line.TheVariants as line

-- the record with the mark of a filed month
abbrev filed : Record → Record
filed r = record r { mark = Filed }

-- a record that pends has the mark once it is filed
filed_at : (rs : List Record) (place : ℕ) → pends (slice_get rs place) ≡ true
    → option_map (λ r. r.mark) (slice_get (changed_at filed place rs) place) ≡ Some Filed
filed_at [] place pending = absurd (false≢true pending)
filed_at (r ∷ rs) zero pending = refl
filed_at (r ∷ rs) (suc place) pending = filed_at rs place pending

filed_of : (rs : List Record) (month : ℕ) → pends (of_month rs month) ≡ true
    → option_map (λ r. r.mark) (of_month (changed_month filed month rs) month) ≡ Some Filed
filed_of rs zero pending = absurd (false≢true pending)
filed_of rs (suc place) pending = filed_at rs place pending

spent_is_filed : (before after : Option Account) (duty : Duty) → Spent before after duty Filed → mark_told after duty.month ≡ Some Filed
spent_is_filed None after duty spent = absurd (false≢true (owed spent))
spent_is_filed (Some a) after duty spent =
    ap (λ x. mark_told x duty.month) spent.book ∙ filed_of a.records duty.month (owed_pends a duty (owed spent))

-- the month that is told is filed
pub entered_is_filed : {before after : State} {file : List ℕ} {month : ℕ} {answer : Answer} → EntersBy before file month answer after
    → (told : ℕ) (with : Answer) → line.Entered month answer ≡ line.Entered told with → mark_told after.account told ≡ Some Filed
entered_is_filed {before} {after} by told with is =
    let same : told ≡ by.duty.month = let of_duty = by.of_duty in cc in
    ap (λ m. mark_told after.account m) same ∙ spent_is_filed by.entered after.account by.duty by.files

-- an entry leaves none pending where none was
pub entry_leaves_none : {before after : State} {file : List ℕ} {month : ℕ} {answer : Answer} → EntersBy before file month answer after
    → NonePending before.account → NonePending after.account
entry_leaves_none {before} {after} by none =
    let a = with_month before.charges by.enters.account by.enters.stated in
    let spent : Spent (Some a) after.account by.duty Filed = subst (λ (x : Option Account). Spent x after.account by.duty Filed) by.enters.book by.files in
    let none_before : NonePending (Some by.enters.account) = subst NonePending by.enters.open_before none in
    subst NonePending (sym spent.book) (none_once_marked Filed refl by.enters.account.records _ by.duty.month none_before (owed_pends a by.duty (owed spent)))

-- so does a book that is as it was
pub same_leaves_none : {before after : State} → after ≡ before → NonePending before.account → NonePending after.account
same_leaves_none same none = subst (λ (s : State). NonePending s.account) (sym same) none

-- so does an amendment, which keeps the marks
pub kept_leaves_none : (month : ℕ) (before after : Option Account) → AmendmentKeepsBook month before after → NonePending before → NonePending after
kept_leaves_none month None after keeps none told is = absurd keeps
kept_leaves_none month (Some a) None keeps none told is = absurd keeps
kept_leaves_none month (Some a) (Some b) keeps none told is =
    let mark = λ (r : Record). r.mark in
    none told (sym (of_month_map mark a.records told) ∙ ap (λ ms. of_month ms told) (sym keeps.marks) ∙ of_month_map mark b.records told ∙ is)
