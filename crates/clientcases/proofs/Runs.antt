-- A run leaves no more duties than pending months.
use Rattle.std.proofs.Common.{◌≡◌, ℕ, zero, suc, ◌+◌, ◌≤◌, true, ◌==◌, ◌&&◌, if◌then◌else◌, List, [], ◌∷◌, ◌++◌, length, Option, Some, None}
use Rattle.std.proofs.Common.{refl, ap, sym, ◌∙◌, subst, arith}
use Rattle.std.proofs.lemmas.Bool.{false≢true}
use Rattle.std.proofs.lemmas.Bool.Decides.{nat_tests}
use Rattle.std.proofs.lemmas.List.{length_push, length-map}
use Rattle.std.proofs.lemmas.List.Sums.{sum_by-cons}
use Rattle.charges.specs.Meaning.{Meaning}
use Rattle.fields.specs.Questions.{first_no}
use Rattle.fields.proofs.Asked.{all_yes}
use Rattle.month.specs.Figures.{Figures}
use Rattle.settlement.specs.Settling.{answered}
use Rattle.settlement.specs.declared.record.Mark.{Mark}
use Rattle.settlement.specs.declared.record.Mark.TheVariants.{Filed, Missed, Pending}
use Rattle.settlement.specs.declared.record.Record.{Record}
use Rattle.book.specs.Account.{Account}
use Rattle.book.specs.Amending.{AmendmentKeepsBook}
use Rattle.book.specs.Duties.{is_pending, pends, Spent as DutySpent}
use Rattle.book.specs.Entering.{answer_to}
use Rattle.book.specs.Opening.{Given, opening_asked, newly_opened}
use Rattle.book.specs.Places.{of_month}
use Rattle.book.specs.Postings.{posting_asked}
use Rattle.book.specs.declared.duty.Duty.{Duty}
use Rattle.book.specs.declared.kind.PostingKind.TheVariants.{Entry}
use Rattle.book.proofs.Admits.{next_month}
use Rattle.book.proofs.Amended.{amended_keeps}
use Rattle.book.proofs.Changed.{length_changed}
use Rattle.book.proofs.OfMonth.{of_month_before, of_month_added}
use Rattle.book.proofs.Pending.{pends_amended}
use Rattle.client.specs.Acting.{Acted, EntryActed, AmendmentActed, DutyActed}
use Rattle.client.specs.Handing.{handed, sent}
use Rattle.client.specs.Runs.{Exchange, first_told, Played, Talk, Ends, Run}
use Rattle.client.specs.Telling.{Told, telling}
use Rattle.client.specs.declared.call.Call.{Call}
use Rattle.client.specs.declared.call.Call.TheVariants.{Enter, Amend, File, GiveUp}
use Rattle.client.specs.declared.outcome.Outcome.{Outcome}
use Rattle.client.specs.declared.outcome.Outcome.TheVariants.{Opened, Entered, Amended, Spent, Refused, Returned}
use Rattle.clientcases.specs.Covering.{is_of, among, pending, Covered, MakesNone}
use Rattle.clientcases.proofs.Covering.{spent_covers}

-- as many records as months
abbrev Recorded : Option Account → Type 0
Recorded None = Unit {0}
Recorded (Some a) = length a.records ≡ length a.months

-- a call with these duties takes no more from what is pending than them, and adds as much as the duty that comes with its outcome
record Conserves (ds : List Duty) (outcome : Outcome) (before after : Option Account) : Type 0 where
  recorded : Recorded after
  covers : (book month : ℕ) → among book month (handed outcome) + pending book month before ≤ among book month ds + pending book month after

-- a month that pends stands
pends_within : (rs : List Record) (n : ℕ) → pends (of_month rs n) ≡ true → n ≤ length rs
pends_within rs zero p = absurd (false≢true p)
pends_within [] (suc j) p = absurd (false≢true p)
pends_within (r ∷ rs) (suc zero) p = omega arith
pends_within (r ∷ rs) (suc (suc j)) p = omega (arith, pends_within rs (suc j) p)

-- where a record is added, its month pends and what pended before does
pends_before : (rs : List Record) (r : Record) (n : ℕ) → pends (of_month rs n) ≡ true → pends (of_month (rs ++ r ∷ []) n) ≡ true
pends_before rs r n p = ap pends (of_month_before rs (r ∷ []) n (pends_within rs n p)) ∙ p

pends_added : (rs : List Record) (r : Record) → r.mark ≡ Pending → pends (of_month (rs ++ r ∷ []) (length rs + 1)) ≡ true
pends_added rs r is = ap pends (of_month_added rs r) ∙ ap is_pending is

added_covers : (rs : List Record) (r : Record) (number : ℕ) (d : Duty) → r.mark ≡ Pending → d.book ≡ number → d.month ≡ length rs + 1
    → (book month : ℕ)
    → is_of book month d + (if book == number && pends (of_month rs month) then 1 else 0) ≤ (if book == number && pends (of_month (rs ++ r ∷ []) month) then 1 else 0)
added_covers rs r number d is of_book of_month book month =
    let within = pends_within rs month in
    let before = pends_before rs r month in
    let added = pends_added rs r is in
    grind (arith, nat_tests)

-- the record of a month that is entered
abbrev entered_record : List Meaning → Account → Figures → Record
entered_record row a m = let answer = answer_to row a m in record { closing = answer.closing; mark = Pending; standing = answer.standing }

-- entering
entered_conserves : (row : List Meaning) (before after : Option Account) (file : List ℕ) (outcome : Outcome)
    → EntryActed row before file outcome after → Recorded before → Conserves [] outcome before after
entered_conserves row before after file (Entered marks answer d) acted recorded =
    let e = acted.1 in
    let a = e.account in
    let as_many : Recorded (Some a) = subst Recorded e.open_before recorded in
    let asked = subst (λ b. first_no (posting_asked Entry row b e.stated) ≡ None) e.open_before e.asked in
    let next = next_month e.stated.month (length a.months) (all_yes (posting_asked Entry row (Some a) e.stated) asked).0 in
    let last : d.month ≡ length a.records + 1 = omega (arith, next, e.duty_month, as_many) in
    rw (e.open_before, e.book) (record {
      recorded = omega (arith, as_many, length_push a.records (entered_record row a e.stated), length_push a.months e.stated);
      covers = λ book month. omega (arith, added_covers a.records (entered_record row a e.stated) a.number d refl e.duty_book last book month);
    })
entered_conserves row before after file (Refused fault) acted recorded =
    rw (acted.1) (record { recorded = recorded; covers = λ book month. omega arith })
entered_conserves row before after file outcome acted recorded = absurd acted

-- amending
kept_pending : (month : ℕ) (before after : Option Account) → AmendmentKeepsBook month before after → Recorded before
    → Recorded after × ((book m : ℕ) → pending book m before ≤ pending book m after)
kept_pending month None after keeps recorded = absurd keeps
kept_pending month (Some a) None keeps recorded = absurd keeps
kept_pending month (Some a) (Some b) keeps recorded =
    let as_many : length b.records ≡ length a.records = sym (length-map b.records (λ r. r.mark)) ∙ ap length keeps.marks ∙ length-map a.records (λ r. r.mark) in (
      as_many ∙ recorded ∙ sym keeps.count,
      λ book m.
          let number = keeps.number in
          let same = pends_amended _ a b keeps m in
          grind (arith, nat_tests),
    )

amended_conserves : (row : List Meaning) (before after : Option Account) (file : List ℕ) (outcome : Outcome)
    → AmendmentActed row before file outcome after → Recorded before → Conserves [] outcome before after
amended_conserves row before after file (Amended marks answer month) acted recorded =
    let kept = kept_pending month before after (amended_keeps row before after file (answered answer) month acted.1) recorded in
    record { recorded = kept.0; covers = λ book m. omega (arith, kept.1 book m) }
amended_conserves row before after file (Refused fault) acted recorded =
    rw (acted.1) (record { recorded = recorded; covers = λ book month. omega arith })
amended_conserves row before after file outcome acted recorded = absurd acted

-- spending a duty
spent_recorded : (mark : Mark) (before after : Option Account) (d : Duty) → DutySpent before after d mark → Recorded before → Recorded after
spent_recorded mark None after d spent recorded = subst Recorded (sym spent.book) tt
spent_recorded mark (Some a) after d spent recorded =
    subst Recorded (sym spent.book) (length_changed (λ r. record r { mark = mark }) d.month a.records ∙ recorded)

duty_conserves : (mark : Mark) (before after : Option Account) (d : Duty) (outcome : Outcome) → DutyActed mark before d outcome after
    → Recorded before → Conserves (d ∷ []) outcome before after
duty_conserves mark before after d Spent acted recorded = record {
  recorded = spent_recorded mark before after d acted recorded;
  covers = λ book month. omega (arith, spent_covers mark before after d acted book month);
}
duty_conserves mark before after d (Returned returned) acted recorded =
    let same = acted.0.same in
    rw (acted.1, same) (record { recorded = recorded; covers = λ book month. omega arith })
duty_conserves mark before after d outcome acted recorded = absurd acted

call_conserves : (row : List Meaning) (before after : Option Account) (call : Call) (outcome : Outcome)
    → Acted row before call outcome after → Recorded before → Conserves (sent (Some call)) outcome before after
call_conserves row before after (Enter file) outcome acted recorded = entered_conserves row before after file.items outcome acted recorded
call_conserves row before after (Amend file) outcome acted recorded = amended_conserves row before after file.items outcome acted recorded
call_conserves row before after (File d) outcome acted recorded = duty_conserves Filed before after d outcome acted recorded
call_conserves row before after (GiveUp d) outcome acted recorded = duty_conserves Missed before after d outcome acted recorded

-- a book that is opened was closed
closed_before : (n : ℕ) (before : Option Account) (g : Given) → first_no (opening_asked n before g) ≡ None → before ≡ None
closed_before n None g clear = refl
closed_before n (Some a) g clear = absurd (false≢true (all_yes (opening_asked n (Some a) g) clear).1.1.1.1.0)

-- the duty that comes with what the client is not told of
abbrev pub untold_of : Option Outcome → List Duty
untold_of None = []
untold_of (Some told) = handed told

-- of a client that makes no duty of its own, beside the pending months of another book, which is not called
module _ {C : Type 0} (answers : C → List Meaning → Told → C → Option Call → Type 0) (keeps : C → List Duty)
    (makes_none : (before : C) (row : List Meaning) (told : Told) (after : C) (call : Option Call) → answers before row told after call → MakesNone (keeps before) told.outcome (keeps after) call)
    (row : List Meaning) (other : Option Account) where
  -- the duties of the client and the one that it is told of are covered
  abbrev Covers : Told → C → Type 0
  Covers told client = (book month : ℕ) → among book month (handed told.outcome) + among book month (keeps client) ≤ pending book month told.account + pending book month other

  -- one call after another
  calls_cover : (client last : C) (es : List Exchange) (final : Told) → Talk answers row client es last → Played row es final
      → Recorded (first_told es final).account → Covers (first_told es final) client → Covers final last
  calls_cover client last [] final talk played recorded covers = subst (Covers final) talk covers
  calls_cover client last (e ∷ es) final talk played recorded covers =
      let next = first_told es final in
      let conserves = call_conserves row e.told.account next.account e.call next.outcome played.0 recorded in
      let made = makes_none client row e.told talk.0 (Some e.call) talk.1 in
      let covered : Covers next talk.0 = λ book month. omega (arith, covers book month, made book month, conserves.covers book month) in
      calls_cover talk.0 last es final talk.2 played.1 conserves.recorded covered

  ends_cover : (client last : C) (final : Told) (made most : ℕ) (untold : Option Outcome)
      → Ends answers row client final last made most untold → Covers final client
      → (book month : ℕ) → among book month (untold_of untold) + among book month (keeps last) ≤ pending book month final.account + pending book month other
  ends_cover client last final made most (Some told) ends covers book month =
      let is_told = ends.0 in
      let is_last = ends.1 in
      rw (is_told, is_last) (covers book month)
  ends_cover client last final made most None ends covers book month =
      omega (arith, covers book month, makes_none client row final last None ends.0 book month)

  -- after the whole run
  pub run_covers : {g : Given} {most : ℕ} {first last : C} {untold : Option Outcome} {before after : Option Account}
      → Run answers row g most first last untold before after → Covered (keeps first) before other
      → (book month : ℕ) → among book month (untold_of untold) + among book month (keeps last) ≤ pending book month after + pending book month other
  run_covers {g} {most} {first} {last} {untold} {before} {after} ran covered =
      let closed = closed_before (length row) before g ran.asked in
      let covered_closed = subst (λ b. Covered (keeps first) b other) closed covered in
      let newly : Covers (telling Opened (Some (newly_opened g))) first = λ book month. omega (arith, covered_closed book month) in
      let at_first : Covers (first_told ran.exchanges ran.final) first = subst (λ told. Covers told first) (sym ran.begins) newly in
      let recorded : Recorded (first_told ran.exchanges ran.final).account = subst (λ (told : Told). Recorded told.account) (sym ran.begins) refl in
      let at_last = calls_cover first ran.client ran.exchanges ran.final ran.talk ran.played recorded at_first in
      rw (ran.leaves) (ends_cover ran.client last ran.final (length ran.exchanges) most untold ran.ends at_last)

  -- the duty that the client is not told of, with the client's own and alone
  pub untold_covered : {g : Given} {most : ℕ} {first last : C} {untold : Option Outcome} {before after : Option Account} {d : Duty}
      → Run answers row g most first last untold before after → Covered (keeps first) before other
      → untold_of untold ≡ d ∷ [] → Covered (d ∷ keeps last) after other × Covered (d ∷ []) after other
  untold_covered {last = last} {after = after} {d = d} ran covered is =
      let covers : (book month : ℕ) → among book month (d ∷ []) + among book month (keeps last) ≤ pending book month after + pending book month other = λ book month.
      subst (λ ds. among book month ds + among book month (keeps last) ≤ pending book month after + pending book month other) is (run_covers ran covered book month) in
      (λ book month. omega (arith, covers book month, sum_by-cons (is_of book month) d (keeps last)), λ book month. omega (arith, covers book month))
