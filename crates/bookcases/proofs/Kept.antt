-- A book owes what is kept beside it after an entry, an amendment, a filing, and its opening.
use Rattle.std.proofs.Common.{◌≡◌, ℕ, zero, suc, ◌+◌, ◌<◌, ◌≤◌, true, ◌==◌, List, [], ◌∷◌, ◌++◌, length, Option, Some, None, Result, Ok}
use Rattle.std.proofs.Common.{Err, IfOk, OnErr, MatchResult, refl, ap, sym, ◌∙◌, subst, arith}
use Rattle.std.proofs.lemmas.Bool.{false≢true, and_parts, and_from, cond-true}
use Rattle.std.proofs.lemmas.Bool.Decides.{nat_tests}
use Rattle.std.proofs.lemmas.List.{length_push, length-map}
use Rattle.charges.specs.Meaning.{Meaning}
use Rattle.fields.specs.Questions.{first_no}
use Rattle.fields.proofs.Asked.{all_yes, some_none}
use Rattle.month.specs.Figures.{Figures}
use Rattle.settlement.specs.Settling.{Answered}
use Rattle.settlement.specs.declared.record.Mark.{Mark}
use Rattle.settlement.specs.declared.record.Mark.TheVariants.{Filed, Pending}
use Rattle.settlement.specs.declared.record.Record.{Record}
use Rattle.book.specs.Account.{Account, BookState}
use Rattle.book.specs.Amending.{AmendmentKeeps, AmendmentKeepsBook}
use Rattle.book.specs.Duties.{pends, is_owed, duty_asked, marked, Spent, Returned}
use Rattle.book.specs.Entering.{answer_to, with_month, Entered}
use Rattle.book.specs.Opening.{Given, opening_asked, Opens, NotOpened}
use Rattle.book.specs.Places.{of_month}
use Rattle.book.specs.Postings.{posting_asked}
use Rattle.book.specs.declared.duty.Duty.{Duty}
use Rattle.book.specs.declared.duty.ReturnedDuty.{ReturnedDuty}
use Rattle.book.specs.declared.fault.BookFault.{BookFault}
use Rattle.book.specs.declared.kind.PostingKind.TheVariants.{Entry}
use Rattle.book.proofs.Changed.{of_other_month, length_changed}
use Rattle.book.proofs.OfMonth.{of_month_before}
use Rattle.book.proofs.Pending.{pends_amended}
use Rattle.bookcases.specs.Kept.{Owing, Keeps}

-- a pending month stands, and still pends where more months stand
pends_within : (rs : List Record) (n : ℕ) → pends (of_month rs n) ≡ true → n ≤ length rs
pends_within rs zero p = absurd (false≢true p)
pends_within [] (suc j) p = absurd (false≢true p)
pends_within (r ∷ rs) (suc zero) p = omega arith
pends_within (r ∷ rs) (suc (suc j)) p = omega (arith, pends_within rs (suc j) p)

pends_more : (rs more : List Record) (n : ℕ) → pends (of_month rs n) ≡ true → pends (of_month (rs ++ more) n) ≡ true
pends_more rs more n p = ap pends (of_month_before rs more n (pends_within rs n p)) ∙ p

-- the record of a month that is entered
abbrev entered_record : List Meaning → Account → Figures → Record
entered_record row a m = let answer = answer_to row a m in record { closing = answer.closing; mark = Pending; standing = answer.standing }

-- a duty that is owed goes on being owed with a month more, and where a later month is marked
module _ (a : Account) (d : Duty) (owed : is_owed (Some a) d ≡ true) where
  parts : ((d.book == a.number) ≡ true) × (pends (of_month a.records d.month) ≡ true)
  parts = and_parts _ _ owed

  owed_within : d.month ≤ length a.records
  owed_within = pends_within a.records d.month parts.1

  owed_more : (row : List Meaning) (m : Figures) → is_owed (Some (with_month row a m)) d ≡ true
  owed_more row m =
      let book = parts.0 in
      let more = pends_more a.records (entered_record row a m ∷ []) d.month parts.1 in
      and_from _ _ book more

  owed_marked : (mark : Mark) (month : ℕ) → d.month < month → is_owed (Some (marked mark month a)) d ≡ true
  owed_marked mark month before =
      let book = parts.0 in
      let other : d.month ≡ month → ⊥ = λ same. omega (arith, same, before) in
      let pending = ap pends (of_other_month (λ r. record r { mark = mark }) a.records month d.month other) ∙ parts.1 in
      and_from _ _ book pending

-- a month that was entered
module _ (row : List Meaning) (a : Account) (m : Figures) (d : Duty)
    (last : length a.records < d.month)
    (owed : is_owed (Some (with_month row a m)) d ≡ true)
  where
    owing_more : (month : ℕ) (ds : List Duty) → month ≤ length a.records → Owing (Some a) month ds
        → Owing (Some (with_month row a m)) month (ds ++ d ∷ [])
    owing_more month [] within o = (omega (arith, last, within), owed, tt)
    owing_more month (e ∷ es) within o =
        (o.0, owed_more a e o.1 row m, owing_more e.month es (owed_within a e o.1) o.2)

-- the last of the duties, which is then spent
module _ (a : Account) (d : Duty) (mark : Mark) where
  owing_last : (month : ℕ) (ds : List Duty) → Owing (Some a) month (ds ++ d ∷ []) → (month < d.month) × (is_owed (Some a) d ≡ true)
  owing_last month [] o = (o.0, o.1)
  owing_last month (e ∷ es) o =
      let rest = owing_last e.month es o.2 in
      (omega (arith, o.0, rest.0), rest.1)

  owing_less : (month : ℕ) (ds : List Duty) → Owing (Some a) month (ds ++ d ∷ []) → Owing (Some (marked mark d.month a)) month ds
  owing_less month [] o = tt
  owing_less month (e ∷ es) o =
      let rest = owing_last e.month es o.2 in
      (o.0, owed_marked a e o.1 mark d.month rest.0, owing_less e.month es o.2)

-- a closed book owes nothing
closed_owes : (month : ℕ) (ds : List Duty) → Owing None month ds → ds ≡ []
closed_owes month [] o = refl
closed_owes month (d ∷ ds) o = absurd (false≢true o.1)

closed_none : (n : ℕ) (before : Option Account) (g : Given) → first_no (opening_asked n before g) ≡ None → before ≡ None
closed_none n None g clear = refl
closed_none n (Some a) g clear = absurd (false≢true (all_yes (opening_asked n (Some a) g) clear).1.1.1.1.0)

-- a book and no duty
pub keeps_none : Keeps None []
keeps_none = record { owing = tt; recorded = refl; numbered = tt }

keeps_opened : (n : ℕ) (before after : Option Account) (g : Given) (ds : List Duty) → g.number ≡ 1 → Keeps before ds
    → Opens n before after g → Keeps after ds
keeps_opened n before after g ds number keeps opens =
    let closed = closed_none n before g opens.asked in
    let none = closed_owes 0 ds (subst (λ b. Owing b 0 ds) closed keeps.owing) in
    rw (none, opens.book) (record { owing = tt; recorded = refl; numbered = number })

-- whether it was opened or refused
pub keeps_asked : {S T : Type 0} (n : ℕ) (before after : BookState S) (g : Given) (ds : List Duty) (result : Result T BookFault)
    → g.number ≡ 1 → Keeps before.account ds
    → MatchResult result (λ _. Opens n before.account after.account g) (λ e. NotOpened n before.account g e) → OnErr result (after ≡ before)
    → Keeps after.account ds
keeps_asked n before after g ds (Ok _) number keeps opens same = keeps_opened n before.account after.account g ds number keeps opens
keeps_asked n before after g ds (Err e) number keeps refused same = subst (λ b. Keeps b.account ds) (sym same) keeps

pub keeps_entered : {row : List Meaning} {before after : Option Account} {file : List ℕ} {answer : Answered} {d : Duty} {ds : List Duty}
    → Keeps before ds → Entered row before after file answer d → first_no (duty_asked after d) ≡ None → Keeps after (ds ++ d ∷ [])
keeps_entered {row = row} {after = after} {d = d} {ds = ds} keeps e clear =
    let a = e.account in
    let kept : Keeps (Some a) ds = subst (λ b. Keeps b ds) e.open_before keeps in
    let asked : first_no (posting_asked Entry row (Some a) e.stated) ≡ None = ap (λ b. first_no (posting_asked Entry row b e.stated)) (sym e.open_before) ∙ e.asked in
    let yes = all_yes (posting_asked Entry row (Some a) e.stated) asked in
    let next : e.stated.month ≡ length a.months + 1 = grind (arith, nat_tests, yes.0) in
    let owed : is_owed (Some (with_month row a e.stated)) d ≡ true = ap (λ b. is_owed b d) (sym e.book) ∙ (all_yes (duty_asked after d) clear).0 in
    let last : length a.records < d.month = omega (arith, next, e.duty_month, kept.recorded) in
    subst (λ b. Keeps b (ds ++ d ∷ [])) (sym e.book) (record {
      owing = owing_more row a e.stated d last owed 0 ds (omega arith) kept.owing;
      recorded = omega (arith, kept.recorded, length_push a.records (entered_record row a e.stated), length_push a.months e.stated);
      numbered = kept.numbered;
    })

-- the last duty is not refused, and filing it leaves the others owed
pub keeps_filed : {before after : Option Account} {d : Duty} {mark : Mark} (ds : List Duty) → Keeps before (ds ++ d ∷ [])
    → Spent before after d mark → Keeps after ds
keeps_filed {before = None} {d = d} ds keeps spent = absurd (false≢true (all_yes (duty_asked None d) spent.asked).0)
keeps_filed {before = Some a} {d = d} {mark = mark} ds keeps spent =
    subst (λ b. Keeps b ds) (sym spent.book) (record {
      owing = owing_less a d mark 0 ds keeps.owing;
      recorded = length_changed (λ r. record r { mark = mark }) d.month a.records ∙ keeps.recorded;
      numbered = keeps.numbered;
    })

nothing_owing : (d : Duty) (ds : List Duty) → Owing None 0 (ds ++ d ∷ []) → ⊥
nothing_owing d [] o = false≢true o.1
nothing_owing d (e ∷ es) o = false≢true o.1

pub keeps_last : {before : Option Account} {d : Duty} {e : ReturnedDuty} (ds : List Duty) → Keeps before (ds ++ d ∷ []) → Returned before d e → ⊥
keeps_last {before = None} {d = d} ds keeps returned = nothing_owing d ds keeps.owing
keeps_last {before = Some a} {d = d} ds keeps returned =
    let owed = (owing_last a d Filed 0 ds keeps.owing).1 in
    some_none (sym returned.first ∙ cond-true _ _ _ owed)

-- an amendment leaves what is owed
module _ (month : ℕ) (a b : Account) (keeps : AmendmentKeeps month a b) where
  owed_amended : (d : Duty) → is_owed (Some a) d ≡ true → is_owed (Some b) d ≡ true
  owed_amended d owed =
      let parts = and_parts _ _ owed in
      let number = keeps.number in
      and_from _ _ (rw (number) parts.0) (pends_amended month a b keeps d.month ∙ parts.1)

  owing_amended : (n : ℕ) (ds : List Duty) → Owing (Some a) n ds → Owing (Some b) n ds
  owing_amended n [] o = tt
  owing_amended n (d ∷ ds) o = (o.0, owed_amended d o.1, owing_amended d.month ds o.2)

  as_many : length b.records ≡ length a.records
  as_many = sym (length-map b.records (λ r. r.mark)) ∙ ap length keeps.marks ∙ length-map a.records (λ r. r.mark)

keeps_amended : (month : ℕ) (before after : Option Account) (ds : List Duty) → Keeps before ds → AmendmentKeepsBook month before after
    → Keeps after ds
keeps_amended month None after ds keeps amended = absurd amended
keeps_amended month (Some a) None ds keeps amended = absurd amended
keeps_amended month (Some a) (Some b) ds keeps amended = record {
  owing = owing_amended month a b amended 0 ds keeps.owing;
  recorded = as_many month a b amended ∙ keeps.recorded ∙ sym amended.count;
  numbered = amended.number ∙ keeps.numbered;
}

-- whether it was accepted or refused
pub keeps_posted : {S : Type 0} (X : Type 0) (before after : BookState S) (ds : List Duty) (result : Result ℕ BookFault)
    → Keeps before.account ds → IfOk result (λ month. AmendmentKeepsBook month before.account after.account)
    → OnErr result ((after ≡ before) × X) → Keeps after.account ds
keeps_posted X before after ds (Ok month) keeps amended same = keeps_amended month before.account after.account ds keeps amended
keeps_posted X before after ds (Err e) keeps amended same = subst (λ b. Keeps b.account ds) (sym same.0) keeps
