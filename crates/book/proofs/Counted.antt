-- A book that agrees with a tally agrees with it after an entry, with the entered file counted.
use Rattle.std.proofs.Common.{◌≡◌, ℕ, ◌-◌, true, List, [], ◌∷◌, ◌++◌, length, take, Option, Some, None, refl, ap, sym, ◌∙◌, subst, arith}
use Rattle.std.proofs.lemmas.List.{length_push, map_push, same_from_push, take_at, length-map}
use Rattle.charges.specs.Meaning.{Meaning}
use Rattle.fields.specs.Questions.{first_no}
use Rattle.fields.proofs.Asked.{all_yes}
use Rattle.month.specs.Figures.{Figures}
use Rattle.month.specs.Valid.{Valid}
use Rattle.month.specs.View.{figures}
use Rattle.month.specs.declared.month.Month.{Month}
use Rattle.monthfile.specs.Layout.{file_of}
use Rattle.monthfile.specs.Reading.{Accepted}
use Rattle.monthfile.proofs.Exact.{file_same}
use Rattle.settlement.specs.Settling.{Answered, settled, left_by}
use Rattle.settlement.specs.Corrections.{not_filed, is_barred}
use Rattle.settlement.specs.declared.record.Mark.TheVariants.{Pending}
use Rattle.settlement.specs.declared.record.Record.{Record}
use Rattle.book.specs.Account.{Account, marks_of, marks_told, closings_of, last_record}
use Rattle.book.specs.Entering.{AnswersTo, Adds, answer_to, added, with_month}
use Rattle.book.specs.Opening.{OpeningNumbers}
use Rattle.book.specs.Places.{of_month}
use Rattle.book.specs.Postings.{has_place, posting_asked, FitForEach}
use Rattle.book.specs.Reconciled.{Reconciled, BookReconciled, ByRule, standing_left, tally_of}
use Rattle.book.specs.Tally.{Posting, Posts, entry, barred_by, posted}
use Rattle.book.specs.declared.duty.Duty.{Duty}
use Rattle.book.specs.declared.kind.PostingKind.TheVariants.{Entry}
use Rattle.book.proofs.Admits.{fit_for_each}
use Rattle.book.proofs.Posted.{AcceptsPosting, posting_reconciled}
use Rattle.book.proofs.Standings.{last_left, left_with_last, bar_by_marks}

module _ (row : List Meaning) (o : OpeningNumbers) (ps : List Posting) (a : Account) (m : Figures) (file : List ℕ) (r : Reconciled row o ps a) where
  -- the entry as a posting
  abbrev pub entered : Posting
  entered = entry file m (marks_of a) (answer_to row a m)

  -- the record of the month
  abbrev new_record : Record
  new_record = record { closing = (answer_to row a m).closing; mark = Pending; standing = (answer_to row a m).standing }

  counted_after : tally_of (with_month row a m) ≡ posted (tally_of a) entered
  counted_after =
      let closings = map_push (λ (x : Record). x.closing) a.records new_record in
      λ i. record { months = a.months ++ m ∷ []; billed = a.billed ++ a.announced ∷ []; closings = closings i; announced = (answer_to row a m).rates }

  before_last : length a.records ≡ length (a.months ++ m ∷ []) - 1
  before_last = omega (arith, r.recorded, length_push a.months m)

  left_by_tally : left_by (last_record a) ≡ standing_left (take (length (a.months ++ m ∷ []) - 1) (closings_of a ++ (answer_to row a m).closing ∷ []))
  left_by_tally =
      last_left a.records r.standings ∙ ap standing_left (sym (take_at (closings_of a) _ (length (a.months ++ m ∷ []) - 1) (omega (arith, before_last, length-map a.records (λ (x : Record). x.closing)))))

  barred_by_marks : is_barred (last_record a) ≡ barred_by (marks_of a) (length (a.months ++ m ∷ []))
  barred_by_marks = bar_by_marks a.records (length a.records) ∙ ap (λ k. not_filed (of_month (marks_of a) k)) before_last

  ruled : Valid m → FitForEach row m → has_place Entry m.month (length a.months) ≡ true → ByRule row o (tally_of a) entered
  ruled valid fit next = record {
    valid = valid;
    fit = fit;
    placed = next;
    marks = length-map a.records (λ (x : Record). x.mark) ∙ r.recorded;
    answer = λ i. settled row (r.spread i) (r.balances i) (a.months ++ m ∷ []) (a.billed ++ a.announced ∷ []) (left_by_tally i) (barred_by_marks i);
  }

  accepts_entry : Valid m → FitForEach row m → file ≡ file_of m → has_place Entry m.month (length a.months) ≡ true
      → AcceptsPosting row o a entered (with_month row a m)
  accepts_entry valid fit is next = record {
    spread = refl;
    balances = refl;
    recorded = omega (arith, r.recorded, length_push a.records new_record, length_push a.months m);
    counted = counted_after;
    standings = left_with_last a.records new_record r.standings refl;
    closed = λ before x e. ap (λ (y : Record). y.closing) (sym (same_from_push a.records before _ x e).1);
    file = is;
    by_rule = ruled valid fit next;
  }

  pub entry_reconciled : Valid m → FitForEach row m → file ≡ file_of m → has_place Entry m.month (length a.months) ≡ true
      → Reconciled row o (ps ++ entered ∷ []) (with_month row a m)
  entry_reconciled valid fit is next = posting_reconciled row o ps a r entered (with_month row a m) (accepts_entry valid fit is next)

-- the book that accepted a file agrees with the tally that counts it
pub accepted_reconciled : (row : List Meaning) (file : List ℕ) (read : Month) (before after : Option Account) (answer : Answered) (duty : Duty)
    → Accepted file read → first_no (posting_asked Entry row before (figures read)) ≡ None → AnswersTo row before (figures read) answer
    → Adds before after (figures read) answer duty → (o : OpeningNumbers) (ps more : List Posting) → BookReconciled row o ps before
    → Posts Entry file (marks_told before) answer ps more → BookReconciled row o more after
accepted_reconciled row file read None after answer duty accepted clear answers adds o ps more r posts = absurd answers
accepted_reconciled row file read (Some a) after answer duty accepted clear answers adds o ps more r posts =
    let same : figures read ≡ posts.stated = file_same (figures read) posts.stated (sym accepted.is ∙ posts.states) in
    let yes = all_yes (posting_asked Entry row (Some a) (figures read)) clear in
    let next : has_place Entry (figures read).month (length a.months) ≡ true = yes.0 in
    let counted = entry_reconciled row o ps a (figures read) file r accepted.valid (fit_for_each row (figures read) yes.1) accepted.is next in
    let by_answer = subst (λ (x : Answered). Reconciled row o (ps ++ entry file (figures read) (marks_of a) x ∷ []) (added a (figures read) x)) (sym answers) counted in
    let by_book = subst (λ (x : Option Account). BookReconciled row o (ps ++ entry file (figures read) (marks_of a) answer ∷ []) x) (sym adds.0) by_answer in
    let by_file = subst (λ (f : Figures). BookReconciled row o (ps ++ entry file f (marks_of a) answer ∷ []) after) same by_book in
    subst (λ (qs : List Posting). BookReconciled row o qs after) (sym posts.more) by_file
