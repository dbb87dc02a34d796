-- What amending a month makes of a book. One that agrees with a tally agrees with it afterwards, with the amendment counted.
use Rattle.std.proofs.Common.{◌≡◌, ℕ, ◌+◌, ◌-◌, ◌≤◌, true, List, [], ◌∷◌, ◌++◌, map, length, take, Option, Some, None, refl, ap, sym, ◌∙◌}
use Rattle.std.proofs.Common.{subst, arith}
use Rattle.std.proofs.lemmas.List.{length-map, length_push, same_from_push}
use Rattle.charges.specs.Meaning.{Meaning}
use Rattle.fields.specs.Questions.{first_no}
use Rattle.fields.proofs.Asked.{all_yes}
use Rattle.month.specs.Figures.{Figures}
use Rattle.month.specs.Valid.{Valid}
use Rattle.month.specs.View.{figures}
use Rattle.month.specs.declared.month.Month.{Month}
use Rattle.monthfile.specs.Layout.{file_of}
use Rattle.monthfile.specs.Reading.{Accepted}
use Rattle.monthfile.proofs.Exact.{file_same}
use Rattle.settlement.specs.Settling.{Answered, settled, left_by, standing_after}
use Rattle.settlement.specs.Corrections.{not_filed, is_barred}
use Rattle.settlement.specs.declared.record.Closing.{Closing}
use Rattle.settlement.specs.declared.record.Record.{Record}
use Rattle.book.specs.Account.{Account, marks_of, marks_told, closings_of}
use Rattle.book.specs.Amending.{replaced, record_before_last, answer_now, settled_now, SomeMonth, Replaces, SettlesNow, Amended}
use Rattle.book.specs.Amending.{AmendmentKeeps, AmendmentKeepsBook, closed_by}
use Rattle.book.specs.Opening.{OpeningNumbers}
use Rattle.book.specs.Places.{of_month, changed_at, changed_month}
use Rattle.book.specs.Postings.{has_place, posting_asked, FitForEach}
use Rattle.book.specs.Reconciled.{Reconciled, BookReconciled, ByRule, standing_left, tally_of}
use Rattle.book.specs.Tally.{Posting, Posts, amendment, barred_by, posted}
use Rattle.book.specs.declared.kind.PostingKind.TheVariants.{Amendment}
use Rattle.book.proofs.Admits.{fit_for_each, standing_month}
use Rattle.book.proofs.Changed.{changed_place, changed_last, take_before, of_other_month, length_changed, map_changed_at, map_kept, last_of}
use Rattle.book.proofs.OfMonth.{of_month_before}
use Rattle.book.proofs.Posted.{AcceptsPosting, posting_reconciled}
use Rattle.book.proofs.Standings.{StandingsLeft, left_before_last, left_with_last, bar_by_marks}

-- of the closing figures it changes the last
closings_carried : (answer : Answered) (rs : List Record)
    → map (λ (r : Record). r.closing) (changed_month (closed_by answer) (length rs) rs) ≡ changed_month (λ (c : Closing). answer.closing) (length (map (λ (r : Record). r.closing) rs)) (map (λ (r : Record). r.closing) rs)
closings_carried answer [] = refl
closings_carried answer (r ∷ rs) =
    let closing = λ (x : Record). x.closing in
    map_changed_at (closed_by answer) (λ (c : Closing). answer.closing) closing (λ _. refl) (r ∷ rs) (length rs) ∙ ap (λ n. changed_at (λ (c : Closing). answer.closing) n (map closing (r ∷ rs))) (sym (length-map rs closing))

-- what stays of a book that has other figures for a month and is settled
keeps : (row : List Meaning) (a : Account) (m : Figures) → AmendmentKeeps m.month a (settled_now row (replaced m a))
keeps row a m =
    let answer = answer_now row (replaced m a) in
    let last = length (closings_of a) in
    record {
      number = refl;
      spread = refl;
      balances = refl;
      count = length_changed (λ _. m) m.month a.months;
      others = λ other is_other. of_other_month (λ _. m) a.months m.month other is_other;
      billed = refl;
      marks = map_kept (closed_by answer) (λ (r : Record). r.mark) (λ _. refl) (length a.records) a.records;
      closings =
          ap (take (length a.records - 1)) (closings_carried answer a.records)
          ∙ take_before (λ (c : Closing). answer.closing) (closings_of a) last (length a.records - 1) (omega (arith, length-map a.records (λ (x : Record). x.closing)));
    }

-- the records with the answer carried out, by the last of them
module _ (answer : Answered) (rs before : List Record) (x : Record) (split : rs ≡ before ++ x ∷ []) where
  records_carried : changed_month (closed_by answer) (length rs) rs ≡ before ++ closed_by answer x ∷ []
  records_carried =
      let long : length rs ≡ length before + 1 = ap length split ∙ length_push before x in
      sym (changed_place (closed_by answer) rs (length rs) (length before) long) ∙ ap (changed_at (closed_by answer) (length before)) split ∙ changed_last (closed_by answer) before x (length before) refl

  month_before_last : of_month rs (length rs - 1) ≡ of_month before (length before)
  month_before_last =
      let place : length rs - 1 ≡ length before = omega (arith, ap length split, length_push before x) in
      (λ i. of_month (split i) (place i)) ∙ of_month_before before (x ∷ []) (length before) (omega arith)

  standings_carried : StandingsLeft rs → answer.standing ≡ standing_after (left_by (of_month rs (length rs - 1))) answer.closing
      → StandingsLeft (changed_month (closed_by answer) (length rs) rs)
  standings_carried left judged =
      let stood = left_before_last before x (subst StandingsLeft split left) in
      subst StandingsLeft (sym records_carried) (left_with_last before (closed_by answer x) stood (judged ∙ ap (λ b. standing_after (left_by b) answer.closing) month_before_last))

  last_carried : (earlier : List Record) (last : Record) → changed_month (closed_by answer) (length rs) rs ≡ earlier ++ last ∷ []
      → last.closing ≡ answer.closing
  last_carried earlier last e = ap (λ (r : Record). r.closing) (sym (same_from_push before earlier (closed_by answer x) last (sym records_carried ∙ e)).1)

module _ (row : List Meaning) (o : OpeningNumbers) (ps : List Posting) (a : Account) (m : Figures) (file : List ℕ) (r : Reconciled row o ps a) (placed : has_place Amendment m.month (length a.months) ≡ true) where
  abbrev settled_answer : Answered
  settled_answer = answer_now row (replaced m a)

  -- the months that then stand
  abbrev months_now : List Figures
  months_now = changed_month (λ _. m) m.month a.months

  as_many : length months_now ≡ length a.months
  as_many = length_changed (λ _. m) m.month a.months

  -- the amendment as a posting
  abbrev amended : Posting
  amended = amendment file m (marks_of a) settled_answer

  counted_after : tally_of (settled_now row (replaced m a)) ≡ posted (tally_of a) amended
  counted_after =
      λ i. record { months = months_now; billed = a.billed; closings = closings_carried settled_answer a.records i; announced = settled_answer.rates }

  before_last : length a.records - 1 ≡ length months_now - 1
  before_last = omega (arith, r.recorded, as_many)

  left_by_tally : left_by (record_before_last a) ≡ standing_left (take (length months_now - 1) (changed_month (λ (c : Closing). settled_answer.closing) (length (closings_of a)) (closings_of a)))
  left_by_tally =
      let long = length-map a.records (λ (x : Record). x.closing) in
      let same = take_before (λ (c : Closing). settled_answer.closing) (closings_of a) (length (closings_of a)) (length months_now - 1) (omega (arith, long, before_last)) in
      r.standings (length a.records - 1) (omega arith) ∙ ap standing_left (ap (λ k. take k (closings_of a)) before_last ∙ sym same)

  barred_by_marks : is_barred (record_before_last a) ≡ barred_by (marks_of a) (length months_now)
  barred_by_marks = bar_by_marks a.records (length a.records - 1) ∙ ap (λ k. not_filed (of_month (marks_of a) k)) before_last

  ruled : Valid m → FitForEach row m → ByRule row o (tally_of a) amended
  ruled valid fit = record {
    valid = valid;
    fit = fit;
    placed = placed;
    marks = length-map a.records (λ (x : Record). x.mark) ∙ r.recorded;
    answer = λ i. settled row (r.spread i) (r.balances i) months_now a.billed (left_by_tally i) (barred_by_marks i);
  }

  accepts_amendment : Valid m → FitForEach row m → file ≡ file_of m → AcceptsPosting row o a amended (settled_now row (replaced m a))
  accepts_amendment valid fit is =
      let stands = standing_month m.month (length a.months) placed in
      let split = last_of a.records (omega (arith, stands.0, stands.1, r.recorded)) in
      record {
        spread = refl;
        balances = refl;
        recorded = length_changed (closed_by settled_answer) (length a.records) a.records ∙ r.recorded ∙ sym as_many;
        counted = counted_after;
        standings = standings_carried settled_answer a.records split.0 split.1 split.2 r.standings refl;
        closed = last_carried settled_answer a.records split.0 split.1 split.2;
        file = is;
        by_rule = ruled valid fit;
      }

  amendment_reconciled : Valid m → FitForEach row m → file ≡ file_of m → Reconciled row o (ps ++ amended ∷ []) (settled_now row (replaced m a))
  amendment_reconciled valid fit is = posting_reconciled row o ps a r amended (settled_now row (replaced m a)) (accepts_amendment valid fit is)

-- a month stands where one was replaced
pub some_replaced : (row : List Meaning) (before after : Option Account) (m : Figures)
    → first_no (posting_asked Amendment row before m) ≡ None → Replaces before after m → SomeMonth after
some_replaced row None after m clear replaces = absurd replaces
some_replaced row (Some a) after m clear replaces =
    let stands = standing_month m.month (length a.months) (all_yes (posting_asked Amendment row (Some a) m) clear).0 in
    let some : 1 ≤ length (changed_month (λ _. m) m.month a.months) = omega (arith, stands.0, stands.1, length_changed (λ _. m) m.month a.months) in
    subst SomeMonth (sym replaces) some

-- a book that has the figures of an accepted file and was then settled has a month amended
pub amends : (row : List Meaning) (file : List ℕ) (read : Month) (before between after : Option Account) (answer : Answered) (month : ℕ)
    → Accepted file read → first_no (posting_asked Amendment row before (figures read)) ≡ None → Replaces before between (figures read)
    → SettlesNow row between after answer → month ≡ (figures read).month → Amended row before after file answer month
amends row file read None between after answer month accepted clear replaces settles is = absurd replaces
amends row file read (Some a) between after answer month accepted clear replaces settles is =
    let now = subst (λ x. SettlesNow row x after answer) replaces settles in
    record {
      account = a;
      open_before = refl;
      stated = figures read;
      valid = accepted.valid;
      file_states = accepted.is;
      asked = clear;
      book = now.1;
      answer_is = now.0;
      month_is = is;
    }

module _ (row : List Meaning) (before after : Option Account) (file : List ℕ) (answer : Answered) (month : ℕ) (s : Amended row before after file answer month) where
  pub amended_keeps : AmendmentKeepsBook month before after
  amended_keeps = rw (s.open_before, s.book, s.month_is) (keeps row s.account s.stated)

  -- the book of which a month was amended agrees with the tally that counts the file
  pub amended_reconciled : (o : OpeningNumbers) (ps more : List Posting) → BookReconciled row o ps before
      → Posts Amendment file (marks_told before) answer ps more → BookReconciled row o more after
  amended_reconciled o ps more r posts =
      let held = subst (BookReconciled row o ps) s.open_before r in
      let clear = subst (λ x. first_no (posting_asked Amendment row x s.stated) ≡ None) s.open_before s.asked in
      let yes = all_yes (posting_asked Amendment row (Some s.account) s.stated) clear in
      let same = file_same s.stated posts.stated (sym s.file_states ∙ posts.states) in
      rw (posts.more, s.open_before, s.book, s.answer_is, ← same) (amendment_reconciled row o ps s.account s.stated file held yes.0 s.valid (fit_for_each row s.stated yes.1) s.file_states)
