-- The facts of a book that agrees with the tally of its postings.
use Rattle.std.proofs.Common.{◌≡◌, ℕ, suc, ◌<◌, List, [], ◌∷◌, ◌++◌, map, length, All, Option, Some, None, ap, sym, ◌∙◌, subst, ℤ, pos}
use Rattle.std.proofs.Common.{slice_get, slice_index_or, arith}
use Rattle.std.specs.Option.{option_map, option_and_then}
use Rattle.std.proofs.lemmas.Int.{ints}
use Rattle.std.proofs.lemmas.List.{length-map, take_all}
use Rattle.std.proofs.lemmas.Option.{slice_get-get_or, slice_get_past}
use Rattle.bounded.specs.declared.up_to.UpTo.{UpTo}
use Rattle.charges.specs.Meaning.{Meaning, Lawful}
use Rattle.month.specs.View.{figures}
use Rattle.month.specs.declared.month.Month.{Month}
use Rattle.monthfile.specs.Layout.{file_of}
use Rattle.schedule.specs.Rows.{numbered}
use Rattle.settlement.specs.Settling.{closing_now}
use Rattle.settlement.specs.Months.{AllLawful}
use Rattle.settlement.specs.Numbers.{by_number, int_sum}
use Rattle.settlement.specs.Rules.{outstanding, total, revenue}
use Rattle.settlement.specs.declared.amounts.Rate.{Rate}
use Rattle.settlement.specs.declared.record.Closing.{Closing}
use Rattle.settlement.specs.declared.record.Record.{Record}
use Rattle.settlement.specs.declared.standing.Standing.{Standing}
use Rattle.book.specs.Account.{Account, held_by, marks_of, closings_of, standing_of}
use Rattle.book.specs.Facts.{InForceWhenDue, SumsAddUp, ToldAsCounted, Counted, Facts, read_of}
use Rattle.book.specs.Opening.{OpeningNumbers}
use Rattle.book.specs.Places.{of_month}
use Rattle.book.specs.Reconciled.{Reconciled, BookReconciled, standing_left}
use Rattle.book.specs.Sound.{Sound}
use Rattle.book.specs.Sums.{opening_balance, balance}
use Rattle.book.specs.Tally.{Posting, Tally, tally}
use Rattle.book.specs.declared.opened.Opened.{Opened}
use Rattle.book.proofs.Corrections.{left_correcting}
use Rattle.book.proofs.Fits.{fit_all_lawful, months_of}
use Rattle.book.proofs.Lengths.{tally_as_long}
use Rattle.book.proofs.Marks.{last_read}
use Rattle.book.proofs.OfMonth.{of_month_map}
use Rattle.book.proofs.Rounding.{rest_bounded}
use Rattle.book.proofs.Ruled.{each_answered, each_counted, tally_rated}
use Rattle.book.proofs.Sums.{outstanding_is_balance}

module _ (row : List Meaning) (o : OpeningNumbers) (ps : List Posting) (a : Account) (r : Reconciled row o ps a) where
  abbrev counted : Tally
  counted = tally o ps

  -- what is outstanding of mechanism i, by the tally
  abbrev outstanding_by_tally : ℕ → ℤ
  outstanding_by_tally i = outstanding (numbered row i) i (opening_balance o i) counted.months counted.billed

  as_many : length a.balances ≡ length row
  as_many = ap length r.balances ∙ r.mechanisms.1

  tells : (i : ℕ) → i < length row
      → option_map (λ opening. outstanding (numbered row i) i opening a.months a.billed) (slice_get a.balances i) ≡ Some (outstanding_by_tally i)
  tells i inside =
      ap (option_map (λ opening. outstanding (numbered row i) i opening a.months a.billed)) (slice_get-get_or a.balances i (pos 0) (omega (arith, as_many)))
      ∙ (λ j. Some (outstanding (numbered row i) i (slice_index_or (r.balances j) i (pos 0)) (r.counted j).months (r.counted j).billed))

  all_due : total row a.balances a.months a.billed ≡ int_sum (by_number outstanding_by_tally (length row))
  all_due = (λ j. total row (r.balances j) (r.counted j).months (r.counted j).billed) ∙ ap (λ n. int_sum (by_number outstanding_by_tally n)) r.mechanisms.1

  -- the last closing figures are those of the months as they stand
  last_closing : (before : List Closing) (c : Closing) → counted.closings ≡ before ++ c ∷ [] → c ≡ closing_now row a.balances a.months a.billed
  last_closing before c is =
      let last = last_read (λ (x : Record). x.closing) a.records before c (ap (λ t. t.closings) r.counted ∙ is) in
      sym last.3 ∙ r.closed last.0 last.1 last.2

  standing_is : standing_of a ≡ standing_left counted.closings
  standing_is =
      r.standings (length a.records) (omega arith)
      ∙ ap standing_left (take_all (length a.records) (closings_of a) (omega (arith, length-map a.records (λ (x : Record). x.closing))) ∙ ap (λ t. t.closings) r.counted)

  balanced : (i : ℕ) → outstanding_by_tally i ≡ balance row o counted i
  balanced i = outstanding_is_balance row o counted i

  what_was_counted : map (λ m. m.month) a.months ≡ by_number suc (length a.months) → Counted row o ps counted
  what_was_counted in_order =
      let rated = tally_rated row o r.mechanisms.1 r.mechanisms.0 ps r.by_rule in
      record {
        postings = each_counted row o ps r.files r.by_rule;
        in_order = subst (λ (t : Tally). map (λ m. m.month) t.months ≡ by_number suc (length t.months)) r.counted in_order;
        all_billed = (tally_as_long o ps).billed;
        all_closed = (tally_as_long o ps).closings;
        opening_balances = r.mechanisms.1;
        starting_rates = r.mechanisms.0;
        billed_rates = rated.billed;
        announced_rates = rated.announced;
      }

  told_as_counted : ToldAsCounted row counted outstanding_by_tally (read_of row (Some a))
  told_as_counted = record {
    outstanding_of_each = tells;
    outstanding_of_no_other = λ i past. ap (option_map (λ opening. outstanding (numbered row i) i opening a.months a.billed)) (slice_get_past a.balances i (omega (arith, as_many)));
    announced = λ i. ap (λ t. slice_get t.announced i) r.counted;
    billed = λ month i. ap (λ t. option_and_then (λ rates. slice_get rates i) (of_month t.billed month)) r.counted;
    file = λ month. ap (λ t. option_map file_of (of_month t.months month)) r.counted;
    closing = λ month. sym (of_month_map (λ (x : Record). x.closing) a.records month) ∙ ap (λ t. of_month t.closings month) r.counted;
    marks = marks_of a;
    all_marked = length-map a.records (λ (x : Record). x.mark) ∙ r.recorded ∙ ap (λ t. length t.months) r.counted;
    mark = λ month. sym (of_month_map (λ (x : Record). x.mark) a.records month);
  }

  sums_add_up : SumsAddUp row counted outstanding_by_tally (Some (total row a.balances a.months a.billed))
  sums_add_up = record {
    total = ap Some all_due;
    closing_total = λ before c is. ap (λ x. x.total) (last_closing before c is) ∙ all_due;
    closing_revenue = λ before c is. ap (λ x. x.revenue) (last_closing before c is) ∙ ap (λ n. revenue row n a.months) as_many ∙ ap (λ t. revenue row (length row) t.months) r.counted;
  }

  pub facts : map (λ m. m.month) a.months ≡ by_number suc (length a.months)
      → ((i : ℕ) → i < length row → AllLawful (numbered row i) a.months) → Facts row o ps (read_of row (Some a))
  facts in_order lawful = record {
    outstanding = outstanding_by_tally;
    balances = λ i inside. let due = balanced i in omega (arith, ints, due);
    sums = sums_add_up;
    rounding = λ i inside. rest_bounded row counted i (subst (λ (t : Tally). AllLawful (numbered row i) t.months) r.counted (lawful i inside)) o outstanding_by_tally (balanced i);
    correction = subst (λ (s : Standing). InForceWhenDue counted.closings s) (sym standing_is) (left_correcting counted.closings);
    answers = each_answered row o r.mechanisms.1 ps r.by_rule;
    told = told_as_counted;
    counted = what_was_counted in_order;
  }

-- a book that keeps what every book keeps, over lawful mechanisms
pub book_facts : (row : List Meaning) (opened : Option Opened) (months : List Month) (billed : List (UpTo Rate 8)) (records : List Record)
    → All Lawful row → Sound row opened months billed records → (o : OpeningNumbers) (ps : List Posting)
    → BookReconciled row o ps (held_by opened months billed records) → Facts row o ps (read_of row (held_by opened months billed records))
book_facts row None months billed records laws sound o ps r = absurd r
book_facts row (Some x) months billed records laws sound o ps r =
    let stand = months_of row (Some x) months billed records sound in
    facts row o ps _ r stand.in_order (fit_all_lawful row (map figures months) stand laws)
