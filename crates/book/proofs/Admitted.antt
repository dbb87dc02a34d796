-- Which files the book takes.
use Rattle.std.proofs.Common.{◌≡◌, ℕ, List, length, Option, Some, None, true, false, sym, ap, ◌∙◌, subst, arith}
use Rattle.std.proofs.lemmas.List.{length-map}
use Rattle.bounded.specs.declared.up_to.UpTo.{UpTo}
use Rattle.charges.specs.Meaning.{Meaning}
use Rattle.fields.specs.Questions.{first_no, carried}
use Rattle.fields.proofs.Asked.{first_no_after, first_no_stop, carried_none, carried_some, some_none}
use Rattle.month.specs.declared.fault.MonthFault.{MonthFault}
use Rattle.month.specs.declared.fault.MonthFault.TheVariants.{File}
use Rattle.month.specs.declared.month.Month.{Month}
use Rattle.month.specs.Asked.{month_asked}
use Rattle.month.specs.Figures.{Figures}
use Rattle.month.specs.Valid.{Valid}
use Rattle.month.specs.Validity.{yes_from_valid}
use Rattle.month.specs.View.{figures}
use Rattle.monthfile.specs.Layout.{file_of}
use Rattle.monthfile.specs.Questions.{file_asked, asked}
use Rattle.monthfile.specs.Reading.{Accepted, Refused, States}
use Rattle.monthfile.proofs.Exact.{file_same}
use Rattle.monthfile.proofs.Sound.{asked_none}
use Rattle.settlement.specs.Settling.{opening_units}
use Rattle.settlement.specs.declared.amounts.Rate.{Rate}
use Rattle.settlement.specs.declared.record.Record.{Record}
use Rattle.book.specs.Account.{Account, held_by}
use Rattle.book.specs.Postings.{has_place, is_placed, fit_asked, posting_asked, all_asked, PostingRefused}
use Rattle.book.specs.Sound.{Sound}
use Rattle.book.specs.Refusals.{book_refusal}
use Rattle.book.specs.declared.fault.BookFault.{BookFault}
use Rattle.book.specs.declared.fault.BookFault.TheVariants.{Month as InMonth, WrongMonth}
use Rattle.book.specs.declared.kind.PostingKind.{PostingKind}
use Rattle.book.specs.declared.opened.Opened.{Opened}

-- of a valid month's file questions 1 to 11 are answered yes
file_clear : (file : List ℕ) (m : Figures) → Valid m → file ≡ file_of m → first_no (asked file m) ≡ None
file_clear file m valid is =
    first_no_after (carried File (file_asked file)) (month_asked m) (carried_none File (file_asked file) (asked_none file m valid.counted is)) ∙ yes_from_valid m valid

module _ (kind : PostingKind) (row : List Meaning) (account : Option Account) (file : List ℕ) where
  refused_as : (m : Figures) (e : BookFault) → (first_no (file_asked file) ≡ None → States file m)
      → first_no (all_asked kind row account file m) ≡ Some e → PostingRefused kind row account file e
  refused_as m e states first = record { asked_of = m; states = states; first = first; told = carried_some book_refusal (all_asked kind row account file m) e first }

  -- a file that states no month
  pub no_month : (e : MonthFault) → Refused file e → PostingRefused kind row account file (InMonth e)
  no_month e refused =
      let f = refused.asked_of in
      refused_as f (InMonth e) refused.states (first_no_stop (carried InMonth (asked file f)) (posting_asked kind row account f) (InMonth e) (carried_some InMonth (asked file f) e refused.first))

  -- a month that the book has no place for, or that a mechanism does not find fit
  pub month_refused : (m : Month) (e : BookFault) → Accepted file m → first_no (posting_asked kind row account (figures m)) ≡ Some e
      → PostingRefused kind row account file e
  month_refused m e accepted first =
      let f = figures m in
      let clear = carried_none InMonth (asked file f) (file_clear file f accepted.valid accepted.is) in
      refused_as f e (λ _. record { counted = accepted.valid.counted; is = accepted.is }) (first_no_after (carried InMonth (asked file f)) (posting_asked kind row account f) clear ∙ first)

  pub not_placed : (m : Month) → Accepted file m → is_placed kind account (figures m) ≡ false
      → PostingRefused kind row account file (WrongMonth (figures m).month)
  not_placed m accepted late = month_refused m (WrongMonth (figures m).month) accepted (grind arith)

  pub not_fit : (m : Month) (e : BookFault) → Accepted file m → is_placed kind account (figures m) ≡ true
      → first_no (fit_asked row (length row) (figures m)) ≡ Some e → PostingRefused kind row account file e
  not_fit m e accepted next first = month_refused m e accepted (grind arith)

  -- no file is refused of which all questions are answered yes
  pub none_refused : (m : Figures) (e : BookFault) → Valid m → file ≡ file_of m → first_no (posting_asked kind row account m) ≡ None
      → PostingRefused kind row account file e → ⊥
  none_refused m e valid is clear refused =
      let same = file_same refused.asked_of m (sym (refused.states (asked_none file m valid.counted is)).is ∙ is) in
      let before = carried_none InMonth (asked file m) (file_clear file m valid is) in
      let after = first_no_after (carried InMonth (asked file m)) (posting_asked kind row account m) before ∙ clear in
      some_none (sym refused.first ∙ ap (λ f. first_no (all_asked kind row account file f)) same ∙ after)

-- the same of an open book, by what it holds
module _ (kind : PostingKind) (row : List Meaning) (file : List ℕ) (m : Month) (accepted : Accepted file m) {opened : Option Opened} (o : Opened) (months : List Month) (billed : List (UpTo Rate 8)) (records : List Record) (is : opened ≡ Some o) where
  pub late_refused : (number standing : ℕ) → number ≡ (figures m).month → standing ≡ length months → has_place kind number standing ≡ false
      → PostingRefused kind row (held_by opened months billed records) file (WrongMonth number)
  late_refused number standing number_is standing_is late =
      let late_by_figures : is_placed kind (held_by (Some o) months billed records) (figures m) ≡ false = rw (length-map months figures, ← number_is, ← standing_is) late in
      let late_held : is_placed kind (held_by opened months billed records) (figures m) ≡ false = rw is late_by_figures in
      rw number_is (not_placed kind row (held_by opened months billed records) file m accepted late_held)

  pub unfit_refused : (number standing n : ℕ) (e : BookFault) → Sound row opened months billed records → number ≡ (figures m).month
      → standing ≡ length months → has_place kind number standing ≡ true → n ≡ length (opening_units o.terms.balances)
      → first_no (fit_asked row n (figures m)) ≡ Some e → PostingRefused kind row (held_by opened months billed records) file e
  unfit_refused number standing n e sound number_is standing_is next count first =
      let next_by_figures : is_placed kind (held_by (Some o) months billed records) (figures m) ≡ true = rw (length-map months figures, ← number_is, ← standing_is) next in
      let next_held : is_placed kind (held_by opened months billed records) (figures m) ≡ true = rw is next_by_figures in
      let sound_open = subst (λ (x : Option Opened). Sound row x months billed records) is sound in
      let all : n ≡ length row = count ∙ sym sound_open.suits in
      not_fit kind row (held_by opened months billed records) file m e accepted next_held (rw (← all) first)
