-- A month that is taken can be settled after those that stand.
use Rattle.std.proofs.Common.{◌≡◌, ◌<◌, List, [], ◌∷◌, ◌++◌, map, length, Option, Some, None, sym, subst, arith}
use Rattle.std.specs.List.{All}
use Rattle.std.proofs.lemmas.List.{length_push}
use Rattle.bounded.specs.declared.up_to.UpTo.{UpTo}
use Rattle.charges.specs.Meaning.{Meaning, Lawful}
use Rattle.fields.specs.Questions.{first_no}
use Rattle.month.specs.Figures.{Figures}
use Rattle.month.specs.Validity.{month_valid}
use Rattle.month.specs.View.{figures}
use Rattle.month.specs.declared.month.Month.{Month}
use Rattle.settlement.specs.Settling.{Answered, EachSettleable, opening_units}
use Rattle.settlement.specs.declared.amounts.Rate.{Rate}
use Rattle.settlement.specs.declared.record.Record.{Record}
use Rattle.book.specs.Account.{account_of, held_by}
use Rattle.book.specs.Entering.{AnswersTo, answer_to}
use Rattle.book.specs.Postings.{posting_asked}
use Rattle.book.specs.Sound.{Sound}
use Rattle.book.specs.declared.kind.PostingKind.TheVariants.{Entry}
use Rattle.book.specs.declared.opened.Opened.{Opened}
use Rattle.book.proofs.Added.{months_added, room_for_month}
use Rattle.book.proofs.Admits.{admits, next_month}
use Rattle.book.proofs.Fits.{fit_lawfully, months_of}

-- there is room for the month, and the answers of all mechanisms keep the law
pub record Settles (row : List Meaning) (o : Opened) (months : List Month) (billed : List (UpTo Rate 8)) (m : Month) : Type 0 where
  pub room : length months < 36
  pub room_billed : length billed < 36
  pub lawful : EachSettleable row (length (opening_units o.terms.balances)) (map figures months ++ figures m ∷ [])

module _ (row : List Meaning) {opened : Option Opened} (o : Opened) (months : List Month) (billed : List (UpTo Rate 8)) (records : List Record) (is : opened ≡ Some o) where
  pub settles : (m : Month) → All Lawful row → Sound row opened months billed records
      → first_no (posting_asked Entry row (held_by opened months billed records) (figures m)) ≡ None → Settles row o months billed m
  settles m laws sound clear =
      let sound_open = subst (λ (x : Option Opened). Sound row x months billed records) is sound in
      let clear_open = subst (λ (x : Option Opened). first_no (posting_asked Entry row (held_by x months billed records) (figures m)) ≡ None) is clear in
      let known = admits Entry row o months billed records (figures m) clear_open in
      let follows = next_month (figures m).month (length months) known.placed in
      let limit = (month_valid m).within.month_most in
      let ms = map figures months in
      let stand = months_added row months m (months_of row (Some o) months billed records sound_open) known in
      let room = room_for_month row months m o billed records is sound clear in
      record {
        room = room.0;
        room_billed = room.1;
        lawful = fit_lawfully row (ms ++ figures m ∷ []) stand laws (length (opening_units o.terms.balances)) (sym sound_open.suits) (omega (arith, length_push ms (figures m)));
      }

  -- an answer of the open book is one of the book
  pub answers_held : (m : Figures) (answer : Answered) → answer ≡ answer_to row (account_of o months billed records) m
      → AnswersTo row (held_by opened months billed records) m answer
  answers_held m answer answers = subst (λ (x : Option Opened). AnswersTo row (held_by x months billed records) m answer) (sym is) answers
