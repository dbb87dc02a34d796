-- The months that stand can be settled, and a write to the last record carries the answer out.
use Rattle.std.proofs.Common.{◌≡◌, ℕ, ◌+◌, ◌-◌, ◌≤◌, List, map, length, get_or, set, Option, Some, None, ap, sym, ◌∙◌, subst, arith}
use Rattle.std.specs.List.{All}
use Rattle.std.proofs.lemmas.List.{length-map}
use Rattle.bounded.specs.declared.up_to.UpTo.{UpTo}
use Rattle.charges.specs.Meaning.{Meaning, Lawful}
use Rattle.month.specs.View.{figures}
use Rattle.month.specs.declared.month.Month.{Month}
use Rattle.settlement.specs.Settling.{answered, settled, left_by, units_of, opening_units, EachSettleable}
use Rattle.settlement.specs.Corrections.{is_barred}
use Rattle.settlement.specs.declared.amounts.Rate.{Rate}
use Rattle.settlement.specs.declared.answer.Answer.{Answer}
use Rattle.settlement.specs.declared.record.Record.{Record}
use Rattle.book.specs.Account.{account_of, held_by}
use Rattle.book.specs.Amending.{SomeMonth, SettlesNow, answer_now, carried_out, closed_by}
use Rattle.book.specs.Places.{of_month, changed_month}
use Rattle.book.specs.Sound.{Sound}
use Rattle.book.specs.declared.opened.Opened.{Opened}
use Rattle.book.proofs.Changed.{set_changed, changed_place}
use Rattle.book.proofs.Fits.{fit_lawfully, months_of}

module _ (row : List Meaning) (months : List Month) (billed : List (UpTo Rate 8)) (records : List Record) where
  -- a month stands, and has a record
  pub some_recorded : (opened : Option Opened) → Sound row opened months billed records → SomeMonth (held_by opened months billed records)
      → 1 ≤ length records
  some_recorded None sound some = absurd some
  some_recorded (Some o) sound some = omega (arith, some, sound.all_recorded, length-map months figures)

  pub settles_now : {opened : Option Opened} (o : Opened) → opened ≡ Some o → All Lawful row → Sound row opened months billed records
      → SomeMonth (held_by opened months billed records) → EachSettleable row (length (opening_units o.terms.balances)) (map figures months)
  settles_now o is laws sound some =
      let sound_open = subst (λ (x : Option Opened). Sound row x months billed records) is sound in
      let some_open = subst (λ (x : Option Opened). SomeMonth (held_by x months billed records)) is some in
      fit_lawfully row (map figures months) (months_of row (Some o) months billed records sound_open) laws (length (opening_units o.terms.balances)) (sym sound_open.suits) some_open

  -- of the record r that is read only the mark stays
  pub settled_by_write : (o : Opened) (last : ℕ) (r : Record) (before : Option Record) (answer : Answer) → length records ≡ last + 1
      → r ≡ get_or records last r → before ≡ of_month records last
      → answered answer ≡ settled row o.terms.spread.months (opening_units o.terms.balances) (map figures months) (map units_of billed) (left_by before) (is_barred before)
      → SettlesNow row (Some (account_of o months billed records)) (Some (account_of (record o { announced = answer.rates }) months billed (set records last (record { closing = answer.closing; mark = r.mark; standing = answer.standing })))) (answered answer)
  settled_by_write o last r before answer long read before_is answer_is =
      let a = account_of o months billed records in
      let put = closed_by (answered answer) in
      let before_last : before ≡ of_month records (length records - 1) = before_is ∙ ap (of_month records) (omega arith) in
      let answers : answered answer ≡ answer_now row a = answer_is ∙ ap (λ b. settled row a.spread a.balances a.months a.billed (left_by b) (is_barred b)) before_last in
      let written : set records last (put r) ≡ changed_month put (length records) records = set_changed put records last r read ∙ changed_place put records (length records) last long in
      (answers, ap (λ rs. Some (account_of (record o { announced = answer.rates }) months billed rs)) written ∙ ap (λ x. Some (carried_out x a)) answers)
