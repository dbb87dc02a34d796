-- Question 15, and what a book holds that was just opened.
use Rattle.std.proofs.Common.{◌≡◌, ℕ, Bool, true, false, not, List, [], ◌∷◌, ◌++◌, length, pos, Option, Some, None, refl, ap, sym, ◌∙◌}
use Rattle.std.proofs.Common.{subst, rules, arith}
use Rattle.std.specs.Option.{is_some}
use Rattle.std.proofs.lemmas.Bool.Decides.{nat_tests}
use Rattle.std.proofs.lemmas.Bool.{false≢true}
use Rattle.std.proofs.lemmas.List.{length-map, nil_from_length}
use Rattle.bounded.specs.declared.up_to.UpTo.{UpTo}
use Rattle.charges.specs.Meaning.{Meaning}
use Rattle.fields.specs.Questions.{first_no, carried}
use Rattle.fields.proofs.Asked.{all_yes, carried_some}
use Rattle.month.specs.declared.month.Month.{Month}
use Rattle.schedule.specs.Rows.{told}
use Rattle.settlement.specs.Settling.{opening_units}
use Rattle.settlement.specs.declared.amounts.Rate.{Rate}
use Rattle.settlement.specs.declared.record.Record.{Record}
use Rattle.book.specs.Account.{Account, account_of, held_by}
use Rattle.book.specs.Opening.{is_closed, is_count, Given, opening_asked, numbers_of, newly_opened, Opens, NotOpened}
use Rattle.book.specs.Reconciled.{Reconciled}
use Rattle.book.specs.Refusals.{book_refusal}
use Rattle.book.specs.Sound.{Sound}
use Rattle.book.specs.declared.fault.BookFault.TheVariants.{Opening as NotOpen}
use Rattle.book.specs.declared.fault.OpeningFault.{OpeningFault}
use Rattle.book.specs.declared.opened.Opened.{Opened}

-- a count as it is told is asked about as the count itself
is_count-told : (n rates balances : ℕ) → is_count (told n) rates balances ≡ is_count n rates balances
is_count-told n rates balances = grind (arith, nat_tests)

-- as many rates and balances as mechanisms
counted : (n rates balances : ℕ) → is_count n rates balances ≡ true → (rates ≡ n) × (balances ≡ n)
counted n rates balances e = grind (arith, nat_tests)

-- what a yes to question 15 says
record AllYes (n : ℕ) (before : Option Account) (g : Given) : Type 0 where
  none : first_no (opening_asked n before g) ≡ None
  each_rate : length g.rates ≡ n
  each_balance : length g.balances ≡ n
  closed : is_closed before ≡ true

-- asked of a count as it is told, question 15 is answered as of the count itself
module _ (n told_n : ℕ) (before : Option Account) (g : Given) (is_told : told_n ≡ told n) where
  asked_as_told : opening_asked told_n before g ≡ opening_asked n before g
  asked_as_told = rw (is_told, is_count-told n (length g.rates) (length g.balances)) refl

  all_yes_of : first_no (opening_asked told_n before g) ≡ None → AllYes n before g
  all_yes_of is =
      let yes = all_yes (opening_asked n before g) (ap first_no (sym asked_as_told) ∙ is) in
      let count = counted n (length g.rates) (length g.balances) yes.1.1.1.0 in
      record {
        none = ap first_no (sym asked_as_told) ∙ is;
        each_rate = count.0;
        each_balance = count.1;
        closed = yes.1.1.1.1.0;
      }

  first_no_of : (e : OpeningFault) → first_no (opening_asked told_n before g) ≡ Some e → NotOpened n before g (NotOpen e)
  first_no_of e is =
      let first = carried_some NotOpen (opening_asked n before g) e (ap first_no (sym asked_as_told) ∙ is) in
      record { first = first; told = carried_some book_refusal (carried NotOpen (opening_asked n before g)) (NotOpen e) first }

-- `is_none` of what a book has opened tells whether it is closed
is_none_closed : (opened : Option Opened) (months : List Month) (billed : List (UpTo Rate 8)) (records : List Record) (flag : Bool)
    → is_some opened ≡ not flag → flag ≡ is_closed (held_by opened months billed records)
is_none_closed None months billed records true e = refl
is_none_closed None months billed records false e = cc
is_none_closed (Some o) months billed records true e = cc
is_none_closed (Some o) months billed records false e = refl

-- a closed book has no month
closed_empty : (row : List Meaning) (opened : Option Opened) (months : List Month) (billed : List (UpTo Rate 8)) (records : List Record)
    → is_closed (held_by opened months billed records) ≡ true → Sound row opened months billed records
    → (months ≡ []) × (billed ≡ []) × (records ≡ [])
closed_empty row None months billed records e s = (nil_from_length months s.suits, nil_from_length billed (s.all_billed ∙ s.suits), nil_from_length records (s.all_recorded ∙ s.suits))
closed_empty row (Some o) months billed records e s = absurd (false≢true e)

not_empty : {X : Type 0} (xs : List X) (y : X) (zs : List X) → [] ≡ xs ++ y ∷ zs → ⊥
not_empty [] y zs e = cc
not_empty (x ∷ xs) y zs e = cc

-- a newly opened account agrees with the tally of no file
newly_reconciled : (row : List Meaning) (g : Given) → length g.rates ≡ length row → length g.balances ≡ length row
    → Reconciled row (numbers_of g) [] (newly_opened g)
newly_reconciled row g each_rate each_balance = record {
  spread = refl;
  balances = refl;
  mechanisms = (length-map g.rates pos ∙ each_rate, each_balance);
  recorded = refl;
  counted = refl;
  standings = λ n few. let none : n ≡ 0 = omega arith in rw none refl;
  closed = λ before r e. absurd (not_empty before r [] e);
  files = search rules;
  by_rule = λ earlier p later e. absurd (not_empty earlier p later e);
}

-- a book that was just opened over this row
pub record NewlyOpen (row : List Meaning) (before : Option Account) (o : Opened) (months : List Month) (billed : List (UpTo Rate 8)) (records : List Record) (g : Given) : Type 0 where
  pub sound : Sound row (Some o) months billed records
  pub opens : Opens (length row) before (Some (account_of o months billed records)) g
  pub reconciled : Reconciled row (numbers_of g) [] (account_of o months billed records)

-- without months, a book is sound over any row that has a mechanism for each opening balance
newly_sound : (row : List Meaning) (o : Opened) → length row ≡ length (opening_units o.terms.balances) → Sound row (Some o) [] [] []
newly_sound row o suits = record {
  few = search rules;
  all_billed = refl;
  all_recorded = refl;
  in_order = refl;
  fit = λ i below. search rules;
  suits = suits;
}

open_where_empty : {months : List Month} {billed : List (UpTo Rate 8)} {records : List Record} (row : List Meaning) (before : Option Account) (o : Opened) (g : Given)
    → (months ≡ []) × (billed ≡ []) × (records ≡ []) → AllYes (length row) before g → account_of o [] [] [] ≡ newly_opened g
    → NewlyOpen row before o months billed records g
open_where_empty row before o g empty asked made = rw (empty.0, empty.1, empty.2) (record {
  sound = newly_sound row o (sym (ap (λ (x : Account). length x.balances) made ∙ asked.each_balance));
  opens = record { asked = asked.none; book = ap Some made };
  reconciled = subst (Reconciled row (numbers_of g) []) (sym made) (newly_reconciled row g asked.each_rate asked.each_balance);
})

-- a sound book is asked question 15 for the row that it would then have, which may be any: a closed book has no month that must be fit
module _ {row : List Meaning} {opened : Option Opened} {months : List Month} {billed : List (UpTo Rate 8)} {records : List Record} {count : ℕ} {closed : Bool}
    (next : List Meaning)
    (g : Given)
    (sound : Sound row opened months billed records)
    (is_told : count ≡ told (length next))
    (is_none : is_some opened ≡ not closed)
  where
    pub not_opened : (e : OpeningFault)
        → ((account : Option Account) → closed ≡ is_closed account → first_no (opening_asked count account g) ≡ Some e)
        → NotOpened (length next) (held_by opened months billed records) g (NotOpen e)
    not_opened e refuses = first_no_of (length next) count _ g is_told e (refuses _ (is_none_closed opened months billed records closed is_none))

    pub now_open : (o : Opened)
        → ((account : Option Account) → closed ≡ is_closed account → (first_no (opening_asked count account g) ≡ None) × (account_of o [] [] [] ≡ newly_opened g))
        → NewlyOpen next (held_by opened months billed records) o months billed records g
    now_open o accepts =
        let accepted = accepts _ (is_none_closed opened months billed records closed is_none) in
        let asked = all_yes_of (length next) count _ g is_told accepted.0 in
        open_where_empty next _ o g (closed_empty row opened months billed records asked.closed sound) asked accepted.1
