-- What a month that is added keeps.
use Rattle.std.proofs.Common.{◌≡◌, ℕ, suc, ◌+◌, ◌<◌, true, List, [], ◌∷◌, ◌++◌, map, length, Option, Some, None, sym, refl, ap, ◌∙◌, subst}
use Rattle.std.proofs.Common.{nat_eq, eq-eqb, arith}
use Rattle.std.proofs.lemmas.List.{length-map, length_push, map_push}
use Rattle.std.proofs.lemmas.List.Elements.{All-push}
use Rattle.bounded.specs.declared.up_to.UpTo.{UpTo}
use Rattle.charges.specs.Meaning.{Meaning}
use Rattle.fields.specs.Questions.{first_no}
use Rattle.month.specs.declared.month.Month.{Month}
use Rattle.month.specs.Valid.{Valid}
use Rattle.month.specs.Validity.{month_valid}
use Rattle.month.specs.View.{figures}
use Rattle.schedule.specs.Rows.{numbered}
use Rattle.settlement.specs.Settling.{opening_units}
use Rattle.settlement.specs.Numbers.{by_number}
use Rattle.settlement.specs.declared.amounts.Rate.{Rate}
use Rattle.settlement.specs.declared.record.Mark.TheVariants.{Pending}
use Rattle.settlement.specs.declared.rates.Terms.{Terms}
use Rattle.settlement.specs.declared.record.Record.{Record}
use Rattle.book.specs.Account.{held_by}
use Rattle.book.specs.Duties.{duty_asked, pends, is_pending}
use Rattle.book.specs.Postings.{posting_asked}
use Rattle.book.specs.Places.{of_month}
use Rattle.book.specs.Sound.{Sound, AllFit}
use Rattle.book.specs.declared.duty.Duty.{Duty}
use Rattle.book.specs.declared.kind.PostingKind.TheVariants.{Entry}
use Rattle.book.specs.declared.opened.Opened.{Opened}
use Rattle.book.proofs.Fits.{BookMonths}
use Rattle.book.proofs.Admits.{Admits, admits, next_month}
use Rattle.book.proofs.OfMonth.{of_month_added}

module _ (row : List Meaning) (months : List Month) (m : Month) where
  pub all_fit_added : AllFit row (map figures months) → ((i : ℕ) → i < length row → (numbered row i).fit (figures m) ≡ true)
      → AllFit row (map figures months ++ figures m ∷ [])
  all_fit_added fit fits i inside =
      All-push (λ f. Valid f × ((numbered row i).fit f ≡ true)) (map figures months) (figures m) (fit i inside) (month_valid m, fits i inside)

  -- the months of a book with the one that is taken
  pub months_added : BookMonths row (map figures months) → Admits Entry row (length months) (figures m)
      → BookMonths row (map figures months ++ figures m ∷ [])
  months_added before admitted =
      let ms = map figures months in
      let more : length (ms ++ figures m ∷ []) ≡ suc (length ms) = omega (arith, length_push ms (figures m)) in
      let number : (figures m).month ≡ suc (length ms) = omega (arith, next_month (figures m).month (length months) admitted.placed, length-map months figures) in
      record {
        few = omega (arith, more, number, (month_valid m).within.month_most);
        in_order = map_push (λ x. x.month) ms (figures m) ∙ (λ i. before.in_order i ++ number i ∷ []) ∙ ap (by_number suc) (sym more);
        fit = all_fit_added before.fit admitted.fit;
      }

  -- a sound book that is open is sound with one month more
  sound_added : (o next : Opened) (billed : List (UpTo Rate 8)) (records : List Record) (rates : UpTo Rate 8) (r : Record)
      → next.terms ≡ o.terms → Sound row (Some o) months billed records → Admits Entry row (length months) (figures m)
      → Sound row (Some next) (months ++ m ∷ []) (billed ++ rates ∷ []) (records ++ r ∷ [])
  sound_added o next billed records rates r terms sound admitted =
      let limit = (month_valid m).within.month_most in
      let follows = next_month (figures m).month (length months) admitted.placed in
      let number : (figures m).month ≡ suc (length months) = omega (arith, follows) in
      let more : length (months ++ m ∷ []) ≡ suc (length months) = omega (arith, length_push months m) in
      record {
        few = omega (arith, more, limit, follows);
        all_billed = omega (arith, sound.all_billed, length_push billed rates, length_push months m);
        all_recorded = omega (arith, sound.all_recorded, length_push records r, length_push months m);
        in_order = map_push (λ x. (figures x).month) months m ∙ (λ i. sound.in_order i ++ number i ∷ []) ∙ ap (by_number suc) (sym more);
        fit = rw (map_push figures months m) (all_fit_added sound.fit admitted.fit);
        suits = sound.suits ∙ ap (λ (t : Terms). length (opening_units t.balances)) (sym terms);
      }

  pub sound_with_month : {opened : Option Opened} (o next : Opened) (billed : List (UpTo Rate 8)) (records : List Record) (rates : UpTo Rate 8) (r : Record)
      → opened ≡ Some o → next.terms ≡ o.terms → Sound row opened months billed records
      → first_no (posting_asked Entry row (held_by opened months billed records) (figures m)) ≡ None
      → Sound row (Some next) (months ++ m ∷ []) (billed ++ rates ∷ []) (records ++ r ∷ [])
  sound_with_month o next billed records rates r is terms sound clear =
      let sound_open = subst (λ (x : Option Opened). Sound row x months billed records) is sound in
      let clear_open = subst (λ (x : Option Opened). first_no (posting_asked Entry row (held_by x months billed records) (figures m)) ≡ None) is clear in
      sound_added o next billed records rates r terms sound_open (admits Entry row o months billed records (figures m) clear_open)

  -- there is room for the month, its rates and its record
  pub room_for_month : {opened : Option Opened} (o : Opened) (billed : List (UpTo Rate 8)) (records : List Record) → opened ≡ Some o
      → Sound row opened months billed records
      → first_no (posting_asked Entry row (held_by opened months billed records) (figures m)) ≡ None
      → (length months < 36) × (length billed < 36) × (length records < 36)
  room_for_month o billed records is sound clear =
      let clear_open = subst (λ (x : Option Opened). first_no (posting_asked Entry row (held_by x months billed records) (figures m)) ≡ None) is clear in
      let known = admits Entry row o months billed records (figures m) clear_open in
      let follows = next_month (figures m).month (length months) known.placed in
      let limit = (month_valid m).within.month_most in
      (omega (arith, limit, follows), omega (arith, limit, follows, sound.all_billed), omega (arith, limit, follows, sound.all_recorded))

  -- filing would not refuse the duty of the month that was added
  pub owed_with_month : {opened : Option Opened} (o next : Opened) (billed billed_after : List (UpTo Rate 8)) (records records_after : List Record) (months_after : List Month) (r : Record) (duty : Duty)
      → opened ≡ Some o → next.number ≡ o.number → Sound row opened months billed records
      → first_no (posting_asked Entry row (held_by opened months billed records) (figures m)) ≡ None → records_after ≡ records ++ r ∷ []
      → r.mark ≡ Pending → duty.book ≡ o.number → duty.month ≡ (figures m).month
      → first_no (duty_asked (held_by (Some next) months_after billed_after records_after) duty) ≡ None
  owed_with_month o next billed billed_after records records_after months_after r duty is number sound clear records_is pending book month =
      let clear_open = subst (λ (x : Option Opened). first_no (posting_asked Entry row (held_by x months billed records) (figures m)) ≡ None) is clear in
      let known = admits Entry row o months billed records (figures m) clear_open in
      let follows = next_month (figures m).month (length months) known.placed in
      let place : duty.month ≡ length records + 1 = omega (arith, month, follows, sound.all_recorded) in
      let found : of_month records_after duty.month ≡ Some r = (λ i. of_month (records_is i) (place i)) ∙ of_month_added records r in
      let pends_now : pends (of_month records_after duty.month) ≡ true = ap pends found ∙ ap is_pending pending in
      let same : nat_eq duty.book next.number ≡ true = eq-eqb duty.book next.number (book ∙ sym number) in
      rw (same, pends_now) refl
