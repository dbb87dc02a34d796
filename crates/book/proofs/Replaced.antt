-- What a month keeps that stands in place of the one under its number.
use Rattle.std.proofs.Common.{◌≡◌, ℕ, suc, ◌-◌, true, List, map, length, get_or, set, Option, Some, None, ap, sym, ◌∙◌, arith}
use Rattle.std.proofs.lemmas.Bool.{false≢true}
use Rattle.std.proofs.lemmas.List.{length-set, map-set, set-get_or}
use Rattle.std.proofs.lemmas.List.Elements.{All-set}
use Rattle.bounded.specs.declared.up_to.UpTo.{UpTo}
use Rattle.charges.specs.Meaning.{Meaning}
use Rattle.fields.specs.Questions.{first_no}
use Rattle.fields.proofs.Asked.{all_yes}
use Rattle.month.specs.declared.month.Month.{Month}
use Rattle.month.specs.Valid.{Valid}
use Rattle.month.specs.Validity.{month_valid}
use Rattle.month.specs.View.{figures}
use Rattle.schedule.specs.Rows.{numbered}
use Rattle.settlement.specs.Numbers.{by_number}
use Rattle.settlement.specs.declared.amounts.Rate.{Rate}
use Rattle.settlement.specs.declared.record.Record.{Record}
use Rattle.settlement.proofs.Numbers.{index-by_number}
use Rattle.book.specs.Account.{account_of, held_by}
use Rattle.book.specs.Amending.{Replaces}
use Rattle.book.specs.Places.{changed_month}
use Rattle.book.specs.Postings.{posting_asked}
use Rattle.book.specs.Sound.{Sound, AllFit}
use Rattle.book.specs.declared.kind.PostingKind.TheVariants.{Amendment}
use Rattle.book.specs.declared.opened.Opened.{Opened}
use Rattle.book.proofs.Admits.{Admits, admits, standing_month}
use Rattle.book.proofs.Changed.{set_constant, changed_place}

-- the number that a month states
abbrev number : Month → ℕ
number m = (figures m).month

-- the month is written at the place of its number
module _ (row : List Meaning) (months : List Month) (m : Month) (n : ℕ) (at : n ≡ (figures m).month - 1) where
  figures_replaced : Admits Amendment row (length months) (figures m)
      → map figures (set months n m) ≡ changed_month (λ _. figures m) (figures m).month (map figures months)
  figures_replaced admitted =
      let stands = standing_month (figures m).month (length months) admitted.placed in
      map-set figures months n m ∙ set_constant (map figures months) n (figures m) ∙ changed_place (λ _. figures m) (map figures months) (figures m).month n (omega arith)

  all_fit_replaced : AllFit row (map figures months) → Admits Amendment row (length months) (figures m) → AllFit row (map figures (set months n m))
  all_fit_replaced fit admitted i inside =
      rw (map-set figures months n m) (All-set (λ f. Valid f × ((numbered row i).fit f ≡ true)) (map figures months) n (figures m) (month_valid m, admitted.fit i inside) (fit i inside))

  -- the months stay in order
  in_order_replaced : map number months ≡ by_number suc (length months) → Admits Amendment row (length months) (figures m)
      → map number (set months n m) ≡ by_number suc (length (set months n m))
  in_order_replaced in_order admitted =
      let stands = standing_month (figures m).month (length months) admitted.placed in
      let same : number m ≡ get_or (map number months) n 0 = omega (arith, index-by_number suc (length months) n 0 (omega arith), ap (λ ns. get_or ns n 0) in_order) in
      map-set number months n m ∙ ap (set (map number months) n) same ∙ set-get_or (map number months) n 0 ∙ in_order ∙ ap (by_number suc) (sym (length-set months n m))

  -- a sound book is sound with the month in place of the one that stood
  pub sound_with_replaced : (opened : Option Opened) (billed : List (UpTo Rate 8)) (records : List Record)
      → Sound row opened months billed records
      → first_no (posting_asked Amendment row (held_by opened months billed records) (figures m)) ≡ None
      → Sound row opened (set months n m) billed records
  sound_with_replaced None billed records sound clear = absurd (false≢true (all_yes (posting_asked Amendment row None (figures m)) clear).0)
  sound_with_replaced (Some o) billed records sound clear =
      let admitted = admits Amendment row o months billed records (figures m) clear in
      let long = length-set months n m in
      record {
        few = omega (arith, sound.few);
        all_billed = sound.all_billed ∙ sym long;
        all_recorded = sound.all_recorded ∙ sym long;
        in_order = in_order_replaced sound.in_order admitted;
        fit = all_fit_replaced sound.fit admitted;
        suits = sound.suits;
      }

  pub replaces : (opened : Option Opened) (billed : List (UpTo Rate 8)) (records : List Record)
      → first_no (posting_asked Amendment row (held_by opened months billed records) (figures m)) ≡ None
      → Replaces (held_by opened months billed records) (held_by opened (set months n m) billed records) (figures m)
  replaces None billed records clear = absurd (false≢true (all_yes (posting_asked Amendment row None (figures m)) clear).0)
  replaces (Some o) billed records clear =
      let admitted = admits Amendment row o months billed records (figures m) clear in
      ap (λ ms. Some (record (account_of o months billed records) { months = ms })) (figures_replaced admitted)
