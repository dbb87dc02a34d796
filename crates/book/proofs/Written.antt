-- What writing a month answers, by what writing its file answers.
use Rattle.std.proofs.Common.{◌≡◌, ℕ, zero, suc, List, length, Option, Some, None, sym, refl, ap, ◌∙◌, arith}
use Rattle.std.specs.Prelude.{is_some}
use Rattle.std.proofs.lemmas.Bool.{cond-true}
use Rattle.std.proofs.lemmas.Option.{slice_get-map, slice_get_past}
use Rattle.std.specs.Option.{option_map}
use Rattle.bounded.specs.declared.up_to.UpTo.{UpTo}
use Rattle.fields.specs.Room.{room_asked, Wrote, Short}
use Rattle.fields.specs.declared.room.ShortBuffer.{ShortBuffer}
use Rattle.fields.proofs.Asked.{carried_none, carried_some}
use Rattle.month.specs.Validity.{month_valid}
use Rattle.month.specs.View.{figures}
use Rattle.month.specs.declared.month.Month.{Month}
use Rattle.monthfile.specs.Layout.{file_of}
use Rattle.settlement.specs.declared.amounts.Rate.{Rate}
use Rattle.settlement.specs.declared.record.Record.{Record}
use Rattle.book.specs.Account.{Account, held_by}
use Rattle.book.specs.Places.{of_month}
use Rattle.book.specs.Reading.{month_told, write_asked}
use Rattle.book.specs.Refusals.{book_refusal}
use Rattle.book.specs.Sound.{Sound}
use Rattle.book.specs.Writing.{WroteMonth, NotWritten}
use Rattle.book.specs.declared.fault.BookFault.TheVariants.{Buffer}
use Rattle.book.specs.declared.opened.Opened.{Opened}
use Rattle.charges.specs.Meaning.{Meaning}

no_month : (months : List Month) (month : ℕ) → length months ≡ 0 → of_month months month ≡ None
no_month months zero none = refl
no_month months (suc j) none = slice_get_past months j (omega arith)

-- a month is told by the figures of the one that stands, as a closed book has none
pub told_by_months : (row : List Meaning) (opened : Option Opened) (months : List Month) (billed : List (UpTo Rate 8)) (records : List Record) (month : ℕ)
    → Sound row opened months billed records
    → month_told (held_by opened months billed records) month ≡ option_map figures (of_month months month)
told_by_months row None months billed records month sound = sym (ap (option_map figures) (no_month months month sound.suits))
told_by_months row (Some o) months billed records zero sound = refl
told_by_months row (Some o) months billed records (suc j) sound = slice_get-map figures months j

-- writing a month whose figures are told
module _ (account : Option Account) (month : ℕ) (m : Month) (told : month_told account month ≡ Some (figures m)) where
  pub wrote_month : (before after : List ℕ) (n : ℕ) → Wrote before after n (file_of (figures m)) → WroteMonth account month before after n
  wrote_month before after n w = record {
    asked = cond-true _ _ _ (ap is_some told) ∙ carried_none Buffer (room_asked (length before)) w.asked;
    stated = figures m;
    stands = told;
    valid = month_valid m;
    wrote = w;
  }

  pub not_written : (before after : List ℕ) (e : ShortBuffer) → Short before after e → NotWritten account month before after (Buffer e)
  not_written before after e s =
      let first = cond-true _ _ _ (ap is_some told) ∙ carried_some Buffer (room_asked (length before)) e s.asked in
      record {
        first = first;
        told = carried_some book_refusal (write_asked account month (length before)) (Buffer e) first;
        kept = s.kept;
      }
