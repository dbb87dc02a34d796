-- Where every mechanism is lawful, and the months can stand for each, all its answers keep the law.
use Rattle.std.proofs.Common.{◌≡◌, ℕ, suc, ◌<◌, ◌≤◌, List, [], ◌∷◌, ◌++◌, map, length, get_or, take, true, ap, sym, ◌∙◌, Option, Some, arith}
use Rattle.std.proofs.Math.Seq.{take-suc}
use Rattle.std.proofs.lemmas.List.{length-map, get_or-map, get_or-take, length-take-le}
use Rattle.std.proofs.lemmas.List.Elements.{All-take}
use Rattle.std.proofs.lemmas.Option.{slice_get_within, get_or_from_slice_get, slice_get-get_or}
use Rattle.std.proofs.lemmas.Simd.{map-map}
use Rattle.std.specs.List.{All}
use Rattle.bounded.specs.declared.up_to.UpTo.{UpTo}
use Rattle.charges.specs.Meaning.{Meaning, Lawful, CanStand, InOrder}
use Rattle.month.specs.Figures.{Figures}
use Rattle.month.specs.Valid.{Valid}
use Rattle.month.specs.View.{figures}
use Rattle.month.specs.declared.month.Month.{Month}
use Rattle.schedule.specs.Rows.{numbered, no_mechanism}
use Rattle.settlement.specs.Settling.{EachSettleable}
use Rattle.settlement.specs.Months.{assessed_at, AllLawful, EachLawful}
use Rattle.settlement.specs.Numbers.{by_number}
use Rattle.settlement.specs.declared.amounts.Rate.{Rate}
use Rattle.settlement.specs.declared.record.Record.{Record}
use Rattle.settlement.proofs.Numbers.{index-by_number}
use Rattle.book.specs.Sound.{AllFit, Sound}
use Rattle.book.specs.declared.opened.Opened.{Opened}

-- one month of those that stand
some_month : (ms : List Figures) → 0 < length ms → Figures
some_month [] h = absurd (omega arith)
some_month (m ∷ ms) h = m

-- the months of a book, as far as its mechanisms are asked about them
pub record BookMonths (row : List Meaning) (ms : List Figures) : Type 0 where
  pub few : length ms ≤ 36
  pub in_order : map (λ m. m.month) ms ≡ by_number suc (length ms)
  pub fit : AllFit row ms

-- they are those of a sound book
pub months_of : (row : List Meaning) (opened : Option Opened) (months : List Month) (billed : List (UpTo Rate 8)) (records : List Record)
    → Sound row opened months billed records → BookMonths row (map figures months)
months_of row opened months billed records sound =
    let long : length (map figures months) ≡ length months = length-map months figures in
    record {
      few = omega (arith, long, sound.few);
      in_order = map-map (λ m. m.month) figures months ∙ sound.in_order ∙ ap (by_number suc) (sym long);
      fit = sound.fit;
    }

module _ (row : List Meaning) (ms : List Figures) (months : BookMonths row ms) where
  months_in_order : InOrder ms
  months_in_order j m at =
      let inside = slice_get_within ms j m at in
      ap (λ (x : Figures). x.month) (sym (get_or_from_slice_get ms j m m at)) ∙ sym (get_or-map (λ (x : Figures). x.month) ms j m 0 inside) ∙ ap (λ ns. get_or ns j 0) months.in_order ∙ index-by_number suc (length ms) j 0 inside

  -- the first n of them can stand
  can_stand : (i n : ℕ) → i < length row → n ≤ length ms → CanStand (numbered row i) (take n ms)
  can_stand i n inside h = record {
    few = omega (arith, length-take-le n ms h, months.few);
    in_order = λ j m at.
        let below : j < n = omega (arith, slice_get_within (take n ms) j m at, length-take-le n ms h) in
        let same : get_or ms j m ≡ m = sym (get_or-take n ms j m below) ∙ get_or_from_slice_get (take n ms) j m m at in
        months_in_order j m (slice_get-get_or ms j m (omega (arith, below)) ∙ ap Some same);
    fit = All-take (λ m. Valid m × ((numbered row i).fit m ≡ true)) n ms (months.fit i inside);
  }

  module _ (lawful : All Lawful row) where
    -- the answers of mechanism i keep the law
    pub fit_all_lawful : (i : ℕ) → i < length row → AllLawful (numbered row i) ms
    fit_all_lawful i inside = record {
      few = months.few;
      lawful = λ j h.
          let k : Meaning = numbered row i in
          let d : Figures = some_month ms (omega arith) in
          let last : take (suc j) ms ≡ take j ms ++ get_or ms j d ∷ [] = take-suc ms j d h in
          let up_to : CanStand k (take (suc j) ms) = can_stand i (suc j) inside (omega arith) in
          let answer : assessed_at k ms j ≡ k.assessed (take j ms ++ get_or ms j d ∷ []) = ap k.assessed last in
          rw (get_or-map k.quantity ms j d 0 h, answer) (lawful i no_mechanism inside (take j ms) (get_or ms j d) (rw (← last) up_to));
    }

    module _ (n : ℕ) (count : n ≡ length row) where
      -- the answers of every mechanism keep the law
      pub fit_each_lawful : EachLawful row n ms
      fit_each_lawful = record { count = count; each = λ i h. fit_all_lawful i (omega (arith, count)) }

      -- where a month stands, the months can be settled
      pub fit_lawfully : 0 < length ms → EachSettleable row n ms
      fit_lawfully some = record { count = count; each = λ i h. record { some = some; lawful = fit_each_lawful.each i h } }
