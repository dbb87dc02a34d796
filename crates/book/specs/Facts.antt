-- What holds of a book whatever calls it has had since it was opened. First the three facts, with the
-- sums and the rates, then what a book tells and what was counted, then all of it together.
--
-- o are the numbers of the opening, ps the postings since, the oldest first, and t their tally; row has
-- the meanings of the mechanisms. Of the mechanism with the number i the book tells `outstanding i`.
-- Mechanisms are numbered from 0 and months from 1.
use Rattle.std.specs.Prelude.{◌≡◌, ◌↔◌, ℕ, suc, ◌*◌, ◌<◌, ◌≤◌, true, List, [], ◌∷◌, ◌++◌, map, length}
use Rattle.std.specs.Prelude.{All, ℤ, pos, nat_abs, ◌+ℤ◌, ◌-ℤ◌, ◌*ℤ◌, ◌≤ℤ◌, ◌<ℤ◌, Option, Some, None}
use Rattle.std.specs.Prelude.{slice_get}
use Rattle.std.specs.Option.{option_map, option_and_then}
use Rattle.charges.specs.Meaning.{Meaning}
use Rattle.month.specs.Valid.{Valid}
use Rattle.monthfile.specs.Layout.{file_of}
use Rattle.settlement.specs.Numbers.{by_number, int_sum}
use Rattle.settlement.specs.Rules.{revenue}
use Rattle.settlement.specs.declared.record.Closing.{Closing}
use Rattle.settlement.specs.declared.record.Mark.{Mark}
use Rattle.settlement.specs.declared.standing.Standing.{Standing}
use Rattle.settlement.specs.declared.standing.Standing.TheVariants.{Correcting}
use Rattle.book.specs.Account.{Account}
use Rattle.book.specs.Opening.{OpeningNumbers}
use Rattle.book.specs.Places.{of_month}
use Rattle.book.specs.Postings.{has_place, FitForEach}
use Rattle.book.specs.Reading.{outstanding_told, total_told, mark_told, standing_told, announced_told}
use Rattle.book.specs.Reading.{billed_told, closing_told, file_told as written_told}
use Rattle.book.specs.Sums.{opening_balance, all_allowances, all_billed, all_quantities, over_months}
use Rattle.book.specs.Sums.{quantity, own_rate, billed_in_month, total_by_tally, rate_by_tally}
use Rattle.book.specs.Tally.{Posting, Tally, tally}

-- The first fact: the balances add up, to the unit. For each mechanism the opening balance and all
-- allowances are together all that was billed and what is outstanding
abbrev pub BalancesAddUp : List Meaning → OpeningNumbers → Tally → (ℕ → ℤ) → Type 0
BalancesAddUp row o t outstanding =
    (i : ℕ) → i < length row
    → opening_balance o i +ℤ all_allowances row t i ≡ all_billed row t i +ℤ outstanding i

-- what is outstanding of all mechanisms together
abbrev pub all_outstanding : List Meaning → (ℕ → ℤ) → ℤ
all_outstanding row outstanding = int_sum (by_number outstanding (length row))

-- that sum is told as the total, and the last month closed with it, and with all allowances of the
-- latest three months
pub record SumsAddUp (row : List Meaning) (t : Tally) (outstanding : ℕ → ℤ) (told : Option ℤ) : Type 0 where
  pub total : told ≡ Some (all_outstanding row outstanding)
  pub closing_total : (before : List Closing) (last : Closing) → t.closings ≡ before ++ last ∷ []
      → last.total ≡ all_outstanding row outstanding
  pub closing_revenue : (before : List Closing) (last : Closing) → t.closings ≡ before ++ last ∷ []
      → last.revenue ≡ revenue row (length row) t.months

-- The second fact: the rounding rest is bounded. It is what is outstanding, less the opening balance,
-- less the sum over the standing months of quantity × (own rate − billed rate)
abbrev pub rounding_rest : List Meaning → OpeningNumbers → Tally → (ℕ → ℤ) → ℕ → ℤ
rounding_rest row o t outstanding i =
    let short = λ (month : ℕ).
    pos (quantity row t i month) *ℤ (pos (own_rate row t i month) -ℤ billed_in_month t i month) in
    (outstanding i -ℤ opening_balance o i) -ℤ over_months t short

-- at least 0 and less than all quantities together, or 0 with no month
pub record RestWithin (months : ℕ) (quantities rest : ℤ) : Type 0 where
  pub least : pos 0 ≤ℤ rest
  pub most : 1 ≤ months → rest <ℤ quantities
  pub none : months ≡ 0 → rest ≡ pos 0

-- so whole rates lose less than one unit for each kWh
abbrev pub RoundingBounded : List Meaning → OpeningNumbers → Tally → (ℕ → ℤ) → Type 0
RoundingBounded row o t outstanding =
    (i : ℕ) → i < length row
    → RestWithin (length t.months) (all_quantities row t i) (rounding_rest row o t outstanding i)

-- The third fact: a correction is in force exactly when it is due. It is due where some month closed
-- beyond a tenth of the three-month revenue, and no later month closed within three hundredths of it
abbrev pub ClosedBeyond : Closing → Type 0
ClosedBeyond c = c.revenue < 10 * nat_abs c.total

abbrev pub ClosedWithin : Closing → Type 0
ClosedWithin c = 100 * nat_abs c.total ≤ 3 * c.revenue

pub record CorrectionDue (closings : List Closing) : Type 0 where
  pub before : List Closing
  pub month : Closing
  pub later : List Closing
  pub split : closings ≡ before ++ month ∷ later
  pub beyond : ClosedBeyond month
  pub none_within : All (λ c. ClosedWithin c → ⊥) later

abbrev pub InForceWhenDue : List Closing → Standing → Type 0
InForceWhenDue closings standing = (standing ≡ Correcting) ↔ CorrectionDue closings

-- With the three goes this, of each posting: it was answered by the rules, that is, by the tally t that
-- it leads to. The answer has the sums, the standing that is due, and the rates, by the marks read
-- before the posting
pub record AnsweredByRule (row : List Meaning) (o : OpeningNumbers) (p : Posting) (t : Tally) : Type 0 where
  pub some_month : 1 ≤ length t.months
  pub total : p.answer.closing.total ≡ total_by_tally row o t
  pub revenue : p.answer.closing.revenue ≡ revenue row (length row) t.months
  pub correcting : InForceWhenDue t.closings p.answer.standing
  pub rated : length p.answer.rates ≡ length row
  pub rates : (i : ℕ) → i < length row
      → slice_get p.answer.rates i ≡ Some (rate_by_tally row o t p.marks p.answer.standing i)

-- what a book tells when it is read, by mechanism and by month
pub record Read : Type 0 where
  pub outstanding : ℕ → Option ℤ
  pub total : Option ℤ
  pub announced : ℕ → Option ℤ
  pub billed : ℕ → ℕ → Option ℤ
  pub file : ℕ → Option (List ℕ)
  pub closing : ℕ → Option Closing
  pub mark : ℕ → Option Mark
  pub standing : Standing

-- this is what the calls that read a book answer, and the file that `write` puts into a buffer
abbrev pub read_of : List Meaning → Option Account → Read
read_of row account = record {
  outstanding = outstanding_told row account;
  total = total_told row account;
  announced = announced_told account;
  billed = billed_told account;
  file = written_told account;
  closing = closing_told account;
  mark = mark_told account;
  standing = standing_told account;
}

-- what is told is what was counted, and nothing is told of a number that names nothing
pub record ToldAsCounted (row : List Meaning) (t : Tally) (outstanding : ℕ → ℤ) (read : Read) : Type 0 where
  pub outstanding_of_each : (i : ℕ) → i < length row → read.outstanding i ≡ Some (outstanding i)
  pub outstanding_of_no_other : (i : ℕ) → length row ≤ i → read.outstanding i ≡ None
  pub announced : (i : ℕ) → read.announced i ≡ slice_get t.announced i
  pub billed : (month i : ℕ)
      → read.billed month i ≡ option_and_then (λ rates. slice_get rates i) (of_month t.billed month)
  pub file : (month : ℕ) → read.file month ≡ option_map file_of (of_month t.months month)
  pub closing : (month : ℕ) → read.closing month ≡ of_month t.closings month
  -- each standing month has a mark, and no other has; which marks, the tally does not tell
  pub marks : List Mark
  pub all_marked : length marks ≡ length t.months
  pub mark : (month : ℕ) → read.mark month ≡ of_month marks month

-- a posting was counted after those before it: its file is that of valid figures, which each mechanism
-- finds fit; an entry is of the month after those that stood, an amendment of one of these; and it has a
-- mark of each of these
pub record PostingCounted (row : List Meaning) (before : Tally) (p : Posting) : Type 0 where
  pub valid : Valid p.stated
  pub fit : FitForEach row p.stated
  pub file : p.file ≡ file_of p.stated
  pub placed : has_place p.kind p.stated.month (length before.months) ≡ true
  pub marked : length p.marks ≡ length before.months

-- this is so of each posting, by the tally of those before it and by the one that it leads to
abbrev pub EachPosting : OpeningNumbers → List Posting → (Tally → Posting → Tally → Type 0) → Type 0
EachPosting o ps holds =
    (earlier : List Posting) (p : Posting) (later : List Posting) → ps ≡ earlier ++ p ∷ later
    → holds (tally o earlier) p (tally o (earlier ++ p ∷ []))

-- what was counted: postings one after another, and months in order from month 1, each with the rates
-- that it was billed at and its closing figures. There is a balance and, in each list of rates, a rate
-- for each mechanism, so that no sum takes a 0 for one that is missing
pub record Counted (row : List Meaning) (o : OpeningNumbers) (ps : List Posting) (t : Tally) : Type 0 where
  pub postings : EachPosting o ps (λ before p after. PostingCounted row before p)
  pub in_order : map (λ m. m.month) t.months ≡ by_number suc (length t.months)
  pub all_billed : length t.billed ≡ length t.months
  pub all_closed : length t.closings ≡ length t.months
  pub opening_balances : length o.balances ≡ length row
  pub starting_rates : length o.rates ≡ length row
  pub billed_rates : All (λ rates. length rates ≡ length row) t.billed
  pub announced_rates : length t.announced ≡ length row

-- all of it, by the tally t
pub record FactsBy (row : List Meaning) (o : OpeningNumbers) (ps : List Posting) (t : Tally) (read : Read)
    : Type 0 where
  -- what the book tells as outstanding of each mechanism, as `told` has it
  pub outstanding : ℕ → ℤ
  pub balances : BalancesAddUp row o t outstanding
  pub sums : SumsAddUp row t outstanding read.total
  pub rounding : RoundingBounded row o t outstanding
  pub correction : InForceWhenDue t.closings read.standing
  pub answers : EachPosting o ps (λ before p after. AnsweredByRule row o p after)
  pub told : ToldAsCounted row t outstanding read
  pub counted : Counted row o ps t

-- the facts, of a book that was opened with the numbers o, has had the postings ps, and tells this when
-- it is read
abbrev pub Facts : List Meaning → OpeningNumbers → List Posting → Read → Type 0
Facts row o ps read = let t : Tally = tally o ps in FactsBy row o ps t read
