-- When a book agrees with the tally of some postings.
use Rattle.std.specs.Prelude.{◌≡◌, ℕ, ◌-◌, ◌≤◌, true, List, [], ◌∷◌, ◌++◌, length, take, fold, All}
use Rattle.std.specs.Prelude.{Option, Some, None}
use Rattle.charges.specs.Meaning.{Meaning}
use Rattle.month.specs.Valid.{Valid}
use Rattle.monthfile.specs.Layout.{file_of}
use Rattle.settlement.specs.Settling.{settled, closing_now, left_by, standing_after}
use Rattle.settlement.specs.declared.record.Closing.{Closing}
use Rattle.settlement.specs.declared.record.Record.{Record}
use Rattle.settlement.specs.declared.standing.Standing.{Standing}
use Rattle.settlement.specs.declared.standing.Standing.TheVariants.{Steady}
use Rattle.book.specs.Account.{Account, closings_of}
use Rattle.book.specs.Opening.{OpeningNumbers}
use Rattle.book.specs.Places.{of_month}
use Rattle.book.specs.Postings.{has_place, FitForEach}
use Rattle.book.specs.Tally.{Posting, Tally, barred_by, posted, tally}

-- the standing that months leave which closed with these figures, the oldest first
abbrev pub standing_left : List Closing → Standing
standing_left closings = fold standing_after Steady closings

-- The figures of a posting are valid and fit for each mechanism, and have their place by the months
-- counted before: those of an entry follow them, those of an amendment are of one of them. There are as
-- many marks as these months, and the answer settles the months that then stand, by the standing that
-- the closing figures before the last leave, and by the marks. That these are the book's is said where a
-- posting is made (Tally.antt)
pub record ByRule (row : List Meaning) (o : OpeningNumbers) (before : Tally) (p : Posting) : Type 0 where
  pub valid : Valid p.stated
  pub fit : FitForEach row p.stated
  pub placed : has_place p.kind p.stated.month (length before.months) ≡ true
  pub marks : length p.marks ≡ length before.months
  pub answer :
      let after : Tally = posted before p in
      let n : ℕ = length after.months in
      let left : Standing = standing_left (take (n - 1) after.closings) in
      p.answer ≡ settled row o.spread o.balances after.months after.billed left (barred_by p.marks n)

-- what a book holds, as a tally
abbrev pub tally_of : Account → Tally
tally_of a =
    record { months = a.months; billed = a.billed; closings = closings_of a; announced = a.announced }

-- the book holds what is counted of the opening and the postings, the oldest first, and each posting
-- keeps the rules
pub record Reconciled (row : List Meaning) (o : OpeningNumbers) (ps : List Posting) (a : Account)
    : Type 0 where
  pub spread : a.spread ≡ o.spread
  pub balances : a.balances ≡ o.balances
  -- a starting rate and an opening balance for each mechanism
  pub mechanisms : (length o.rates ≡ length row) × (length o.balances ≡ length row)
  pub recorded : length a.records ≡ length a.months
  pub counted : tally_of a ≡ tally o ps
  -- the standing of each month is the one that the closing figures up to it leave; before month 1 it is
  -- steady
  pub standings : (month : ℕ) → month ≤ length a.records
      → left_by (of_month a.records month) ≡ standing_left (take month (closings_of a))
  -- the last month's closing figures are those of the months as they now stand
  pub closed : (before : List Record) (last : Record) → a.records ≡ before ++ last ∷ []
      → last.closing ≡ closing_now row a.balances a.months a.billed
  -- each file states the figures that were counted, and each answer was given by the rules
  pub files : All (λ p. p.file ≡ file_of p.stated) ps
  pub by_rule : (earlier : List Posting) (p : Posting) (later : List Posting) → ps ≡ earlier ++ p ∷ later
      → ByRule row o (tally o earlier) p

abbrev pub BookReconciled : List Meaning → OpeningNumbers → List Posting → Option Account → Type 0
BookReconciled row o ps None = ⊥
BookReconciled row o ps (Some a) = Reconciled row o ps a
