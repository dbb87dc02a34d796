-- A posting that keeps the rules is counted, and answered by the tally that it leads to.
use Rattle.std.proofs.Common.{◌≡◌, ℕ, ◌-◌, ◌<◌, Bool, List, [], ◌∷◌, ◌++◌, length, take, All, ℤ, refl, ap, sym, ◌∙◌, subst, Some, slice_get, arith}
use Rattle.std.proofs.lemmas.List.{take_all}
use Rattle.std.proofs.lemmas.List.Elements.{All-nil, All-cons, All-head, All-tail}
use Rattle.std.proofs.lemmas.List.Sums.{fold_push}
use Rattle.settlement.proofs.Numbers.{length-by_number}
use Rattle.charges.specs.Meaning.{Meaning}
use Rattle.monthfile.specs.Layout.{file_of}
use Rattle.schedule.specs.Rows.{numbered}
use Rattle.settlement.specs.Settling.{announced_rate, closing_now, standing_after}
use Rattle.settlement.specs.Corrections.{coming_rate}
use Rattle.settlement.specs.Months.{quantity_at}
use Rattle.settlement.specs.Rules.{revenue}
use Rattle.settlement.specs.declared.standing.Standing.{Standing}
use Rattle.book.specs.Facts.{InForceWhenDue, AnsweredByRule, PostingCounted, EachPosting}
use Rattle.book.specs.Opening.{OpeningNumbers}
use Rattle.book.specs.Reconciled.{ByRule, standing_left}
use Rattle.book.specs.Sums.{opening_balance, rate_by_tally}
use Rattle.book.specs.Tally.{Posting, Tally, barred_by, posted, tally, no_months}
use Rattle.book.proofs.Corrections.{left_correcting}
use Rattle.book.proofs.Standings.{left_more}
use Rattle.book.proofs.Lengths.{AsLong, tally_as_long, Rated, postings_rated, some_month, closes_with}
use Rattle.book.proofs.Sums.{get_by_number, outstanding_is_balance, total_is_together}

-- what holds of all holds of one among them
one_of : {X : Type 0} (P : X → Type 0) (earlier : List X) (x : X) (later : List X) → All P (earlier ++ x ∷ later) → P x
one_of P [] x later all = All-head P x later all
one_of P (y ∷ ys) x later all = one_of P ys x later (All-tail P y (ys ++ x ∷ later) all)

-- what holds of each element, however the list is split at it, holds of all
all_of : {X : Type 0} (P : X → Type 0) (xs : List X) → ((earlier : List X) (x : X) (later : List X) → xs ≡ earlier ++ x ∷ later → P x) → All P xs
all_of P [] each = All-nil P
all_of P (x ∷ xs) each = All-cons P x xs (each [] x xs refl) (all_of P xs (λ earlier y later split. each (x ∷ earlier) y later (ap (λ l. x ∷ l) split)))

-- each posting keeps the rules, after those before it
abbrev pub EachByRule : List Meaning → OpeningNumbers → List Posting → Type 0
EachByRule row o ps = (earlier : List Posting) (p : Posting) (later : List Posting) → ps ≡ earlier ++ p ∷ later → ByRule row o (tally o earlier) p

module _ (row : List Meaning) (o : OpeningNumbers) (mechanisms : length o.balances ≡ length row) where
  module _ (before : Tally) (long : AsLong before) (p : Posting) (r : ByRule row o before p) where
    abbrev after : Tally
    after = posted before p

    -- the standing that the months before the last one leave
    abbrev left : Standing
    left = standing_left (take (length after.months - 1) after.closings)

    closing_is : p.answer.closing ≡ closing_now row o.balances after.months after.billed
    closing_is = ap (λ a. a.closing) r.answer

    standing_is : p.answer.standing ≡ standing_left after.closings
    standing_is =
        ap (λ a. a.standing) r.answer
        ∙ ap (standing_after left) (sym closing_is)
        ∙ sym (left_more (take (length after.months - 1) after.closings) p.answer.closing)
        ∙ ap standing_left (sym (closes_with p.kind p.stated p.answer before long r.placed))

    rate_is : (i : ℕ) → i < length row → slice_get p.answer.rates i ≡ Some (rate_by_tally row o after p.marks p.answer.standing i)
    rate_is i inside =
        let k : Meaning = numbered row i in
        let last : ℕ = length after.months in
        let barred : Bool = barred_by p.marks (length after.months) in
        let judged : Standing = standing_after left (closing_now row o.balances after.months after.billed) in
        let announced = λ (n : ℕ). announced_rate (numbered row n) n judged barred o.spread (opening_balance o n) after.months after.billed in
        let standing : judged ≡ p.answer.standing = ap (λ a. a.standing) (sym r.answer) in
        let balance = outstanding_is_balance row o after i in
        let all = take_all last after.months (omega arith) in
        ap (λ a. slice_get a.rates i) r.answer
        ∙ get_by_number announced (length o.balances) i (omega (arith, mechanisms))
        ∙ (λ j. Some (coming_rate (k.assessed (sym all j)).0 (standing j) barred o.spread (balance j) (quantity_at k after.months (last - 1))))

    pub rated : length p.answer.rates ≡ length row
    rated = ap (λ a. length a.rates) r.answer ∙ length-by_number _ (length o.balances) ∙ mechanisms

    answered_by_rule : AnsweredByRule row o p after
    answered_by_rule = record {
      some_month = some_month p.kind p.stated p.answer before r.placed;
      total = ap (λ c. c.total) closing_is ∙ total_is_together row o after mechanisms;
      revenue = ap (λ c. c.revenue) closing_is ∙ ap (λ n. revenue row n after.months) mechanisms;
      correcting = subst (λ (s : Standing). InForceWhenDue after.closings s) (sym standing_is) (left_correcting after.closings);
      rated = rated;
      rates = rate_is;
    }

  pub each_answered : (ps : List Posting) → EachByRule row o ps → EachPosting o ps (λ before p after. AnsweredByRule row o p after)
  each_answered ps by_rule earlier p later split =
      subst (AnsweredByRule row o p) (sym (fold_push posted (no_months o) earlier p)) (answered_by_rule (tally o earlier) (tally_as_long o earlier) p (by_rule earlier p later split))

  -- so each list of rates that was billed, and the one last announced, has a rate for each mechanism
  pub tally_rated : length o.rates ≡ length row → (ps : List Posting) → EachByRule row o ps → Rated (length row) (tally o ps)
  tally_rated starting ps by_rule =
      let each = all_of (λ p. length p.answer.rates ≡ length row) ps (λ earlier p later split. rated (tally o earlier) (tally_as_long o earlier) p (by_rule earlier p later split)) in
      postings_rated (length row) ps (no_months o) each (record { billed = All-nil (λ (rates : List ℤ). length rates ≡ length row); announced = starting })

pub each_counted : (row : List Meaning) (o : OpeningNumbers) (ps : List Posting) → All (λ p. p.file ≡ file_of p.stated) ps
    → EachByRule row o ps → EachPosting o ps (λ before p after. PostingCounted row before p)
each_counted row o ps files by_rule earlier p later split =
    let r = by_rule earlier p later split in
    record {
      valid = r.valid;
      fit = r.fit;
      file = one_of (λ q. q.file ≡ file_of q.stated) earlier p later (subst (All (λ q. q.file ≡ file_of q.stated)) split files);
      placed = r.placed;
      marked = r.marks;
    }
