-- A book that agrees with a tally agrees with it after one posting more.
use Rattle.std.proofs.Common.{◌≡◌, ◌⊎◌, inl, inr, List, [], ◌∷◌, ◌++◌, length, drop, get_or, refl, ap, sym, ◌∙◌, subst, arith}
use Rattle.std.proofs.lemmas.List.{length-append}
use Rattle.std.proofs.lemmas.List.Sums.{fold_push}
use Rattle.std.proofs.lemmas.List.Elements.{All-push}
use Rattle.charges.specs.Meaning.{Meaning}
use Rattle.monthfile.specs.Layout.{file_of}
use Rattle.settlement.specs.Settling.{closing_now}
use Rattle.settlement.specs.declared.record.Record.{Record}
use Rattle.book.specs.Account.{Account}
use Rattle.book.specs.Opening.{OpeningNumbers}
use Rattle.book.specs.Reconciled.{Reconciled, ByRule, tally_of}
use Rattle.book.specs.Tally.{Posting, posted, tally, no_months}
use Rattle.book.proofs.Standings.{StandingsLeft}

-- a posting among others and one more: it is the last one, or it stands among the others
pub split_last : {X : Type 0} (ps earlier later : List X) (q p : X) → ps ++ q ∷ [] ≡ earlier ++ p ∷ later
    → ((ps ≡ earlier) × (q ≡ p)) ⊎ ((rest : List X) × (ps ≡ earlier ++ p ∷ rest))
split_last [] [] later q p e = inl (refl, ap (λ l. get_or l 0 q) e)
split_last [] (x ∷ xs) later q p e = absurd (let long = ap length e in omega (arith, long, length-append xs (p ∷ later)))
split_last (y ∷ ys) [] later q p e = inr (ys, ap (λ z. z ∷ ys) (ap (λ l. get_or l 0 q) e))
split_last (y ∷ ys) (x ∷ xs) later q p e =
    let heads = ap (λ l. get_or l 0 q) e in
    elim (split_last ys xs later q p (ap (drop 1) e)) [
      | inl s ↦ inl ((λ i. heads i ∷ s.0 i), s.1)
      | inr s ↦ inr (s.0, (λ i. heads i ∷ s.1 i))
    ]

-- what a posting makes of a book: it is counted, its answer is given by the rules, and the last month closes with the months as they then stand
pub record AcceptsPosting (row : List Meaning) (o : OpeningNumbers) (before : Account) (p : Posting) (after : Account) : Type 0 where
  pub spread : after.spread ≡ before.spread
  pub balances : after.balances ≡ before.balances
  pub recorded : length after.records ≡ length after.months
  pub counted : tally_of after ≡ posted (tally_of before) p
  pub standings : StandingsLeft after.records
  pub closed : (earlier : List Record) (last : Record) → after.records ≡ earlier ++ last ∷ []
      → last.closing ≡ closing_now row after.balances after.months after.billed
  pub file : p.file ≡ file_of p.stated
  pub by_rule : ByRule row o (tally_of before) p

module _ (row : List Meaning) (o : OpeningNumbers) (ps : List Posting) (before : Account) (r : Reconciled row o ps before) (p : Posting) where
  ruled_each : ByRule row o (tally_of before) p → (earlier : List Posting) (q : Posting) (later : List Posting)
      → ps ++ p ∷ [] ≡ earlier ++ q ∷ later → ByRule row o (tally o earlier) q
  ruled_each ruled earlier q later e =
      let now : ByRule row o (tally o ps) p = subst (λ t. ByRule row o t p) r.counted ruled in
      elim (split_last ps earlier later p q e) [
        | inl same ↦ subst (λ q. ByRule row o (tally o earlier) q) same.1 (subst (λ qs. ByRule row o (tally o qs) p) same.0 now)
        | inr among ↦ r.by_rule earlier q among.0 among.1
      ]

  pub posting_reconciled : (after : Account) → AcceptsPosting row o before p after → Reconciled row o (ps ++ p ∷ []) after
  posting_reconciled after takes = record {
    spread = takes.spread ∙ r.spread;
    balances = takes.balances ∙ r.balances;
    mechanisms = r.mechanisms;
    recorded = takes.recorded;
    counted = takes.counted ∙ ap (λ t. posted t p) r.counted ∙ sym (fold_push posted (no_months o) ps p);
    standings = takes.standings;
    closed = takes.closed;
    files = All-push (λ p. p.file ≡ file_of p.stated) ps p r.files takes.file;
    by_rule = ruled_each takes.by_rule;
  }
