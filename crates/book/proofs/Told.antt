-- What an open book tells of its balances, where the answers of its mechanisms keep the law.
use Rattle.std.proofs.Common.{◌≡◌, ℕ, ◌≤◌, List, length, map, ap, ℤ, nat_abs, Option, Some, None, MatchOption, slice_get}
use Rattle.std.proofs.lemmas.Option.{slice_get-map}
use Rattle.std.specs.Option.{option_map}
use Rattle.charges.specs.Meaning.{Meaning}
use Rattle.month.specs.Figures.{Figures}
use Rattle.schedule.specs.Rows.{numbered}
use Rattle.settlement.specs.Bounds.{greatest_outstanding}
use Rattle.settlement.specs.Months.{Assessable, EachLawful}
use Rattle.settlement.specs.Rules.{outstanding, total}
use Rattle.settlement.specs.declared.amounts.OpeningBalance.{OpeningBalance}

module _ (row : List Meaning) (ms : List Figures) (bills : List (List ℤ)) where
  pub told_total : (balances : List ℤ) (t : Option ℤ) → EachLawful row (length balances) ms
      → MatchOption t (¬ EachLawful row (length balances) ms) (λ z. EachLawful row (length balances) ms × (z ≡ total row balances ms bills))
      → t ≡ Some (total row balances ms bills)
  told_total balances None all not_all = absurd (not_all all)
  told_total balances (Some z) all is = ap Some is.1

  pub told_outstanding : (i : ℕ) (openings : List OpeningBalance) (x : OpeningBalance) (b : Option ℤ) → slice_get openings i ≡ Some x
      → Assessable row i ms
      → MatchOption b (¬ Assessable row i ms) (λ z. Assessable row i ms × (z ≡ outstanding (numbered row i) i x.units ms bills) × (nat_abs z ≤ greatest_outstanding))
      → b ≡ option_map (λ opening. outstanding (numbered row i) i opening ms bills) (slice_get (map (λ o. o.units) openings) i)
  told_outstanding i openings x None at all not_all = absurd (not_all all)
  told_outstanding i openings x (Some z) at all is = rw (slice_get-map, at) (ap Some is.1)
