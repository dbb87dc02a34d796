-- A purchase at its average cost keeps the law of a mechanism, and that of a price; the lifeline charge keeps the law of a mechanism.
use Rattle.std.proofs.Common.{◌≡◌, div-mul-le_self, true, arith, rules}
use Rattle.std.proofs.Math.Nat.{lt-div-mul-add}
use Rattle.std.specs.Prelude.{ℕ, ◌/◌, ◌<◌, ◌≤◌}
use Rattle.month.specs.Amounts.{generation_cost, transmission_cost, sold, discount}
use Rattle.month.specs.Figures.{Figures}
use Rattle.month.specs.Valid.{Valid}
use Rattle.charges.specs.Charges.{averaged, average_cost, generation, transmission, lifeline}
use Rattle.charges.specs.Formulas.{generation_divisor, transmission_divisor}
use Rattle.charges.specs.Meaning.{Lawful, LawfulAnswer, LawfulPrice, IsPrice, with_price}
use Rattle.charges.specs.Averages.{average_covered, average_tight}
use Rattle.charges.specs.Last.{last_answered, last_fit}

pub sold_most : (m : Figures) → Valid m → sold m ≤ 10000000
sold_most m v = search rules

-- the kWh sold, at an average that has its limit
pub sold_at_average : (m : Figures) → Valid m → (cost divisor : ℕ) → 0 < divisor → cost / divisor ≤ 10000000
    → LawfulAnswer (sold m) (averaged cost divisor (sold m))
sold_at_average m v cost divisor some limit = search (rules, average_covered, average_tight, sold_most)

module _ (cost divisor : Figures → ℕ) where
  pub average_lawful : ((m : Figures) → Valid m → 1 ≤ divisor m) → Lawful (average_cost cost divisor)
  average_lawful some before m stands =
      let known = last_fit (average_cost cost divisor) before m stands in
      rw last_answered (sold_at_average m known.0 (cost m) (divisor m) (some m known.0) (grind arith))

  pub average_priced : LawfulPrice (with_price (average_cost cost divisor) (λ m. cost m / divisor m))
  average_priced = record { base_rate = λ before m stands. rw last_answered; limit = λ m v fit. search rules }

  -- the average is the price, whatever months stand before
  pub average_price : (m : Figures) (r : ℕ) → r ≡ cost m / divisor m → (average_cost cost divisor).fit m ≡ true
      → IsPrice (with_price (average_cost cost divisor) (λ f. cost f / divisor f)) m r
  average_price m r is fit = record { is = is; base_rate = λ before stands. rw last_answered is; limit = search rules }

pub generation_lawful : Lawful generation
generation_lawful = average_lawful generation_cost generation_divisor (search rules)

pub transmission_lawful : Lawful transmission
transmission_lawful = average_lawful transmission_cost transmission_divisor (search rules)

pub lifeline_lawful : Lawful lifeline
lifeline_lawful before m stands =
    let known = last_fit lifeline before m stands in
    let v = known.0 in
    rw last_answered (record {
      least = v.some_sold;
      most = v.within.nonlifeline_most;
      rate_limit = grind arith;
      covered = div-mul-le_self (discount m) m.sales.nonlifeline;
      tight = omega (arith, lt-div-mul-add {a = discount m} v.some_sold);
    })
