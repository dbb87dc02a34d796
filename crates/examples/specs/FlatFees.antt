-- A mechanism of the tests' own: every kWh sold at one rate.
use Rattle.std.specs.Prelude.{ℕ, ◌*◌, ◌≤◌, true}
use Rattle.std.proofs.Common.{add-mul, arith}
use Rattle.month.specs.Amounts.{sold}
use Rattle.charges.specs.Charges.{for_last}
use Rattle.charges.specs.Last.{last_answered, last_fit}
use Rattle.charges.specs.Meaning.{Meaning, Lawful, LawfulPrice, with_price}

abbrev pub flat_fee : ℕ → Meaning
flat_fee rate = record { fit = λ _. true; quantity = sold; assessed = for_last (λ m. (rate, rate * sold m)) }

-- it keeps the law of a mechanism, and that of a price
module _ (rate : ℕ) (limit : rate ≤ 1000000) where
  pub flat_fee_lawful : Lawful (flat_fee rate)
  flat_fee_lawful before m stands =
      let v = (last_fit (flat_fee rate) before m stands).0 in
      rw last_answered (record {
        least = omega (arith, v.some_sold);
        most = omega (arith, v.sold_generation, v.within.input_most);
        rate_limit = omega (arith, limit);
        covered = omega arith;
        tight = omega (arith, add-mul rate 1 (sold m), v.some_sold);
      })

  pub flat_fee_priced : LawfulPrice (with_price (flat_fee rate) (λ _. rate))
  flat_fee_priced = record { base_rate = λ before m stands. rw last_answered; limit = λ m v fit. limit }
