-- A mechanism of the tests' own whose rate grows with the months that stand: 250,000 for each of them. It is lawful where at most 36 stand, as in a
-- book, and would not be where 41 did.
use Rattle.std.specs.Prelude.{ℕ, ◌*◌, min, true, [], ◌∷◌, ◌++◌, length}
use Rattle.std.proofs.Common.{add-mul, arith}
use Rattle.month.specs.Amounts.{sold}
use Rattle.charges.specs.Charges.{for_last}
use Rattle.charges.specs.Last.{last_answered, last_fit}
use Rattle.charges.specs.Meaning.{Meaning, Lawful}

-- of so many months; from 100 on it grows no more, so that what is charged fits 64 bits
abbrev pub rate_after : ℕ → ℕ
rate_after months = 250000 * min months 100

abbrev pub growing_fee : Meaning
growing_fee = record { fit = λ _. true; quantity = sold; assessed = λ ms. for_last (λ m. (rate_after (length ms), rate_after (length ms) * sold m)) ms }

pub growing_fee_lawful : Lawful growing_fee
growing_fee_lawful before m stands =
    let v = (last_fit growing_fee before m stands).0 in
    let rate = rate_after (length (before ++ m ∷ [])) in
    rw last_answered (record {
      least = omega (arith, v.some_sold);
      most = omega (arith, v.sold_generation, v.within.input_most);
      rate_limit = omega (arith, stands.few);
      covered = omega arith;
      tight = omega (arith, add-mul rate 1 (sold m), v.some_sold);
    })
