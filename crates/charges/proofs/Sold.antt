-- What the kWh sold bear of a cost.
use Rattle.std.proofs.Common.{◌≡◌, ℕ, ◌*◌, ◌^◌, ◌<◌, ◌≤◌, arith}
use Rattle.std.proofs.lemmas.Nat.{mul-le}
use Rattle.month.specs.declared.month.Month.{Month}
use Rattle.month.specs.Amounts.{sold}
use Rattle.month.specs.View.{figures}
use Rattle.month.specs.Validity.{month_valid}
use Rattle.charges.specs.Laws.{sold_most}

-- the product fits 64 bits
pub cost_fits : (m : Month) (cost quantity : ℕ) → quantity ≡ sold (figures m) → cost ≤ 500000000000 → cost * quantity < 2 ^ 64
cost_fits m cost quantity is most = omega (arith, mul-le cost quantity 500000000000 10000000 most (omega (arith, sold_most (figures m) (month_valid m))))

-- so does that of the loss
pub loss_fits : (m : Month) (prices factor quantity : ℕ) → quantity ≡ sold (figures m) → prices ≤ 2000000 → factor ≤ 10000
    → prices * factor * quantity < 2 ^ 64
loss_fits m prices factor quantity is most least = cost_fits m (prices * factor) quantity is (omega (arith, mul-le prices factor 2000000 10000 most least))
