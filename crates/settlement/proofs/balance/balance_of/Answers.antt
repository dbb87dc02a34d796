use Rattle.std.proofs.Common.{map, arith}
use Rattle.std.proofs.lemmas.Int.{ints, to_z-of_z}
use Rattle.settlement.proofs.Balances.{one_month_more}
use Rattle.settlement.specs.Settling.{units_of}
use Rattle.settlement.proofs.balance.balance_of.Goals as goal

pub loop-month-preserved : goal.loop-month-preserved
loop-month-preserved c =
    let now = c.args in
    let more = one_month_more now.opening.units now.number now.assessed.now (map units_of now.bills.now) c.loop-month.month c.index-assessed-month.result c.index-assessed-month.is c.loop-month-test.true in
    record {
      so_far = grind (arith, ints, to_z-of_z);
      size = omega (arith, ints, c.month_adds-balance.ensures.bound);
    }
