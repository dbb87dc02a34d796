use Rattle.std.proofs.Common.{arith}
use Rattle.std.proofs.lemmas.Grind.{common_steps}
use Rattle.std.proofs.lemmas.Int.{ints}
use Rattle.settlement.specs.Positions.{outstanding_of}
use Rattle.settlement.proofs.Settled.{int_sum_more}
use Rattle.settlement.proofs.settling.close.Goals as goal

pub loop-position-preserved : goal.loop-position-preserved
loop-position-preserved c =
    let ps = c.as_slice-position-items.result.now in
    let more = int_sum_more outstanding_of ps c.loop-position.position-index c.position-item.result c.loop-position-test.true c.position-item.is in
    record {
      total = omega (arith, ints);
      revenue = grind (arith, common_steps);
      total_most = omega (arith, ints);
      revenue_most = omega arith;
    }
