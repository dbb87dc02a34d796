use Rattle.schedule.specs.Rows.{numbered}
use Rattle.settlement.proofs.Assessed.{last_assessed}
use Rattle.settlement.proofs.assessing.assess.Goals as goal

pub returns : goal.returns
returns g c = λ asked.
    let k = numbered (g.S.Schedule.meaning c.args.schedule.now) c.args.number in
    last_assessed k c.args.months.now c.in_ok-month.month.now c.in_ok-month.ensures.value _ _ (c.quantity-quantity.ensures asked) (c.assess.ensures asked) c.new.result c.new.ensures
