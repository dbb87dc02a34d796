use Rattle.std.proofs.Common.{map, arith, rules}
use Rattle.std.proofs.lemmas.Grind.{common_steps}
use Rattle.month.specs.View.{figures}
use Rattle.schedule.specs.Rows.{numbered}
use Rattle.settlement.specs.Months.{Assesses}
use Rattle.settlement.proofs.Assessed.{is_position}
use Rattle.settlement.proofs.position.taking.position.Goals as goal

pub returns : goal.returns
returns g c = λ asked.
    let k = numbered (g.S.Schedule.meaning c.args.schedule.now) c.args.number in
    let s : Assesses k (map figures c.args.months.now) c.as_slice-assessed.result.now = rw c.as_slice-assessed.ensures.value (c.in_ok-assessed.ensures asked) in
    is_position k _ _ s c.args.number c.args.opening.units _ _ (search rules) c.recent_allowances.ensures (grind (arith, common_steps)) (search rules)
