use Rattle.std.proofs.lemmas.Result.{on_ok_weaker}
use Rattle.monthpage.proofs.Texts.{none, more, puts}
use Rattle.monthpage.proofs.report.put_month.Goals as goal

pub returns : goal.returns
returns c =
    let three = puts _ _ _ (puts _ _ _ (puts _ _ _ (more _ _ _ (none _) c.in_ok-put_line.ensures) c.in_ok-put_costs.ensures) c.in_ok-put_energy.ensures) c.in_ok-put_sales.ensures in
    simp c.statement-statement.ensures.is at (on_ok_weaker c.put_amounts.result (λ put. puts _ _ _ three put) c.put_amounts.ensures)
