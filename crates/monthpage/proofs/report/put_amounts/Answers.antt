use Rattle.std.proofs.lemmas.Result.{on_ok_weaker}
use Rattle.monthpage.proofs.Texts.{none, more}
use Rattle.monthpage.proofs.report.put_amounts.Goals as goal

pub returns : goal.returns
returns c =
    let three = more _ _ _ (more _ _ _ (more _ _ _ (none _) c.in_ok-put_units.ensures) c.in_ok-put_units-2.ensures) c.in_ok-put_figure.ensures in
    rw (← c.generation_cost.ensures.is, ← c.transmission_cost.ensures.is, ← c.sales.ensures.is, ← c.lifeline_discount.ensures.is) (
    on_ok_weaker c.put_units-3.result (λ put. more _ _ _ three put) c.put_units-3.ensures)
