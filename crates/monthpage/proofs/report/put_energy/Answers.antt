use Rattle.std.proofs.lemmas.Result.{on_ok_weaker}
use Rattle.monthpage.proofs.Texts.{none, more}
use Rattle.monthpage.proofs.report.put_energy.Goals as goal

pub returns : goal.returns
returns c =
    let four = more _ _ _ (more _ _ _ (more _ _ _ (more _ _ _ (none _) c.in_ok-put_figure.ensures) c.in_ok-put_figure-2.ensures) c.in_ok-put_figure-3.ensures) c.in_ok-put_figure-4.ensures in
    on_ok_weaker c.put_figure-5.result (λ put. more _ _ _ four put) c.put_figure-5.ensures
