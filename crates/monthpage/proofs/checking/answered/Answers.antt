use Rattle.monthpage.proofs.Texts.{none, more, puts}
use Rattle.monthpage.proofs.checking.answered.Goals as goal

pub returns-clause-lines : goal.returns-clause-lines
returns-clause-lines c =
    let whole = puts _ _ _ (more _ _ _ (puts _ _ _ (none _) c.in_ok-put_month.ensures) c.in_ok-put_figure.ensures) c.in_ok-good.ensures.lines in
    rw c.new-page.ensures.bytes at whole
