use Rattle.monthpage.proofs.Texts.{none, more}
use Rattle.monthpage.proofs.answers.put_answers.Goals as goal

pub returns-then-loss-clause-lines : goal.returns-then-loss-clause-lines
returns-then-loss-clause-lines c =
    more _ _ _ (more _ _ _ (more _ _ _ (more _ _ _ (none _) c.in_ok-generation.ensures.line) c.in_ok-transmission.ensures.line) c.in_ok-loss.ensures.line) c.in_ok-lifeline.ensures.line

pub returns-else-loss-clause-lines : goal.returns-else-loss-clause-lines
returns-else-loss-clause-lines c =
    more _ _ _ (more _ _ _ (more _ _ _ (more _ _ _ (none _) c.in_ok-generation.ensures.line) c.in_ok-transmission.ensures.line) c.in_ok-loss.ensures.line) c.in_ok-lifeline.ensures.line
