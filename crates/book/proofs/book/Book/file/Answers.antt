use Rattle.book.proofs.Marks.{duty_marks, duty_reconciled}
use Rattle.book.proofs.Pending.{spent_where_owed}
use Rattle.book.proofs.book.Book.file.Goals as goal

pub returns-clause-reconciled : goal.returns-clause-reconciled
returns-clause-reconciled g c o ps =
    duty_reconciled c.spend.result _ o ps c.args.self.now _ _ _ c.spend.ensures.cases c.spend.ensures.refused

pub returns-clause-marks : goal.returns-clause-marks
returns-clause-marks g c = duty_marks c.spend.result _ _ _ _ c.spend.ensures.cases

pub returns-clause-owed : goal.returns-clause-owed
returns-clause-owed g c = spent_where_owed c.spend.result _ _ _ _ c.spend.ensures.cases
