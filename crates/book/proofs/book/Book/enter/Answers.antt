-- A file that is accepted is the next posting, and the rates announced after it keep the laws of a correction.
use Rattle.std.proofs.lemmas.Result.{err_from_is_err_and}
use Rattle.settlement.specs.CorrectionLaws.{Corrects, Rounds}
use Rattle.settlement.specs.Settling.{answered}
use Rattle.settlement.proofs.CorrectionLaws.{corrects, rounds}
use Rattle.book.specs.declared.kind.PostingKind.TheVariants.{Entry}
use Rattle.book.proofs.Admitted.{none_refused}
use Rattle.book.proofs.Corrected.{entry_announces}
use Rattle.book.proofs.Counted.{accepted_reconciled}
use Rattle.book.proofs.book.Book.enter.Goals as goal

pub returns-in_err-month-clause-accepts : goal.returns-in_err-month-clause-accepts
returns-in_err-month-clause-accepts g c m valid is clear =
    let p = err_from_is_err_and c.from_residual.result c.from_residual.ensures.1 in
    absurd (none_refused Entry (g.S.Schedule.meaning c.args.self.now.schedule) c.args.self.now.account c.args.file.now m _ valid is clear c.in_err-month.ensures)

pub returns-clause-reconciled : goal.returns-clause-reconciled
returns-clause-reconciled g c =
    accepted_reconciled (g.S.Schedule.meaning c.args.self.now.schedule) c.args.file.now c.in_ok-month.month c.args.self.now.account c.add-duty.new.self.account (answered c.answer_to-settled.result) c.add-duty.result c.in_ok-month.ensures.0 c.in_ok-month.ensures.1 c.answer_to-settled.ensures c.add-duty.ensures.added

pub returns-clause-corrections : goal.returns-clause-corrections
returns-clause-corrections g c = entry_announces Corrects corrects _ _ _ _ _ _ c.answer_to-settled.ensures c.add-duty.ensures.added c.add-duty.ensures.correctable

pub returns-clause-rounding : goal.returns-clause-rounding
returns-clause-rounding g c = entry_announces Rounds rounds _ _ _ _ _ _ c.answer_to-settled.ensures c.add-duty.ensures.added c.add-duty.ensures.correctable
