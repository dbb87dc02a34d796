-- A file that is accepted amends a month, and is the next posting; the rates announced after it keep the laws of a correction.
use Rattle.std.proofs.Common.{ap, subst}
use Rattle.std.proofs.lemmas.Result.{err_from_is_err_and}
use Rattle.month.specs.View.{figures}
use Rattle.settlement.specs.CorrectionLaws.{Corrects, Rounds}
use Rattle.settlement.specs.Settling.{answered}
use Rattle.settlement.proofs.CorrectionLaws.{corrects, rounds}
use Rattle.book.specs.Amending.{SettlesNow}
use Rattle.book.specs.declared.kind.PostingKind.TheVariants.{Amendment}
use Rattle.book.proofs.Admitted.{none_refused}
use Rattle.book.proofs.Amended.{some_replaced, amends, amended_keeps, amended_reconciled}
use Rattle.book.proofs.Corrected.{amendment_announces}
use Rattle.book.proofs.book.Book.amend.Goals as goal

pub returns-in_err-month-clause-accepts : goal.returns-in_err-month-clause-accepts
returns-in_err-month-clause-accepts g c m valid is clear =
    let p = err_from_is_err_and c.from_residual.result c.from_residual.ensures.1 in
    absurd (none_refused Amendment (g.S.Schedule.meaning c.args.self.now.schedule) c.args.self.now.account c.args.file.now m _ valid is clear c.in_err-month.ensures)

pub settle_now-requires : goal.settle_now-requires
settle_now-requires g c =
    some_replaced (g.S.Schedule.meaning c.args.self.now.schedule) c.args.self.now.account c.replace.new.self.account (figures c.in_ok-month.month) c.in_ok-month.ensures.1 c.replace.ensures.replaced

pub returns-clause-cases : goal.returns-clause-cases
returns-clause-cases g c =
    let row = g.S.Schedule.meaning c.args.self.now.schedule in
    let settled = subst (λ s. SettlesNow (g.S.Schedule.meaning s) c.replace.new.self.account c.settle_now.new.self.account (answered c.settle_now.result)) c.replace.ensures.schedule c.settle_now.ensures.settled in
    amends row c.args.file.now c.in_ok-month.month c.args.self.now.account c.replace.new.self.account c.settle_now.new.self.account (answered c.settle_now.result) c.statement.result.now.month c.in_ok-month.ensures.0 c.in_ok-month.ensures.1 c.replace.ensures.replaced settled (ap (λ s. s.month) c.statement.ensures.is)

pub returns-clause-keeps : goal.returns-clause-keeps
returns-clause-keeps g c = amended_keeps _ _ _ _ _ _ (returns-clause-cases g c)

pub returns-clause-reconciled : goal.returns-clause-reconciled
returns-clause-reconciled g c = amended_reconciled _ _ _ _ _ _ (returns-clause-cases g c)

pub returns-clause-corrections : goal.returns-clause-corrections
returns-clause-corrections g c =
    rw (← c.replace.ensures.schedule) (amendment_announces Corrects corrects _ _ _ _ c.settle_now.ensures.settled c.settle_now.ensures.correctable)

pub returns-clause-rounding : goal.returns-clause-rounding
returns-clause-rounding g c =
    rw (← c.replace.ensures.schedule) (amendment_announces Rounds rounds _ _ _ _ c.settle_now.ensures.settled c.settle_now.ensures.correctable)
