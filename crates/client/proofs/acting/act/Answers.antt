use Rattle.std.proofs.Common.{sym, subst}
use Rattle.book.specs.Reconciled.{BookReconciled}
use Rattle.client.proofs.acting.act.Goals as goal

pub returns-in-Enter-clause-reconciled : goal.returns-in-Enter-clause-reconciled
returns-in-Enter-clause-reconciled g c = rw (c.in-Enter.is, ← c.deref.ensures.value) (c.enter.ensures.reconciled)

pub returns-in-Amend-clause-reconciled : goal.returns-in-Amend-clause-reconciled
returns-in-Amend-clause-reconciled g c = rw (c.in-Amend.is, ← c.deref-in-Amend.ensures.value) (c.amend.ensures.reconciled)

pub returns-in-File-clause-reconciled : goal.returns-in-File-clause-reconciled
returns-in-File-clause-reconciled g c = rw (c.in-File.is) (λ o before after held same.
    subst (λ ps. BookReconciled (g.S.Schedule.meaning c.args.book.now.schedule) o ps c.file.new.self.account) (sym same) (c.file.ensures.reconciled o before held))

pub returns-in-GiveUp-clause-reconciled : goal.returns-in-GiveUp-clause-reconciled
returns-in-GiveUp-clause-reconciled g c = rw (c.in-GiveUp.is) (λ o before after held same.
    subst (λ ps. BookReconciled (g.S.Schedule.meaning c.args.book.now.schedule) o ps c.give_up.new.self.account) (sym same) (c.give_up.ensures.reconciled o before held))
