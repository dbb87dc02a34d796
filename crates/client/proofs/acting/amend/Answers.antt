use Rattle.std.proofs.Common.{subst}
use Rattle.book.specs.Tally.{Posts}
use Rattle.book.specs.declared.kind.PostingKind.TheVariants.{Amendment}
use Rattle.settlement.specs.Settling.{answered}
use Rattle.client.proofs.acting.amend.Goals as goal

pub returns-in-Ok-clause-reconciled : goal.returns-in-Ok-clause-reconciled
returns-in-Ok-clause-reconciled g c = λ o before after held posts.
    c.in-Ok.ensures.reconciled o before after held (subst (λ marks. Posts Amendment c.args.file.now marks (answered c.amend.new.answer) before after) c.marks-marks.ensures posts)
