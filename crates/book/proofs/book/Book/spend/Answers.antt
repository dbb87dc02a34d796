use Rattle.std.proofs.Common.{ap, sym, arith}
use Rattle.book.proofs.Marks.{spent_by_write}
use Rattle.book.proofs.book.Book.spend.Goals as goal

pub returns-clause-cases : goal.returns-clause-cases
returns-clause-cases g c =
    spent_by_write _ _ _ c.self.inside.records.items _ c.args.duty c.args.mark _ _ (ap (λ b. b.account) c.self.view_is) (sym c.if-not-owes.ensures) (omega arith) c.index-record.ensures
