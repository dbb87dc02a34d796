use Rattle.std.proofs.Common.{refl}
use Rattle.std.proofs.lemmas.Result.{err_from_is_err_and}
use Rattle.book.specs.Opening.{given}
use Rattle.book.proofs.Opens.{not_opened, now_open}
use Rattle.book.proofs.book.Book.open.Goals as goal

pub returns-in_err-opened-clause-cases : goal.returns-in_err-opened-clause-cases
returns-in_err-opened-clause-cases g c =
    let err = err_from_is_err_and c.from_residual.result c.from_residual.ensures.1 in
    rw (err.1, err.2, ← c.self.view_is) (not_opened _ (given c.args.opening.now) c.self.invariant.0 c.count.ensures c.is_none.ensures _ c.in_err-opened.ensures)

pub invariant_of-self : goal.invariant_of-self
invariant_of-self g c =
    let kept = c.self.invariant in
    let now = now_open _ (given c.args.opening.now) kept.0 c.count.ensures c.is_none.ensures c.in_ok-opened.opened c.in_ok-opened.ensures in
    (now.sound, kept.1, kept.2, kept.3)

pub returns : goal.returns
returns g c =
    let now = now_open _ (given c.args.opening.now) c.self.invariant.0 c.count.ensures c.is_none.ensures c.in_ok-opened.opened c.in_ok-opened.ensures in
    rw (← c.self.view_is) (record { schedule = refl; cases = now.opens; refused = tt; reconciled = now.reconciled })
