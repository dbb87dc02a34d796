-- The first mechanism that does not find the month fit is told.
use Rattle.std.proofs.Common.{◌≡◌, false, arith, rules}
use Rattle.month.specs.View.{figures}
use Rattle.schedule.specs.Rows.{numbered}
use Rattle.book.specs.declared.fault.BookFault.TheVariants.{NotFit}
use Rattle.book.proofs.Asking.{first_no_numbered}
use Rattle.book.proofs.book.asking.ask_fit.Goals as goal

pub returns-then-not-is_fit : goal.returns-then-not-is_fit
returns-then-not-is_fit g c =
    let m = figures c.args.month.now in
    let row = g.S.Schedule.meaning c.args.schedule.now in
    let i = c.loop-number.number in
    let unfit : (numbered row i).fit m ≡ false = search rules in
    first_no_numbered (λ n. ((numbered row n).fit m, NotFit n)) i c.args.mechanisms (NotFit i) (search rules) c.loop-number.invariant (grind arith)
