use Rattle.std.proofs.Common.{arith}
use Rattle.month.specs.Validity.{within_bounded}
use Rattle.month.proofs.within.WithinLimits.sales_fit.Goals as goal

pub overflow_add-sold : goal.overflow_add-sold
overflow_add-sold c = let b = within_bounded c.args.self.now in omega (arith, c.sold-sold.ensures)
