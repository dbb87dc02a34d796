use Rattle.std.proofs.Common.{sum_by, ap, arith}
use Rattle.std.proofs.lemmas.List.Sums.{sum_by_more_le}
use Rattle.month.specs.Amounts.{kwh_of}
use Rattle.month.specs.Validity.{within_bounded}
use Rattle.month.proofs.Blank.{no_bracket}
use Rattle.month.proofs.within.WithinLimits.sold.Goals as goal

pub overflow_add-kwh : goal.overflow_add-kwh
overflow_add-kwh c = omega (arith, (within_bounded c.args.self.now).sales, sum_by_more_le kwh_of c.as_slice-bracket-items.result.now c.loop-bracket.bracket-index no_bracket c.loop-bracket-test.true, ap (sum_by kwh_of) c.as_slice-bracket-items.ensures.value)
