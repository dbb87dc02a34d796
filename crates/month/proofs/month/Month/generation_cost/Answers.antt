use Rattle.std.proofs.Common.{ap, arith}
use Rattle.month.specs.Amounts.{cost_of, taken_of, passed_of}
use Rattle.month.specs.View.{figures}
use Rattle.month.specs.Validity.{month_valid, bought_bounded, sum_passed}
use Rattle.month.proofs.month.Month.generation_cost.Goals as goal

pub recoverable-requires-clause-bounded : goal.recoverable-requires-clause-bounded
recoverable-requires-clause-bounded c = bought_bounded c.args.self.now

pub returns-clause-most : goal.returns-clause-most
returns-clause-most c =
    let v = month_valid c.args.self.now in
    let is = c.args.self.now.all_bought in
    omega (arith, c.in-Some.ensures.is, ap cost_of is, ap taken_of is, ap passed_of is, v.costs_most, sum_passed (figures c.args.self.now) v)
