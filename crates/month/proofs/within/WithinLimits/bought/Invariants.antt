use Rattle.std.proofs.Common.{◌≡◌, take, sum_by}
use Rattle.month.specs.Amounts.{cost_of, taken_of, passed_of}
use Rattle.month.proofs.within.WithinLimits.bought.Given as goal

abbrev pub invariant-loop-source : goal.invariant-loop-source
invariant-loop-source l =
    let done = take l.source-index l.source-items in
    (l.cost ≡ sum_by cost_of done) × (l.taken ≡ sum_by taken_of done) × (l.passed ≡ sum_by passed_of done)
