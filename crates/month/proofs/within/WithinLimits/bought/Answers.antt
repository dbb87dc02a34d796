use Rattle.std.proofs.Common.{◌≡◌, ℕ, ◌+◌, ◌<◌, ◌≤◌, List, length, get_or, take, sum_by, ap, ◌∙◌, arith}
use Rattle.std.proofs.lemmas.List.{take_all}
use Rattle.std.proofs.lemmas.List.Sums.{sum_by_more_le}
use Rattle.month.specs.Amounts.{cost_of, taken_of, passed_of}
use Rattle.month.specs.declared.parts.Source.{Source}
use Rattle.month.specs.Validity.{within_bounded}
use Rattle.month.proofs.Blank.{no_source}
use Rattle.month.proofs.within.WithinLimits.bought.Goals as goal

-- one source more, of a list that is known to be ys
more : (part : Source → ℕ) (xs ys : List Source) (i : ℕ) → xs ≡ ys → i < length xs
    → sum_by part (take i xs) + part (get_or xs i no_source) ≤ sum_by part ys
more part xs ys i is h = omega (arith, sum_by_more_le part xs i no_source h, ap (sum_by part) is)

pub overflow_add-cost : goal.overflow_add-cost
overflow_add-cost c = omega (arith, (within_bounded c.args.self.now).costs, more cost_of _ _ _ c.as_slice-source-items.ensures.value c.loop-source-test.true)

pub overflow_add-taken : goal.overflow_add-taken
overflow_add-taken c = omega (arith, (within_bounded c.args.self.now).taken, more taken_of _ _ _ c.as_slice-source-items.ensures.value c.loop-source-test.true)

pub overflow_add-passed : goal.overflow_add-passed
overflow_add-passed c = omega (arith, (within_bounded c.args.self.now).passed, more passed_of _ _ _ c.as_slice-source-items.ensures.value c.loop-source-test.true)

pub returns-clause-bounded : goal.returns-clause-bounded
returns-clause-bounded c =
    let most = within_bounded c.args.self.now in
    let whole = take_all c.loop-source.source-index c.as_slice-source-items.result.now c.loop-source-test.false ∙ c.as_slice-source-items.ensures.value in
    record {
      cost = omega (arith, c.loop-source.invariant.0, ap (sum_by cost_of) whole);
      taken = omega (arith, c.loop-source.invariant.1, ap (sum_by taken_of) whole);
      passed = omega (arith, c.loop-source.invariant.2, ap (sum_by passed_of) whole);
    }
