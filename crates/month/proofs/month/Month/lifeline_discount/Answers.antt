use Rattle.std.proofs.Common.{◌≡◌, ◌/◌, get_or, sum_by, ap, ◌∙◌, arith}
use Rattle.std.proofs.lemmas.Bool.{cond-true, cond-false, lt-ltb, le-ltb}
use Rattle.std.proofs.lemmas.List.{take_all}
use Rattle.std.proofs.lemmas.List.Sums.{sum_by_more, sum_by_more_le}
use Rattle.month.specs.Amounts.{hundredfold, granted, discount}
use Rattle.month.specs.View.{figures}
use Rattle.month.proofs.Blank.{no_bracket}
use Rattle.month.proofs.Percents.{bracket_bounded, sum_most, discount_is}
use Rattle.month.proofs.month.Month.lifeline_discount.Goals as goal
use Rattle.month.proofs.month.Month.lifeline_discount.Goals.{then-bracket-gt0, else-bracket-gt0}

pub hundredfold-share-requires : goal.hundredfold-share-requires
hundredfold-share-requires c = bracket_bounded c.args.self.now c.as_slice-bracket-items.result.now c.loop-bracket.bracket-index no_bracket c.as_slice-bracket-items.ensures.value c.loop-bracket-test.true

pub overflow_add-total : goal.overflow_add-total
overflow_add-total c =
    let m = c.args.self.now in
    let xs = c.as_slice-bracket-items.result.now in
    let i = c.loop-bracket.bracket-index in
    let b = bracket_bounded m xs i no_bracket c.as_slice-bracket-items.ensures.value c.loop-bracket-test.true in
    let so_far = sum_by_more_le (granted m.within.statement.sales) xs i no_bracket c.loop-bracket-test.true in
    omega (arith, sum_most m, ap (sum_by (granted m.within.statement.sales)) c.as_slice-bracket-items.ensures.value, c.hundredfold-share.ensures)

pub loop-bracket-preserved : goal.loop-bracket-preserved
loop-bracket-preserved c =
    let sales = c.args.self.now.within.statement.sales in
    let xs = c.as_slice-bracket-items.result.now in
    let i = c.loop-bracket.bracket-index in
    let b = get_or xs i no_bracket in
    let s = sum_by_more (granted sales) xs i no_bracket c.loop-bracket-test.true in
    elim c.if-bracket-gt0.branch [
      | then-bracket-gt0 w ↦ omega (arith, w.total-is, w.hundredfold-share.ensures, cond-true _ (hundredfold sales b) 0 (lt-ltb 0 b.percent w.if-bracket-gt0.true))
      | else-bracket-gt0 w ↦ omega (arith, w.total-is, cond-false _ (hundredfold sales b) 0 (le-ltb 0 b.percent w.if-bracket-gt0.false))
    ]

pub returns : goal.returns
returns c =
    let m = c.args.self.now in
    let whole = take_all c.loop-bracket.bracket-index c.as_slice-bracket-items.result.now c.loop-bracket-test.false ∙ c.as_slice-bracket-items.ensures.value in
    let is : c.loop-bracket.total / 100 ≡ discount (figures m) = omega (arith, ap (sum_by (granted m.within.statement.sales)) whole) in
    record { is = is; formula = is ∙ discount_is (figures m); most = omega (arith, sum_most m) }
