use Rattle.std.proofs.Common.{◌≤◌, length, append_assoc, arith}
use Rattle.std.proofs.lemmas.List.{take_all}
use Rattle.std.proofs.lemmas.Result.{on_ok_weaker}
use Rattle.bounded.specs.View.{held}
use Rattle.monthpage.specs.Lines.{bracket_line}
use Rattle.monthpage.proofs.Texts.{none, more, each_more}
use Rattle.monthpage.proofs.report.put_sales.Goals as goal

pub loop-i-init : goal.loop-i-init
loop-i-init c = none _

pub loop-i-preserved : goal.loop-i-preserved
loop-i-preserved c =
    each_more 1 _ _ bracket_line (held c.args.statement.now.brackets) _ _ _ _ _ c.as_slice-bracket-items.ensures.value c.loop-i.invariant (omega arith) (omega arith) c.in_ok-put_bracket.ensures

pub returns : goal.returns
returns c =
    let brackets = held c.args.statement.now.brackets in
    let done : length brackets ≤ c.loop-i.i = rw c.as_slice-bracket-items.ensures.value at c.loop-i-test.false in
    let all = rw (take_all c.loop-i.i brackets done) at c.loop-i.invariant in
    simp append_assoc at (on_ok_weaker c.put_figure-3.result (λ put. more _ _ _ (more _ _ _ (more _ _ _ all c.in_ok-put_figure.ensures) c.in_ok-put_figure-2.ensures) put) c.put_figure-3.ensures)
