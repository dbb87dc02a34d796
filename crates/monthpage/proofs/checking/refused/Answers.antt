use Rattle.std.proofs.lemmas.Option.{IfSome_then}
use Rattle.monthpage.proofs.Texts.{none, more}
use Rattle.monthpage.proofs.checking.refused.Goals as goal

pub returns-clause-lines : goal.returns-clause-lines
returns-clause-lines g c =
    let one = more _ _ _ (none _) c.in_ok-put_line.ensures in
    IfSome_then (g.F.Display.output c.args.sentence) c.in_ok-put_line-2.ensures (λ words put. rw c.new-page.ensures.bytes at (more _ _ _ one put))
