use Rattle.std.proofs.Common.{subst}
use Rattle.bookcases.proofs.Kept.{keeps_filed}
use Rattle.bookcases.specs.Kept.{Keeps}
use Rattle.bookcases.proofs.docket.Docket.give_up_last.Goals as goal

pub invariant_of-self-2 : goal.invariant_of-self-2
invariant_of-self-2 c =
    let kept = subst (Keeps c.self.inside.book.account) c.in_ok-duty.ensures.items c.self.invariant in
    keeps_filed c.pop.new.self.items kept c.in-Ok.ensures.cases
