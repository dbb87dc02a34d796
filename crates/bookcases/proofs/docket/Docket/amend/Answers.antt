use Rattle.bookcases.proofs.Kept.{keeps_posted}
use Rattle.bookcases.proofs.docket.Docket.amend.Goals as goal

pub invariant_of-self : goal.invariant_of-self
invariant_of-self c = keeps_posted _ c.self.inside.book c.amend.new.self c.self.inside.duties.items c.amend.result c.self.invariant c.amend.ensures.keeps c.amend.ensures.refused
