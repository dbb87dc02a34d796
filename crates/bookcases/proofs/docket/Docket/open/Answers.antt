use Rattle.std.proofs.Common.{refl}
use Rattle.bookcases.proofs.Kept.{keeps_asked}
use Rattle.bookcases.proofs.docket.Docket.open.Goals as goal

pub invariant_of-self : goal.invariant_of-self
invariant_of-self c =
    keeps_asked _ c.self.inside.book c.open.new.self _ c.self.inside.duties.items c.open.result refl c.self.invariant c.open.ensures.cases c.open.ensures.refused
