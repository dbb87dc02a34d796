use Rattle.std.proofs.Common.{ap, sym, ◌∙◌, arith}
use Rattle.clientcases.specs.Covering.{optional}
use Rattle.clientcases.proofs.Runs.{untold_of, run_covers, untold_covered}
use Rattle.clientcases.proofs.ending.run_through.Goals as goal

pub let_go-requires : goal.let_go-requires
let_go-requires g c =
    let untold = ap untold_of c.in-Ok-Some.field-0-is ∙ sym c.parted-told.ensures ∙ ap optional c.in-Some.is in
    (untold_covered g.C.Client.answers g.C.Keeper.keeps g.met.C.Keeper.makes_none _ c.args.other.now.account c.in-Ok-Some.ensures.cases c.requires untold).1

pub returns-in-Ok-None : goal.returns-in-Ok-None
returns-in-Ok-None g c = λ book month. omega (arith, run_covers g.C.Client.answers g.C.Keeper.keeps g.met.C.Keeper.makes_none _ c.args.other.now.account c.in-Ok-None.ensures.cases c.requires book month)

pub returns-in-Some : goal.returns-in-Some
returns-in-Some g c =
    let untold = ap untold_of c.in-Ok-Some.field-0-is ∙ sym c.parted-told.ensures ∙ ap optional c.in-Some.is in
    c.let_go.ensures (g.C.Keeper.keeps c.run.new.client) (untold_covered g.C.Client.answers g.C.Keeper.keeps g.met.C.Keeper.makes_none _ c.args.other.now.account c.in-Ok-Some.ensures.cases c.requires untold).0

pub returns-in_default : goal.returns-in_default
returns-in_default g c = λ book month. omega (arith, run_covers g.C.Client.answers g.C.Keeper.keeps g.met.C.Keeper.makes_none _ c.args.other.now.account c.in-Ok-Some.ensures.cases c.requires book month)
