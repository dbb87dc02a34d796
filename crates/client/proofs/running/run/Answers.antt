use Rattle.std.proofs.Common.{refl, ◌∙◌, arith}
use Rattle.client.proofs.Transcripts.{none_made, one_made, ended}
use Rattle.client.proofs.running.run.Goals as goal

pub loop-init : goal.loop-init
loop-init g c =
    let opened = c.in_ok-open.ensures in
    record { schedule = opened.schedule; so_far = rw (opened.schedule) (none_made g.C.Client.answers _ opened.cases.book opened.reconciled) }

pub loop-preserved : goal.loop-preserved
loop-preserved g c =
    let acted = c.act-outcome.ensures in
    record {
      schedule = acted.schedule ∙ c.loop.invariant.schedule;
      so_far = rw (acted.schedule) (one_made g.C.Client.answers _ c.loop.invariant.so_far c.in-Some.ensures acted.acted c.audit.ensures acted.reconciled);
    }

pub returns-in_default-clause-cases : goal.returns-in_default-clause-cases
returns-in_default-clause-cases g c =
    let same = c.loop.invariant.schedule in
    rw (← same) (ended g.C.Client.answers _ c.loop.invariant.so_far {last = c.next.new.self} (rw (same) (c.in_ok-open.ensures.cases.asked)) (c.in_default.ensures, c.loop-test.true) c.audit.ensures)

pub returns-clause-cases : goal.returns-clause-cases
returns-clause-cases g c =
    let same = c.loop.invariant.schedule in
    rw (← same) (ended g.C.Client.answers _ c.loop.invariant.so_far {last = c.loop.client} (rw (same) (c.in_ok-open.ensures.cases.asked)) (refl, refl, omega (arith, c.loop-test.false, c.loop.auto.counter-end)) c.audit-2.ensures)
