-- All mechanisms find the months that stand fit, so that they can be settled.
use Rattle.std.proofs.Common.{◌≡◌, ◌+◌, ◌-◌, length, sym, subst, arith}
use Rattle.book.specs.Amending.{SomeMonth}
use Rattle.book.proofs.Corrected.{correctable_settled}
use Rattle.book.proofs.Resettled.{some_recorded, settles_now, settled_by_write}
use Rattle.book.proofs.book.Book.settle_now.Goals as goal

pub unreachable-requires-in_default-settle : goal.unreachable-requires-in_default-settle
unreachable-requires-in_default-settle g c =
    let b = c.self.inside in
    let row = g.S.Schedule.meaning b.schedule in
    let some = subst (λ x. SomeMonth x.account) (sym c.self.view_is) c.requires in
    let can = settles_now row b.months.items b.billed.items b.records.items c.in-Some.opened c.in-Some.is (g.met.S.Schedule.lawful b.schedule) c.self.invariant.0 some in
    c.in_default-settle.ensures.cases (rw c.as_slice.ensures.value can)

pub returns-clause-settled : goal.returns-clause-settled
returns-clause-settled g c =
    let b = c.self.inside in
    let row = g.S.Schedule.meaning b.schedule in
    let some = subst (λ x. SomeMonth x.account) (sym c.self.view_is) c.requires in
    let recorded = some_recorded row b.months.items b.billed.items b.records.items b.opened c.self.invariant.0 some in
    let long : length b.records.items ≡ (c.len-last.result - 1) + 1 = omega arith in
    rw (← c.self.view_is, c.in-Some.is) (settled_by_write row b.months.items b.billed.items b.records.items c.in-Some.opened _ c.index.result.now c.of_month.result c.in-Some-settle.answer long c.index.ensures (rw (← c.as_slice-3.ensures.value) c.of_month.ensures) (rw (← c.as_slice.ensures.value, ← c.as_slice-2.ensures.value) c.in-Some-settle.ensures.cases.1))

pub returns-clause-correctable : goal.returns-clause-correctable
returns-clause-correctable g c =
    let b = c.self.inside in
    let some = subst (λ x. SomeMonth x.account) (sym c.self.view_is) c.requires in
    rw (← c.self.view_is) (correctable_settled (g.S.Schedule.meaning b.schedule) c.in-Some.opened c.in-Some-settle.answer.rates b.months.items b.billed.items b.records.items _ _ c.in-Some.is (g.met.S.Schedule.lawful b.schedule) c.self.invariant.0 some)
