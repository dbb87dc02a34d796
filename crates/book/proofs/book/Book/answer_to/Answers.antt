-- The months that stand and the one that is asked about are fit, so that they can be settled.
use Rattle.month.specs.View.{figures}
use Rattle.settlement.specs.Settling.{answered}
use Rattle.book.specs.declared.kind.PostingKind.TheVariants.{Entry}
use Rattle.book.proofs.Admits.{asked_inside}
use Rattle.book.proofs.Settles.{settles, answers_held}
use Rattle.book.proofs.book.Book.answer_to.Goals as goal

pub unreachable-requires-in_default-settle_with : goal.unreachable-requires-in_default-settle_with
unreachable-requires-in_default-settle_with g c =
    let b = c.self.inside in
    let row = g.S.Schedule.meaning b.schedule in
    let clear = asked_inside Entry g.S.Schedule.meaning _ _ (figures c.args.month.now) c.self.view_is c.requires in
    let can = settles row c.in-Some.opened b.months.items b.billed.items b.records.items c.in-Some.is c.args.month.now (g.met.S.Schedule.lawful b.schedule) c.self.invariant.0 clear in
    c.in_default-settle_with.ensures (rw c.as_slice.ensures.value can.room) (rw c.as_slice-2.ensures.value can.room_billed) (rw c.as_slice.ensures.value can.lawful)

pub returns : goal.returns
returns g c =
    let b = c.self.inside in
    let row = g.S.Schedule.meaning b.schedule in
    let clear = asked_inside Entry g.S.Schedule.meaning _ _ (figures c.args.month.now) c.self.view_is c.requires in
    let can = settles row c.in-Some.opened b.months.items b.billed.items b.records.items c.in-Some.is c.args.month.now (g.met.S.Schedule.lawful b.schedule) c.self.invariant.0 clear in
    let answers = c.in-Some-settle_with.ensures (rw c.as_slice.ensures.value can.room) (rw c.as_slice-2.ensures.value can.room_billed) in
    rw (← c.self.view_is) (answers_held row c.in-Some.opened b.months.items b.billed.items b.records.items c.in-Some.is (figures c.args.month.now) (answered c.in-Some-settle_with.answer) (rw (← c.as_slice.ensures.value, ← c.as_slice-2.ensures.value, ← c.as_slice-3.ensures.value) answers.1))
