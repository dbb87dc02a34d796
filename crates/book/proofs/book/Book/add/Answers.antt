-- There is room for the month, and the book is sound with it.
use Rattle.std.proofs.Common.{◌≡◌, ◌≤◌, length, refl, ap, rules, arith}
use Rattle.std.proofs.lemmas.List.{length_push}
use Rattle.std.specs.Vec.{vec_len}
use Rattle.month.specs.View.{figures}
use Rattle.book.specs.declared.kind.PostingKind.TheVariants.{Entry}
use Rattle.book.proofs.Added.{room_for_month, sound_with_month, owed_with_month}
use Rattle.book.proofs.Admits.{asked_inside}
use Rattle.book.proofs.Corrected.{correctable}
use Rattle.book.proofs.book.Book.add.Goals as goal

pub push_reserved-requires : goal.push_reserved-requires
push_reserved-requires g c =
    let b = c.self.inside in
    let clear = asked_inside Entry g.S.Schedule.meaning _ _ (figures c.args.month) c.self.view_is c.requires in
    let room = room_for_month (g.S.Schedule.meaning b.schedule) b.months.items c.args.month c.in-Some.opened b.billed.items b.records.items c.in-Some.is c.self.invariant.0 clear in
    let long : vec_len b.months ≡ length b.months.items = search rules in
    omega (arith, room.0, c.self.invariant.1, long)

pub push_reserved-requires-2 : goal.push_reserved-requires-2
push_reserved-requires-2 g c =
    let b = c.self.inside in
    let clear = asked_inside Entry g.S.Schedule.meaning _ _ (figures c.args.month) c.self.view_is c.requires in
    let room = room_for_month (g.S.Schedule.meaning b.schedule) b.months.items c.args.month c.in-Some.opened b.billed.items b.records.items c.in-Some.is c.self.invariant.0 clear in
    let long : vec_len b.billed ≡ length b.billed.items = search rules in
    omega (arith, room.1, c.self.invariant.2, long)

pub push_reserved-requires-3 : goal.push_reserved-requires-3
push_reserved-requires-3 g c =
    let b = c.self.inside in
    let clear = asked_inside Entry g.S.Schedule.meaning _ _ (figures c.args.month) c.self.view_is c.requires in
    let room = room_for_month (g.S.Schedule.meaning b.schedule) b.months.items c.args.month c.in-Some.opened b.billed.items b.records.items c.in-Some.is c.self.invariant.0 clear in
    let long : vec_len b.records ≡ length b.records.items = search rules in
    omega (arith, room.2, c.self.invariant.3, long)

pub invariant_of-self : goal.invariant_of-self
invariant_of-self g c =
    let b = c.self.inside in
    let row = g.S.Schedule.meaning b.schedule in
    let opened = c.in-Some.opened in
    let was = c.self.invariant in
    let clear = asked_inside Entry g.S.Schedule.meaning _ _ (figures c.args.month) c.self.view_is c.requires in
    let sound = sound_with_month row b.months.items c.args.month opened _ b.billed.items b.records.items opened.announced _ c.in-Some.is refl was.0 clear in
    rw (c.push_reserved.ensures.items, c.push_reserved-2.ensures.items, c.push_reserved-3.ensures.items, c.push_reserved.ensures.capacity, c.push_reserved-2.ensures.capacity, c.push_reserved-3.ensures.capacity) (sound, was.1, was.2, was.3)

pub returns-clause-owed : goal.returns-clause-owed
returns-clause-owed g c =
    let b = c.self.inside in
    let row = g.S.Schedule.meaning b.schedule in
    let clear = asked_inside Entry g.S.Schedule.meaning _ _ (figures c.args.month) c.self.view_is c.requires in
    owed_with_month row b.months.items c.args.month c.in-Some.opened c.in-Some.opened b.billed.items b.billed.items b.records.items _ b.months.items _ (record { book = c.in-Some.opened.number; month = c.statement.result.now.month }) c.in-Some.is refl c.self.invariant.0 clear c.push_reserved-3.ensures.items refl refl (ap (λ s. s.month) c.statement.ensures.is)

pub returns-clause-correctable : goal.returns-clause-correctable
returns-clause-correctable g c =
    let b = c.self.inside in
    let some : 1 ≤ length c.push_reserved.new.self.items = rw c.push_reserved.ensures.items (omega (arith, length_push b.months.items c.args.month)) in
    rw (← c.self.view_is) (correctable (g.S.Schedule.meaning b.schedule) _ _ _ _ (g.met.S.Schedule.lawful b.schedule) (invariant_of-self g c).0 some)
