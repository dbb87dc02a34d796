-- The month is written at the place of its number, where one stands.
use Rattle.std.proofs.Common.{◌≡◌, ◌-◌, rules}
use Rattle.month.specs.View.{figures}
use Rattle.book.specs.declared.kind.PostingKind.TheVariants.{Amendment}
use Rattle.book.proofs.Admits.{asked_inside}
use Rattle.book.proofs.Replaced.{sound_with_replaced, replaces}
use Rattle.book.proofs.book.Book.replace.Goals as goal

pub invariant_of-self : goal.invariant_of-self
invariant_of-self g c =
    let b = c.self.inside in
    let row = g.S.Schedule.meaning b.schedule in
    let clear = asked_inside Amendment g.S.Schedule.meaning _ _ (figures c.args.month) c.self.view_is c.requires in
    let at : c.from-place.result - 1 ≡ (figures c.args.month).month - 1 = search rules in
    let was = c.self.invariant in
    (sound_with_replaced row b.months.items c.args.month _ at b.opened b.billed.items b.records.items was.0 clear, was.1, was.2, was.3)

pub returns-clause-replaced : goal.returns-clause-replaced
returns-clause-replaced g c =
    let b = c.self.inside in
    let row = g.S.Schedule.meaning b.schedule in
    let clear = asked_inside Amendment g.S.Schedule.meaning _ _ (figures c.args.month) c.self.view_is c.requires in
    let at : c.from-place.result - 1 ≡ (figures c.args.month).month - 1 = search rules in
    rw (← c.self.view_is) (replaces row b.months.items c.args.month _ at b.opened b.billed.items b.records.items clear)
