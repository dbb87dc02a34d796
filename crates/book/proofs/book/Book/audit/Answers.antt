-- What every book keeps, and the law of its schedule, give the facts.
use Rattle.book.proofs.Audited.{book_facts}
use Rattle.book.proofs.book.Book.audit.Goals as goal

pub returns : goal.returns
returns g c =
    let b = c.self.inside in
    rw (← c.self.view_is) (book_facts (g.S.Schedule.meaning b.schedule) b.opened b.months.items b.billed.items b.records.items (g.met.S.Schedule.lawful b.schedule) c.self.invariant.0)
