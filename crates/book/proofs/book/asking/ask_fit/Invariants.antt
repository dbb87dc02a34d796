use Rattle.std.proofs.Common.{◌≡◌, None}
use Rattle.fields.specs.Questions.{first_no}
use Rattle.month.specs.View.{figures}
use Rattle.book.specs.Postings.{fit_asked}
use Rattle.book.proofs.book.asking.ask_fit.Given as goal

abbrev pub invariant-loop-number : goal.invariant-loop-number
invariant-loop-number g l = first_no (fit_asked (g.S.Schedule.meaning l.schedule) l.number (figures l.month)) ≡ None
