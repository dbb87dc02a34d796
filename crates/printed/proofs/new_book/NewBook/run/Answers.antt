use Rattle.std.proofs.Common.{None, ap, sym, subst}
use Rattle.std.proofs.lemmas.Result.{err_from_is_err_and}
use Rattle.printed.specs.Journals.{LacksRoomWith, PrintedWith, RunFacts}
use Rattle.printed.specs.Lines.{written, room}
use Rattle.printed.specs.Runs.{State, Printed, state_of}
use Rattle.printed.proofs.new_book.NewBook.run.Goals as goal

pub returns-clause-cases : goal.returns-clause-cases
returns-clause-cases c =
    let facts = c.in_ok-write_run.ensures.facts None (ap (λ s. s.account) c.self.invariant) in
    subst (λ (s : State). PrintedWith (RunFacts None) s c.args.input.now (written c.args.output.now) (written c.write_run.new.output) (state_of c.write_run.new.book)) c.self.invariant facts

pub returns-clause-once : goal.returns-clause-once
returns-clause-once c = λ out after printed.
    c.in_ok-write_run.ensures.once out after (subst (λ (s : State). Printed s c.args.input.now (written c.args.output.now) out after) (sym c.self.invariant) printed)

pub returns-in_err-write_run-clause-cases : goal.returns-in_err-write_run-clause-cases
returns-in_err-write_run-clause-cases c =
    let err = err_from_is_err_and c.from_residual.result c.from_residual.ensures.1 in
    let facts = c.in_err-write_run.ensures.facts None (ap (λ s. s.account) c.self.invariant) in
    rw (err.1) (
      state_of c.write_run.new.book,
      subst (λ (s : State). LacksRoomWith (RunFacts None) s c.args.input.now (room c.write_run.new.output) (written c.args.output.now) (written c.write_run.new.output) (state_of c.write_run.new.book)) c.self.invariant facts,
    )

pub returns-in_err-write_run-clause-once : goal.returns-in_err-write_run-clause-once
returns-in_err-write_run-clause-once c =
    let err = err_from_is_err_and c.from_residual.result c.from_residual.ensures.1 in
    rw (err.1) (λ out after printed. c.in_err-write_run.ensures.once out after (subst (λ (s : State). Printed s c.args.input.now (written c.args.output.now) out after) (sym c.self.invariant) printed))
