use Rattle.std.proofs.Common.{Option, None}
use Rattle.std.proofs.lemmas.Result.{MatchResult-at_ok}
use Rattle.book.specs.Opening.{given}
use Rattle.client.specs.Prompts.{Prompted}
use Rattle.client.specs.Runs.{Run}
use Rattle.client.specs.declared.outcome.Outcome.{Outcome}
use Rattle.client.proofs.Prompts.{run_clears}
use Rattle.client.proofs.prompt.run_promptly.Goals as goal

pub returns-clause-ended : goal.returns-clause-ended
returns-clause-ended g c = λ ended.
    let Ran : Option Outcome → Type 0 = λ untold. Run Prompted (g.S.Schedule.meaning c.args.book.now.schedule) (given c.args.opening.now) c.args.most c.args.client.now c.run.new.client untold c.args.book.now.account c.run.new.book.account in
    run_clears (MatchResult-at_ok Ran _ None ended c.run.ensures.cases)
