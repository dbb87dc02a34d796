use Rattle.std.proofs.lemmas.Result.{MatchResult-weaker}
use Rattle.printed.proofs.Journals.{run_facts}
use Rattle.printed.proofs.Once.{once_where_printed}
use Rattle.printed.proofs.run.write_run.Goals as goal

pub returns-clause-cases : goal.returns-clause-cases
returns-clause-cases c = MatchResult-weaker c.run_frames-ran.result c.run_frames-ran.ensures.cases (λ _ run. run.0) (λ _ run. run.0)

pub returns-clause-once : goal.returns-clause-once
returns-clause-once c = once_where_printed _ _ _ _ _ _ c.run_frames-ran.result (returns-clause-cases c)

pub returns-clause-facts : goal.returns-clause-facts
returns-clause-facts c =
    λ begun agrees. MatchResult-weaker c.run_frames-ran.result c.run_frames-ran.ensures.cases
    (λ _ run. (run.0, run_facts _ _ c.run_frames-ran.new.book c.audit.ensures run.1 begun agrees))
    (λ _ run. (run.0, run_facts _ _ c.run_frames-ran.new.book c.audit.ensures run.1 begun agrees))
