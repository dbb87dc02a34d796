use Rattle.std.proofs.Common.{◌≡◌}
use Rattle.book.specs.Opening.{given}
use Rattle.client.proofs.Transcripts.{SoFar}
use Rattle.client.proofs.running.run.Given as goal

abbrev pub invariant-loop : goal.invariant-loop
invariant-loop g l =
    record {
      schedule : l.book.schedule ≡ l.fn.book.schedule;
      so_far : SoFar g.C.Client.answers (g.S.Schedule.meaning l.book.schedule) (given l.fn.opening) l.fn.client l.counter l.client l.outcome l.book.account;
    }
