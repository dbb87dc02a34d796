-- What a reader had, and what a writer then holds. Of a reader or a writer of which nothing is known, as standard input, nothing is asked.
use Rattle.std.specs.Prelude.{◌≡◌, ℕ, List, [], Option, IfSome, MatchResult}
use Rattle.std.specs.Io.KnownBytes.{Appends}
use Rattle.printed.specs.Lines.{written, room}
use Rattle.printed.specs.Runs.{State, closed, Printed, LacksRoom}
use Rattle.passbook.specs.declared.printing.Run.{Run}

-- all that was to be read was run, from a closed book on, and the lines of the run, whole or broken off, are written behind what the writer had
pub record PrintsLines (unread old new : Option (List ℕ)) (run : Run) : Type 0 where
  pub stream : List ℕ
  pub read : IfSome unread (λ bytes. stream ≡ bytes)
  pub after : State
  pub ran : MatchResult run.ended
      (λ _. Printed closed stream [] (written run.lines) after)
      (λ _. LacksRoom closed stream (room run.lines) [] (written run.lines) after)
  pub appended : Appends old new (written run.lines)

-- the run is whole
pub record PrintsRun (unread old new : Option (List ℕ)) : Type 0 where
  pub stream : List ℕ
  pub read : IfSome unread (λ bytes. stream ≡ bytes)
  pub lines : List ℕ
  pub after : State
  pub run : Printed closed stream [] lines after
  pub appended : Appends old new lines
