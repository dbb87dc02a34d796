use Rattle.std.proofs.Common.{◌≡◌, ◌≤◌, ◌-◌, length}
use Rattle.book.specs.Reading.{NonePending}
use Rattle.printed.specs.Lines.{written, room}
use Rattle.printed.specs.Runs.{state_of}
use Rattle.printed.proofs.Runs.{SoFar}
use Rattle.printed.proofs.run.run_frames.Given as goal

abbrev pub invariant-loop-frame : goal.invariant-loop-frame
invariant-loop-frame l =
    record {
      stream : l.frames.reader.bytes.now ≡ l.input;
      room : room l.initial.output ≤ room l.output;
      none_pending : NonePending l.initial.book.account → NonePending l.book.account;
      so_far : SoFar (state_of l.initial.book) l.input (written l.initial.output) l.frames.reader.at (written l.output) (state_of l.book);
    }

abbrev pub decreases-loop-frame : goal.decreases-loop-frame
decreases-loop-frame l = length l.input - l.frames.reader.at
