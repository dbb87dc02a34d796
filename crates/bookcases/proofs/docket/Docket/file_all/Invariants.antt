use Rattle.std.proofs.Common.{length}
use Rattle.bookcases.proofs.docket.Docket.file_all.Given as goal

abbrev pub decreases-loop : goal.decreases-loop
decreases-loop l = length l.self
