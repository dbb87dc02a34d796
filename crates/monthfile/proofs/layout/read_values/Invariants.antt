use Rattle.std.proofs.Common.{map}
use Rattle.monthfile.proofs.Progress.{Progress}
use Rattle.monthfile.proofs.layout.read_values.Given as goal

abbrev pub invariant-loop-i : goal.invariant-loop-i
invariant-loop-i l = Progress l.file (map (λ v. v.now) l.values) l.i l.reader.bytes.now l.reader.at
