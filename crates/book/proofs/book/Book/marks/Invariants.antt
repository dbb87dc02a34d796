use Rattle.std.proofs.Common.{◌≡◌, map, take}
use Rattle.bounded.specs.View.{held}
use Rattle.book.proofs.book.Book.marks.Given as goal

abbrev pub invariant-loop-record : goal.invariant-loop-record
invariant-loop-record g l = held l.marks ≡ map (λ r. r.mark) (take l.record-index l.record-items)
