use Rattle.std.proofs.Common.{◌≡◌, ◌++◌, take, string_bytes, codes, decimal}
use Rattle.bounded.specs.View.{held}
use Rattle.monthpage.specs.Lines.{text, each_from, costs_line}
use Rattle.monthpage.proofs.report.put_costs.Given as goal

abbrev pub invariant-loop-i : goal.invariant-loop-i
invariant-loop-i l = string_bytes l.page ≡ string_bytes l.initial.page ++ text (each_from 1 (λ k s. costs_line (codes "source " ++ decimal k) s) (take l.i (held l.statement.sources)))
