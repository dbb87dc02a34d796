use Rattle.std.proofs.Common.{◌≡◌, ◌++◌, take, string_bytes}
use Rattle.bounded.specs.View.{held}
use Rattle.monthpage.specs.Lines.{text, each_from, bracket_line}
use Rattle.monthpage.proofs.report.put_sales.Given as goal

abbrev pub invariant-loop-i : goal.invariant-loop-i
invariant-loop-i l = string_bytes l.page ≡ string_bytes l.initial.page ++ text (each_from 1 bracket_line (take l.i (held l.statement.brackets)))
