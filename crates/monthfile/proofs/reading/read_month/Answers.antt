use Rattle.std.proofs.lemmas.Result.{MatchResult-weaker, err_from_is_err_and}
use Rattle.std.specs.Result.{MatchResult}
use Rattle.monthfile.specs.Reading.{Accepted, Refused}
use Rattle.monthfile.proofs.Answering.{refused_file, refused_month, accepted_month, valid_file, month_fault, file_fault}
use Rattle.monthfile.proofs.reading.read_month.Goals as goal

pub returns-in_err-read_statement : goal.returns-in_err-read_statement
returns-in_err-read_statement c =
    let p = err_from_is_err_and c.from_residual.result c.from_residual.ensures.1 in
    let file = c.args.file.now in
    let r = c.from_residual.result in
    let cases : MatchResult r (λ m. Accepted file m) (λ e. Refused file e) = rw (p.1, p.2) (refused_file file _ c.in_err-read_statement.ensures) in
    record { cases = cases; valid_file = valid_file file r cases; month_fault = month_fault file r cases; file_fault = file_fault file r cases }

pub returns : goal.returns
returns c =
    let file = c.args.file.now in
    let is = c.in_ok-read_statement.ensures in
    let cases = MatchResult-weaker c.new.result c.new.ensures.cases (λ m made. accepted_month file _ m is made) (λ e refused. refused_month file _ e is refused) in
    record { cases = cases; valid_file = valid_file file c.new.result cases; month_fault = month_fault file c.new.result cases; file_fault = file_fault file c.new.result cases }
