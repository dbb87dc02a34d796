use Rattle.std.proofs.Common.{rules, string_bytes, ◌∙◌}
use Rattle.std.proofs.lemmas.Option.{IfSome_then}
use Rattle.monthpage.proofs.printing.print_whole.Goals as goal

pub returns : goal.returns
returns g c = record {
  file = c.as_slice.result.now;
  read = IfSome_then (g.R.Read.remaining c.args.input.now) c.in_ok-read_to_end.ensures.bytes
      (λ bytes read. c.as_slice.ensures.value ∙ rw c.new-file.ensures.items at read);
  page = string_bytes c.in-Ok.checked.page;
  good = c.in-Ok.checked.good;
  checked = c.in-Ok.ensures.cases;
  written = search rules;
  told = c.exit_code.ensures;
}
