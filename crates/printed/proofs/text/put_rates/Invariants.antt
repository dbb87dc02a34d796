use Rattle.std.proofs.Common.{◌≡◌, ◌+◌, ◌*◌, ◌≤◌, ◌++◌, map, take}
use Rattle.std.specs.Fmt.{signed_decimal}
use Rattle.arrayvec.specs.ArrayString.{array_string_len}
use Rattle.printed.specs.Lines.{spaced}
use Rattle.printed.proofs.text.put_rates.Given as goal

abbrev pub invariant-loop-rate : goal.invariant-loop-rate
invariant-loop-rate l = record {
  appended : l.text.bytes ≡ l.initial.text.bytes ++ spaced (map signed_decimal (map (λ r. r.units) (take l.rate-index l.rates)));
  longer : array_string_len l.text ≤ array_string_len l.initial.text + 41 * l.rate-index;
}
