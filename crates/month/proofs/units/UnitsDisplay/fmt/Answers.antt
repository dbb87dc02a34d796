use Rattle.std.proofs.Common.{◌≡◌, ℕ, ◌-◌, ◌%◌, ◌^◌, append-nil, ap, ◌∙◌}
use native.Mathlib.Nat.{sub-zero}
use Rattle.std.specs.Fmt.{styled_decimal, padded_integral, format_spec, char_count}
use Rattle.month.specs.UnitWords.{four_digits}
use Rattle.month.proofs.units.UnitsDisplay.fmt.Goals as goal

-- what `{:04}` writes of a number
padded_is : (n : ℕ) → styled_decimal (format_spec 32 0 4 4 (2 ^ 64 - 1)) n ≡ four_digits n
unfolding padded_integral char_count
padded_is n = simp (sub-zero, append-nil)

pub returns-clause-writes : goal.returns-clause-writes
returns-clause-writes g c =
    let n = c.args.self.now.0 % 10000 in
    let is : styled_decimal c.laid_out.result n ≡ four_digits n = ap (λ s. styled_decimal s n) c.laid_out.ensures ∙ padded_is n in
    rw is at c.write.ensures.writes
