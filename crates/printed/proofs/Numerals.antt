-- Numerals read back.
use Rattle.std.proofs.Common.{◌≡◌, ℕ, zero, suc, ◌+◌, ◌-◌, ◌*◌, ◌/◌, ◌%◌, ◌^◌, ◌<◌, ◌≤◌, List, [], ◌∷◌, ◌++◌, length, slice_index, refl, ap}
use Rattle.std.proofs.Common.{◌∙◌, arith}
use Rattle.std.specs.Fmt.{decimal}
use Rattle.std.specs.List.{All}
use Rattle.std.proofs.lemmas.Fmt.{decimal_digit, decimal_by_steps, decimal_nonempty, first_decimal}
use Rattle.std.proofs.lemmas.Grind.{fold-append}
use Rattle.std.proofs.lemmas.List.Elements.{All-nil, All-cons, All-push}
use Rattle.printed.specs.Numerals.{IsDigit, digits_value, Numeral, NumbersReadBack}

-- digits of n
record Reads (n : ℕ) (ds : List ℕ) : Type 0 where
  digits : All IsDigit ds
  value : digits_value ds ≡ n

reads_one : (n : ℕ) → n < 10 → Reads n ((48 + n) ∷ [])
reads_one n small = record {
  digits = All-cons IsDigit (48 + n) [] (omega arith, omega arith) (All-nil IsDigit);
  value = omega arith;
}

reads_more : (n : ℕ) (ds : List ℕ) → 10 ≤ n → Reads (n / 10) ds → Reads n (ds ++ ((48 + n % 10) ∷ []))
reads_more n ds large front = record {
  digits = All-push IsDigit ds (48 + n % 10) front.digits (omega arith, omega arith);
  value = fold-append (λ n d. 10 * n + (d - 48)) 0 ds ((48 + n % 10) ∷ []) ∙ omega (arith, front.value);
}

no_zero_first : (n : ℕ) → n < 2 ^ 64 → slice_index (decimal n) 0 ≡ 48 → length (decimal n) ≡ 1
no_zero_first zero small first = ap length (decimal_digit 0 (omega arith))
no_zero_first (suc n) small first = absurd (omega (arith, first_decimal (suc n) (omega arith) small))

numeral : (n : ℕ) → n < 2 ^ 64 → Numeral (decimal n) n
numeral n small =
    let reads = decimal_by_steps Reads reads_one reads_more n small in
    record {
      some = decimal_nonempty n small;
      digits = reads.digits;
      value = reads.value;
      no_leading_zero = no_zero_first n small;
    }

pub numbers_read_back : NumbersReadBack
numbers_read_back = record {
  unsigned = numeral;
  above = λ n small. numeral n (omega arith);
  below = λ n small. (decimal (suc n), refl, numeral (suc n) (omega arith));
}
