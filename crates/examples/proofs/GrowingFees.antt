-- The fee by the months that a slice has.
use Rattle.std.proofs.Common.{◌≡◌, ℕ, ◌-◌, ◌*◌, true, List, map, length, nat_lt, slice_index_or, ap, sym, ◌∙◌}
use Rattle.std.proofs.lemmas.List.{length-map}
use Rattle.month.specs.Amounts.{sold}
use Rattle.month.specs.View.{figures}
use Rattle.month.specs.declared.month.Month.{Month}
use Rattle.charges.specs.Last.{with_last}
use Rattle.examples.specs.GrowingFees.{growing_fee, rate_after}

pub growing_answer : (ms : List Month) (m : Month) (rate quantity : ℕ) → rate ≡ rate_after (length ms) → quantity ≡ sold (figures m)
    → true ≡ nat_lt 0 (length ms) → m ≡ slice_index_or ms (length ms - 1) m
    → growing_fee.assessed (map figures ms) ≡ (rate, rate * quantity)
growing_answer ms m rate quantity is sales some last =
    let standing : rate_after (length (map figures ms)) ≡ rate = ap rate_after (length-map ms figures) ∙ sym is in
    with_last ms (λ x. (rate_after (length (map figures ms)), rate_after (length (map figures ms)) * sold x)) m some last ∙ ap (λ r. (r, r * sold (figures m))) standing ∙ ap (λ q. (rate, rate * q)) (sym sales)
