-- The loss charge keeps the law of a mechanism, over any two priced mechanisms.
use Rattle.std.specs.Prelude.{◌≡◌, ℕ, ◌+◌, ◌≤◌, true, [], ◌∷◌, ◌++◌}
use Rattle.std.proofs.Common.{arith}
use Rattle.std.proofs.lemmas.Nat.{mul-le}
use Rattle.std.proofs.lemmas.List.Elements.{All-weaker}
use Rattle.std.proofs.lemmas.List.{length_push}
use Rattle.std.proofs.lemmas.Bool.{and_parts}
use Rattle.bounded.proofs.Ends.{latest_length}
use Rattle.month.specs.Amounts.{generation_cost, transmission_cost}
use Rattle.month.specs.Valid.{Valid}
use Rattle.charges.specs.Charges.{priced_generation, priced_transmission, loss}
use Rattle.charges.specs.Formulas.{generation_divisor, transmission_divisor, twelve_months}
use Rattle.charges.specs.Meaning.{Pricing, Lawful, LawfulPrice}
use Rattle.charges.specs.Energies.{twelve_kept, gross_up_most}
use Rattle.charges.specs.Last.{last_answered, last_fit}
use Rattle.charges.specs.Laws.{sold_at_average, average_priced}

pub loss_lawful : (g t : Pricing) → LawfulPrice g → LawfulPrice t → (cap : ℕ) → Lawful (loss g t cap)
loss_lawful g t priced-g priced-t cap before m stands =
    let ms = before ++ m ∷ [] in
    let known = last_fit (loss g t cap) before m stands in
    let v = known.0 in
    let both = and_parts (g.meaning.fit m) (t.meaning.fit m) known.1 in
    let kept = twelve_kept ms (All-weaker (λ f. Valid f × ((loss g t cap).fit f ≡ true)) Valid (λ f h. h.0) ms stands.fit) in
    let prices : g.price m + t.price m ≤ 2000000 = omega (arith, priced-g.limit m v both.0, priced-t.limit m v both.1) in
    let factor = gross_up_most cap (twelve_months ms) kept.losses (omega (arith, kept.least, latest_length 12 ms, length_push before m)) in
    simp (last_answered, known.1) (sold_at_average m v _ 10000 (omega arith) (omega (arith, mul-le _ _ 2000000 10000 prices factor)))

pub loss_of_both_lawful : (cap : ℕ) → Lawful (loss priced_generation priced_transmission cap)
loss_of_both_lawful = loss_lawful priced_generation priced_transmission (average_priced generation_cost generation_divisor) (average_priced transmission_cost transmission_divisor)
