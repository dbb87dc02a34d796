-- What the charges mean, by the formulas.
use Rattle.std.specs.Prelude.{ℕ, ◌*◌, ◌/◌, Bool, if◌then◌else◌, ◌&&◌, List, [], ◌∷◌, nat_le}
use Rattle.month.specs.Amounts.{sold, discount}
use Rattle.month.specs.Figures.{Figures}
use Rattle.charges.specs.Formulas.{generation_rate, generation_allowance, transmission_rate, transmission_allowance, twelve_months}
use Rattle.charges.specs.Formulas.{gross_up, loss_rate, loss_allowance, lifeline_rate}
use Rattle.charges.specs.Meaning.{Meaning, Pricing, with_price}

-- an answer for the last of the months; with no month, rate 0 and allowance 0
abbrev pub for_last : (Figures → ℕ × ℕ) → List Figures → ℕ × ℕ
for_last answer [] = (0, 0)
for_last answer (m ∷ []) = answer m
for_last answer (_ ∷ m ∷ ms) = for_last answer (m ∷ ms)

-- a rate with which a month is fit
abbrev pub rate_fits : ℕ → Bool
rate_fits rate = nat_le rate 1000000

abbrev pub generation : Meaning
generation = record { fit = λ m. rate_fits (generation_rate m); quantity = sold; assessed = for_last (λ m. (generation_rate m, generation_allowance m)) }

abbrev pub transmission : Meaning
transmission = record { fit = λ m. rate_fits (transmission_rate m); quantity = sold; assessed = for_last (λ m. (transmission_rate m, transmission_allowance m)) }

-- the two on whose prices the loss charge of the resolution stands
abbrev pub priced_generation : Pricing
priced_generation = with_price generation generation_rate

abbrev pub priced_transmission : Pricing
priced_transmission = with_price transmission transmission_rate

-- over any two priced mechanisms, at their prices; 0 and 0 for a month that is not fit
abbrev pub loss : Pricing → Pricing → ℕ → Meaning
loss g t cap = record {
  fit = λ m. g.meaning.fit m && t.meaning.fit m;
  quantity = sold;
  assessed = λ ms.
      let u = gross_up cap (twelve_months ms) in
      for_last (λ m. if g.meaning.fit m && t.meaning.fit m then (loss_rate (g.price m) (t.price m) u, loss_allowance (g.price m) (t.price m) u (sold m)) else (0, 0)) ms;
}

abbrev pub lifeline : Meaning
lifeline = record { fit = λ m. rate_fits (lifeline_rate m); quantity = λ m. m.sales.nonlifeline; assessed = for_last (λ m. (lifeline_rate m, discount m)) }

-- a cost averaged over its divisor, and what the quantity bears of it
abbrev pub averaged : ℕ → ℕ → ℕ → ℕ × ℕ
averaged cost divisor quantity = (cost / divisor, cost * quantity / divisor)

-- any purchase at its average cost, by its cost and its divisor: generation and transmission are two
abbrev pub average_cost : (Figures → ℕ) → (Figures → ℕ) → Meaning
average_cost cost divisor = record { fit = λ m. rate_fits (cost m / divisor m); quantity = sold; assessed = for_last (λ m. averaged (cost m) (divisor m) (sold m)) }
