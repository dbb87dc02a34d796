-- Worked examples: the definitions compute them.
use Rattle.std.proofs.Common.{◌≡◌, ℕ, true, false, [], ◌∷◌, replicate, refl}
use Rattle.month.specs.Figures.{Figures}
use Rattle.month.specs.Sample.{sample_month}
use Rattle.charges.specs.Charges.{generation, transmission, priced_generation, priced_transmission, loss, lifeline}
use Rattle.charges.specs.Formulas.{twelve_months, gross_up}

abbrev sample : ℕ → Figures
sample recovered = sample_month 1 recovered

sample_generation : generation.assessed (sample 50000 ∷ []) ≡ (49791, 5377500000)
sample_generation = refl

sample_transmission : transmission.assessed (sample 50000 ∷ []) ≡ (10000, 1080000000)
sample_transmission = refl

sample_loss : (loss priced_generation priced_transmission 500).assessed (sample 50000 ∷ []) ≡ (4645, 501742155)
sample_loss = refl

sample_lifeline : lifeline.assessed (sample 50000 ∷ []) ≡ (3300, 330000000)
sample_lifeline = refl

generation_without_pilferage : generation.assessed (sample 0 ∷ []) ≡ (49833, 5382000000)
generation_without_pilferage = refl

loss_without_pilferage : (loss priced_generation priced_transmission 500).assessed (sample 0 ∷ []) ≡ (4649, 502094602)
loss_without_pilferage = refl

-- of 13 months the last 12 count
thirteen_months : (twelve_months (replicate 13 (sample 0))).input ≡ 1440000
thirteen_months = refl

-- 1,000 kWh of input at this source cost in centavos
abbrev priced : ℕ → Figures
priced cost = record {
  month = 1;
  sources = record { cost = cost; taken = 0; passed = 0 } ∷ [];
  pilferage = 0;
  transmission = record { cost = 0; taken = 0; passed = 0 };
  energy = record { input = 1000; substation = 0; feeder = 0 };
  exempt = record { generation = 0; transmission = 0 };
  brackets = [];
  sales = record { nonlifeline = 900; rate = 0; metering = 0 };
}

price_of_a_million : generation.fit (priced 10000000) ≡ true
price_of_a_million = refl

price_above_a_million : generation.fit (priced 10000010) ≡ false
price_above_a_million = refl

-- half of the input lost in the substation; half of it in the feeder, with a cap of 5 percent; less in the feeder than the cap of 50 percent allows
half_lost : gross_up 0 (record { input = 100; substation = 50; feeder = 0 }) ≡ 10000
half_lost = refl

feeder_capped : gross_up 500 (record { input = 100; substation = 0; feeder = 50 }) ≡ 1000
feeder_capped = refl

feeder_not_capped : gross_up 5000 (record { input = 100; substation = 0; feeder = 40 }) ≡ 6666
feeder_not_capped = refl
