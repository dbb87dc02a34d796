-- The formulas of Resolution 14 on plain figures. A rate is whole units per kWh and an allowance is in units, both rounded down.
-- In the resolution's letters TGC is the total generation cost, AGR the generation rate and AGC the allowable generation cost; t, or TC − 50% PFD,
-- is the transmission cost, TR and ATR are the transmission rate and ATC the allowable transmission cost; SLR is the system loss rate; TD is the
-- total lifeline discount, S_NL the non-lifeline kWh and LSR the lifeline rate. Adjustments of earlier periods are not part of a base rate.
use Rattle.std.specs.Prelude.{ℕ, ◌+◌, ◌-◌, ◌*◌, ◌/◌, min, List, sum_by}
use Rattle.bounded.specs.Ends.{latest}
use Rattle.month.specs.Amounts.{generation_cost, transmission_cost, sold, discount}
use Rattle.month.specs.Figures.{Figures}
use Rattle.month.specs.declared.parts.Energy.{Energy}

-- kWh_GR: the input that is charged generation, I − X
abbrev pub generation_divisor : Figures → ℕ
generation_divisor m = m.energy.input - m.exempt.generation

-- Formula 1, AGR = TGC / kWh_GR: ⌊G / (I − X)⌋
abbrev pub generation_rate : Figures → ℕ
generation_rate m = generation_cost m / generation_divisor m

-- Formula 7, AGC = (TGC / kWh) × S, over the one month: ⌊G × S / (I − X)⌋
abbrev pub generation_allowance : Figures → ℕ
generation_allowance m = generation_cost m * sold m / generation_divisor m

-- kWh_TR: the input that is charged transmission, I − Y
abbrev pub transmission_divisor : Figures → ℕ
transmission_divisor m = m.energy.input - m.exempt.transmission

-- Formula 2.A, TR = t / kWh_TR, for one customer class: ⌊T / (I − Y)⌋
abbrev pub transmission_rate : Figures → ℕ
transmission_rate m = transmission_cost m / transmission_divisor m

-- Formula 8, ATC = ((TC − 50% PFD) / kWh) × S, over the one month and for one customer class: ⌊T × S / (I − Y)⌋
abbrev pub transmission_allowance : Figures → ℕ
transmission_allowance m = transmission_cost m * sold m / transmission_divisor m

-- the totals of I, A and F, each by itself
abbrev pub energy_totals : List Figures → Energy
energy_totals ms = record { input = sum_by (λ m. m.energy.input) ms; substation = sum_by (λ m. m.energy.substation) ms; feeder = sum_by (λ m. m.energy.feeder) ms }

-- I12, A12 and F12: the totals over the latest twelve months, or over fewer when fewer stand
abbrev pub twelve_months : List Figures → Energy
twelve_months ms = energy_totals (latest 12 ms)

-- U of Formula 3 in ten-thousandths, by the feeder loss cap C in hundredths of a percent: ⌊(10000 × A12 + min(10000 × F12, C × I12)) / (I12 − A12 − F12)⌋
abbrev pub gross_up : ℕ → Energy → ℕ
gross_up cap e = (10000 * e.substation + min (10000 * e.feeder) (cap * e.input)) / (e.input - e.substation - e.feeder)

-- Formula 3, SLR = (AGR + ATR) × U, by the two prices g and t and by U: ⌊(g + t) × U / 10000⌋
abbrev pub loss_rate : ℕ → ℕ → ℕ → ℕ
loss_rate g t u = (g + t) * u / 10000

-- Formula 3 over the kWh sold: ⌊(g + t) × U × S / 10000⌋
abbrev pub loss_allowance : ℕ → ℕ → ℕ → ℕ → ℕ
loss_allowance g t u s = (g + t) * u * s / 10000

-- Formula 4, LSR = TD / S_NL: ⌊D / N⌋; its allowance is all of D
abbrev pub lifeline_rate : Figures → ℕ
lifeline_rate m = discount m / m.sales.nonlifeline
