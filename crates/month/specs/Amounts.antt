-- What follows from a month's figures.
use Rattle.std.specs.Prelude.{ℕ, ◌+◌, ◌-◌, ◌*◌, ◌/◌, if◌then◌else◌, ℤ, pos, ◌-ℤ◌, ◌*ℤ◌, sum_by, nat_lt}
use Rattle.month.specs.declared.parts.Source.{Source}
use Rattle.month.specs.declared.parts.Bracket.{Bracket}
use Rattle.month.specs.declared.parts.Sales.{Sales}
use Rattle.month.specs.Figures.{Figures}

abbrev pub cost_of : Source → ℕ
cost_of s = s.cost

abbrev pub taken_of : Source → ℕ
taken_of s = s.taken

abbrev pub passed_of : Source → ℕ
passed_of s = s.passed

abbrev pub kwh_of : Bracket → ℕ
kwh_of b = b.kwh

-- all sources as one
abbrev pub all_bought : Figures → Source
all_bought f = record { cost = sum_by cost_of f.sources; taken = sum_by taken_of f.sources; passed = sum_by passed_of f.sources }

-- in units: a hundred for each centavo of cost, and half the discount passed on
abbrev pub gross : Source → ℕ
gross s = 100 * s.cost + 50 * s.passed

-- in units: a hundred for each centavo recovered, and half the discount taken
abbrev pub credits : Source → ℕ → ℕ
credits s recovered = 100 * recovered + 50 * s.taken

-- G, and T, as they are computed: no month has one below zero
abbrev pub generation_cost : Figures → ℕ
generation_cost f = gross (all_bought f) - credits (all_bought f) f.pilferage

abbrev pub transmission_cost : Figures → ℕ
transmission_cost f = gross f.transmission - credits f.transmission 0

-- what is to be recovered: the cost less what was recovered already, and less half the discount that was kept
abbrev pub recoverable : Source → ℕ → ℤ
recoverable s recovered = (pos 100 *ℤ (pos s.cost -ℤ pos recovered)) -ℤ (pos 50 *ℤ (pos s.taken -ℤ pos s.passed))

-- G = 100 × (source costs − P) − 50 × (discounts taken − passed on)
abbrev pub generation_formula : Figures → ℤ
generation_formula f = recoverable (all_bought f) f.pilferage

-- T = 100 × transmission cost − 50 × (discount taken − passed on)
abbrev pub transmission_formula : Figures → ℤ
transmission_formula f = recoverable f.transmission 0

-- S: the non-lifeline kWh and those of all brackets
abbrev pub sold : Figures → ℕ
sold f = f.sales.nonlifeline + sum_by kwh_of f.brackets

-- a hundred times the discount of one bracket
abbrev pub hundredfold : Sales → Bracket → ℕ
hundredfold s b = (b.kwh * s.rate + b.customers * s.metering) * b.percent

-- the same, where a bracket of 0 percent is passed over
abbrev pub granted : Sales → Bracket → ℕ
granted s b = if nat_lt 0 b.percent then hundredfold s b else 0

-- D as it is computed: one division, rounded down, of the whole sum
abbrev pub discount : Figures → ℕ
discount f = sum_by (granted f.sales) f.brackets / 100

-- D = ⌊sum of (kWh × R + customers × M) × percent / 100⌋
abbrev pub discount_formula : Figures → ℕ
discount_formula f = sum_by (hundredfold f.sales) f.brackets / 100
