-- The facts that questions 6 to 11 ask, in plain numbers: a month that exists has them all.
use Rattle.std.specs.Prelude.{◌+◌, ◌*◌, ◌<◌, ◌≤◌, pos, ◌≤ℤ◌, sum_by, All}
use Rattle.month.specs.declared.parts.Source.{Source}
use Rattle.month.specs.declared.parts.Bracket.{Bracket}
use Rattle.month.specs.Amounts.{cost_of, generation_formula, transmission_formula, sold}
use Rattle.month.specs.Figures.{Figures, Counted}

pub record SourceWithin (s : Source) : Type 0 where
  pub cost_most : s.cost ≤ 5000000000
  pub taken_most : s.taken ≤ 5000000000
  pub passed_most : s.passed ≤ 5000000000

pub record BracketWithin (b : Bracket) : Type 0 where
  pub kwh_most : b.kwh ≤ 10000000
  pub customers_most : b.customers ≤ 1000000
  pub percent_most : b.percent ≤ 100

-- each number within its limit
pub record Within (f : Figures) : Type 0 where
  pub month_least : 1 ≤ f.month
  pub month_most : f.month ≤ 36
  pub sources : All SourceWithin f.sources
  pub pilferage_most : f.pilferage ≤ 5000000000
  pub transmission : SourceWithin f.transmission
  pub input_most : f.energy.input ≤ 10000000
  pub substation_most : f.energy.substation ≤ 10000000
  pub feeder_most : f.energy.feeder ≤ 10000000
  pub generation_exempt_most : f.exempt.generation ≤ 10000000
  pub transmission_exempt_most : f.exempt.transmission ≤ 10000000
  pub brackets : All BracketWithin f.brackets
  pub nonlifeline_most : f.sales.nonlifeline ≤ 10000000
  pub rate_most : f.sales.rate ≤ 1000000
  pub metering_most : f.sales.metering ≤ 1000000

pub record Valid (f : Figures) : Type 0 where
  pub counted : Counted f
  pub within : Within f
  -- no discount passed on above the one taken
  pub sources_passed : All (λ s. s.passed ≤ s.taken) f.sources
  pub transmission_passed : f.transmission.passed ≤ f.transmission.taken
  pub costs_most : sum_by cost_of f.sources ≤ 5000000000
  -- G and T are not below zero
  pub generation_not_negative : pos 0 ≤ℤ generation_formula f
  pub transmission_not_negative : pos 0 ≤ℤ transmission_formula f
  -- at most half the input is lost, and some of it is charged
  pub losses : 2 * (f.energy.substation + f.energy.feeder) ≤ f.energy.input
  pub generation_charged : f.exempt.generation < f.energy.input
  pub transmission_charged : f.exempt.transmission < f.energy.input
  -- something is sold at the full rate, and no more is sold than what is charged
  pub some_sold : 1 ≤ f.sales.nonlifeline
  pub sold_generation : sold f + f.exempt.generation ≤ f.energy.input
  pub sold_transmission : sold f + f.exempt.transmission ≤ f.energy.input
