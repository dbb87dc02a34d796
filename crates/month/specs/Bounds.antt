-- How large numbers and sums are where no number is outside its limit.
use Rattle.std.specs.Prelude.{◌*◌, ◌≤◌}
use Rattle.month.specs.declared.parts.Bracket.{Bracket}
use Rattle.month.specs.declared.parts.Source.{Source}
use Rattle.month.specs.declared.parts.Sales.{Sales}
use Rattle.month.specs.Amounts.{all_bought, sold, hundredfold}
use Rattle.month.specs.Figures.{Figures}

pub record Bounded (f : Figures) : Type 0 where
  pub costs : (all_bought f).cost ≤ 40000000000
  pub taken : (all_bought f).taken ≤ 40000000000
  pub passed : (all_bought f).passed ≤ 40000000000
  pub pilferage : f.pilferage ≤ 5000000000
  pub transmission_cost_most : f.transmission.cost ≤ 5000000000
  pub transmission_taken_most : f.transmission.taken ≤ 5000000000
  pub transmission_passed_most : f.transmission.passed ≤ 5000000000
  pub substation : f.energy.substation ≤ 10000000
  pub feeder : f.energy.feeder ≤ 10000000
  pub generation_exempt : f.exempt.generation ≤ 10000000
  pub transmission_exempt : f.exempt.transmission ≤ 10000000
  pub sales : sold f ≤ 50000000

-- what was bought from one supplier, or from all
pub record BoundedSource (s : Source) : Type 0 where
  pub cost : s.cost ≤ 40000000000
  pub taken : s.taken ≤ 40000000000
  pub passed : s.passed ≤ 40000000000

-- a hundred times one bracket's discount, and the parts that it is made of
pub record BoundedBracket (s : Sales) (b : Bracket) : Type 0 where
  pub energy : b.kwh * s.rate ≤ 10000000000000
  pub metering : b.customers * s.metering ≤ 1000000000000
  pub product : hundredfold s b ≤ 1100000000000000
