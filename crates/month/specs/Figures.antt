-- What a month states, as plain numbers and lists.
use Rattle.std.specs.Prelude.{ℕ, ◌≤◌, List, length}
use Rattle.month.specs.declared.parts.Source.{Source}
use Rattle.month.specs.declared.parts.Energy.{Energy}
use Rattle.month.specs.declared.parts.Exempt.{Exempt}
use Rattle.month.specs.declared.parts.Bracket.{Bracket}
use Rattle.month.specs.declared.parts.Sales.{Sales}

-- costs and discounts in centavos, energy in kWh, rates in units of a ten-thousandth of a peso
pub record Figures : Type 0 where
  pub month : ℕ
  pub sources : List Source
  pub pilferage : ℕ
  pub transmission : Source
  pub energy : Energy
  pub exempt : Exempt
  pub brackets : List Bracket
  pub sales : Sales

-- one to eight sources, none to four brackets
pub record Counted (f : Figures) : Type 0 where
  pub some_source : 1 ≤ length f.sources
  pub few_sources : length f.sources ≤ 8
  pub few_brackets : length f.brackets ≤ 4
