-- What is asked of a month's figures, in order.
use Rattle.std.specs.Prelude.{ℕ, ◌+◌, ◌*◌, Bool, ◌&&◌, List, [], ◌∷◌, ◌++◌, nat_le, nat_lt}
use Rattle.std.specs.List.{list_all}
use Rattle.month.specs.declared.fault.MonthFault.{MonthFault}
use Rattle.month.specs.declared.fault.MonthFault.TheVariants.{OutsideLimit, PassedOnAboveTaken, CostsTooHigh, CostBelowZero}
use Rattle.month.specs.declared.fault.MonthFault.TheVariants.{EnergyInconsistent, SalesInconsistent}
use Rattle.month.specs.declared.parts.Source.{Source}
use Rattle.month.specs.declared.parts.Energy.{Energy}
use Rattle.month.specs.declared.parts.Exempt.{Exempt}
use Rattle.month.specs.declared.parts.Bracket.{Bracket}
use Rattle.month.specs.declared.parts.Sales.{Sales}
use Rattle.month.specs.declared.tag.Tag.TheVariants as tag
use Rattle.month.specs.Amounts.{all_bought, gross, credits, sold}
use Rattle.month.specs.Figures.{Figures}

abbrev pub centavos_within : ℕ → Bool
centavos_within n = nat_le n 5000000000

abbrev pub kwh_within : ℕ → Bool
kwh_within n = nat_le n 10000000

abbrev pub million_within : ℕ → Bool
million_within n = nat_le n 1000000

abbrev pub source_within : Source → Bool
source_within s = centavos_within s.cost && centavos_within s.taken && centavos_within s.passed

abbrev pub energy_within : Energy → Bool
energy_within e = kwh_within e.input && kwh_within e.substation && kwh_within e.feeder

abbrev pub exempt_within : Exempt → Bool
exempt_within e = kwh_within e.generation && kwh_within e.transmission

abbrev pub bracket_within : Bracket → Bool
bracket_within b = kwh_within b.kwh && million_within b.customers && nat_le b.percent 100

abbrev pub sales_within : Sales → Bool
sales_within s = kwh_within s.nonlifeline && million_within s.rate && million_within s.metering

-- question 6, tag by tag: is each number within its limit?
abbrev pub limits_asked : Figures → List (Bool × MonthFault)
limits_asked f =
    (nat_le 1 f.month && nat_le f.month 36, OutsideLimit tag.Month)
    ∷ (list_all source_within f.sources, OutsideLimit tag.Sources)
    ∷ (centavos_within f.pilferage, OutsideLimit tag.Pilferage)
    ∷ (source_within f.transmission, OutsideLimit tag.Transmission)
    ∷ (energy_within f.energy && exempt_within f.exempt, OutsideLimit tag.Energy)
    ∷ (list_all bracket_within f.brackets, OutsideLimit tag.Brackets)
    ∷ (sales_within f.sales, OutsideLimit tag.Sales)
    ∷ []

abbrev pub passed_on_within : Source → Bool
passed_on_within s = nat_le s.passed s.taken

-- at most half the input is lost, and some of it is charged
abbrev pub energy_fits : Figures → Bool
energy_fits f =
    nat_le (2 * (f.energy.substation + f.energy.feeder)) f.energy.input
    && nat_lt f.exempt.generation f.energy.input
    && nat_lt f.exempt.transmission f.energy.input

-- something is sold at the full rate, and no more is sold than what is charged
abbrev pub sales_fit : Figures → Bool
sales_fit f =
    nat_le 1 f.sales.nonlifeline
    && nat_le (sold f + f.exempt.generation) f.energy.input
    && nat_le (sold f + f.exempt.transmission) f.energy.input

-- questions 7 to 11
abbrev pub rules_asked : Figures → List (Bool × MonthFault)
rules_asked f =
    (list_all passed_on_within f.sources, PassedOnAboveTaken tag.Sources)
    ∷ (passed_on_within f.transmission, PassedOnAboveTaken tag.Transmission)
    ∷ (centavos_within (all_bought f).cost, CostsTooHigh tag.Sources)
    ∷ (nat_le (credits (all_bought f) f.pilferage) (gross (all_bought f)), CostBelowZero tag.Sources)
    ∷ (nat_le (credits f.transmission 0) (gross f.transmission), CostBelowZero tag.Transmission)
    ∷ (energy_fits f, EnergyInconsistent tag.Energy)
    ∷ (sales_fit f, SalesInconsistent tag.Sales)
    ∷ []

-- questions 6 to 11
abbrev pub month_asked : Figures → List (Bool × MonthFault)
month_asked f = limits_asked f ++ rules_asked f
