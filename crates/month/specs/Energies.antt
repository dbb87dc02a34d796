-- Energy that adds up: the input, the sub-transmission and substation loss, and the feeder loss, each by itself.
use Rattle.std.specs.Prelude.{ℕ, ◌+◌, max}
use Rattle.bounded.specs.Sizes.{saturated}
use Rattle.month.specs.declared.parts.Energy.{Energy}

abbrev pub no_energy : Energy
no_energy = record { input = 0; substation = 0; feeder = 0 }

abbrev pub added : Energy → Energy → Energy
added x y = record { input = x.input + y.input; substation = x.substation + y.substation; feeder = x.feeder + y.feeder }

-- the greatest of the three
abbrev pub energy_size : Energy → ℕ
energy_size x = max x.input (max x.substation x.feeder)

-- what 64 bits hold of each
abbrev pub stored_energy : Energy → Energy
stored_energy x = record { input = saturated x.input; substation = saturated x.substation; feeder = saturated x.feeder }
