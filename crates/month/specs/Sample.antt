-- The sample month, which worked examples are about.
use Rattle.std.specs.Prelude.{ℕ, [], ◌∷◌}
use Rattle.month.specs.Figures.{Figures}

-- one source and one lifeline bracket, by the month's number and by what was recovered of stolen power
abbrev pub sample_month : ℕ → ℕ → Figures
sample_month month recovered = record {
  month = month;
  sources = record { cost = 60000000; taken = 400000; passed = 0 } ∷ [];
  pilferage = recovered;
  transmission = record { cost = 12000000; taken = 0; passed = 0 };
  energy = record { input = 120000; substation = 2400; feeder = 9600 };
  exempt = record { generation = 0; transmission = 0 };
  brackets = record { kwh = 8000; customers = 400; percent = 50 } ∷ [];
  sales = record { nonlifeline = 100000; rate = 80000; metering = 50000 };
}
