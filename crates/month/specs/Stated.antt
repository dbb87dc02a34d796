-- The figures of a statement.
use Rattle.bounded.specs.View.{held}
use Rattle.month.specs.declared.statement.Statement.{Statement}
use Rattle.month.specs.Figures.{Figures}

abbrev pub stated : Statement → Figures
stated s = record {
  month = s.month;
  sources = held s.sources;
  pilferage = s.pilferage;
  transmission = s.transmission;
  energy = s.energy;
  exempt = s.exempt;
  brackets = held s.brackets;
  sales = s.sales;
}
