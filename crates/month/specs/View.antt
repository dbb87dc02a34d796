-- What a month is: its figures.
use Rattle.month.specs.declared.month.Month.{Month}
use Rattle.month.specs.Figures.{Figures}
use Rattle.month.specs.Stated.{stated}

abbrev pub figures : Month → Figures
figures m = stated m.within.statement
