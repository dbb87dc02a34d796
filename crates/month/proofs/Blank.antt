-- What stands for an element where there is none.
use Rattle.month.specs.declared.parts.Source.{Source}
use Rattle.month.specs.declared.parts.Bracket.{Bracket}

abbrev pub no_source : Source
no_source = record { cost = 0; taken = 0; passed = 0 }

abbrev pub no_bracket : Bracket
no_bracket = record { kwh = 0; customers = 0; percent = 0 }
