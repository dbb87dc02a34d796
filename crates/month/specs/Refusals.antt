-- What is told of each fault: the number of its question, its layer and its place.
use Rattle.fields.specs.Refusals.{field_refusal}
use Rattle.fields.specs.declared.refusal.Layer.TheVariants as layer
use Rattle.fields.specs.declared.refusal.Refusal.{Refusal}
use Rattle.month.specs.declared.fault.FileFault.{FileFault}
use Rattle.month.specs.declared.fault.FileFault.TheVariants.{Field, GoesOn}
use Rattle.month.specs.declared.fault.MonthFault.{MonthFault}
use Rattle.month.specs.declared.fault.MonthFault.TheVariants.{File, OutsideLimit, PassedOnAboveTaken, CostsTooHigh, CostBelowZero}
use Rattle.month.specs.declared.fault.MonthFault.TheVariants.{EnergyInconsistent, SalesInconsistent}
use Rattle.month.specs.Tags.{tag_number}

abbrev pub file_refusal : FileFault → Refusal
file_refusal (Field e) = field_refusal e
file_refusal (GoesOn at) = record { number = 5; layer = layer.File; place = at }

abbrev pub month_refusal : MonthFault → Refusal
month_refusal (File e) = file_refusal e
month_refusal (OutsideLimit tag) = record { number = 6; layer = layer.Month; place = tag_number tag }
month_refusal (PassedOnAboveTaken tag) = record { number = 7; layer = layer.Month; place = tag_number tag }
month_refusal (CostsTooHigh tag) = record { number = 8; layer = layer.Month; place = tag_number tag }
month_refusal (CostBelowZero tag) = record { number = 9; layer = layer.Month; place = tag_number tag }
month_refusal (EnergyInconsistent tag) = record { number = 10; layer = layer.Month; place = tag_number tag }
month_refusal (SalesInconsistent tag) = record { number = 11; layer = layer.Month; place = tag_number tag }
