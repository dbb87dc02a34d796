-- The sentence for each fault.
use Rattle.std.specs.Prelude.{ℕ, List, ◌++◌, codes, decimal}
use Rattle.fields.specs.Words.{field_sentence}
use Rattle.month.specs.declared.fault.FileFault.{FileFault}
use Rattle.month.specs.declared.fault.FileFault.TheVariants.{Field, GoesOn}
use Rattle.month.specs.declared.fault.MonthFault.{MonthFault}
use Rattle.month.specs.declared.fault.MonthFault.TheVariants.{File, OutsideLimit, PassedOnAboveTaken, CostsTooHigh, CostBelowZero}
use Rattle.month.specs.declared.fault.MonthFault.TheVariants.{EnergyInconsistent, SalesInconsistent}
use Rattle.month.specs.declared.tag.Tag.{Tag}
use Rattle.month.specs.declared.tag.Tag.TheVariants as tag
use Rattle.month.specs.Tags.{tag_number}

-- the limits of the numbers in a field
abbrev pub limit_words : Tag → List ℕ
limit_words tag.Month = codes "the month is 1 to 36"
limit_words tag.Energy = codes "energy goes up to 10000000 kWh"
limit_words tag.Brackets = codes "a bracket has up to 10000000 kWh, 1000000 customers and 100 percent"
limit_words tag.Sales = codes "N goes up to 10000000 kWh, R and M go up to 1000000 units"
limit_words _ = codes "amounts go up to 5000000000 centavos"

-- the cost that is recovered by a field
abbrev pub cost_words : Tag → List ℕ
cost_words tag.Sources = codes "The cost of generation G"
cost_words _ = codes "The cost of transmission T"

abbrev pub file_sentence : FileFault → List ℕ
file_sentence (Field e) = field_sentence e
file_sentence (GoesOn at) = codes "The file goes on at byte " ++ (decimal at ++ codes ", after its last field.")

abbrev pub month_sentence : MonthFault → List ℕ
month_sentence (File e) = file_sentence e
month_sentence (OutsideLimit tag) = codes "A number in field " ++ (decimal (tag_number tag) ++ (codes " is outside its limit: " ++ (limit_words tag ++ codes ".")))
month_sentence (PassedOnAboveTaken tag) = codes "In field " ++ (decimal (tag_number tag) ++ codes " a discount passed on is above the discount taken.")
month_sentence (CostsTooHigh tag) = codes "The source costs in field " ++ (decimal (tag_number tag) ++ codes " sum to more than 5000000000 centavos.")
month_sentence (CostBelowZero tag) = cost_words tag ++ codes " is below zero."
month_sentence (EnergyInconsistent tag) = codes "In field " ++ (decimal (tag_number tag) ++ codes " A + F is more than half of I, or X or Y is not below I.")
month_sentence (SalesInconsistent tag) = codes "In field " ++ (decimal (tag_number tag) ++ codes " N is 0, or all sales S are more than I - X or I - Y.")
