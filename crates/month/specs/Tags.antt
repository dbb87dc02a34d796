-- The numbers that head the fields of a month file.
use Rattle.std.specs.Prelude.{ℕ}
use Rattle.month.specs.declared.tag.Tag.{Tag}
use Rattle.month.specs.declared.tag.Tag.TheVariants.{Month, Sources, Pilferage, Transmission, Energy, Brackets, Sales}

abbrev pub tag_number : Tag → ℕ
tag_number Month = 1
tag_number Sources = 2
tag_number Pilferage = 3
tag_number Transmission = 4
tag_number Energy = 5
tag_number Brackets = 6
tag_number Sales = 7
