-- An amount as it is told.
use Rattle.std.specs.Prelude.{ℕ, ◌-◌, ◌/◌, ◌%◌, List, ◌++◌, length, replicate, codes, decimal}
use Rattle.month.specs.declared.units.Units.{Units}

-- a number with zeros before it, to make four digits
abbrev pub four_digits : ℕ → List ℕ
four_digits n = replicate (4 - length (decimal n)) 48 ++ decimal n

-- in units, and in pesos with four decimals
abbrev pub units_words : Units → List ℕ
units_words u = decimal u.0 ++ (codes " units = " ++ (decimal (u.0 / 10000) ++ (codes "." ++ (four_digits (u.0 % 10000) ++ codes " pesos"))))
