-- The file that states a month's figures.
use Rattle.std.specs.Prelude.{ℕ, List, [], ◌∷◌}
use Rattle.std.specs.List.{flat_map}
use Rattle.fields.specs.Bytes.{be, eights, fields_of}
use Rattle.month.specs.declared.parts.Source.{Source}
use Rattle.month.specs.declared.parts.Energy.{Energy}
use Rattle.month.specs.declared.parts.Exempt.{Exempt}
use Rattle.month.specs.declared.parts.Bracket.{Bracket}
use Rattle.month.specs.declared.parts.Sales.{Sales}
use Rattle.month.specs.Figures.{Figures}

-- the numbers of an entry, in the order of the file
abbrev pub source_numbers : Source → List ℕ
source_numbers s = s.cost ∷ s.taken ∷ s.passed ∷ []

abbrev pub energy_numbers : Energy → Exempt → List ℕ
energy_numbers e x = e.input ∷ e.substation ∷ e.feeder ∷ x.generation ∷ x.transmission ∷ []

abbrev pub bracket_numbers : Bracket → List ℕ
bracket_numbers b = b.kwh ∷ b.customers ∷ b.percent ∷ []

abbrev pub sales_numbers : Sales → List ℕ
sales_numbers s = s.nonlifeline ∷ s.rate ∷ s.metering ∷ []

-- the bytes of a figure, by its numbers
abbrev pub bytes_by : {X : Type 0} → (X → List ℕ) → X → List ℕ
bytes_by numbers x = eights (numbers x)

-- the values of the fields, from tag 1 to tag 7
abbrev pub values : Figures → List (List ℕ)
values f =
    be 2 f.month
    ∷ flat_map (bytes_by source_numbers) f.sources
    ∷ eights (f.pilferage ∷ [])
    ∷ bytes_by source_numbers f.transmission
    ∷ eights (energy_numbers f.energy f.exempt)
    ∷ flat_map (bytes_by bracket_numbers) f.brackets
    ∷ bytes_by sales_numbers f.sales
    ∷ []

-- the file that states these figures
abbrev pub file_of : Figures → List ℕ
file_of f = fields_of 1 (values f)
