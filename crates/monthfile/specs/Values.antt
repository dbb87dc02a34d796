-- A whole file, value by value.
use Rattle.std.specs.Prelude.{◌≡◌, ℕ, ◌%◌, ◌≤◌, List, [], ◌∷◌, length}
use Rattle.fields.specs.Bytes.{fields_of}

-- the file has fields with these values, of lengths that are allowed, and nothing else
pub record MadeOf (file month sources pilferage transmission energy brackets sales : List ℕ) : Type 0 where
  pub whole : file ≡ fields_of 1 (month ∷ sources ∷ pilferage ∷ transmission ∷ energy ∷ brackets ∷ sales ∷ [])
  pub month_long : length month ≡ 2
  pub sources_whole : length sources % 24 ≡ 0
  pub sources_some : 24 ≤ length sources
  pub sources_few : length sources ≤ 192
  pub pilferage_long : length pilferage ≡ 8
  pub transmission_long : length transmission ≡ 24
  pub energy_long : length energy ≡ 40
  pub brackets_whole : length brackets % 24 ≡ 0
  pub brackets_few : length brackets ≤ 96
  pub sales_long : length sales ≡ 24
