-- What a sparing client does.
use Rattle.std.specs.Prelude.{◌≡◌, if◌then◌else◌, List, ℤ, pos, int_le, Option, Some}
use Rattle.std.specs.Option.{option_map}
use Rattle.charges.specs.Meaning.{Meaning}
use Rattle.book.specs.Reading.{outstanding_told}
use Rattle.client.specs.Prompts.{Prompted}
use Rattle.client.specs.Telling.{Told}
use Rattle.client.specs.declared.call.Call.{Call}
use Rattle.client.specs.declared.call.Call.TheVariants.{File, GiveUp}
use Rattle.clientcases.specs.declared.sparing.Sparing.{Sparing}

-- a duty is given up and not filed where nothing is still to be recovered; any other call is made as it is
abbrev pub spared : Option ℤ → Call → Call
spared (Some units) (File duty) = if int_le units (pos 0) then GiveUp duty else File duty
spared outstanding call = call

-- what a prompt client would ask next is asked, but that filings are spared by what the book tells as outstanding of generation, mechanism 0
pub record Spares (before : Sparing) (row : List Meaning) (told : Told) (after : Sparing) (call : Option Call) : Type 0 where
  pub prompted : Option Call
  pub is_prompted : Prompted before.prompt row told after.prompt prompted
  pub is_spared : call ≡ option_map (spared (outstanding_told row told.account 0)) prompted
