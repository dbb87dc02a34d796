-- What a prompt client does.
use Rattle.std.specs.Prelude.{◌≡◌, List, [], ◌∷◌, Option, Some, None}
use Rattle.charges.specs.Meaning.{Meaning}
use Rattle.client.specs.Telling.{Told}
use Rattle.client.specs.declared.call.Call.{Call}
use Rattle.client.specs.declared.call.Call.TheVariants.{Enter, File, GiveUp}
use Rattle.client.specs.declared.outcome.Outcome.{Outcome}
use Rattle.client.specs.declared.outcome.Outcome.TheVariants.{Entered, Returned}
use Rattle.client.specs.declared.prompt.Prompt.{Prompt}

-- the next file is sent, and the run ends where there is none
abbrev pub SendsNext : Prompt → Prompt → Option Call → Type 0
SendsNext before after None = (before.files.items ≡ []) × (after.files.items ≡ [])
SendsNext before after (Some (Enter file)) = before.files.items ≡ file ∷ after.files.items
SendsNext before after (Some call) = ⊥

-- a duty that it is handed is filed, and one that comes back given up, before the next file
abbrev pub GoesOn : Prompt → Outcome → Prompt → Option Call → Type 0
GoesOn before (Entered marks answer duty) after call = (after ≡ before) × (call ≡ Some (File duty))
GoesOn before (Returned returned) after call = (after ≡ before) × (call ≡ Some (GiveUp returned.duty))
GoesOn before outcome after call = SendsNext before after call

-- so it goes on, whatever the book holds
abbrev pub Prompted : Prompt → List Meaning → Told → Prompt → Option Call → Type 0
Prompted before row told after call = GoesOn before told.outcome after call
