-- A sparing client makes no duty of its own.
use Rattle.std.proofs.Common.{ap, ◌∙◌, arith}
use Rattle.std.specs.Prelude.{◌≡◌, Bool, true, false, if◌then◌else◌, List, [], ◌∷◌, ℤ, pos, int_le, Option, Some, None, refl}
use Rattle.std.specs.Option.{option_map}
use Rattle.charges.specs.Meaning.{Meaning}
use Rattle.book.specs.Reading.{outstanding_told}
use Rattle.book.specs.declared.duty.Duty.{Duty}
use Rattle.client.specs.Handing.{handed, sent}
use Rattle.client.specs.Sending.{prompt_sends_on}
use Rattle.client.specs.Telling.{Told}
use Rattle.client.specs.declared.call.Call.{Call}
use Rattle.client.specs.declared.call.Call.TheVariants.{File, GiveUp}
use Rattle.clientcases.specs.Covering.{among, MakesNone}
use Rattle.clientcases.specs.Sparing.{spared, Spares}
use Rattle.clientcases.specs.declared.sparing.Sparing.{Sparing}

sent_either : (gives_up : Bool) (duty : Duty) → sent (Some (if gives_up then GiveUp duty else File duty)) ≡ duty ∷ []
sent_either true duty = refl
sent_either false duty = refl

sent_spared : (outstanding : Option ℤ) (call : Call) → sent (Some (spared outstanding call)) ≡ sent (Some call)
sent_spared (Some units) (File duty) = sent_either (int_le units (pos 0)) duty
sent_spared outstanding call = refl

sent_as_prompted : (outstanding : Option ℤ) (prompted : Option Call) → sent (option_map (spared outstanding) prompted) ≡ sent prompted
sent_as_prompted outstanding None = refl
sent_as_prompted outstanding (Some call) = sent_spared outstanding call

-- its next call sends the duty that it is handed, and no other
pub sparing_sends_on : (before : Sparing) (row : List Meaning) (told : Told) (after : Sparing) (call : Option Call)
    → Spares before row told after call → sent call ≡ handed told.outcome
sparing_sends_on before row told after call spares =
    ap sent spares.is_spared ∙ sent_as_prompted (outstanding_told row told.account 0) spares.prompted ∙ prompt_sends_on before.prompt told.outcome after.prompt spares.prompted spares.is_prompted

pub sparing_makes_none : (before : Sparing) (row : List Meaning) (told : Told) (after : Sparing) (call : Option Call)
    → Spares before row told after call → MakesNone [] told.outcome [] call
sparing_makes_none before row told after call spares book month =
    omega (arith, ap (among book month) (sparing_sends_on before row told after call spares))
