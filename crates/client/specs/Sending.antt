-- What a prompt client sends on.
use Rattle.std.proofs.Common.{ap}
use Rattle.std.specs.Prelude.{◌≡◌, [], Option, Some, None, refl}
use Rattle.client.specs.Handing.{handed, sent}
use Rattle.client.specs.Prompts.{GoesOn, SendsNext}
use Rattle.client.specs.declared.call.Call.{Call}
use Rattle.client.specs.declared.call.Call.TheVariants.{Enter}
use Rattle.client.specs.declared.outcome.Outcome.{Outcome}
use Rattle.client.specs.declared.outcome.Outcome.TheVariants.{Entered, Returned}
use Rattle.client.specs.declared.prompt.Prompt.{Prompt}

next_sent : (client next : Prompt) (call : Option Call) → SendsNext client next call → sent call ≡ []
next_sent client next None sends = refl
next_sent client next (Some (Enter file)) sends = refl
next_sent client next (Some call) sends = absurd sends

-- its next call sends the duty that it is handed, and no other
pub prompt_sends_on : (client : Prompt) (outcome : Outcome) (next : Prompt) (call : Option Call) → GoesOn client outcome next call
    → sent call ≡ handed outcome
prompt_sends_on client (Entered marks answer duty) next call goes = ap sent goes.1
prompt_sends_on client (Returned returned) next call goes = ap sent goes.1
prompt_sends_on client outcome next call goes = next_sent client next call goes
