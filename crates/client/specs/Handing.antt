-- Duties that go to and fro between a client and a book.
use Rattle.std.specs.Prelude.{List, [], ◌∷◌, Option, Some}
use Rattle.book.specs.declared.duty.Duty.{Duty}
use Rattle.client.specs.declared.call.Call.{Call}
use Rattle.client.specs.declared.call.Call.TheVariants.{File, GiveUp}
use Rattle.client.specs.declared.outcome.Outcome.{Outcome}
use Rattle.client.specs.declared.outcome.Outcome.TheVariants.{Entered, Returned}

-- the duty that comes with an outcome
abbrev pub handed : Outcome → List Duty
handed (Entered marks answer duty) = duty ∷ []
handed (Returned returned) = returned.duty ∷ []
handed outcome = []

-- the duty that goes with a call
abbrev pub sent : Option Call → List Duty
sent (Some (File duty)) = duty ∷ []
sent (Some (GiveUp duty)) = duty ∷ []
sent call = []
