-- A prompt client leaves no filing pending, and no file.
use Rattle.std.proofs.Common.{◌≡◌, ℕ, List, [], Option, None}
use Rattle.charges.specs.Meaning.{Meaning}
use Rattle.book.specs.Account.{Account}
use Rattle.book.specs.Opening.{Given}
use Rattle.book.specs.Reading.{NonePending}
use Rattle.client.specs.Prompts.{GoesOn, Prompted}
use Rattle.client.specs.Runs.{Run}
use Rattle.client.specs.Sending.{prompt_sends_on}
use Rattle.client.specs.declared.outcome.Outcome.{Outcome}
use Rattle.client.specs.declared.outcome.Outcome.TheVariants.{Entered, Returned}
use Rattle.client.specs.declared.prompt.Prompt.{Prompt}
use Rattle.client.proofs.Clearing.{none_left_pending}

-- where it ends the run it has no file
ends_clear : (client last : Prompt) (final : Outcome) → GoesOn client final last None → last.files.items ≡ []
ends_clear client last (Entered marks answer duty) goes = absurd (let is = goes.1 in cc)
ends_clear client last (Returned returned) goes = absurd (let is = goes.1 in cc)
ends_clear client last final goes = goes.1

-- so its run leaves no month pending, once it ends the run
pub run_clears : {row : List Meaning} {g : Given} {most : ℕ} {first last : Prompt} {before after : Option Account}
    → Run Prompted row g most first last None before after → NonePending after × (last.files.items ≡ [])
run_clears {row} {last = last} ran =
    (none_left_pending Prompted row (λ client next told call goes. prompt_sends_on client told.outcome next call goes) ran, ends_clear ran.client last ran.final.outcome ran.ends.0)
