-- How calls are noted.
use Rattle.std.proofs.Common.{ℕ, List, Option, refl}
use Rattle.charges.specs.Meaning.{Meaning}
use Rattle.book.specs.Account.{Account}
use Rattle.book.specs.Tally.{Posting}
use Rattle.client.specs.Acting.{Acted, Noted, EntryActed, EntryNoted, AmendmentActed, AmendmentNoted}
use Rattle.client.specs.declared.call.Call.{Call}
use Rattle.client.specs.declared.call.Call.TheVariants.{Enter, Amend, File, GiveUp}
use Rattle.client.specs.declared.outcome.Outcome.{Outcome}
use Rattle.client.specs.declared.outcome.Outcome.TheVariants.{Entered, Amended}

-- a file that was entered states the figures that it is noted with
entry_noted : (row : List Meaning) (before after : Option Account) (file : List ℕ) (outcome : Outcome)
    → EntryActed row before file outcome after → (ps : List Posting) → (later : List Posting) × EntryNoted file outcome ps later
entry_noted row before after file (Entered marks answer duty) acted ps = (_, record { stated = acted.1.stated; states = acted.1.file_states; more = refl })
entry_noted row before after file outcome acted ps = (ps, refl)

amendment_noted : (row : List Meaning) (before after : Option Account) (file : List ℕ) (outcome : Outcome)
    → AmendmentActed row before file outcome after → (ps : List Posting) → (later : List Posting) × AmendmentNoted file outcome ps later
amendment_noted row before after file (Amended marks answer month) acted ps = (_, record { stated = acted.1.stated; states = acted.1.file_states; more = refl })
amendment_noted row before after file outcome acted ps = (ps, refl)

-- each call can be noted by what it came to
pub noted : (row : List Meaning) (before after : Option Account) (call : Call) (outcome : Outcome) → Acted row before call outcome after
    → (ps : List Posting) → (later : List Posting) × Noted call outcome ps later
noted row before after (Enter file) outcome acted ps = entry_noted row before after file.items outcome acted ps
noted row before after (Amend file) outcome acted ps = amendment_noted row before after file.items outcome acted ps
noted row before after (File duty) outcome acted ps = (ps, refl)
noted row before after (GiveUp duty) outcome acted ps = (ps, refl)
