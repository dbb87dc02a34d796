-- What a call comes to, and how it is noted.
use Rattle.std.specs.Prelude.{◌≡◌, ℕ, List, Option}
use Rattle.bounded.specs.View.{held}
use Rattle.charges.specs.Meaning.{Meaning}
use Rattle.settlement.specs.Settling.{answered}
use Rattle.settlement.specs.declared.record.Mark.{Mark}
use Rattle.settlement.specs.declared.record.Mark.TheVariants.{Filed, Missed}
use Rattle.book.specs.Account.{Account, marks_told}
use Rattle.book.specs.Amending.{Amended as MonthAmended}
use Rattle.book.specs.Duties.{Spent as DutySpent, Returned as DutyReturned}
use Rattle.book.specs.Entering.{Entered as MonthEntered}
use Rattle.book.specs.Postings.{PostingRefused}
use Rattle.book.specs.Tally.{Posting, Posts}
use Rattle.book.specs.declared.duty.Duty.{Duty}
use Rattle.book.specs.declared.kind.PostingKind.TheVariants.{Entry, Amendment}
use Rattle.client.specs.declared.call.Call.{Call}
use Rattle.client.specs.declared.call.Call.TheVariants.{Enter, Amend, File, GiveUp}
use Rattle.client.specs.declared.outcome.Outcome.{Outcome}
use Rattle.client.specs.declared.outcome.Outcome.TheVariants.{Entered, Amended, Spent, Refused, Returned}

-- what entering a file comes to, between what the book holds before and after; the marks are those that stood before
abbrev pub EntryActed : List Meaning → Option Account → List ℕ → Outcome → Option Account → Type 0
EntryActed row before file (Entered marks answer duty) after = (held marks ≡ marks_told before) × MonthEntered row before after file (answered answer) duty
EntryActed row before file (Refused fault) after = PostingRefused Entry row before file fault × (after ≡ before)
EntryActed row before file outcome after = ⊥

-- what amending by a file comes to
abbrev pub AmendmentActed : List Meaning → Option Account → List ℕ → Outcome → Option Account → Type 0
AmendmentActed row before file (Amended marks answer month) after = (held marks ≡ marks_told before) × MonthAmended row before after file (answered answer) month
AmendmentActed row before file (Refused fault) after = PostingRefused Amendment row before file fault × (after ≡ before)
AmendmentActed row before file outcome after = ⊥

-- what spending a duty comes to
abbrev pub DutyActed : Mark → Option Account → Duty → Outcome → Option Account → Type 0
DutyActed mark before duty Spent after = DutySpent before after duty mark
DutyActed mark before duty (Returned returned) after = DutyReturned before duty returned × (after ≡ before)
DutyActed mark before duty outcome after = ⊥

-- what a call comes to
abbrev pub Acted : List Meaning → Option Account → Call → Outcome → Option Account → Type 0
Acted row before (Enter file) outcome after = EntryActed row before file.items outcome after
Acted row before (Amend file) outcome after = AmendmentActed row before file.items outcome after
Acted row before (File duty) outcome after = DutyActed Filed before duty outcome after
Acted row before (GiveUp duty) outcome after = DutyActed Missed before duty outcome after

-- a file that was entered is a posting more
abbrev pub EntryNoted : List ℕ → Outcome → List Posting → List Posting → Type 0
EntryNoted file (Entered marks answer duty) before after = Posts Entry file (held marks) (answered answer) before after
EntryNoted file outcome before after = after ≡ before

-- so is one that amended a month
abbrev pub AmendmentNoted : List ℕ → Outcome → List Posting → List Posting → Type 0
AmendmentNoted file (Amended marks answer month) before after = Posts Amendment file (held marks) (answered answer) before after
AmendmentNoted file outcome before after = after ≡ before

-- how the postings go on after a call that came to this; duties, spent or returned, are none
abbrev pub Noted : Call → Outcome → List Posting → List Posting → Type 0
Noted (Enter file) outcome before after = EntryNoted file.items outcome before after
Noted (Amend file) outcome before after = AmendmentNoted file.items outcome before after
Noted call outcome before after = after ≡ before
