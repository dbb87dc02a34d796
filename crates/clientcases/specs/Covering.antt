-- Duties that are about, and the pending months that they are of.
use Rattle.std.specs.Prelude.{ℕ, ◌+◌, ◌≤◌, if◌then◌else◌, ◌&&◌, ◌==◌, List, [], ◌∷◌, Option, Some, None}
use Rattle.std.specs.List.{sum_by}
use Rattle.book.specs.Account.{Account}
use Rattle.book.specs.Duties.{pends}
use Rattle.book.specs.Places.{of_month}
use Rattle.book.specs.declared.duty.Duty.{Duty}
use Rattle.client.specs.Handing.{handed, sent}
use Rattle.client.specs.declared.call.Call.{Call}
use Rattle.client.specs.declared.outcome.Outcome.{Outcome}

-- a duty or none
abbrev pub optional : Option Duty → List Duty
optional None = []
optional (Some d) = d ∷ []

-- 1 where the duty is of this month of a book of this number
abbrev pub is_of : ℕ → ℕ → Duty → ℕ
is_of book month d = if d.book == book && d.month == month then 1 else 0

-- how many of the duties are
abbrev pub among : ℕ → ℕ → List Duty → ℕ
among book month ds = sum_by (is_of book month) ds

-- 1 where the book has this number, and the month is pending in it
abbrev pub pending : ℕ → ℕ → Option Account → ℕ
pending book month None = 0
pending book month (Some a) = if book == a.number && pends (of_month a.records month) then 1 else 0

-- of each month there are no more duties than books in which it is pending
abbrev pub Covered : List Duty → Option Account → Option Account → Type 0
Covered ds one other = (book month : ℕ) → among book month ds ≤ pending book month one + pending book month other

-- what a client sends and then keeps is no more than what it kept and was handed
abbrev pub MakesNone : List Duty → Outcome → List Duty → Option Call → Type 0
MakesNone before outcome after call = (book month : ℕ) → among book month (sent call) + among book month after ≤ among book month (handed outcome) + among book month before
