-- The postings of a run, and what holds of its book by them.
use Rattle.std.specs.Prelude.{◌≡◌, ℕ, List, [], ◌∷◌, Option, Some, None}
use Rattle.book.specs.Account.{marks_told}
use Rattle.book.specs.Facts.{Facts, read_of}
use Rattle.book.specs.Opening.{Given, OpeningNumbers, numbers_of}
use Rattle.book.specs.Reconciled.{BookReconciled}
use Rattle.book.specs.Tally.{Posting, Posts}
use Rattle.book.specs.declared.kind.PostingKind.{PostingKind}
use Rattle.book.specs.declared.kind.PostingKind.TheVariants.{Entry, Amendment}
use Rattle.settlement.specs.Settling.{Answered, answered}
use Rattle.settlement.specs.declared.record.Mark.{Mark}
use Rattle.printed.specs.Frames.{Framed}
use Rattle.printed.specs.Frames.Framed.{Opens, Enters, Amends}
use Rattle.printed.specs.Runs.{State, Works, Exchange, Printed, LacksRoom}
use Rattle.printed.specs.declared.line.Line.{Line}
use Rattle.printed.specs.declared.line.Line.TheVariants as line

-- what a book was opened with, and the postings since, the oldest first
pub record Journal : Type 0 where
  pub opening : OpeningNumbers
  pub postings : List Posting

-- that of a book that was just opened
abbrev pub begun_by : Given → Journal
begun_by g = record { opening = numbers_of g; postings = [] }

-- one posting more
abbrev pub Continues : PostingKind → List ℕ → List Mark → Answered → Option Journal → Option Journal → Type 0
Continues kind file marks answer None after = ⊥
Continues kind file marks answer (Some j) None = ⊥
Continues kind file marks answer (Some j) (Some k) = (k.opening ≡ j.opening) × Posts kind file marks answer j.postings k.postings

-- how a frame that was told by a line carries the journal on, where the book had these marks before: an opening begins it, a file that was accepted is a
-- posting more, and any other frame leaves it
abbrev pub Journaled : List Mark → Framed → Line → Option Journal → Option Journal → Type 0
Journaled marks (Opens cap g) (line.Opened number) before after = after ≡ Some (begun_by g)
Journaled marks (Enters file) (line.Entered month answer) before after = Continues Entry file marks (answered answer) before after
Journaled marks (Amends file) (line.Amended month answer) before after = Continues Amendment file marks (answered answer) before after
Journaled marks frame told before after = after ≡ before

-- the frames, worked and journaled one after another. The states in between are told again, since a posting has the marks that the book had before it;
-- they are those of the run, as a frame leaves one state and no other
abbrev pub JournaledAll : State → Option Journal → List Exchange → State → Option Journal → Type 0
JournaledAll before begun [] after ended = (after ≡ before) × (ended ≡ begun)
JournaledAll before begun (x ∷ xs) after ended =
    (between : State) × (carried : Option Journal) × Works before x.frame x.told between × Journaled (marks_told before.account) x.frame x.told begun carried × JournaledAll between carried xs after ended

-- the book agrees with the tally of the postings; where no opening was accepted, it is closed
abbrev pub Agrees : State → Option Journal → Type 0
Agrees s None = s.account ≡ None
Agrees s (Some j) = BookReconciled s.charges j.opening j.postings s.account

-- the facts hold of an open book, by the tally of the postings; with no journal the book is closed
abbrev pub FactsHold : State → Option Journal → Type 0
FactsHold s None = s.account ≡ None
FactsHold s (Some j) = Facts s.charges j.opening j.postings (read_of s.charges s.account)

-- a journal that agrees with the book before is carried on so, to one that agrees with the book after
abbrev pub CarriesJournal : State → State → (Option Journal → Option Journal → Type 0) → Type 0
CarriesJournal before after how = (begun : Option Journal) → Agrees before begun → (carried : Option Journal) × how begun carried × Agrees after carried

-- the same of frames that were worked one after another
abbrev pub CarriesJournalAll : State → List Exchange → State → Type 0
CarriesJournalAll before xs after = CarriesJournal before after (λ begun carried. JournaledAll before begun xs after carried)

-- after frames that were worked so: how the journal was carried on, that the book agrees with it, and the facts
pub record RunFacts (begun : Option Journal) (before : State) (xs : List Exchange) (after : State) : Type 0 where
  pub journal : Option Journal
  pub journaled : JournaledAll before begun xs after journal
  pub agrees : Agrees after journal
  pub facts : FactsHold after journal

-- a whole run, and this holds of its exchanges
abbrev pub PrintedWith : (State → List Exchange → State → Type 0) → State → List ℕ → List ℕ → List ℕ → State → Type 0
PrintedWith holds before input old new after = (run : Printed before input old new after) × holds before run.exchanges after

-- a run that broke off, and this holds of its exchanges
abbrev pub LacksRoomWith : (State → List Exchange → State → Type 0) → State → List ℕ → ℕ → List ℕ → List ℕ → State → Type 0
LacksRoomWith holds before input room old new after = (run : LacksRoom before input room old new after) × holds before run.exchanges after
