-- What frames make of a book, and which lines tell it.
use Rattle.std.specs.Prelude.{◌≡◌, ℕ, ◌+◌, ◌-◌, ◌<◌, Bool, ◌⊎◌, List, [], ◌∷◌, ◌++◌, length, All, Option, Some, None, nat_le}
use Rattle.std.specs.List.{flat_map}
use Rattle.book.specs.Account.{Account, BookState}
use Rattle.book.specs.Amending.{Amended}
use Rattle.book.specs.Duties.{Spent, marked_book, month_of}
use Rattle.book.specs.Entering.{Entered}
use Rattle.book.specs.Opening.{Given, opening_asked, newly_opened}
use Rattle.book.specs.Postings.{PostingRefused}
use Rattle.book.specs.Refusals.{book_refusal}
use Rattle.book.specs.declared.duty.Duty.{Duty}
use Rattle.book.specs.declared.fault.BookFault.{BookFault}
use Rattle.book.specs.declared.fault.BookFault.TheVariants.{Opening as NotOpen}
use Rattle.book.specs.declared.kind.PostingKind.{PostingKind}
use Rattle.book.specs.declared.kind.PostingKind.TheVariants.{Entry, Amendment}
use Rattle.charges.specs.Meaning.{Meaning}
use Rattle.charges.specs.Refusals.{cap_told}
use Rattle.fields.specs.Questions.{first_no, carried}
use Rattle.fields.specs.declared.refusal.Refusal.{Refusal}
use Rattle.schedule.specs.Four.{four_charges, cap_of}
use Rattle.schedule.specs.declared.four.FourCharges.{FourCharges}
use Rattle.settlement.specs.Settling.{answered}
use Rattle.settlement.specs.declared.answer.Answer.{Answer}
use Rattle.settlement.specs.declared.record.Mark.TheVariants.{Filed}
use Rattle.printed.specs.Frames.{Framed, WellFormed, frame_bytes, BeginsNoFrame}
use Rattle.printed.specs.Frames.Framed.{Opens, Enters, Amends}
use Rattle.printed.specs.Lines.{line_bytes, longest}
use Rattle.printed.specs.declared.call.Call.TheVariants as call
use Rattle.printed.specs.declared.line.Line.{Line}
use Rattle.printed.specs.declared.line.Line.TheVariants as line
use Rattle.printed.specs.declared.outcome.Outcome.{Outcome}

-- a book over the four charges: what they are, by the cap of the loss charge, and what the book holds where it is open
pub record State : Type 0 where
  pub charges : List Meaning
  pub account : Option Account

abbrev pub state_of : BookState FourCharges → State
state_of b = record { charges = four_charges (cap_of b.schedule); account = b.account }

-- what a run of its own begins with: a closed book, over charges with a cap of 0
abbrev pub closed : State
closed = record { charges = four_charges 0; account = None }

-- question 15 of an opening frame: of the cap, at place 1, and then at places 2 to 6
abbrev pub frame_asked : State → ℕ → Given → List (Bool × Refusal)
frame_asked s cap g =
    (nat_le cap 5000, cap_told)
    ∷ carried book_refusal (carried NotOpen (opening_asked 4 s.account g))

-- it is answered yes, and the book is open with these numbers, over charges with this cap
pub record OpensBy (before : State) (cap : ℕ) (g : Given) (after : State) : Type 0 where
  pub asked : first_no (frame_asked before cap g) ≡ None
  pub book : after ≡ record { charges = four_charges cap; account = Some (newly_opened g) }

-- it is answered no, and the book is as it was, with the cap that it had
pub record RefusesOpening (before : State) (cap : ℕ) (g : Given) (refusal : Refusal) (after : State) : Type 0 where
  pub first : first_no (frame_asked before cap g) ≡ Some refusal
  pub same : after ≡ before

-- the file is entered with this answer, and the duty that is handed out is filed
pub record EntersBy (before : State) (file : List ℕ) (month : ℕ) (answer : Answer) (after : State) : Type 0 where
  pub entered : Option Account
  pub duty : Duty
  pub enters : Entered before.charges before.account entered file (answered answer) duty
  pub files : Spent entered after.account duty Filed
  pub of_duty : month ≡ month_of duty
  pub charges : after.charges ≡ before.charges

-- the file, to be entered or to amend its month, is refused, and the book is as it was
pub record RefusesPosting (kind : PostingKind) (before : State) (file : List ℕ) (fault : BookFault) (after : State) : Type 0 where
  pub refuses : PostingRefused kind before.charges before.account file fault
  pub same : after ≡ before

-- the file amends its month, with this answer
pub record AmendsBy (before : State) (file : List ℕ) (month : ℕ) (answer : Answer) (after : State) : Type 0 where
  pub amends : Amended before.charges before.account after.account file (answered answer) month
  pub charges : after.charges ≡ before.charges

-- what a frame makes of the book, and the line that tells it; the month of an accepted entry is filed
abbrev pub Works : State → Framed → Line → State → Type 0
Works before (Opens cap g) told after =
    ((told ≡ line.Opened g.number) × OpensBy before cap g after)
    ⊎ ((refusal : Refusal) × (told ≡ line.Refused call.Opening refusal) × RefusesOpening before cap g refusal after)
Works before (Enters file) told after =
    ((month : ℕ) × (answer : Answer) × (told ≡ line.Entered month answer) × EntersBy before file month answer after)
    ⊎ ((fault : BookFault) × (told ≡ line.Refused call.Entry (book_refusal fault)) × RefusesPosting Entry before file fault after)
Works before (Amends file) told after =
    ((month : ℕ) × (answer : Answer) × (told ≡ line.Amended month answer) × AmendsBy before file month answer after)
    ⊎ ((fault : BookFault) × (told ≡ line.Refused call.Amendment (book_refusal fault)) × RefusesPosting Amendment before file fault after)

-- what came of a frame: the line that tells it, and the duty that comes with that
abbrev pub line_of : Outcome → Line
line_of o = o.line

abbrev pub duty_of : Outcome → Option Duty
duty_of o = o.duty

-- with the line of an entry comes the duty to file its month, with the number of the book; with no other line comes one
abbrev pub handed_out : Line → Option Account → Option Duty
handed_out (line.Entered month answer) (Some a) = Some (record { book = a.number; month = month })
handed_out told account = None

-- the state once the duty is filed that came with a line; where none came, it is the same
abbrev pub once_filed : Option Duty → State → State
once_filed None s = s
once_filed (Some duty) s = record { charges = s.charges; account = marked_book Filed duty.month s.account }

-- a frame, and the line that tells what became of it
pub record Exchange : Type 0 where
  pub frame : Framed
  pub told : Line

-- the frames, worked one after another
abbrev pub WorksAll : State → List Exchange → State → Type 0
WorksAll before [] after = after ≡ before
WorksAll before (x ∷ xs) after = (between : State) × Works before x.frame x.told between × WorksAll between xs after

abbrev pub lines_of : List Exchange → List ℕ
lines_of xs = flat_map (λ x. line_bytes x.told) xs

-- the input begins with these frames, and they were worked
pub record Worked (before : State) (input : List ℕ) (xs : List Exchange) (rest : List ℕ) (after : State) : Type 0 where
  pub split : input ≡ flat_map (λ x. frame_bytes x.frame) xs ++ rest
  pub formed : All (λ x. WellFormed x.frame) xs
  pub works : WorksAll before xs after

-- the line that tells where no frame begins, by the input and by what is left of it
abbrev pub no_frame : List ℕ → List ℕ → Line
no_frame input rest = line.NoFrame (length input - length rest)

-- what ends the run: nothing is left, or what is left begins with no frame, and one more line tells its offset
abbrev pub Ends : List ℕ → List ℕ → List ℕ → Type 0
Ends input [] last = last ≡ []
Ends input (b ∷ bs) last = BeginsNoFrame (b ∷ bs) × (last ≡ line_bytes (no_frame input (b ∷ bs)))

-- the frames that the input begins with were worked, one after another as long as one was next; the output has a line more for each, and the last
-- one where bytes are left
pub record Printed (before : State) (input old new : List ℕ) (after : State) : Type 0 where
  pub exchanges : List Exchange
  pub rest : List ℕ
  pub worked : Worked before input exchanges rest after
  pub last : List ℕ
  pub ends : Ends input rest last
  pub output : new ≡ old ++ (lines_of exchanges ++ last)

-- what is next in the input, and the room that is asked for the line of it: a frame, which has not been worked, and room for any line; or no frame, and
-- room for the line that tells so
abbrev pub NextAsks : List ℕ → List ℕ → ℕ → Type 0
NextAsks input rest asked =
    ((frame : Framed) × (later : List ℕ) × WellFormed frame × (rest ≡ frame_bytes frame ++ later) × (asked ≡ longest))
    ⊎ (BeginsNoFrame rest × (asked ≡ length (line_bytes (no_frame input rest))))

-- frames were worked, the output has the lines of exactly these, and the room that it now has would not do for the next line
pub record LacksRoom (before : State) (input : List ℕ) (room : ℕ) (old new : List ℕ) (after : State) : Type 0 where
  pub exchanges : List Exchange
  pub rest : List ℕ
  pub worked : Worked before input exchanges rest after
  pub output : new ≡ old ++ lines_of exchanges
  pub asked : ℕ
  pub next : NextAsks input rest asked
  pub short : room < length new + asked
