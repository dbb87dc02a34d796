-- A run of calls: its transcript, which both the client and the book gave rise to, and what holds after it.
use Rattle.std.specs.Prelude.{◌≡◌, ℕ, ◌<◌, List, [], ◌∷◌, length, Option, Some, None}
use Rattle.charges.specs.Meaning.{Meaning}
use Rattle.fields.specs.Questions.{first_no}
use Rattle.book.specs.Account.{Account}
use Rattle.book.specs.Facts.{Facts, read_of}
use Rattle.book.specs.Opening.{OpeningNumbers, Given, opening_asked, numbers_of, newly_opened}
use Rattle.book.specs.Reconciled.{BookReconciled}
use Rattle.book.specs.Tally.{Posting}
use Rattle.client.specs.Acting.{Acted, Noted}
use Rattle.client.specs.Telling.{Told, telling}
use Rattle.client.specs.declared.call.Call.{Call}
use Rattle.client.specs.declared.outcome.Outcome.{Outcome}
use Rattle.client.specs.declared.outcome.Outcome.TheVariants.{Opened}

-- what the client was told, of the call before and of the book, and the call that it then chose
pub record Exchange : Type 0 where
  pub told : Told
  pub call : Call

-- what was told first of these exchanges and what is told after them
abbrev pub first_told : List Exchange → Told → Told
first_told [] final = final
first_told (e ∷ es) final = e.told

-- a call, from what was told before it to what is told after it: that is what it came to, and what it left the book holding
abbrev pub Leads : List Meaning → Told → Call → Told → Type 0
Leads row before call after = Acted row before.account call after.outcome after.account

-- the book's side: each call leads from what the client was told before it to what it was told next, and the last one to the final
abbrev pub Played : List Meaning → List Exchange → Told → Type 0
Played row [] final = Unit {0}
Played row (e ∷ es) final = Leads row e.told e.call (first_told es final) × Played row es final

-- the calls, noted one after another: the postings are the files that were accepted, with what they came to. Whenever the client was told, the facts
-- held, by the postings up to then, of what it could read in the book
abbrev pub Journal : List Meaning → OpeningNumbers → List Posting → List Exchange → Told → List Posting → Type 0
Journal row o before [] final after = after ≡ before
Journal row o before (e ∷ es) final after =
    Facts row o before (read_of row e.told.account) × (between : List Posting) × Noted e.call (first_told es final).outcome before between × Journal row o between es final after

module _ {C : Type 0} (answers : C → List Meaning → Told → C → Option Call → Type 0) (row : List Meaning) where
  -- the client's side: told each in turn it chose each call, and so became the last client
  abbrev pub Talk : C → List Exchange → C → Type 0
  Talk client [] last = client ≡ last
  Talk client (e ∷ es) last = (next : C) × answers client row e.told next (Some e.call) × Talk next es last

  -- how a run ends: so many calls were made, and the client is not told what the last came to; or it is told, and ends
  abbrev pub Ends : C → Told → C → ℕ → ℕ → Option Outcome → Type 0
  Ends client final last made most (Some untold) = (untold ≡ final.outcome) × (last ≡ client) × (made ≡ most)
  Ends client final last made most None = answers client row final last None × (made < most)

  -- a run of at most so many calls of a client on a book over the row, that was opened with the numbers g
  pub record Run (g : Given) (most : ℕ) (first last : C) (untold : Option Outcome) (before after : Option Account) : Type 0 where
    pub asked : first_no (opening_asked (length row) before g) ≡ None
    pub exchanges : List Exchange
    -- what is told last, or would be
    pub final : Told
    pub begins : first_told exchanges final ≡ telling Opened (Some (newly_opened g))
    pub client : C
    pub talk : Talk first exchanges client
    pub ends : Ends client final last (length exchanges) most untold
    pub played : Played row exchanges final
    pub leaves : after ≡ final.account
    pub postings : List Posting
    pub journal : Journal row (numbers_of g) [] exchanges final postings
    -- with this a caller goes on to call the book
    pub reconciled : BookReconciled row (numbers_of g) postings after
    pub facts : Facts row (numbers_of g) postings (read_of row after)
