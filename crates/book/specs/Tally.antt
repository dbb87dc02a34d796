-- The tally: what anyone counts who sees only the numbers of the opening, the files that were accepted
-- and the answers to them. The marks read before each file stand in its posting and in no tally: they
-- serve to judge its answer. Nothing here speaks of what a book stores.
use Rattle.std.specs.Prelude.{◌≡◌, ℕ, ◌-◌, Bool, List, [], ◌∷◌, ◌++◌, length, ℤ, fold}
use Rattle.month.specs.Figures.{Figures}
use Rattle.monthfile.specs.Layout.{file_of}
use Rattle.settlement.specs.Settling.{Answered}
use Rattle.settlement.specs.Corrections.{not_filed}
use Rattle.settlement.specs.declared.record.Closing.{Closing}
use Rattle.settlement.specs.declared.record.Mark.{Mark}
use Rattle.book.specs.Opening.{OpeningNumbers}
use Rattle.book.specs.Places.{of_month, changed_month}
use Rattle.book.specs.declared.kind.PostingKind.{PostingKind}
use Rattle.book.specs.declared.kind.PostingKind.TheVariants.{Entry, Amendment}

-- An accepted file: whether it adds its month or replaces the month that stands under its number, the
-- figures that it states, the marks read before the call, from month 1 on, and the answer.
--
-- That these marks are the book's is not said here. It is said where a posting is made of a call:
-- - by clause `reconciled` of `Book::enter` and `Book::amend` (src/book/entering.rt, amending.rt), which
--   take `marks_told` of the book before the call as the marks of the posting;
-- - of a client's run by `EntryActed` and `AmendmentActed`, by which the client is told `marks_told` of
--   the book before, and by `EntryNoted` and `AmendmentNoted`, which take what it was told
--   (crates/client/specs/Acting.antt);
-- - of a printed run by clause `journaled_once_filed` of `work` (crates/printed/src/working.rt) and by
--   `JournaledAll`, which take `marks_told` of the state before a frame
--   (crates/printed/specs/Journals.antt).
--
-- How filing and giving up change them is said by clauses `cases` and `marks` of `Book::file` and
-- `Book::give_up`.
pub record Posting : Type 0 where
  pub kind : PostingKind
  pub file : List ℕ
  pub stated : Figures
  pub marks : List Mark
  pub answer : Answered

abbrev pub posting : PostingKind → List ℕ → Figures → List Mark → Answered → Posting
posting kind file stated marks answer =
    record { kind = kind; file = file; stated = stated; marks = marks; answer = answer }

abbrev pub entry : List ℕ → Figures → List Mark → Answered → Posting
entry = posting Entry

abbrev pub amendment : List ℕ → Figures → List Mark → Answered → Posting
amendment = posting Amendment

-- one posting more: the file, the figures that it states, the marks read before the call, and the answer
pub record Posts (kind : PostingKind) (file : List ℕ) (marks : List Mark) (answer : Answered)
    (before after : List Posting) : Type 0 where
  pub stated : Figures
  pub states : file ≡ file_of stated
  pub more : after ≡ before ++ posting kind file stated marks answer ∷ []

-- the standing months from month 1 on, and for each the rates it was billed at and its closing figures;
-- and the rates last announced. Rates are by the number of a mechanism
pub record Tally : Type 0 where
  pub months : List Figures
  pub billed : List (List ℤ)
  pub closings : List Closing
  pub announced : List ℤ

-- before any posting: the starting rates are announced
abbrev pub no_months : OpeningNumbers → Tally
no_months o = record { months = []; billed = []; closings = []; announced = o.rates }

-- an entry adds its month, billed at the rates last announced; an amendment replaces the figures of its
-- month, which stays billed as it was. Either takes the last month's closing figures, and the rates
-- announced, from its answer; all else stays. Nothing but a posting changes a tally
abbrev pub counted : PostingKind → Figures → Answered → Tally → Tally
counted Entry m answer t = record {
  months = t.months ++ m ∷ [];
  billed = t.billed ++ t.announced ∷ [];
  closings = t.closings ++ answer.closing ∷ [];
  announced = answer.rates;
}
counted Amendment m answer t = record {
  months = changed_month (λ _. m) m.month t.months;
  billed = t.billed;
  closings = changed_month (λ _. answer.closing) (length t.closings) t.closings;
  announced = answer.rates;
}

abbrev pub posted : Tally → Posting → Tally
posted t p = counted p.kind p.stated p.answer t

-- what the postings come to, the oldest first
abbrev pub tally : OpeningNumbers → List Posting → Tally
tally o ps = fold posted (no_months o) ps

-- by the marks read: whether, of n months, the one before the last stands and is not filed
abbrev pub barred_by : List Mark → ℕ → Bool
barred_by marks n = not_filed (of_month marks (n - 1))
