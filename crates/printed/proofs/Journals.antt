-- A journal carried on by what is done to a book.
use Rattle.std.proofs.Common.{◌≡◌, ℕ, List, [], ◌∷◌, ◌++◌, Option, Some, None, Ok, refl, sym, subst, ◌∙◌}
use Rattle.book.specs.Account.{Account, BookState, marks_told}
use Rattle.book.specs.Duties.{Spent, duty_asked, marked_book}
use Rattle.book.specs.Facts.{Facts, read_of}
use Rattle.book.specs.Opening.{Given, OpeningNumbers, numbers_of}
use Rattle.book.specs.Reconciled.{BookReconciled}
use Rattle.book.specs.Tally.{Posting, Posts, posting}
use Rattle.book.specs.declared.duty.Duty.{Duty}
use Rattle.book.specs.declared.kind.PostingKind.{PostingKind}
use Rattle.book.proofs.Marks.{duty_reconciled}
use Rattle.fields.specs.Questions.{first_no}
use Rattle.fields.proofs.Asked.{some_none}
use Rattle.month.specs.Figures.{Figures}
use Rattle.monthfile.specs.Layout.{file_of}
use Rattle.schedule.specs.Four.{four_charges, cap_of}
use Rattle.schedule.specs.declared.four.FourCharges.{FourCharges}
use Rattle.settlement.specs.Settling.{Answered}
use Rattle.settlement.specs.declared.record.Mark.{Mark}
use Rattle.settlement.specs.declared.record.Mark.TheVariants.{Filed}
use Rattle.printed.specs.Journals.{Journal, begun_by, Continues, Journaled, JournaledAll, Agrees, FactsHold, CarriesJournal}
use Rattle.printed.specs.Journals.{CarriesJournalAll, RunFacts}
use Rattle.printed.specs.Runs.{State, state_of, Works, Exchange}

-- over these charges what a book holds agrees with the tally of the postings
abbrev Counted : FourCharges → OpeningNumbers → List Posting → Option Account → Type 0
Counted charges o ps account = BookReconciled (four_charges (cap_of charges)) o ps account

counted_over : (charges others : FourCharges) (o : OpeningNumbers) (ps : List Posting) (account : Option Account) → charges ≡ others
    → Counted charges o ps account → Counted others o ps account
counted_over charges others o ps account same counted = subst (λ (c : FourCharges). Counted c o ps account) same counted

-- a book that is left as it was leaves the journal so
pub same_carries : (before after : State) → after ≡ before → CarriesJournal before after (λ begun carried. carried ≡ begun)
same_carries before after same begun agrees = (begun, refl, subst (λ (s : State). Agrees s begun) (sym same) agrees)

-- a newly opened book begins one
pub opening_agrees : (book : BookState FourCharges) (charges : FourCharges) (g asked_of : Given) → book.schedule ≡ charges → asked_of ≡ g
    → Counted charges (numbers_of asked_of) [] book.account → Agrees (state_of book) (Some (begun_by g))
opening_agrees book charges g asked_of over same counted =
    counted_over charges book.schedule (numbers_of g) [] book.account (sym over) (subst (λ (x : Given). Counted charges (numbers_of x) [] book.account) same counted)

-- a file that an open book accepted is a posting more
pub posting_carries : (kind : PostingKind) (marks : List Mark) (answer : Answered) (before after : BookState FourCharges) (file : List ℕ) (account : Account) (stated : Figures)
    → before.account ≡ Some account → file ≡ file_of stated → after.schedule ≡ before.schedule
    → ((o : OpeningNumbers) (ps more : List Posting) → Counted before.schedule o ps before.account → Posts kind file marks answer ps more → Counted before.schedule o more after.account)
    → CarriesJournal (state_of before) (state_of after) (Continues kind file marks answer)
posting_carries kind marks answer before after file account stated is_open states over counted None agrees = absurd (some_none (sym is_open ∙ agrees))
posting_carries kind marks answer before after file account stated is_open states over counted (Some j) agrees =
    let postings : List Posting = j.postings ++ posting kind file stated marks answer ∷ [] in
    let posts : Posts kind file marks answer j.postings postings = record { stated = stated; states = states; more = refl } in (
      Some (record { opening = j.opening; postings = postings }),
      (refl, posts),
      counted_over before.schedule after.schedule j.opening postings after.account (sym over) (counted j.opening j.postings postings agrees posts),
    )

-- the book once the month of the duty is filed
abbrev pub with_filed : Duty → BookState FourCharges → BookState FourCharges
with_filed duty book = record { schedule = book.schedule; account = marked_book Filed duty.month book.account }

-- filing counts nothing
pub filing_counted : (charges : FourCharges) (book : BookState FourCharges) (duty : Duty) → first_no (duty_asked book.account duty) ≡ None
    → (o : OpeningNumbers) (ps : List Posting) → Counted charges o ps book.account → Counted charges o ps (with_filed duty book).account
filing_counted charges book duty owed o ps counted =
    let spent : Spent book.account (with_filed duty book).account duty Filed = record { asked = owed; book = refl } in
    duty_reconciled (Ok tt) (four_charges (cap_of charges)) o ps book (with_filed duty book) duty Filed spent tt counted

-- a frame more
journaled_one_more : (before between after : State) (begun carried ended : Option Journal) (xs : List Exchange) (x : Exchange)
    → JournaledAll before begun xs between carried → Works between x.frame x.told after
    → Journaled (marks_told between.account) x.frame x.told carried ended
    → JournaledAll before begun (xs ++ x ∷ []) after ended
journaled_one_more before between after begun carried ended [] x same works journaled =
    let from_start : Journaled (marks_told before.account) x.frame x.told carried ended = subst (λ (s : State). Journaled (marks_told s.account) x.frame x.told carried ended) same.0 journaled in
    (after, ended, subst (λ (s : State). Works s x.frame x.told after) same.0 works, subst (λ (j : Option Journal). Journaled (marks_told before.account) x.frame x.told j ended) same.1 from_start, (refl, refl))
journaled_one_more before between after begun carried ended (y ∷ ys) x first works journaled =
    (first.0, first.1, first.2, first.3, journaled_one_more first.0 between after first.1 carried ended ys x first.4 works journaled)

pub carries_one_more : (before between after : State) (xs : List Exchange) (x : Exchange) → CarriesJournalAll before xs between
    → Works between x.frame x.told after → CarriesJournal between after (Journaled (marks_told between.account) x.frame x.told)
    → CarriesJournalAll before (xs ++ x ∷ []) after
carries_one_more before between after xs x carries works more begun agrees =
    let first = carries begun agrees in
    let next = more first.0 first.2 in
    (next.0, journaled_one_more before between after begun first.0 next.0 xs x first.1 works next.1, next.2)

-- what an audit tells of a book
abbrev Audited : BookState FourCharges → Type 0
Audited book =
    (o : OpeningNumbers) (ps : List Posting) → Counted book.schedule o ps book.account → Facts (four_charges (cap_of book.schedule)) o ps (read_of (four_charges (cap_of book.schedule)) book.account)

facts_hold : (book : BookState FourCharges) → Audited book → (journal : Option Journal) → Agrees (state_of book) journal
    → FactsHold (state_of book) journal
facts_hold book audited None agrees = agrees
facts_hold book audited (Some j) agrees = audited j.opening j.postings agrees

pub run_facts : (before : State) (xs : List Exchange) (book : BookState FourCharges) → Audited book
    → CarriesJournalAll before xs (state_of book) → (begun : Option Journal) → Agrees before begun
    → RunFacts begun before xs (state_of book)
run_facts before xs book audited carries begun agrees =
    let one = carries begun agrees in
    record { journal = one.0; journaled = one.1; agrees = one.2; facts = facts_hold book audited one.0 one.2 }
