-- A transcript, one exchange after another.
use Rattle.std.proofs.Common.{◌≡◌, ℕ, ◌+◌, List, [], ◌∷◌, ◌++◌, length, Option, Some, None, refl, ap, sym, ◌∙◌, subst, arith, length-append}
use Rattle.charges.specs.Meaning.{Meaning}
use Rattle.fields.specs.Questions.{first_no}
use Rattle.book.specs.Account.{Account}
use Rattle.book.specs.Facts.{Facts, read_of}
use Rattle.book.specs.Opening.{OpeningNumbers, Given, opening_asked, numbers_of, newly_opened}
use Rattle.book.specs.Reconciled.{BookReconciled}
use Rattle.book.specs.Tally.{Posting}
use Rattle.client.specs.Acting.{Acted, Noted}
use Rattle.client.specs.Runs.{Exchange, first_told, Leads, Played, Journal, Talk, Ends, Run}
use Rattle.client.specs.Telling.{Told, telling}
use Rattle.client.specs.declared.call.Call.{Call}
use Rattle.client.specs.declared.outcome.Outcome.{Outcome}
use Rattle.client.specs.declared.outcome.Outcome.TheVariants.{Opened}
use Rattle.client.proofs.Noting.{noted}

-- with an exchange more, what was told first is what it was
first_told_more : (es : List Exchange) (e : Exchange) (final : Told) → first_told (es ++ e ∷ []) final ≡ first_told es e.told
first_told_more [] e final = refl
first_told_more (x ∷ xs) e final = refl

played_more : (row : List Meaning) (es : List Exchange) (e : Exchange) (final : Told) → Played row es e.told → Leads row e.told e.call final
    → Played row (es ++ e ∷ []) final
played_more row [] e final played leads = (leads, tt)
played_more row (x ∷ xs) e final played leads =
    (subst (λ (t : Told). Leads row x.told x.call t) (sym (first_told_more xs e final)) played.0, played_more row xs e final played.1 leads)

journal_more : (row : List Meaning) (o : OpeningNumbers) (before between after : List Posting) (es : List Exchange) (e : Exchange) (final : Told)
    → Journal row o before es e.told between → Facts row o between (read_of row e.told.account) → Noted e.call final.outcome between after → Journal row o before (es ++ e ∷ []) final after
journal_more row o before between after [] e final same facts noted =
    (subst (λ (ps : List Posting). Facts row o ps (read_of row e.told.account)) same facts, after, subst (λ (ps : List Posting). Noted e.call final.outcome ps after) same noted, refl)
journal_more row o before between after (x ∷ xs) e final journal facts noted =
    (journal.0, journal.1, subst (λ (t : Told). Noted x.call t.outcome before journal.1) (sym (first_told_more xs e final)) journal.2, journal_more row o journal.1 between after xs e final journal.3 facts noted)

module _ {C : Type 0} (answers : C → List Meaning → Told → C → Option Call → Type 0) (row : List Meaning) where
  talk_more : (first between last : C) (es : List Exchange) (e : Exchange) → Talk answers row first es between
      → answers between row e.told last (Some e.call) → Talk answers row first (es ++ e ∷ []) last
  talk_more first between last [] e same answer = (last, subst (λ (c : C). answers c row e.told last (Some e.call)) (sym same) answer, refl)
  talk_more first between last (x ∷ xs) e talk answer = (talk.0, talk.1, talk_more talk.0 between last xs e talk.2 answer)

  -- the run where so many calls were made, and came to this outcome and this account
  pub record SoFar (g : Given) (first : C) (made : ℕ) (client : C) (outcome : Outcome) (account : Option Account) : Type 0 where
    pub exchanges : List Exchange
    pub count : length exchanges ≡ made
    pub begins : first_told exchanges (telling outcome account) ≡ telling Opened (Some (newly_opened g))
    pub talk : Talk answers row first exchanges client
    pub played : Played row exchanges (telling outcome account)
    pub postings : List Posting
    pub journal : Journal row (numbers_of g) [] exchanges (telling outcome account) postings
    pub reconciled : BookReconciled row (numbers_of g) postings account

  -- none was made yet
  pub none_made : {g : Given} {client : C} {account : Option Account} → account ≡ Some (newly_opened g)
      → BookReconciled row (numbers_of g) [] account → SoFar g client 0 client Opened account
  none_made opened reconciled = record {
    exchanges = [];
    count = refl;
    begins = ap (telling Opened) opened;
    talk = refl;
    played = tt;
    postings = [];
    journal = refl;
    reconciled = reconciled;
  }

  module _ {g : Given} {first : C} {made : ℕ} {client : C} {outcome : Outcome} {account : Option Account} (so_far : SoFar g first made client outcome account) where
    -- the facts hold of it
    abbrev Audited : Type 0
    Audited = (o : OpeningNumbers) (ps : List Posting) → BookReconciled row o ps account → Facts row o ps (read_of row account)

    -- one is made more
    pub one_made : {next : C} {call : Call} {came_to : Outcome} {after : Option Account}
        → answers client row (telling outcome account) next (Some call) → Acted row account call came_to after → Audited
        → ((o : OpeningNumbers) (before later : List Posting) → BookReconciled row o before account → Noted call came_to before later → BookReconciled row o later after) → SoFar g first (made + 1) next came_to after
    one_made {next} {call} {came_to} {after} answer acted audited reconciled =
        let e : Exchange = record { told = telling outcome account; call = call } in
        let now = telling came_to after in
        let later = noted row account after call came_to acted so_far.postings in
        record {
          exchanges = so_far.exchanges ++ e ∷ [];
          count = omega (arith, length-append so_far.exchanges (e ∷ []), so_far.count);
          begins = first_told_more so_far.exchanges e now ∙ so_far.begins;
          talk = talk_more first client next so_far.exchanges e so_far.talk answer;
          played = played_more row so_far.exchanges e now so_far.played acted;
          postings = later.0;
          journal = journal_more row (numbers_of g) [] so_far.postings later.0 so_far.exchanges e now so_far.journal (audited (numbers_of g) so_far.postings so_far.reconciled) later.1;
          reconciled = reconciled (numbers_of g) so_far.postings later.0 so_far.reconciled later.1;
        }

    -- the run ends here
    pub ended : {most : ℕ} {last : C} {untold : Option Outcome} {before : Option Account}
        → first_no (opening_asked (length row) before g) ≡ None → Ends answers row client (telling outcome account) last made most untold
        → Audited → Run answers row g most first last untold before account
    ended {most} {last} {untold} asked ends audited = record {
      asked = asked;
      exchanges = so_far.exchanges;
      final = telling outcome account;
      begins = so_far.begins;
      client = client;
      talk = so_far.talk;
      ends = subst (λ (n : ℕ). Ends answers row client (telling outcome account) last n most untold) (sym so_far.count) ends;
      played = so_far.played;
      leaves = refl;
      postings = so_far.postings;
      journal = so_far.journal;
      reconciled = so_far.reconciled;
      facts = audited (numbers_of g) so_far.postings so_far.reconciled;
    }
