use Rattle.book.specs.declared.kind.PostingKind.TheVariants.{Amendment}
use Rattle.printed.proofs.Filings.{kept_leaves_none}
use Rattle.printed.proofs.Journals.{posting_carries}
use Rattle.printed.proofs.working.amend.Goals as goal

pub returns-clause-carries : goal.returns-clause-carries
returns-clause-carries c =
    let amended = c.in_ok-month.ensures in
    posting_carries Amendment _ _ _ _ _ _ _ amended.cases.open_before amended.cases.file_states amended.schedule amended.reconciled

pub returns-clause-none_pending : goal.returns-clause-none_pending
returns-clause-none_pending c = kept_leaves_none _ _ _ c.in_ok-month.ensures.keeps
