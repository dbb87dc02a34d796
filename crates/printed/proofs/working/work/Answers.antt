use Rattle.std.proofs.Common.{Some, refl, inl}
use Rattle.book.specs.Duties.{month_of}
use Rattle.printed.specs.Frames.{given_by}
use Rattle.printed.specs.Journals.{begun_by}
use Rattle.printed.proofs.Filings.{entered_is_filed, entry_leaves_none, same_leaves_none}
use Rattle.printed.proofs.Journals.{same_carries}
use Rattle.printed.proofs.working.work.Goals as goal

pub returns-in-Ok-clause-journaled_once_filed : goal.returns-in-Ok-clause-journaled_once_filed
returns-in-Ok-clause-journaled_once_filed c = rw (c.in-Opening.is, c.told.ensures) (λ begun agrees. (Some (begun_by (given_by c.in-Opening.frame)), refl, c.in-Ok.ensures.agrees))

pub returns-in-Err-clause-journaled_once_filed : goal.returns-in-Err-clause-journaled_once_filed
returns-in-Err-clause-journaled_once_filed c = rw (c.in-Opening.is, c.told-in-Err.ensures) (same_carries _ _ c.in-Err.ensures.cases.same)

pub returns-in-Ok-enter-clause-works_once_filed : goal.returns-in-Ok-enter-clause-works_once_filed
returns-in-Ok-enter-clause-works_once_filed c = rw (c.in-Entry.is, c.entered.ensures) (inl (month_of c.in-Ok-enter.duty, c.in-Ok-enter.answer, refl, c.in-Ok-enter.ensures.entered_once_filed))

pub returns-in-Ok-enter-clause-marked_once_filed : goal.returns-in-Ok-enter-clause-marked_once_filed
returns-in-Ok-enter-clause-marked_once_filed c = rw (c.entered.ensures) (entered_is_filed c.in-Ok-enter.ensures.entered_once_filed)

pub returns-in-Ok-enter-clause-none_pending_once_filed : goal.returns-in-Ok-enter-clause-none_pending_once_filed
returns-in-Ok-enter-clause-none_pending_once_filed c = rw (c.entered.ensures) (entry_leaves_none c.in-Ok-enter.ensures.entered_once_filed)

pub returns-in-Ok-enter-clause-journaled_once_filed : goal.returns-in-Ok-enter-clause-journaled_once_filed
returns-in-Ok-enter-clause-journaled_once_filed c = rw (c.in-Entry.is, c.entered.ensures) c.in-Ok-enter.ensures.carries_once_filed

pub returns-in-Err-enter-clause-none_pending_once_filed : goal.returns-in-Err-enter-clause-none_pending_once_filed
returns-in-Err-enter-clause-none_pending_once_filed c = rw (c.told-in-Err-enter.ensures) (same_leaves_none c.in-Err-enter.ensures.refused.same)

pub returns-in-Err-enter-clause-journaled_once_filed : goal.returns-in-Err-enter-clause-journaled_once_filed
returns-in-Err-enter-clause-journaled_once_filed c = rw (c.in-Entry.is, c.told-in-Err-enter.ensures) (same_carries _ _ c.in-Err-enter.ensures.refused.same)

pub returns-in-Ok-amend-clause-works_once_filed : goal.returns-in-Ok-amend-clause-works_once_filed
returns-in-Ok-amend-clause-works_once_filed c = rw (c.in-Amendment.is, c.told-in-Ok-amend.ensures) (inl (c.in-Ok-amend.month, c.in-Ok-amend.answer, refl, c.in-Ok-amend.ensures.cases))

pub returns-in-Ok-amend-clause-none_pending_once_filed : goal.returns-in-Ok-amend-clause-none_pending_once_filed
returns-in-Ok-amend-clause-none_pending_once_filed c = rw (c.told-in-Ok-amend.ensures) c.in-Ok-amend.ensures.none_pending

pub returns-in-Ok-amend-clause-journaled_once_filed : goal.returns-in-Ok-amend-clause-journaled_once_filed
returns-in-Ok-amend-clause-journaled_once_filed c = rw (c.in-Amendment.is, c.told-in-Ok-amend.ensures) c.in-Ok-amend.ensures.carries

pub returns-in-Err-amend-clause-journaled_once_filed : goal.returns-in-Err-amend-clause-journaled_once_filed
returns-in-Err-amend-clause-journaled_once_filed c = rw (c.in-Amendment.is, c.told-in-Err-amend.ensures) (same_carries _ _ c.in-Err-amend.ensures.cases.same)
