use Rattle.printed.proofs.Journals.{opening_agrees}
use Rattle.printed.proofs.Openings.{opens_by}
use Rattle.printed.proofs.working.open.Goals as goal

pub returns-clause-cases : goal.returns-clause-cases
returns-clause-cases c =
    let made = c.in_ok-charges.ensures in
    let opened = c.in_ok-open_with.ensures in
    opens_by _ _ _ _ _ _ made.0 made.1 c.opening.ensures opened.cases.asked opened.cases.book opened.schedule

pub returns-clause-agrees : goal.returns-clause-agrees
returns-clause-agrees c =
    let opened = c.in_ok-open_with.ensures in
    opening_agrees _ _ _ _ opened.schedule c.opening.ensures opened.reconciled
