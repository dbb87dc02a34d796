use Rattle.std.proofs.Common.{refl, ap}
use Rattle.book.specs.declared.kind.PostingKind.TheVariants.{Entry}
use Rattle.schedule.specs.Four.{four_charges, cap_of}
use Rattle.printed.proofs.Journals.{posting_carries, filing_counted, with_filed}
use Rattle.printed.proofs.working.enter.Goals as goal

pub returns-clause-entered_once_filed : goal.returns-clause-entered_once_filed
returns-clause-entered_once_filed c =
    let entered = c.in_ok-duty.ensures in
    record {
      entered = c.enter.new.self.account;
      duty = c.in_ok-duty.duty;
      enters = entered.cases;
      files = record { asked = entered.owed; book = refl };
      of_duty = refl;
      charges = ap (λ s. four_charges (cap_of s)) entered.schedule;
    }

pub returns-clause-carries_once_filed : goal.returns-clause-carries_once_filed
returns-clause-carries_once_filed c =
    let entered = c.in_ok-duty.ensures in
    let filed = filing_counted c.args.book.now.schedule c.enter.new.self c.in_ok-duty.duty entered.owed in
    posting_carries Entry _ _ _ (with_filed c.in_ok-duty.duty c.enter.new.self) _ _ _ entered.cases.open_before entered.cases.file_states entered.schedule (λ o ps more agrees posts. filed o more (entered.reconciled o ps more agrees posts))
