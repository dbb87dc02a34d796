use Rattle.std.proofs.Common.{List, ℕ, length, ap, sym, ◌∙◌, subst, arith}
use Rattle.std.proofs.lemmas.Result.{err_from_is_err_and}
use Rattle.book.specs.Reading.{NonePending}
use Rattle.printed.specs.Frames.{framed, NoFrameAt}
use Rattle.printed.specs.Runs.{State, state_of, line_of, once_filed}
use Rattle.printed.proofs.Runs.{at_end, found_frame, found_end, one_more, no_room_for_a_line, end_of_run}
use Rattle.printed.proofs.run.run_frames.Goals as goal

pub loop-frame-preserved : goal.loop-frame-preserved
loop-frame-preserved c =
    let held = c.loop-frame.invariant in
    let worked = c.work.ensures in
    let told = c.in-Ok.ensures.cases in
    let filed = c.file.ensures ∙ ap (λ d. once_filed d (state_of c.work.new.book)) told.1 in
    let stands = found_frame held.stream c.in-Ok-Some.ensures.cases c.in-Ok-Some.field-0-is in
    record {
      stream = c.read.ensures.stream ∙ held.stream;
      room = omega (arith, held.room, c.reserve_line.ensures.capacity, c.tell.ensures.capacity);
      none_pending = λ none. subst (λ (s : State). NonePending s.account) (sym filed) (worked.none_pending_once_filed (held.none_pending none));
      so_far = rw (told.0, c.reserve_line.ensures.same, filed) (one_more held.so_far (framed c.in-Ok-Some.frame) stands _ (line_of c.work.result) worked.works_once_filed worked.journaled_once_filed);
    }

pub returns-in_err-reserve_line-in-Ok-Some-clause-cases : goal.returns-in_err-reserve_line-in-Ok-Some-clause-cases
returns-in_err-reserve_line-in-Ok-Some-clause-cases c =
    let held = c.loop-frame.invariant in
    let reserved = c.in_err-reserve_line-in-Ok-Some.ensures in
    let stands = found_frame held.stream c.in-Ok-Some.ensures.cases c.in-Ok-Some.field-0-is in
    let err = err_from_is_err_and c.from_residual.result c.from_residual.ensures.1 in
    rw (err.1, c.reserve_line.ensures.same) (no_room_for_a_line held.so_far (framed c.in-Ok-Some.frame) stands (omega (arith, reserved.full, ap length reserved.same)))

pub returns-in-Err-clause-cases : goal.returns-in-Err-clause-cases
returns-in-Err-clause-cases c =
    let held = c.loop-frame.invariant in
    let none = subst (λ (l : List ℕ). NoFrameAt l c.loop-frame.frames.reader.at c.read.new.self.reader.at c.in-Err.none) held.stream c.in-Err.ensures.cases in
    end_of_run held.so_far c.in-Err.none none _ c.append.result c.append.ensures.appended c.append.ensures.full

pub returns-in-Ok-None-clause-cases : goal.returns-in-Ok-None-clause-cases
returns-in-Ok-None-clause-cases c =
    let held = c.loop-frame.invariant in
    at_end held.so_far (found_end held.stream c.in-Ok-None.ensures.cases c.in-Ok-None.field-0-is)
