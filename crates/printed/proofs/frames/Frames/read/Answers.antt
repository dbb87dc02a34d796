use Rattle.std.proofs.Common.{refl, sym, ◌∙◌, arith}
use Rattle.std.proofs.lemmas.Result.{err_from_is_err_and}
use Rattle.printed.proofs.Streams.{no_frame_at}
use Rattle.printed.proofs.frames.Frames.read.Goals as goal

pub returns-in_err-value-clause-cases : goal.returns-in_err-value-clause-cases
returns-in_err-value-clause-cases c =
    let err = err_from_is_err_and c.from_residual.result c.from_residual.ensures.1 in
    let tag = c.if-tag.true in
    rw (err.1) (no_frame_at _ _ _ (sym c.next_tag.ensures ∙ c.in-Some.is) _ _ _ c.in_err-value.ensures.cases (λ _. refl) (λ is. absurd (omega arith)) (λ is. absurd (omega arith)) err.0 err.2)

pub returns-in_err-field-clause-cases : goal.returns-in_err-field-clause-cases
returns-in_err-field-clause-cases c =
    let err = err_from_is_err_and c.from_residual-in_err-field.result c.from_residual-in_err-field.ensures.1 in
    let tag = c.if-tag-2.true in
    rw (err.1) (no_frame_at _ _ _ (sym c.next_tag.ensures ∙ c.in-Some.is) _ _ _ c.in_err-field.ensures.cases (λ is. absurd (omega arith)) (λ is. absurd (omega arith)) (λ _. refl) err.0 err.2)

pub returns-in_err-field-2-clause-cases : goal.returns-in_err-field-2-clause-cases
returns-in_err-field-2-clause-cases c =
    let err = err_from_is_err_and c.from_residual-in_err-field-2.result c.from_residual-in_err-field-2.ensures.1 in
    let no_opening = c.if-tag.false in
    let no_amendment = c.if-tag-2.false in
    rw (err.1) (no_frame_at _ _ _ (sym c.next_tag.ensures ∙ c.in-Some.is) _ _ _ c.in_err-field-2.ensures.cases (λ is. absurd (no_opening (sym is))) (λ _. refl) (λ is. absurd (no_amendment (sym is))) err.0 err.2)
