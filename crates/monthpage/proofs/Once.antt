-- A file has one page by a cap.
use Rattle.std.proofs.Common.{◌≡◌, ℕ, Bool, List, Option, Some, None, Result, Err, refl, ap, sym, ◌∙◌, inl, inr, arith}
use Rattle.fields.specs.Questions.{first_no}
use Rattle.month.specs.View.{figures}
use Rattle.month.specs.Refusals.{month_refusal}
use Rattle.month.specs.Words.{month_sentence}
use Rattle.month.specs.declared.fault.FileFault.{FileFault}
use Rattle.month.specs.declared.fault.MonthFault.{MonthFault}
use Rattle.month.specs.declared.month.Month.{Month}
use Rattle.monthfile.specs.Questions.{file_asked, asked}
use Rattle.monthfile.specs.Reading.{Accepted, Refused}
use Rattle.monthfile.proofs.Answering.{valid_file, file_fault}
use Rattle.monthfile.proofs.Exact.{file_same}
use Rattle.schedule.specs.Four.{four_charges}
use Rattle.monthpage.specs.Lines.{text, refusal_lines}
use Rattle.monthpage.specs.Pages.{all_fit, answer_lines, Checks}

module _ (file : List ℕ) where
  stated_once : (m n : Month) → Accepted file m → Accepted file n → figures m ≡ figures n
  stated_once m n p q = file_same (figures m) (figures n) (sym p.is ∙ q.is)

  not_both : (m : Month) (e : MonthFault) → Accepted file m → Refused file e → ⊥
  not_both m e accepted refused = valid_file file (Err e) refused (figures m) accepted.valid accepted.is

  fault_once : (o : Option FileFault) (d e : MonthFault) → first_no (file_asked file) ≡ o → Refused file d → Refused file e → d ≡ e
  fault_once None d e is p q =
      let same = file_same p.asked_of q.asked_of (sym (p.states is).is ∙ (q.states is).is) in
      let told : Some d ≡ Some e = sym p.first ∙ ap (λ f. first_no (asked file f)) same ∙ q.first in
      cc
  fault_once (Some x) d e is p q =
      let told : ◌≡◌ {A = Result Month MonthFault} (Err d) (Err e) = file_fault file (Err d) p x is ∙ sym (file_fault file (Err e) q x is) in
      cc

module _ (cap : ℕ) (file page other : List ℕ) (good also : Bool) where
  pub checked_once : Checks cap file page good → Checks cap file other also → (page ≡ other) × (good ≡ also)
  checked_once (inl p) (inl q) =
      let same = stated_once file p.month q.month p.accepted q.accepted in
      (p.lines ∙ ap (λ f. text (answer_lines cap (four_charges cap) f)) same ∙ sym q.lines, p.fit ∙ ap (λ f. all_fit (four_charges cap) f) same ∙ sym q.fit)
  checked_once (inl p) (inr (inl q)) = absurd (not_both file p.month q.fault p.accepted q.refused)
  checked_once (inl p) (inr (inr q)) = absurd (omega (arith, p.limit, q.refused.above))
  checked_once (inr (inl p)) (inl q) = absurd (not_both file q.month p.fault q.accepted p.refused)
  checked_once (inr (inl p)) (inr (inl q)) =
      let same = fault_once file (first_no (file_asked file)) p.fault q.fault refl p.refused q.refused in
      (p.lines ∙ ap (λ e. text (refusal_lines (month_refusal e) (month_sentence e))) same ∙ sym q.lines, p.none_good ∙ sym q.none_good)
  checked_once (inr (inl p)) (inr (inr q)) = absurd (omega (arith, p.limit, q.refused.above))
  checked_once (inr (inr p)) (inl q) = absurd (omega (arith, q.limit, p.refused.above))
  checked_once (inr (inr p)) (inr (inl q)) = absurd (omega (arith, q.limit, p.refused.above))
  checked_once (inr (inr p)) (inr (inr q)) =
      let same : p.fault.cap ≡ q.fault.cap = p.refused.same ∙ sym q.refused.same in
      (p.lines ∙ rw same (sym q.lines), p.none_good ∙ sym q.none_good)
