use Rattle.std.proofs.Common.{◌≡◌, ℕ, Bool, List, Result, Ok, Err, string_bytes, subst, inl, inr}
use Rattle.std.specs.Result.{IfOk}
use Rattle.std.proofs.lemmas.Result.{IfOk-weaker}
use Rattle.charges.specs.Meaning.{Meaning}
use Rattle.month.specs.View.{figures}
use Rattle.monthpage.specs.Lines.{text}
use Rattle.monthpage.specs.Pages.{all_fit, answer_lines, Checks}
use Rattle.monthpage.specs.declared.checking.Checked.{Checked}
use Rattle.monthpage.proofs.Once.{checked_once}
use Rattle.monthpage.proofs.checking.check.Goals as goal

if_both : {T E : Type 0} (r : Result T E) (P Q R : T → Type 0) → ((x : T) → P x → Q x → R x) → IfOk r P → IfOk r Q → IfOk r R
if_both (Ok x) P Q R both p q = both x p q
if_both (Err e) P Q R both p q = q

-- no other page is that of the file
once : {E : Type 0} (cap : ℕ) (file : List ℕ) (r : Result Checked E) → IfOk r (λ c. Checks cap file (string_bytes c.page) c.good)
    → (page : List ℕ) (good : Bool) → Checks cap file page good → IfOk r (λ c. (string_bytes c.page ≡ page) × (c.good ≡ good))
once cap file r cases page good other = IfOk-weaker r _ _ (λ c here. checked_once cap file (string_bytes c.page) page c.good good here other) cases

pub returns-in-Err : goal.returns-in-Err
returns-in-Err c =
    let r = c.refused.result in
    let cases : IfOk r (λ x. Checks c.args.cap c.args.file.now (string_bytes x.page) x.good) = if_both r _ _ _ (λ x lines none_good. inr (inr (record {
      fault = c.in-Err.fault;
      refused = c.in-Err.ensures;
      lines = rw c.from.ensures at lines;
      none_good = none_good;
    }))) c.refused.ensures.lines c.refused.ensures.none_good in
    record { cases = cases; once = once c.args.cap c.args.file.now r cases }

pub returns-in-Ok-read_month : goal.returns-in-Ok-read_month
returns-in-Ok-read_month c =
    let r = c.answered.result in
    let f = figures c.in-Ok-read_month.month in
    let cases : IfOk r (λ x. Checks c.args.cap c.args.file.now (string_bytes x.page) x.good) = if_both r _ _ _ (λ x lines fit. inl (record {
      limit = c.in-Ok.ensures.0;
      month = c.in-Ok-read_month.month;
      accepted = c.in-Ok-read_month.ensures.cases;
      lines = subst (λ (row : List Meaning). string_bytes x.page ≡ text (answer_lines c.args.cap row f)) c.in-Ok.ensures.1 lines;
      fit = subst (λ (row : List Meaning). x.good ≡ all_fit row f) c.in-Ok.ensures.1 fit;
    })) c.answered.ensures.lines c.answered.ensures.fit in
    record { cases = cases; once = once c.args.cap c.args.file.now r cases }

pub returns-in-Err-read_month : goal.returns-in-Err-read_month
returns-in-Err-read_month c =
    let r = c.refused-in-Err-read_month.result in
    let cases : IfOk r (λ x. Checks c.args.cap c.args.file.now (string_bytes x.page) x.good) = if_both r _ _ _ (λ x lines none_good. inr (inl (record {
      limit = c.in-Ok.ensures.0;
      fault = c.in-Err-read_month.fault;
      refused = c.in-Err-read_month.ensures.cases;
      lines = rw c.from-in-Err-read_month.ensures at lines;
      none_good = none_good;
    }))) c.refused-in-Err-read_month.ensures.lines c.refused-in-Err-read_month.ensures.none_good in
    record { cases = cases; once = once c.args.cap c.args.file.now r cases }
