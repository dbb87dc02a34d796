-- What reading a file answers.
use Rattle.std.proofs.Common.{◌≡◌, ℕ, List, [], Some, None, Ok, Err, Result, sym, ap, ◌∙◌, subst, MatchResult}
use Rattle.fields.specs.Questions.{first_no, carried}
use Rattle.fields.proofs.Asked.{first_no_after, first_no_stop, carried_none, carried_some, some_none}
use Rattle.month.specs.declared.fault.FileFault.{FileFault}
use Rattle.month.specs.declared.fault.MonthFault.{MonthFault}
use Rattle.month.specs.declared.fault.MonthFault.TheVariants.{File}
use Rattle.month.specs.declared.month.Month.{Month}
use Rattle.month.specs.declared.statement.Statement.{Statement}
use Rattle.month.specs.Asked.{month_asked}
use Rattle.month.specs.Figures.{Figures}
use Rattle.month.specs.Making as making
use Rattle.month.specs.Refusals.{month_refusal}
use Rattle.month.specs.Stated.{stated}
use Rattle.month.specs.Valid.{Valid}
use Rattle.month.specs.View.{figures}
use Rattle.month.specs.Validity.{counted, yes_from_valid}
use Rattle.monthfile.specs.Layout.{file_of}
use Rattle.monthfile.specs.Questions.{file_asked, asked}
use Rattle.monthfile.specs.Reading.{States, Accepted, Refused}
use Rattle.monthfile.proofs.Exact.{file_same}
use Rattle.monthfile.proofs.Sound.{asked_none}

blank : Figures
blank = record {
  month = 0;
  sources = [];
  pilferage = 0;
  transmission = record { cost = 0; taken = 0; passed = 0 };
  energy = record { input = 0; substation = 0; feeder = 0 };
  exempt = record { generation = 0; transmission = 0 };
  brackets = [];
  sales = record { nonlifeline = 0; rate = 0; metering = 0 };
}

module _ (file : List ℕ) where
  told_too : (f : Figures) (e : MonthFault) → first_no (asked file f) ≡ Some e
      → first_no (carried month_refusal (asked file f)) ≡ Some (month_refusal e)
  told_too f e is = carried_some month_refusal (asked file f) e is

  pub refused_file : (e : FileFault) → first_no (file_asked file) ≡ Some e → Refused file (File e)
  refused_file e is =
      let first = first_no_stop (carried File (file_asked file)) (month_asked blank) (File e) (carried_some File (file_asked file) e is) in
      record { asked_of = blank; states = λ none. absurd (some_none (sym is ∙ none)); first = first; told = told_too blank (File e) first }

  -- a sound file leaves the answer to the questions of the month
  past_file : (f : Figures) → first_no (file_asked file) ≡ None → first_no (asked file f) ≡ first_no (month_asked f)
  past_file f none = first_no_after (carried File (file_asked file)) (month_asked f) (carried_none File (file_asked file) none)

  pub refused_month : (s : Statement) (e : MonthFault) → file ≡ file_of (stated s) → making.NotMade s e → Refused file e
  refused_month s e is refused =
      let first = past_file (stated s) (asked_none file (stated s) (counted s) is) ∙ refused.first in
      record { asked_of = stated s; states = λ _. record { counted = counted s; is = is }; first = first; told = told_too (stated s) e first }

  pub accepted_month : (s : Statement) (m : Month) → file ≡ file_of (stated s) → making.Made s m → Accepted file m
  accepted_month s m is made =
      let same : stated s ≡ figures m = ap stated (sym made.same) in
      record { valid = subst Valid same made.valid; is = is ∙ ap file_of same }

  -- the file of valid figures is read as those figures
  pub valid_file : (r : Result Month MonthFault) → MatchResult r (λ m. Accepted file m) (λ e. Refused file e) → (f : Figures) → Valid f
      → file ≡ file_of f → MatchResult r (λ m. figures m ≡ f) (λ e. ⊥)
  valid_file (Ok m) accepted f valid is = file_same (figures m) f (sym accepted.is ∙ is)
  valid_file (Err e) refused f valid is =
      let none = asked_none file f valid.counted is in
      let same = file_same refused.asked_of f (sym (refused.states none).is ∙ is) in
      some_none (sym refused.first ∙ past_file refused.asked_of none ∙ ap (λ g. first_no (month_asked g)) same ∙ yes_from_valid f valid)

  -- the first question of the month answered no comes back as it is
  pub month_fault : (r : Result Month MonthFault) → MatchResult r (λ m. Accepted file m) (λ e. Refused file e)
      → (f : Figures) (e : MonthFault) → States file f → first_no (month_asked f) ≡ Some e → r ≡ Err e
  month_fault (Ok m) accepted f e states is =
      let same = file_same (figures m) f (sym accepted.is ∙ states.is) in
      absurd (some_none (sym is ∙ ap (λ g. first_no (month_asked g)) (sym same) ∙ yes_from_valid (figures m) accepted.valid))
  month_fault (Err d) refused f e states is =
      let none = asked_none file f states.counted states.is in
      let same = file_same refused.asked_of f (sym (refused.states none).is ∙ states.is) in
      let told : Some d ≡ Some e = sym refused.first ∙ past_file refused.asked_of none ∙ ap (λ g. first_no (month_asked g)) same ∙ is in
      let whole : d ≡ e = cc in
      ap (λ x. Err x) whole

  -- and so does the first question of the file, inside a fault of the month
  pub file_fault : (r : Result Month MonthFault) → MatchResult r (λ m. Accepted file m) (λ e. Refused file e) → (e : FileFault)
      → first_no (file_asked file) ≡ Some e → r ≡ Err (File e)
  file_fault (Ok m) accepted e is = absurd (some_none (sym is ∙ asked_none file (figures m) accepted.valid.counted accepted.is))
  file_fault (Err d) refused e is =
      let told : Some d ≡ Some (File e) = sym refused.first ∙ first_no_stop (carried File (file_asked file)) (month_asked refused.asked_of) (File e) (carried_some File (file_asked file) e is) in
      let whole : d ≡ File e = cc in
      ap (λ x. Err x) whole
