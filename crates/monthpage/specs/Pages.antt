-- What is printed for a file and a cap.
use Rattle.std.specs.Prelude.{◌≡◌, ℕ, ◌≤◌, Bool, false, ◌⊎◌, List, [], ◌∷◌, ◌++◌}
use Rattle.std.specs.List.{list_all}
use Rattle.charges.specs.Making.{NotMade}
use Rattle.charges.specs.Meaning.{Meaning}
use Rattle.charges.specs.Refusals.{cap_refusal}
use Rattle.charges.specs.Words.{cap_sentence}
use Rattle.charges.specs.declared.cap.CapTooHigh.{CapTooHigh}
use Rattle.month.specs.Figures.{Figures}
use Rattle.month.specs.Refusals.{month_refusal}
use Rattle.month.specs.View.{figures}
use Rattle.month.specs.Words.{month_sentence}
use Rattle.month.specs.declared.fault.MonthFault.{MonthFault}
use Rattle.month.specs.declared.month.Month.{Month}
use Rattle.monthfile.specs.Reading.{Accepted, Refused}
use Rattle.schedule.specs.Four.{four_charges}
use Rattle.monthpage.specs.Lines.{Line, text, month_lines, cap_line, charge_lines, refusal_lines}

-- the lines of a file that states a month
abbrev pub answer_lines : ℕ → List Meaning → Figures → List Line
answer_lines cap row f = month_lines f ++ (cap_line cap ∷ []) ++ charge_lines row f

-- each of these charges finds the month fit
abbrev pub all_fit : List Meaning → Figures → Bool
all_fit row f = list_all (λ k. k.fit f) row

-- the file states a month, and this is printed of it
pub record Answers (cap : ℕ) (file page : List ℕ) (good : Bool) : Type 0 where
  pub limit : cap ≤ 5000
  pub month : Month
  pub accepted : Accepted file month
  pub lines : page ≡ text (answer_lines cap (four_charges cap) (figures month))
  pub fit : good ≡ all_fit (four_charges cap) (figures month)

-- the first of the questions 1 to 11 that is answered no of the file
pub record RefusesFile (cap : ℕ) (file page : List ℕ) (good : Bool) : Type 0 where
  pub limit : cap ≤ 5000
  pub fault : MonthFault
  pub refused : Refused file fault
  pub lines : page ≡ text (refusal_lines (month_refusal fault) (month_sentence fault))
  pub none_good : good ≡ false

-- the cap is above its limit: question 15, asked before those of the file
pub record RefusesCap (cap : ℕ) (page : List ℕ) (good : Bool) : Type 0 where
  pub fault : CapTooHigh
  pub refused : NotMade cap fault
  pub lines : page ≡ text (refusal_lines (cap_refusal fault) (cap_sentence fault))
  pub none_good : good ≡ false

-- the page of a file, and whether nothing is refused and every charge finds the month fit
abbrev pub Checks : ℕ → List ℕ → List ℕ → Bool → Type 0
Checks cap file page good = Answers cap file page good ⊎ (RefusesFile cap file page good ⊎ RefusesCap cap page good)
