use Rattle.std.proofs.Common.{◌≡◌, ℕ, true, false, List, [], ◌∷◌, ◌++◌, codes, decimal, rules, sym, ◌∙◌}
use Rattle.charges.specs.Meaning.{Meaning}
use Rattle.month.specs.Figures.{Figures}
use Rattle.month.specs.View.{figures}
use Rattle.schedule.specs.Rows.{numbered}
use Rattle.monthpage.specs.Lines.{line, units, charge_line}
use Rattle.monthpage.proofs.answers.put_answer.Goals as goal

-- the line where the month is not fit, and where it is
module _ (number : ℕ) (name : List ℕ) (k : Meaning) (f : Figures) (old new : List ℕ) where
  unfit_put : k.fit f ≡ false
      → new ≡ old ++ line (codes "charge " ∷ decimal number ∷ codes ", " ∷ name ∷ codes ": the month is not fit" ∷ [])
      → new ≡ old ++ line (charge_line number name k f)
  unfolding line
  unfit_put is put = rw is put

  fit_put : k.fit f ≡ true
      → new ≡ old ++ line (codes "charge " ∷ decimal number ∷ codes ", " ∷ name ∷ codes ": quantity " ∷ decimal (k.quantity f) ∷ codes " kWh, base rate " ∷ decimal (k.assessed (f ∷ [])).0 ∷ codes " units per kWh, allowance " ∷ units (k.assessed (f ∷ [])).1 ∷ [])
      → new ≡ old ++ line (charge_line number name k f)
  unfolding line
  fit_put is put = rw is put

pub returns-then-not-is_fit-clause-line : goal.returns-then-not-is_fit-clause-line
unfolding line
returns-then-not-is_fit-clause-line g c =
    let k = numbered (g.S.Schedule.meaning c.args.charges.now) c.args.number in
    let f = figures c.args.month.now in
    let unfit : k.fit f ≡ false = sym (c.is_fit.ensures c.requires) ∙ search rules in
    unfit_put c.args.number c.args.name.now k f _ _ unfit c.in_ok-writeln.ensures.bytes

pub returns-clause-line : goal.returns-clause-line
unfolding line
returns-clause-line g c =
    let k = numbered (g.S.Schedule.meaning c.args.charges.now) c.args.number in
    let f = figures c.args.month.now in
    let fit : k.fit f ≡ true = sym (c.is_fit.ensures c.requires) ∙ search rules in
    fit_put c.args.number c.args.name.now k f _ _ fit (simp (c.quantity-quantity.ensures c.requires, c.assess-rate.ensures c.requires) at c.in_ok-writeln-2.ensures.bytes)
