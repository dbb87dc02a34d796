-- Input and losses of the latest twelve months.
use Rattle.std.specs.Prelude.{◌≡◌, ℕ, ◌+◌, ◌-◌, ◌*◌, ◌≤◌, min, List, [], ◌∷◌, map, length, fold, slice_index_or, All}
use Rattle.std.proofs.Common.{◌∙◌, arith}
use Rattle.std.proofs.lemmas.Grind.{common_steps}
use Rattle.std.proofs.lemmas.Nat.{div_below}
use Rattle.std.proofs.lemmas.List.{length-map}
use Rattle.std.proofs.lemmas.List.Elements.{All-head, All-tail, All-drop, All-map}
use Rattle.bounded.specs.Ends.{latest}
use Rattle.bounded.proofs.Ends.{latest_length, latest_map}
use Rattle.month.specs.declared.month.Month.{Month}
use Rattle.month.specs.declared.parts.Energy.{Energy}
use Rattle.month.specs.Energies.{no_energy, added}
use Rattle.month.specs.Figures.{Figures}
use Rattle.month.specs.Valid.{Valid}
use Rattle.month.specs.View.{figures}
use Rattle.month.specs.Validity.{month_valid}
use Rattle.charges.specs.Formulas.{energy_totals, twelve_months, gross_up}

folded_energy : (z : Energy) (ms : List Month) → fold added z (map (λ m. (figures m).energy) ms) ≡ added z (energy_totals (map figures ms))
folded_energy z [] = grind arith
folded_energy z (m ∷ ms) = folded_energy (added z (figures m).energy) ms ∙ grind (arith, common_steps)

pub twelve_total : (ms : List Month) → fold added no_energy (map (λ m. (figures m).energy) (latest 12 ms)) ≡ twelve_months (map figures ms)
twelve_total ms = folded_energy no_energy (latest 12 ms) ∙ grind (arith, latest_map figures 12 ms)

-- what n months of energy keep: at most half the input is lost, and each month has some
pub record Kept (n : ℕ) (e : Energy) : Type 0 where
  pub losses : 2 * (e.substation + e.feeder) ≤ e.input
  pub least : n ≤ e.input
  pub most : e.input ≤ 10000000 * n

totals_kept : (ms : List Figures) → All Valid ms → Kept (length ms) (energy_totals ms)
totals_kept [] a = record { losses = omega arith; least = omega arith; most = omega arith }
totals_kept (m ∷ ms) a =
    let v = All-head Valid m ms a in
    let rest = totals_kept ms (All-tail Valid m ms a) in
    record { losses = grind (arith, common_steps); least = grind (arith, common_steps); most = grind (arith, common_steps, v.within.input_most) }

months_valid : (ms : List Month) → All Valid (map figures ms)
months_valid ms = All-map Valid figures ms (λ k m h. month_valid (slice_index_or ms k m))

pub twelve_kept : (ms : List Figures) → All Valid ms → Kept (length (latest 12 ms)) (twelve_months ms)
twelve_kept ms a = totals_kept (latest 12 ms) (All-drop Valid (length ms - 12) ms a)

-- the latest twelve of months that stand
pub recent_kept : (ms : List Month) → Kept (min 12 (length ms)) (fold added no_energy (map (λ m. (figures m).energy) (latest 12 ms)))
recent_kept ms =
    let few : length (latest 12 (map figures ms)) ≡ min 12 (length ms) = omega (arith, latest_length 12 (map figures ms), length-map ms figures) in
    rw (twelve_total ms, ← few) (twelve_kept (map figures ms) (months_valid ms))

pub gross_up_most : (cap : ℕ) (e : Energy) → 2 * (e.substation + e.feeder) ≤ e.input → 1 ≤ e.input → gross_up cap e ≤ 10000
gross_up_most cap e losses some = grind (arith, div_below)
