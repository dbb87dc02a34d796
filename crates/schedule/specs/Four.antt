-- The row of the four charges of Resolution 14.
use Rattle.std.specs.Prelude.{ℕ, List, [], ◌∷◌}
use Rattle.charges.specs.Charges.{generation, transmission, priced_generation, priced_transmission, loss, lifeline}
use Rattle.charges.specs.Meaning.{Meaning}
use Rattle.schedule.specs.declared.four.FourCharges.{FourCharges}

-- by the feeder loss cap in hundredths of a percent
abbrev pub four_charges : ℕ → List Meaning
four_charges cap = generation ∷ transmission ∷ loss priced_generation priced_transmission cap ∷ lifeline ∷ []

-- the cap that the loss charge was made with
abbrev pub cap_of : FourCharges → ℕ
cap_of s = s.row.second.first.mechanism.cap.hundredths
