-- The sentence for a cap that is too high.
use Rattle.std.specs.Prelude.{ℕ, List, ◌++◌, codes, decimal}
use Rattle.charges.specs.declared.cap.CapTooHigh.{CapTooHigh}

abbrev pub cap_sentence : CapTooHigh → List ℕ
cap_sentence f = codes "The feeder loss cap of " ++ (decimal f.cap ++ codes " hundredths of a percent is above 5000.")
