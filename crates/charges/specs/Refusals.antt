-- What is told where the loss charge is not made: question 15, is the feeder loss cap at most 5,000?
use Rattle.fields.specs.declared.refusal.Layer.TheVariants as layer
use Rattle.fields.specs.declared.refusal.Refusal.{Refusal}
use Rattle.charges.specs.declared.cap.CapTooHigh.{CapTooHigh}

-- of any cap above its limit
abbrev pub cap_told : Refusal
cap_told = record { number = 15; layer = layer.Book; place = 1 }

abbrev pub cap_refusal : CapTooHigh → Refusal
cap_refusal _ = cap_told
