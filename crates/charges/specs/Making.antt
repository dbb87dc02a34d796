-- What making the loss charge may answer.
use Rattle.std.specs.Prelude.{◌≡◌, ℕ, ◌<◌, ◌≤◌}
use Rattle.fields.specs.declared.refusal.Layer.TheVariants as layer
use Rattle.charges.specs.Refusals.{cap_refusal}
use Rattle.charges.specs.declared.cap.CapTooHigh.{CapTooHigh}
use Rattle.charges.specs.declared.loss.Loss.{Loss}

-- the cap has its limit, and the charge stands over these two with this cap
pub record Made {G T : Type 0} (generation : G) (transmission : T) (cap : ℕ) (made : Loss G T) : Type 0 where
  pub limit : cap ≤ 5000
  pub over_generation : made.generation ≡ generation
  pub over_transmission : made.transmission ≡ transmission
  pub with_cap : made.cap.hundredths ≡ cap

-- the cap is above its limit, and the fault holds it as it is: question 15, at place 1
pub record NotMade (cap : ℕ) (fault : CapTooHigh) : Type 0 where
  pub above : 5000 < cap
  pub same : fault.cap ≡ cap
  pub told : cap_refusal fault ≡ record { number = 15; layer = layer.Book; place = 1 }
