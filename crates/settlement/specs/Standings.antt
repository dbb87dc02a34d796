-- The standing that a month leaves.
use Rattle.settlement.specs.declared.band.Band.{Band}
use Rattle.settlement.specs.declared.band.Band.TheVariants.{Beyond, Between, Within}
use Rattle.settlement.specs.declared.standing.Standing.{Standing}
use Rattle.settlement.specs.declared.standing.Standing.TheVariants.{Steady, Correcting}

-- beyond makes it correcting, within makes it steady, and between the two it is the one that the month before left
abbrev pub judged : Standing → Band → Standing
judged _ Beyond = Correcting
judged before Between = before
judged _ Within = Steady
