-- The printed words of a standing, and of a mark.
use Rattle.std.specs.Prelude.{ℕ, List, codes}
use Rattle.settlement.specs.declared.record.Mark.{Mark}
use Rattle.settlement.specs.declared.record.Mark.TheVariants.{Pending, Filed, Missed}
use Rattle.settlement.specs.declared.standing.Standing.{Standing}
use Rattle.settlement.specs.declared.standing.Standing.TheVariants.{Steady, Correcting}

abbrev pub standing_word : Standing → List ℕ
standing_word Steady = codes "steady"
standing_word Correcting = codes "correcting"

abbrev pub mark_word : Mark → List ℕ
mark_word Pending = codes "pending"
mark_word Filed = codes "filed"
mark_word Missed = codes "missed"
