-- What is added to a base rate while a correction is in force.
use Rattle.std.specs.Prelude.{ℕ, ◌*◌, Bool, true, false, not, if◌then◌else◌, ◌&&◌, ℤ, pos, negsuc, ◌+ℤ◌, int_div, int_lt, Option, Some, None}
use Rattle.std.specs.Int.{int_max, int_min}
use Rattle.std.specs.Option.{option_map}
use Rattle.settlement.specs.declared.record.Mark.{Mark}
use Rattle.settlement.specs.declared.record.Mark.TheVariants.{Pending, Filed, Missed}
use Rattle.settlement.specs.declared.record.Record.{Record}
use Rattle.settlement.specs.declared.standing.Standing.{Standing}
use Rattle.settlement.specs.declared.standing.Standing.TheVariants.{Steady, Correcting}

abbrev pub is_filed : Mark → Bool
is_filed Pending = false
is_filed Filed = true
is_filed Missed = false

-- a month stands and is not filed, by its mark
abbrev pub not_filed : Option Mark → Bool
not_filed None = false
not_filed (Some mark) = not (is_filed mark)

-- an upward correction is barred where the month before the last stands and is not marked filed (Article 5, Section 1)
abbrev pub is_barred : Option Record → Bool
is_barred before = not_filed (option_map (λ r. r.mark) before)

-- a balance spread over a divisor, rounded toward zero
abbrev pub spread_over : ℤ → ℕ → ℤ
spread_over balance divisor = int_div balance (pos divisor)

-- cut to ±1,000,000
abbrev pub cut : ℤ → ℤ
cut z = int_max (negsuc 999999) (int_min z (pos 1000000))

-- an upward correction is 0 where it is barred
abbrev pub unless_barred : Bool → ℤ → ℤ
unless_barred barred z = if barred && int_lt (pos 0) z then pos 0 else z

-- the correction of a rate that was billed on this quantity
abbrev pub correction : Standing → Bool → ℕ → ℤ → ℕ → ℤ
correction Steady barred spread balance quantity = pos 0
correction Correcting barred spread balance quantity = unless_barred barred (cut (spread_over balance (spread * quantity)))

-- the rate announced for the coming month: the base rate of the last month, and the correction of its balance
abbrev pub coming_rate : ℕ → Standing → Bool → ℕ → ℤ → ℕ → ℤ
coming_rate base standing barred spread balance quantity = pos base +ℤ correction standing barred spread balance quantity
