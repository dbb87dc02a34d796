-- What a correction does, by what is announced and what it is announced by. Neither law divides or cuts: they stand above `correction`.
use Rattle.std.specs.Prelude.{◌≡◌, ◌↔◌, ℕ, ◌+◌, ◌*◌, ◌<◌, ◌≤◌, ℤ, pos, nat_abs, ◌-ℤ◌, ◌<ℤ◌, Option, Some, None, ⊤}
use Rattle.settlement.specs.Corrections.{coming_rate, not_filed}
use Rattle.settlement.specs.declared.record.Mark.{Mark}
use Rattle.settlement.specs.declared.record.Mark.TheVariants.{Filed}
use Rattle.settlement.specs.declared.standing.Standing.{Standing}
use Rattle.settlement.specs.declared.standing.Standing.TheVariants.{Steady, Correcting}

-- the rate announced for a mechanism, and what it is announced by
pub record Announcement : Type 0 where
  pub rate : ℤ
  -- of the last month
  pub base_rate : ℕ
  pub quantity : ℕ
  pub outstanding : ℤ
  pub spread : ℕ
  pub standing : Standing
  -- of the month before the last, where one stands
  pub mark : Option Mark

-- the correction: above zero where the rate is above the base rate
abbrev pub difference : Announcement → ℤ
difference a = a.rate -ℤ pos a.base_rate

-- what one unit of it comes to, over the months that it is spread over
abbrev pub unit_comes_to : Announcement → ℕ
unit_comes_to a = a.spread * a.quantity

-- the month before the last bars no upward correction: none stands, or it is marked filed (Article 5, Section 1). It is said here in its own words, and
-- not by the definition that the code computes
abbrev pub Unbarred : Option Mark → Type 0
Unbarred None = ⊤
Unbarred (Some mark) = mark ≡ Filed

-- when a rate is corrected, which way, and by how much at most
pub record Corrects (a : Announcement) : Type 0 where
  pub steady : a.standing ≡ Steady → a.rate ≡ pos a.base_rate
  pub limit : nat_abs (difference a) ≤ 1000000
  pub above : pos a.base_rate <ℤ a.rate → (pos 0 <ℤ a.outstanding) × Unbarred a.mark
  pub below : a.rate <ℤ pos a.base_rate → a.outstanding <ℤ pos 0

-- how it is rounded: it comes to no more than is outstanding; and while the book is correcting, one unit more would come to more, unless the
-- correction is at its limit, or an upward one is barred
pub record Rounds (a : Announcement) : Type 0 where
  pub covered : nat_abs (difference a) * unit_comes_to a ≤ nat_abs a.outstanding
  pub tight : a.standing ≡ Correcting → (pos 0 <ℤ a.outstanding → Unbarred a.mark) → nat_abs (difference a) < 1000000
      → nat_abs a.outstanding < (nat_abs (difference a) + 1) * unit_comes_to a

-- the rate that the rules announce
abbrev pub rate_by_rule : Announcement → ℤ
rate_by_rule a = coming_rate a.base_rate a.standing (not_filed a.mark) a.spread a.outstanding a.quantity

-- the two laws settle the rate: where one unit comes to something, it is the one of the rules exactly where it keeps both
abbrev pub LawsSettleTheRate : Type 0
LawsSettleTheRate = (a : Announcement) → 1 ≤ unit_comes_to a → (a.rate ≡ rate_by_rule a) ↔ (Corrects a × Rounds a)
