-- A rate is the one that the rules give exactly where it keeps the laws of a correction.
use Rattle.std.proofs.Common.{◌≡◌, ℕ, zero, suc, ◌+◌, ◌*◌, ◌/◌, ◌<◌, ◌≤◌, ◌⊎◌, inl, inr, Bool, true, false, refl, ap, sym, ◌∙◌, ℤ, pos}
use Rattle.std.proofs.Common.{negsuc, neg_ℤ, nat_abs, ◌+ℤ◌, ◌-ℤ◌, ◌<ℤ◌, Option, Some, None, div-mul-le_self, arith}
use Rattle.std.proofs.Math.Nat.{lt-div-mul-add, div-le_self, mul-le-mul_right}
use Rattle.std.proofs.lemmas.Bool.{cases_lt}
use Rattle.std.proofs.lemmas.Int.{ints, clamps}
use Rattle.settlement.specs.CorrectionLaws.{Announcement, difference, unit_comes_to, Unbarred, Corrects, Rounds, rate_by_rule, LawsSettleTheRate}
use Rattle.settlement.specs.Corrections.{not_filed, spread_over, cut, unless_barred, correction}
use Rattle.settlement.specs.declared.record.Mark.{Mark}
use Rattle.settlement.specs.declared.record.Mark.TheVariants.{Pending, Filed, Missed}
use Rattle.settlement.specs.declared.standing.Standing.{Standing}
use Rattle.settlement.specs.declared.standing.Standing.TheVariants.{Steady, Correcting}

size_below : (n : ℕ) → nat_abs (neg_ℤ (pos n)) ≡ n
size_below zero = refl
size_below (suc n) = refl

never_above : (n : ℕ) → pos 0 <ℤ neg_ℤ (pos n) → ⊥
never_above zero h = omega (arith, ints)
never_above (suc n) h = omega (arith, ints)

level : (x y : ℤ) → (x <ℤ y → ⊥) → (y <ℤ x → ⊥) → x ≡ y
level x y not_below not_above = grind (arith, ints)

-- two numbers equally far from a third, and on one side of it
module _ (x y base : ℤ) (as_far : nat_abs (x -ℤ base) ≡ nat_abs (y -ℤ base)) where
  same_above : (x <ℤ base → ⊥) → (y <ℤ base → ⊥) → x ≡ y
  same_above not_below not_below_too = grind (arith, ints)

  same_below : (base <ℤ x → ⊥) → (base <ℤ y → ⊥) → x ≡ y
  same_below not_above not_above_too = grind (arith, ints)

above_or_not : (z : ℤ) → (pos 0 <ℤ z) ⊎ (pos 0 <ℤ z → ⊥)
above_or_not (pos zero) = inr (λ up. omega (arith, ints))
above_or_not (pos (suc n)) = inl (omega (arith, ints))
above_or_not (negsuc n) = inr (λ up. omega (arith, ints))

steady_or_correcting : (standing : Standing) → (standing ≡ Steady) ⊎ (standing ≡ Correcting)
steady_or_correcting Steady = inl refl
steady_or_correcting Correcting = inr refl

-- a balance spread over a divisor
module _ (d : ℕ) where
  spread_size : (balance : ℤ) → nat_abs (spread_over balance d) ≡ nat_abs balance / d
  spread_size (pos b) = refl
  spread_size (negsuc b) = size_below (suc b / d)

  spread_upward : (balance : ℤ) → pos 0 <ℤ spread_over balance d → pos 0 <ℤ balance
  spread_upward (pos b) up = omega (arith, ints, div-le_self b d)
  spread_upward (negsuc b) up = absurd (never_above (suc b / d) up)

  spread_downward : (balance : ℤ) → spread_over balance d <ℤ pos 0 → balance <ℤ pos 0
  spread_downward (pos b) down = absurd (omega (arith, ints))
  spread_downward (negsuc b) down = omega (arith, ints)

-- a correction cut
module _ (z : ℤ) where
  cut_limit : nat_abs (cut z) ≤ 1000000
  cut_limit = omega (arith, ints, clamps)

  cut_size : nat_abs (cut z) ≤ nat_abs z
  cut_size = omega (arith, ints, clamps)

  cut_upward : pos 0 <ℤ cut z → pos 0 <ℤ z
  cut_upward up = omega (arith, ints, clamps)

  cut_downward : cut z <ℤ pos 0 → z <ℤ pos 0
  cut_downward down = omega (arith, ints, clamps)

  uncut : nat_abs (cut z) < 1000000 → cut z ≡ z
  uncut few = omega (arith, ints, clamps)

-- a month bars no upward correction exactly where it is filed or none stands
unbarred : (mark : Option Mark) → not_filed mark ≡ false → Unbarred mark
unbarred None is = tt
unbarred (Some Pending) is = absurd (cc)
unbarred (Some Filed) is = refl
unbarred (Some Missed) is = absurd (cc)

bars_none : (mark : Option Mark) → Unbarred mark → not_filed mark ≡ false
bars_none None free = refl
bars_none (Some mark) free = rw free refl

unbarred_or_not : (mark : Option Mark) → Unbarred mark ⊎ (Unbarred mark → ⊥)
unbarred_or_not None = inl tt
unbarred_or_not (Some Pending) = inr (λ filed. cc)
unbarred_or_not (Some Filed) = inl refl
unbarred_or_not (Some Missed) = inr (λ filed. cc)

-- a correction that may be barred
module _ (z : ℤ) where
  barred_size : (barred : Bool) → nat_abs (unless_barred barred z) ≤ nat_abs z
  barred_size true = grind (arith, ints)
  barred_size false = omega arith

  barred_upward : (barred : Bool) → pos 0 <ℤ unless_barred barred z → (barred ≡ false) × (pos 0 <ℤ z)
  barred_upward true up = absurd (grind (arith, ints))
  barred_upward false up = (refl, up)

  barred_downward : (barred : Bool) → unless_barred barred z <ℤ pos 0 → z <ℤ pos 0
  barred_downward true down = grind (arith, ints)
  barred_downward false down = down

  not_barred : (barred : Bool) → (pos 0 <ℤ z → barred ≡ false) → unless_barred barred z ≡ z
  not_barred true free = grind (arith, ints)
  not_barred false free = refl

-- the correction that the rules give
module _ (mark : Option Mark) (spread : ℕ) (balance : ℤ) (quantity : ℕ) where
  abbrev given : Standing → ℤ
  given standing = correction standing (not_filed mark) spread balance quantity

  abbrev quotient : ℤ
  quotient = spread_over balance (spread * quantity)

  given_limit : (standing : Standing) → nat_abs (given standing) ≤ 1000000
  given_limit Steady = omega arith
  given_limit Correcting = omega (arith, barred_size (cut quotient) (not_filed mark), cut_limit quotient)

  given_upward : (standing : Standing) → pos 0 <ℤ given standing → (pos 0 <ℤ balance) × Unbarred mark
  given_upward Steady up = absurd (omega (arith, ints))
  given_upward Correcting up =
      let known = barred_upward (cut quotient) (not_filed mark) up in
      (spread_upward (spread * quantity) balance (cut_upward quotient known.1), unbarred mark known.0)

  given_downward : (standing : Standing) → given standing <ℤ pos 0 → balance <ℤ pos 0
  given_downward Steady down = absurd (omega (arith, ints))
  given_downward Correcting down = spread_downward (spread * quantity) balance (cut_downward quotient (barred_downward (cut quotient) (not_filed mark) down))

  given_covered : (standing : Standing) → nat_abs (given standing) * (spread * quantity) ≤ nat_abs balance
  given_covered Steady = omega arith
  given_covered Correcting =
      let d = spread * quantity in
      let small : nat_abs (given Correcting) ≤ nat_abs balance / d = omega (arith, barred_size (cut quotient) (not_filed mark), cut_size quotient, spread_size d balance) in
      omega (arith, mul-le-mul_right {m = nat_abs (given Correcting)} {n = nat_abs balance / d} d small, div-mul-le_self (nat_abs balance) d)

  given_tight : 1 ≤ spread * quantity → (pos 0 <ℤ balance → Unbarred mark) → nat_abs (given Correcting) < 1000000
      → nat_abs balance < (nat_abs (given Correcting) + 1) * (spread * quantity)
  given_tight some free few =
      let d = spread * quantity in
      let all : given Correcting ≡ cut quotient = not_barred (cut quotient) (not_filed mark) (λ up. bars_none mark (free (spread_upward d balance (cut_upward quotient up)))) in
      let is : given Correcting ≡ quotient = all ∙ uncut quotient (rw (← all) few) in
      let size : nat_abs (given Correcting) ≡ nat_abs balance / d = ap nat_abs is ∙ spread_size d balance in
      rw size (omega (arith, lt-div-mul-add {a = nat_abs balance} {b = d} some))

-- it keeps the laws
module _ (a : Announcement) (some : 1 ≤ unit_comes_to a) (is : a.rate ≡ rate_by_rule a) where
  is_given : difference a ≡ given a.mark a.spread a.outstanding a.quantity a.standing
  is_given = omega (arith, ints, is)

  pub corrects : Corrects a
  corrects = record {
    steady = λ steady. is ∙ ap (λ s. pos a.base_rate +ℤ given a.mark a.spread a.outstanding a.quantity s) steady ∙ omega (arith, ints);
    limit = rw is_given (given_limit a.mark a.spread a.outstanding a.quantity a.standing);
    above = λ up. given_upward a.mark a.spread a.outstanding a.quantity a.standing (rw (← is_given) (omega (arith, ints)));
    below = λ down. given_downward a.mark a.spread a.outstanding a.quantity a.standing (rw (← is_given) (omega (arith, ints)));
  }

  pub rounds : Rounds a
  rounds = record {
    covered = rw is_given (given_covered a.mark a.spread a.outstanding a.quantity a.standing);
    tight = λ correcting free few.
        let now : difference a ≡ given a.mark a.spread a.outstanding a.quantity Correcting = is_given ∙ ap (given a.mark a.spread a.outstanding a.quantity) correcting in
        rw now (given_tight a.mark a.spread a.outstanding a.quantity some free (rw (← now) few));
  }

-- the same with this rate
abbrev pub at_rate : Announcement → ℤ → Announcement
at_rate a r = record a { rate = r }

-- of two rates that keep the laws neither is corrected by less
not_less : (a : Announcement) (r : ℤ) → Corrects (at_rate a r) → Rounds a → Rounds (at_rate a r) → a.standing ≡ Correcting
    → (pos 0 <ℤ a.outstanding → Unbarred a.mark) → nat_abs (difference (at_rate a r)) ≤ nat_abs (difference a)
not_less a r laws rounded other correcting free = elim (cases_lt (nat_abs (difference a)) (nat_abs (difference (at_rate a r)))) [
  | inl less ↦ absurd (omega (arith, rounded.tight correcting free (omega (arith, less, laws.limit)), other.covered, mul-le-mul_right {m = nat_abs (difference a) + 1} {n = nat_abs (difference (at_rate a r))} (unit_comes_to a) (omega arith)))
  | inr more ↦ more
]

at_base : (a : Announcement) → Corrects a → (pos 0 <ℤ a.outstanding → Unbarred a.mark → ⊥) → (a.outstanding <ℤ pos 0 → ⊥) → a.rate ≡ pos a.base_rate
at_base a laws none_above none_below = level a.rate (pos a.base_rate) (λ down. none_below (laws.below down)) (λ up. none_above (laws.above up).0 (laws.above up).1)

-- the laws leave one rate
pub one_rate : (a : Announcement) (r : ℤ) → Corrects a → Rounds a → Corrects (at_rate a r) → Rounds (at_rate a r) → r ≡ a.rate
one_rate a r laws rounded laws_too rounded_too = elim (steady_or_correcting a.standing) [
  | inl steady ↦ laws_too.steady steady ∙ sym (laws.steady steady)
  | inr correcting ↦
      let as_far : (pos 0 <ℤ a.outstanding → Unbarred a.mark) → nat_abs (r -ℤ pos a.base_rate) ≡ nat_abs (a.rate -ℤ pos a.base_rate) = λ free.
      omega (arith, not_less a r laws_too rounded rounded_too correcting free, not_less (at_rate a r) a.rate laws rounded_too rounded correcting free) in
      elim (above_or_not a.outstanding) [
        | inl up ↦ elim (unbarred_or_not a.mark) [
          | inl free ↦ same_above r a.rate (pos a.base_rate) (as_far (λ _. free)) (λ down. omega (arith, ints, up, laws_too.below down)) (λ down. omega (arith, ints, up, laws.below down))
          | inr barred ↦ at_base (at_rate a r) laws_too (λ _. barred) (λ down. omega (arith, ints, up, down)) ∙ sym (at_base a laws (λ _. barred) (λ down. omega (arith, ints, up, down)))
        ]
        | inr not_up ↦ same_below r a.rate (pos a.base_rate) (as_far (λ up. absurd (not_up up))) (λ up. not_up (laws_too.above up).0) (λ up. not_up (laws.above up).0)
      ]
]

pub by_both_laws : LawsSettleTheRate
by_both_laws a some =
    let r = rate_by_rule a in
    (λ is. (corrects a some is, rounds a some is), λ laws. sym (one_rate a r laws.0 laws.1 (corrects (at_rate a r) some refl) (rounds (at_rate a r) some refl)))
