-- How large a month's lifeline discount is.
use Rattle.std.proofs.Common.{◌≡◌, ℕ, ◌+◌, ◌*◌, ◌/◌, ◌<◌, ◌≤◌, ltb, List, [], ◌∷◌, length, get_or, sum_by, sym, refl, ap, ◌∙◌, subst}
use Rattle.std.proofs.Common.{mul-zero, arith, All}
use Rattle.std.proofs.lemmas.Nat.{mul-le}
use Rattle.std.proofs.lemmas.List.Elements.{All-weaker, All-get_or}
use Rattle.std.proofs.lemmas.List.Sums.{sum_by-le}
use Rattle.std.proofs.lemmas.List.Sums.{sum_by-cons}
use Rattle.std.proofs.lemmas.Bool.{cond_both, ltb-false}
use Rattle.month.specs.declared.month.Month.{Month}
use Rattle.month.specs.declared.parts.Bracket.{Bracket}
use Rattle.month.specs.declared.parts.Sales.{Sales}
use Rattle.month.specs.Amounts.{hundredfold, granted, discount, discount_formula}
use Rattle.month.specs.Bounds.{BoundedBracket}
use Rattle.month.specs.Figures.{Figures}
use Rattle.month.specs.Valid.{BracketWithin}
use Rattle.month.specs.View.{figures}
use Rattle.month.specs.Validity.{month_valid}

module _ (s : Sales) (b : Bracket) (rate : s.rate ≤ 1000000) (metering : s.metering ≤ 1000000) (w : BracketWithin b) where
  bounded_bracket : BoundedBracket s b
  bounded_bracket =
      let e : b.kwh * s.rate ≤ 10000000000000 = mul-le b.kwh s.rate 10000000 1000000 w.kwh_most rate in
      let m : b.customers * s.metering ≤ 1000000000000 = mul-le b.customers s.metering 1000000 1000000 w.customers_most metering in
      record {
        energy = e;
        metering = m;
        product = mul-le (b.kwh * s.rate + b.customers * s.metering) b.percent 11000000000000 100 (omega arith) w.percent_most;
      }

  granted_most : granted s b ≤ 1100000000000000
  granted_most = cond_both (ltb 0 b.percent) (hundredfold s b) 0 (λ n. n ≤ 1100000000000000) (λ _. bounded_bracket.product) (λ _. omega arith)

module _ (m : Month) where
  -- the bracket at i of a month
  pub bracket_bounded : (xs : List Bracket) (i : ℕ) (d : Bracket) → xs ≡ (figures m).brackets → i < length xs
      → BoundedBracket m.within.statement.sales (get_or xs i d)
  bracket_bounded xs i d e h =
      let w = (month_valid m).within in
      bounded_bracket m.within.statement.sales (get_or xs i d) w.rate_most w.metering_most (All-get_or BracketWithin xs i d h (subst (All BracketWithin) (sym e) w.brackets))

  pub sum_most : sum_by (granted m.within.statement.sales) (figures m).brackets ≤ 4400000000000000
  sum_most =
      let v = month_valid m in
      let s = m.within.statement.sales in
      omega (arith, v.counted.few_brackets, sum_by-le (granted s) 1100000000000000 (figures m).brackets (All-weaker BracketWithin (λ b. granted s b ≤ 1100000000000000) (λ b h. granted_most s b v.within.rate_most v.within.metering_most h) (figures m).brackets v.within.brackets))

-- a bracket of 0 percent adds nothing, so that it may be passed over
module _ (s : Sales) (b : Bracket) where
  no_percent : b.percent ≤ 0 → hundredfold s b ≡ 0
  no_percent h = let none : b.percent ≡ 0 = omega arith in ap (λ p. (b.kwh * s.rate + b.customers * s.metering) * p) none ∙ mul-zero _

  granted_is : granted s b ≡ hundredfold s b
  granted_is = cond_both (ltb 0 b.percent) (hundredfold s b) 0 (λ n. n ≡ hundredfold s b) (λ _. refl) (λ e. sym (no_percent (ltb-false 0 b.percent e)))

sum_granted : (s : Sales) (bs : List Bracket) → sum_by (granted s) bs ≡ sum_by (hundredfold s) bs
sum_granted s [] = refl
sum_granted s (b ∷ bs) = omega (arith, sum_by-cons (granted s) b bs, sum_by-cons (hundredfold s) b bs, granted_is s b, sum_granted s bs)

pub discount_is : (f : Figures) → discount f ≡ discount_formula f
discount_is f = ap (λ n. n / 100) (sum_granted f.sales f.brackets)
