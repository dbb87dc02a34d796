-- Questions 6 to 11 answered yes, and valid figures, are the same.
use Rattle.std.specs.Prelude.{◌≡◌, ℕ, ◌≤◌, true, false, ◌&&◌, List, [], ◌∷◌, is_some, is_ok, Some, None, Ok, Err, sum_by, Option, Result}
use Rattle.std.specs.Prelude.{MatchResult, nat_le, refl, All}
use Rattle.std.proofs.Common.{sym, ◌∙◌, subst, arith}
use Rattle.std.proofs.lemmas.List.Elements.{All-weaker, All-head, All-tail}
use Rattle.std.proofs.lemmas.Int.{ints}
use Rattle.std.proofs.lemmas.List.Sums.{sum_by-cons, sum_by-le}
use Rattle.std.proofs.lemmas.Bool.Decides.{nat_tests}
use Rattle.std.proofs.lemmas.Bool.{leb-true, le-leb}
use Rattle.bounded.specs.Sizes.{greatest_of_36}
use Rattle.bounded.proofs.Held.{held_most}
use Rattle.fields.specs.Questions.{first_no}
use Rattle.fields.proofs.Asked.{all_yes, none_from_yes, first_no_after, some_none}
use Rattle.month.specs.declared.fault.MonthFault.{MonthFault}
use Rattle.month.specs.declared.month.Month.{Month}
use Rattle.month.specs.declared.parts.Source.{Source}
use Rattle.month.specs.declared.parts.Bracket.{Bracket}
use Rattle.month.specs.declared.statement.Statement.{Statement}
use Rattle.month.specs.declared.within.WithinLimits.{WithinLimits}
use Rattle.month.specs.Amounts.{cost_of, taken_of, passed_of, kwh_of}
use Rattle.month.specs.Asked.{source_within, energy_within, exempt_within, sales_within, bracket_within, passed_on_within, energy_fits}
use Rattle.month.specs.Asked.{sales_fit, limits_asked, rules_asked, month_asked}
use Rattle.month.specs.Bounds.{Bounded, BoundedSource}
use Rattle.month.specs.Energies.{energy_size}
use Rattle.month.specs.Figures.{Figures, Counted}
use Rattle.month.specs.Making.{Made, NotMade}
use Rattle.month.specs.Stated.{stated}
use Rattle.month.specs.Valid.{SourceWithin, BracketWithin, Within, Valid}
use Rattle.month.specs.View.{figures}
use Rattle.month.specs.Every.{all_from_every, every_from_all}

source_tells : (s : Source) → source_within s ≡ true → SourceWithin s
source_tells s e = record { cost_most = grind (arith, nat_tests); taken_most = grind (arith, nat_tests); passed_most = grind (arith, nat_tests) }

source_tests : (s : Source) → SourceWithin s → source_within s ≡ true
source_tests s w = grind (arith, nat_tests)

bracket_tells : (b : Bracket) → bracket_within b ≡ true → BracketWithin b
bracket_tells b e = record { kwh_most = grind (arith, nat_tests); customers_most = grind (arith, nat_tests); percent_most = grind (arith, nat_tests) }

bracket_tests : (b : Bracket) → BracketWithin b → bracket_within b ≡ true
bracket_tests b w = grind (arith, nat_tests)

module _ (f : Figures) where
  within_from_yes : first_no (limits_asked f) ≡ None → Within f
  within_from_yes e =
      let y = all_yes (limits_asked f) e in
      let month = y.0 in
      let energy = y.1.1.1.1.0 in
      let sales = y.1.1.1.1.1.1.0 in
      record {
        month_least = grind (arith, nat_tests);
        month_most = grind (arith, nat_tests);
        sources = all_from_every source_within SourceWithin source_tells f.sources y.1.0;
        pilferage_most = leb-true _ _ y.1.1.0;
        transmission = source_tells f.transmission y.1.1.1.0;
        input_most = grind (arith, nat_tests);
        substation_most = grind (arith, nat_tests);
        feeder_most = grind (arith, nat_tests);
        generation_exempt_most = grind (arith, nat_tests);
        transmission_exempt_most = grind (arith, nat_tests);
        brackets = all_from_every bracket_within BracketWithin bracket_tells f.brackets y.1.1.1.1.1.0;
        nonlifeline_most = grind (arith, nat_tests);
        rate_most = grind (arith, nat_tests);
        metering_most = grind (arith, nat_tests);
      }

  yes_from_within : Within f → first_no (limits_asked f) ≡ None
  yes_from_within w =
      let month : (nat_le 1 f.month && nat_le f.month 36) ≡ true = grind (arith, nat_tests, w.month_least, w.month_most) in
      let energy : (energy_within f.energy && exempt_within f.exempt) ≡ true = grind (arith, nat_tests, w.input_most, w.substation_most, w.feeder_most, w.generation_exempt_most, w.transmission_exempt_most) in
      let sales : sales_within f.sales ≡ true = grind (arith, nat_tests, w.nonlifeline_most, w.rate_most, w.metering_most) in
      none_from_yes (limits_asked f) (month, (every_from_all source_within SourceWithin source_tests f.sources w.sources, (le-leb _ _ w.pilferage_most, (source_tests f.transmission w.transmission, (energy, (every_from_all bracket_within BracketWithin bracket_tests f.brackets w.brackets, (sales, tt)))))))

  sources_sum : (g : Source → ℕ) → ((s : Source) → SourceWithin s → g s ≤ 5000000000) → Counted f → Within f → sum_by g f.sources ≤ 40000000000
  sources_sum g small few w = omega (arith, few.few_sources, sum_by-le g 5000000000 f.sources (All-weaker SourceWithin (λ s. g s ≤ 5000000000) small f.sources w.sources))

  pub bounded : Counted f → Within f → Bounded f
  bounded few w = record {
    costs = sources_sum cost_of (λ s h. h.cost_most) few w;
    taken = sources_sum taken_of (λ s h. h.taken_most) few w;
    passed = sources_sum passed_of (λ s h. h.passed_most) few w;
    pilferage = w.pilferage_most;
    transmission_cost_most = w.transmission.cost_most;
    transmission_taken_most = w.transmission.taken_most;
    transmission_passed_most = w.transmission.passed_most;
    substation = w.substation_most;
    feeder = w.feeder_most;
    generation_exempt = w.generation_exempt_most;
    transmission_exempt = w.transmission_exempt_most;
    sales = omega (arith, few.few_brackets, w.nonlifeline_most, sum_by-le kwh_of 10000000 f.brackets (All-weaker BracketWithin (λ b. b.kwh ≤ 10000000) (λ b h. h.kwh_most) f.brackets w.brackets));
  }

  pub bounded_from_yes : Counted f → first_no (limits_asked f) ≡ None → Bounded f
  bounded_from_yes few e = bounded few (within_from_yes e)

  pub valid_from_yes : Counted f → first_no (limits_asked f) ≡ None → first_no (rules_asked f) ≡ None → Valid f
  valid_from_yes few limits rules =
      let y = all_yes (rules_asked f) rules in
      let energy = y.1.1.1.1.1.0 in
      let sales = y.1.1.1.1.1.1.0 in
      record {
        counted = few;
        within = within_from_yes limits;
        sources_passed = all_from_every passed_on_within (λ s. s.passed ≤ s.taken) (λ s. leb-true _ _) f.sources y.0;
        transmission_passed = leb-true _ _ y.1.0;
        costs_most = leb-true _ _ y.1.1.0;
        generation_not_negative = omega (arith, ints, leb-true _ _ y.1.1.1.0);
        transmission_not_negative = omega (arith, ints, leb-true _ _ y.1.1.1.1.0);
        losses = grind (arith, nat_tests);
        generation_charged = grind (arith, nat_tests);
        transmission_charged = grind (arith, nat_tests);
        some_sold = grind (arith, nat_tests);
        sold_generation = grind (arith, nat_tests);
        sold_transmission = grind (arith, nat_tests);
      }

  rules_from_valid : Valid f → first_no (rules_asked f) ≡ None
  rules_from_valid v =
      let energy : energy_fits f ≡ true = grind (arith, nat_tests, v.losses, v.generation_charged, v.transmission_charged) in
      let sales : sales_fit f ≡ true = grind (arith, nat_tests, v.some_sold, v.sold_generation, v.sold_transmission) in
      none_from_yes (rules_asked f) (every_from_all passed_on_within (λ s. s.passed ≤ s.taken) (λ s. le-leb _ _) f.sources v.sources_passed, (le-leb _ _ v.transmission_passed, (le-leb _ _ v.costs_most, (le-leb _ _ (omega (arith, ints, v.generation_not_negative)), (le-leb _ _ (omega (arith, ints, v.transmission_not_negative)), (energy, (sales, tt)))))))

  pub yes_from_valid : Valid f → first_no (month_asked f) ≡ None
  yes_from_valid v = first_no_after (limits_asked f) (rules_asked f) (yes_from_within v.within) ∙ rules_from_valid v

sum_by_mono : {X : Type 0} (g h : X → ℕ) (xs : List X) → All (λ x. g x ≤ h x) xs → sum_by g xs ≤ sum_by h xs
sum_by_mono g h [] a = omega arith
sum_by_mono g h (x ∷ xs) a = omega (arith, sum_by-cons g x xs, sum_by-cons h x xs, All-head (λ y. g y ≤ h y) x xs a, sum_by_mono g h xs (All-tail (λ y. g y ≤ h y) x xs a))

pub sum_passed : (f : Figures) → Valid f → sum_by passed_of f.sources ≤ sum_by taken_of f.sources
sum_passed f v = sum_by_mono passed_of taken_of f.sources v.sources_passed

pub counted : (s : Statement) → Counted (stated s)
counted s = record { some_source = s.some_source; few_sources = held_most s.sources; few_brackets = held_most s.brackets }

pub none_from : {F : Type 0} (o : Option F) → is_some o ≡ false → o ≡ None
none_from None e = refl
none_from (Some x) e = absurd (grind arith)

pub within_bounded : (w : WithinLimits) → Bounded (stated w.statement)
within_bounded w = bounded_from_yes (stated w.statement) (counted w.statement) (none_from _ w.limits)

pub within_valid : (w : WithinLimits) → first_no (rules_asked (stated w.statement)) ≡ None → Valid (stated w.statement)
within_valid w rules = valid_from_yes (stated w.statement) (counted w.statement) (none_from _ w.limits) rules

-- a month that exists is valid
pub month_valid : (m : Month) → Valid (figures m)
month_valid m = within_valid m.within (none_from _ m.rules)

pub month_bounded : (m : Month) → Bounded (figures m)
month_bounded m = within_bounded m.within

pub bought_bounded : (m : Month) → BoundedSource m.bought
bought_bounded m =
    let b = month_bounded m in
    subst BoundedSource (sym m.all_bought) (record { cost = b.costs; taken = b.taken; passed = b.passed })

-- a month's energy is such that 36 of it still add up
pub energy_small : (m : Month) → energy_size (figures m).energy ≤ greatest_of_36
energy_small m = let w = (month_valid m).within in omega (arith, w.input_most, w.substation_most, w.feeder_most)

-- valid figures are never refused
pub valid_made : (s : Statement) (r : Result Month MonthFault) → MatchResult r (λ m. Made s m) (λ e. NotMade s e) → Valid (stated s) → is_ok r ≡ true
valid_made s (Ok m) made v = refl
valid_made s (Err e) refused v = absurd (some_none (sym refused.first ∙ yes_from_valid (stated s) v))
