-- The lists that are settled are those that stand, each with one element more.
use Rattle.std.proofs.Common.{◌≡◌, List, [], ◌∷◌, ◌++◌, map, length, Option, MatchOption, ap, ◌∙◌, subst, ℤ, rules}
use Rattle.std.proofs.lemmas.List.{map_push}
use Rattle.month.specs.Figures.{Figures}
use Rattle.month.specs.View.{figures}
use Rattle.settlement.specs.Settling.{answered, settled, left_by, units_of, opening_units, EachSettleable}
use Rattle.settlement.specs.Corrections.{is_barred}
use Rattle.settlement.specs.declared.record.Record.{Record}
use Rattle.book.proofs.book.entering.settle_with.Goals as goal

pub returns : goal.returns
returns g c room_month room_billed =
    let row = g.S.Schedule.meaning c.args.schedule.now in
    let opened = c.args.opened.now in
    let balances = opening_units opened.terms.balances in
    let answer = c.settle.result in
    let months : map figures c.as_slice.result.now ≡ map figures c.args.months.now ++ figures c.args.month ∷ [] =
    ap (map figures) (c.as_slice.ensures.value ∙ search rules) ∙ map_push figures c.args.months.now c.args.month in
    let billed : map units_of c.as_slice-2.result.now ≡ map units_of c.args.billed.now ++ units_of opened.announced ∷ [] =
    ap (map units_of) (c.as_slice-2.ensures.value ∙ search rules) ∙ map_push units_of c.args.billed.now opened.announced in
    let settles : List Figures → List (List ℤ) → Option Record → Type 0 =
    λ ms bills before. MatchOption answer (¬ EachSettleable row (length balances) ms) (λ a. EachSettleable row (length balances) ms × (answered a ≡ settled row opened.terms.spread.months balances ms bills (left_by before) (is_barred before))) in
    let settled_months = map figures c.as_slice.result.now in
    let settled_bills = map units_of c.as_slice-2.result.now in
    let by_months = subst (λ (ms : List Figures). settles ms settled_bills c.of_month.result) months c.settle.ensures.cases in
    let by_billed = subst (λ (bills : List (List ℤ)). settles (map figures c.args.months.now ++ figures c.args.month ∷ []) bills c.of_month.result) billed by_months in
    subst (λ (before : Option Record). settles (map figures c.args.months.now ++ figures c.args.month ∷ []) (map units_of c.args.billed.now ++ units_of opened.announced ∷ []) before) c.of_month.ensures by_billed
