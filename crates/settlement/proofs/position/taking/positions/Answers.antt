use Rattle.std.proofs.Common.{◌≡◌, ℤ, List, map, take, ap, subst, ◌∙◌, arith, rules}
use Rattle.std.proofs.lemmas.List.{take_all}
use Rattle.bounded.specs.View.{held, Grew, Full}
use Rattle.month.specs.View.{figures}
use Rattle.settlement.specs.Positions.{ArePositions}
use Rattle.settlement.specs.Settling.{opening_units, units_of}
use Rattle.settlement.proofs.Taken.{own_number, positions_next, taken_so_far}
use Rattle.settlement.proofs.position.taking.positions.Goals as goal

pub returns-in_err-position : goal.returns-in_err-position
returns-in_err-position g c =
    let items = c.as_slice-opening-items in
    let own = own_number (g.S.Schedule.meaning c.args.schedule.now) c.args.balances.now items.result.now c.loop-number.number (search rules) items.ensures.value items.ensures.most c.loop-number-test.true in
    rw c.from_residual.ensures (λ all. c.in_err-position.ensures own.0 (all.each c.loop-number.number own.1))

pub returns-in_err-ok : goal.returns-in_err-ok
returns-in_err-ok g c =
    let full : Full c.loop-number.taken c.push.new.self c.in_ok-position.position c.in_ok-position.position = search rules in
    absurd (omega (arith, taken_so_far _ _ _ _ _ c.loop-number-test.true _ c.loop-number.invariant))

pub loop-number-preserved : goal.loop-number-preserved
loop-number-preserved g c =
    let items = c.as_slice-opening-items in
    let own = own_number (g.S.Schedule.meaning c.args.schedule.now) c.args.balances.now items.result.now c.loop-number.number (search rules) items.ensures.value items.ensures.most c.loop-number-test.true in
    let grew : Grew c.loop-number.taken c.push.new.self c.in_ok-position.position = search rules in
    positions_next _ _ _ _ _ c.loop-number-test.true _ _ _ _ c.loop-number.invariant c.opening-item.is (c.in_ok-position.ensures own.0) grew

pub returns : goal.returns
returns g c =
    let row = g.S.Schedule.meaning c.args.schedule.now in
    let items = c.as_slice-opening-items in
    let whole = take_all c.loop-number.number items.result.now c.loop-number-test.false in
    let balances : map (λ b. b.units) (take c.loop-number.number items.result.now) ≡ opening_units c.args.balances.now = ap (map (λ b. b.units)) (whole ∙ items.ensures.value) in
    let taken : ArePositions row (opening_units c.args.balances.now) (map figures c.args.months.now) (map units_of c.args.bills.now) (held c.loop-number.taken) =
    subst (λ (bs : List ℤ). ArePositions row bs (map figures c.args.months.now) (map units_of c.args.bills.now) (held c.loop-number.taken)) balances c.loop-number.invariant in
    (record { count = search rules; each = taken.settleable }, taken)
