use Rattle.std.proofs.Common.{◌≡◌, length, map, ap, sym, ◌∙◌, arith, rules}
use Rattle.std.proofs.lemmas.Int.{ints}
use Rattle.std.proofs.lemmas.List.{length-map}
use borrow.Author.Count.{below_more}
use Rattle.month.specs.View.{figures}
use Rattle.schedule.specs.Rows.{numbered}
use Rattle.settlement.specs.Months.{AllLawful}
use Rattle.settlement.specs.Settling.{units_of, opening_units}
use Rattle.settlement.proofs.Balances.{one_mechanism_more, all_mechanisms}
use Rattle.settlement.proofs.Taken.{own_number}
use Rattle.settlement.proofs.balance.total.Goals as goal

pub returns-in_err-total : goal.returns-in_err-total
returns-in_err-total g c =
    let items = c.as_slice-opening-items in
    let own = own_number (g.S.Schedule.meaning c.args.schedule.now) c.args.balances.now items.result.now c.loop-number.number (search rules) items.ensures.value items.ensures.most c.loop-number-test.true in
    rw c.from_residual.ensures (λ all. c.in_err-total.ensures (record { asked = own.0; lawful = all.each c.loop-number.number own.1 }))

pub loop-number-preserved : goal.loop-number-preserved
loop-number-preserved g c =
    let row = g.S.Schedule.meaning c.args.schedule.now in
    let ms = map figures c.args.months.now in
    let one = c.in_ok-total.ensures in
    let more = one_mechanism_more row c.as_slice-opening-items.result.now ms (map units_of c.args.bills.now) c.loop-number.number c.opening-item.result c.in_ok-total.field-0 c.loop-number-test.true c.opening-item.is one.1 in
    record {
      so_far = omega (arith, ints, more);
      lawful = λ i h. below_more (λ j. AllLawful (numbered row j) ms) c.loop-number.number c.loop-number.invariant.lawful one.0.lawful i h;
      size = omega (arith, ints, one.2);
    }

pub returns : goal.returns
returns g c =
    let items = c.as_slice-opening-items in
    let all : c.loop-number.number ≡ length items.result.now = omega (arith, c.loop-number-test.false, c.loop-number.auto.number-end) in
    let balances = ap (map (λ o. o.units)) items.ensures.value in
    let count : length (opening_units c.args.balances.now) ≡ c.loop-number.number = sym (ap length balances) ∙ length-map items.result.now (λ o. o.units) ∙ sym all in (
      record { count = search rules; each = λ i h. c.loop-number.invariant.lawful i (omega (arith, count)) },
      all_mechanisms (g.S.Schedule.meaning c.args.schedule.now) items.result.now _ (map figures c.args.months.now) (map units_of c.args.bills.now) c.loop-number.number _ balances all c.loop-number.invariant.so_far,
    )
