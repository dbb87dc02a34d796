use Rattle.std.proofs.Common.{◌≡◌, ℕ, ◌+◌, ◌<◌, List, [], map, get_or, sym, refl, subst, arith, Bor}
use Rattle.std.proofs.lemmas.List.{map-set}
use Rattle.std.proofs.lemmas.Result.{err_from_is_err_and}
use Rattle.monthfile.proofs.Progress.{Progress, begin, pass, stop, goes_on, made_of, value_at}
use Rattle.monthfile.proofs.layout.read_values.Goals as goal

abbrev none : Bor (List ℕ)
none = record { ref_ptr = (0, 0); now = [] }

pub loop-i-init : goal.loop-i-init
loop-i-init c = begin _ _ _ _ refl c.new-reader.ensures.bytes c.new-reader.ensures.start

pub loop-i-preserved : goal.loop-i-preserved
loop-i-preserved c =
    let i = c.loop-i.i in
    let value = c.in_ok-values.field-0 in
    let reader = c.field.new.self in
    let next = pass c.loop-i.invariant c.loop-i-test.true {at' = reader.at} {bytes' = reader.bytes.now} {value = value.now} (rw c.due_fields.ensures at c.in_ok-values.ensures.cases) c.field.ensures.same_bytes in
    subst (λ vs. Progress c.args.file.now vs (i + 1) reader.bytes.now reader.at) (sym (map-set (λ v. v.now) c.loop-i.values i value)) next

pub returns-in_err-values : goal.returns-in_err-values
returns-in_err-values c =
    let p = err_from_is_err_and c.from_residual.result c.from_residual.ensures.1 in
    rw (p.1, p.2) (stop c.loop-i.invariant c.loop-i-test.true {at' = c.field.new.self.at} (rw c.due_fields.ensures at c.in_err-values.ensures.cases))

pub returns-in-Some : goal.returns-in-Some
returns-in-Some c = goes_on c.loop-i.invariant c.loop-i-test.false c.in-Some.at c.in-Some.ensures

pub returns : goal.returns
returns c =
    let at : (k : ℕ) → k < 7 → (get_or c.loop-i.values k none).now ≡ get_or (map (λ v. v.now) c.loop-i.values) k [] = λ k h. value_at c.loop-i.values k none c.loop-i.invariant.seven h in
    made_of c.loop-i.invariant c.loop-i-test.false c.in_default.ensures (at 0 (omega arith)) (at 1 (omega arith)) (at 2 (omega arith)) (at 3 (omega arith)) (at 4 (omega arith)) (at 5 (omega arith)) (at 6 (omega arith))
