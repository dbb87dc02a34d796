use Rattle.std.proofs.Common.{take, drop, ap, sym, ◌∙◌, arith}
use Rattle.fields.specs.Bytes.{eights}
use Rattle.printed.proofs.Openings.{value_of_parts}
use Rattle.printed.proofs.opening.OpeningFrame.read.Goals as goal

pub returns : goal.returns
returns c =
    record {
      states = value_of_parts c.args.value.now c.numbers_of.result c.numbers_of-2.result c.signed.result (omega (arith, c.requires))
          (sym c.split_at.ensures.front ∙ c.numbers_of.ensures.states)
          (ap (take 32) (sym c.split_at.ensures.back) ∙ sym c.split_at-2.ensures.front ∙ c.numbers_of-2.ensures.states)
          (ap (drop 32) (sym c.split_at.ensures.back) ∙ sym c.split_at-2.ensures.back ∙ c.numbers_of-3.ensures.states ∙ ap eights (sym c.signed.ensures.of));
      formed = (c.numbers_of-2.ensures.count, c.signed.ensures.count, c.signed.ensures.fit);
    }
