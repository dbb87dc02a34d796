use Rattle.std.proofs.Common.{◌≡◌, ◌+◌, ◌*◌, ◌++◌, length}
use Rattle.std.specs.List.{flat_map}
use Rattle.std.specs.Slice.Iter.{chunks_exact_rest, chunks_exact_size}
use Rattle.bounded.specs.View.{held}
use Rattle.monthfile.specs.Layout.{bytes_by}
use Rattle.monthfile.proofs.values.read_list.Given as goal

abbrev pub invariant-loop-entry : goal.invariant-loop-entry
invariant-loop-entry g l =
    let rest = chunks_exact_rest l.entry-iterator in
    record {
      each : chunks_exact_size l.entry-iterator ≡ 24;
      left : length rest + 24 * length (held l.list) ≡ length l.part;
      so_far : l.part ≡ flat_map (bytes_by g.E.Entry.numbers) (held l.list) ++ rest;
    }
