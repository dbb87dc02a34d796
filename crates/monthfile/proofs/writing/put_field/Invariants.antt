use Rattle.std.proofs.Common.{◌≡◌, ◌+◌, ◌*◌, ◌++◌, take}
use Rattle.std.specs.List.{flat_map}
use Rattle.arrayvec.specs.ArrayVec.{array_vec_len}
use Rattle.fields.specs.Bytes.{eights}
use Rattle.monthfile.specs.Layout.{bytes_by}
use Rattle.monthfile.proofs.writing.put_field.Given as goal

abbrev pub invariant-loop-n : goal.invariant-loop-n
invariant-loop-n g l = record {
  long : array_vec_len l.file ≡ array_vec_len l.initial.file + 8 * l.n-index;
  so_far : l.file.items ≡ l.initial.file.items ++ eights (take l.n-index l.n-items);
}

abbrev pub invariant-loop-entry : goal.invariant-loop-entry
invariant-loop-entry g l = record {
  long : array_vec_len l.file ≡ array_vec_len l.initial.file + 8 * (g.row.K * l.entry-index);
  so_far : l.file.items ≡ l.initial.file.items ++ flat_map (bytes_by g.E.Entry.numbers) (take l.entry-index l.entries);
}
