use Rattle.std.proofs.Common.{◌≡◌, length, map, take}
use Rattle.std.specs.Int.{w64}
use Rattle.std.specs.Prelude.{All, FitsSigned}
use Rattle.printed.specs.Frames.{twos_complement}
use Rattle.printed.proofs.opening.signed.Given as goal

abbrev pub invariant-loop-i : goal.invariant-loop-i
invariant-loop-i g l =
    record {
      long : length l.signed ≡ g.row.K;
      fit : All (FitsSigned w64) l.signed;
      so_far : map twos_complement (take l.i l.signed) ≡ take l.i l.numbers;
    }
