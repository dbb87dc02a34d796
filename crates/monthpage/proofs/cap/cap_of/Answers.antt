use Rattle.std.proofs.Common.{ℕ, ◌≤◌, List, [], ◌∷◌, length, map, string_bytes, Err, arith, rules}
use Rattle.std.proofs.Math.ListN.{length-map}
use Rattle.monthpage.specs.Caps.{GivesCap}
use Rattle.monthpage.proofs.cap.cap_of.Goals as goal

two_given : {E : Type 0} (words : List (List ℕ)) (e : E) → 2 ≤ length words → GivesCap words (Err e)
two_given [] e two = absurd (omega arith)
two_given (word ∷ []) e two = absurd (omega arith)
two_given (word ∷ more ∷ words) e two = search rules

pub returns-in_default : goal.returns-in_default
returns-in_default c = two_given (map string_bytes c.args.words.now) _ (simp length-map c.in_default.len_at_least)
