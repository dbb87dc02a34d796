-- Questions asked in the order of their numbers.
use Rattle.std.proofs.Common.{◌≡◌, ℕ, zero, suc, ◌+◌, ◌<◌, Bool, [], ◌∷◌, Some, None, ◌∙◌, arith}
use Rattle.std.proofs.lemmas.Grind.{common_steps}
use Rattle.fields.specs.Questions.{first_no}
use Rattle.fields.proofs.Asked.{first_no_after, first_no_stop}
use Rattle.settlement.specs.Numbers.{by_number}

-- of n questions those below i are answered yes, and the i-th no
pub first_no_numbered : {F : Type 0} (asked : ℕ → Bool × F) (i n : ℕ) (f : F) → i < n → first_no (by_number asked i) ≡ None
    → first_no (asked i ∷ []) ≡ Some f → first_no (by_number asked n) ≡ Some f
first_no_numbered asked i zero f inside clear refused = absurd (omega arith)
first_no_numbered asked i (suc n) f inside clear refused = grind (arith, common_steps, first_no_numbered asked i n f, first_no_stop (by_number asked n) (asked n ∷ []) f, first_no_after (by_number asked n) (asked n ∷ []))

-- of n + 1 questions the last one, too, is answered yes
pub one_question_more : {F : Type 0} (asked : ℕ → Bool × F) (n : ℕ) → first_no (by_number asked n) ≡ None → first_no (asked n ∷ []) ≡ None
    → first_no (by_number asked (n + 1)) ≡ None
one_question_more asked n clear last =
    let next : n + 1 ≡ suc n = omega arith in
    rw next (first_no_after (by_number asked n) (asked n ∷ []) clear ∙ last)
