-- The bytes of a line, and of lines.
use Rattle.std.specs.Prelude.{◌≡◌, ◌↔◌, ℕ, ◌+◌, ◌<◌, List, [], ◌∷◌, ◌++◌, map, length, codes, slice_index, decimal}
use Rattle.std.specs.Fmt.{signed_decimal}
use Rattle.std.specs.List.{flat_map}
use Rattle.std.specs.Vec.{vec_capacity}
use Rattle.fields.specs.Words.{refusal_words}
use Rattle.settlement.specs.Settling.{Answered, answered}
use Rattle.settlement.specs.Words.{standing_word}
use Rattle.printed.specs.declared.call.Call.{Call}
use Rattle.printed.specs.declared.call.Call.TheVariants.{Opening, Entry, Amendment}
use Rattle.printed.specs.declared.line.Line.{Line}
use Rattle.printed.specs.declared.line.Line.TheVariants.{Opened, Entered, Amended, Refused, NoFrame}
use Rattle.printed.specs.declared.lines.Lines.{Lines}

-- the letter of a call, accepted or refused
abbrev pub call_letter : Call → List ℕ
call_letter Opening = codes "O"
call_letter Entry = codes "E"
call_letter Amendment = codes "A"

-- the letter that a line begins with
abbrev pub letter : Line → List ℕ
letter (Opened number) = call_letter Opening
letter (Entered month answer) = call_letter Entry
letter (Amended month answer) = call_letter Amendment
letter (Refused call refusal) = call_letter call
letter (NoFrame at) = codes "X"

-- the month, the announced rates, the total, the revenue and the standing
abbrev pub answer_fields : ℕ → Answered → List (List ℕ)
answer_fields month a = decimal month ∷ map signed_decimal a.rates ++ (signed_decimal a.closing.total ∷ decimal a.closing.revenue ∷ standing_word a.standing ∷ [])

-- what follows the letter; a refusal counts as one, with the spaces in it
abbrev pub told_fields : Line → List (List ℕ)
told_fields (Opened number) = decimal number ∷ []
told_fields (Entered month answer) = answer_fields month (answered answer)
told_fields (Amended month answer) = answer_fields month (answered answer)
told_fields (Refused call refusal) = refusal_words refusal ∷ []
told_fields (NoFrame at) = decimal at ∷ []

-- each after one space
abbrev pub spaced : List (List ℕ) → List ℕ
spaced fs = flat_map (λ f. 32 ∷ f) fs

-- a line ends in byte 10
abbrev pub line_bytes : Line → List ℕ
line_bytes l = letter l ++ (spaced (told_fields l) ++ 10 ∷ [])

-- the line of a call that was accepted, by the month and the answer
abbrev pub answer_line : Call → ℕ → Answered → List ℕ
answer_line call month a = call_letter call ++ (spaced (answer_fields month a) ++ 10 ∷ [])

-- no line is longer, whatever it tells
abbrev pub longest : ℕ
longest = 512

-- one line: byte 10 stands at the end and nowhere else
pub record OneLine (bytes : List ℕ) : Type 0 where
  pub some : 0 < length bytes
  pub ends : (i : ℕ) → i < length bytes → (slice_index bytes i ≡ 10 ↔ i + 1 ≡ length bytes)

-- the bytes of the lines that were told, and of what they follow
abbrev pub written : Lines → List ℕ
written l = l.bytes.items

-- how many bytes there is room for, those that stand included
abbrev pub room : Lines → ℕ
room l = vec_capacity l.bytes
