-- Frames, as they stand in a stream.
use Rattle.std.specs.Prelude.{◌≡◌, ℕ, ◌+◌, ◌<◌, List, [], ◌∷◌, ◌++◌, map, length, drop, All, ℤ, FitsSigned}
use Rattle.std.specs.Int.{cast_unsigned, w64}
use Rattle.book.specs.Opening.{Given}
use Rattle.fields.specs.Bytes.{eights, field_of}
use Rattle.printed.specs.declared.frame.Frame.{Frame}
use Rattle.printed.specs.declared.frame.Frame.TheVariants as code
use Rattle.printed.specs.declared.frames.Frames.{Frames}
use Rattle.printed.specs.declared.no_frame.NoFrame.{NoFrame}
use Rattle.printed.specs.declared.opening.OpeningFrame.{OpeningFrame}

-- a frame in plain numbers: an opening by its cap and by what the book is given, an entry or an amendment by its file
pub data Framed : Type 0 where
  Opens : ℕ → Given → Framed
  Enters : List ℕ → Framed
  Amends : List ℕ → Framed

-- what the book is given
abbrev pub given_by : OpeningFrame → Given
given_by o = record { number = o.number; spread = o.spread; rates = o.rates; balances = o.balances }

-- the frame that the reader hands out
abbrev pub framed : Frame → Framed
framed (code.Opening o) = Opens o.cap (given_by o)
framed (code.Entry file) = Enters file.now
framed (code.Amendment file) = Amends file.now

-- the unsigned number of 64 bits that stands for a number of either sign
abbrev pub twos_complement : ℤ → ℕ
twos_complement z = cast_unsigned w64 z

-- the value of an opening frame
abbrev pub opening_value : ℕ → Given → List ℕ
opening_value cap g = eights (cap ∷ g.spread ∷ g.number ∷ []) ++ (eights g.rates ++ eights (map twos_complement g.balances))

-- the bytes of a frame: its tag, the length of its value, and the value
abbrev pub frame_bytes : Framed → List ℕ
frame_bytes (Opens cap g) = field_of 15 (opening_value cap g)
frame_bytes (Enters file) = field_of 16 file
frame_bytes (Amends file) = field_of 17 file

-- an opening has a starting rate and an opening balance for each of the four charges, and a balance is one that eight bytes can tell; any file may be
-- entered, or amend, whose length fits two bytes
abbrev pub WellFormed : Framed → Type 0
WellFormed (Opens cap g) = (length g.rates ≡ 4) × (length g.balances ≡ 4) × All (FitsSigned w64) g.balances
WellFormed (Enters file) = length file < 65536
WellFormed (Amends file) = length file < 65536

-- the bytes go on, and not with a frame
pub record BeginsNoFrame (bytes : List ℕ) : Type 0 where
  pub some : 0 < length bytes
  pub no_opening : (value later : List ℕ) → length value ≡ 88 → bytes ≡ field_of 15 value ++ later → ⊥
  pub no_entry : (file later : List ℕ) → length file < 65536 → bytes ≡ field_of 16 file ++ later → ⊥
  pub no_amendment : (file later : List ℕ) → length file < 65536 → bytes ≡ field_of 17 file ++ later → ⊥

-- the bytes, and the offset of the next frame's head
abbrev pub stream : Frames → List ℕ
stream f = f.reader.bytes.now

abbrev pub offset : Frames → ℕ
offset f = f.reader.at

-- the stream ends at p, and p stays the next offset
pub record AtEnd (bs : List ℕ) (p q : ℕ) : Type 0 where
  pub over : drop p bs ≡ []
  pub stays : q ≡ p

-- the frame stands in the stream from p to q
pub record FrameAt (bs : List ℕ) (p q : ℕ) (f : Framed) : Type 0 where
  pub formed : WellFormed f
  pub split : drop p bs ≡ frame_bytes f ++ drop q bs
  pub moved : q ≡ p + length (frame_bytes f)

-- the bytes go on at p with no frame, the fault has p, and p stays the next offset
pub record NoFrameAt (bs : List ℕ) (p q : ℕ) (e : NoFrame) : Type 0 where
  pub none : BeginsNoFrame (drop p bs)
  pub told : e.at ≡ p
  pub stays : q ≡ p
