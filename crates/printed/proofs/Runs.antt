-- A run, one frame after another.
use Rattle.std.proofs.Common.{◌≡◌, ℕ, ◌+◌, ◌-◌, ◌<◌, ◌≤◌, List, [], ◌∷◌, ◌++◌, length, drop, Option, Some, None, MatchOption, Result, Ok}
use Rattle.std.proofs.Common.{Err, MatchResult, OnErr, is_ok, if◌then◌else◌, refl, ap, sym, ◌∙◌, subst, inl, inr, arith, length-drop}
use Rattle.std.proofs.Common.{length-append, append_assoc, append-nil}
use Rattle.std.specs.List.{flat_map}
use Rattle.std.proofs.lemmas.List.Elements.{All-push}
use Rattle.std.proofs.lemmas.List.{flat_map_more}
use Rattle.book.specs.Account.{marks_told}
use Rattle.printed.specs.Frames.{Framed, framed, WellFormed, frame_bytes, BeginsNoFrame, AtEnd, FrameAt, NoFrameAt}
use Rattle.printed.specs.declared.frame.Frame.{Frame}
use Rattle.printed.specs.Journals.{Journaled, CarriesJournal, CarriesJournalAll, PrintedWith, LacksRoomWith}
use Rattle.printed.specs.Lines.{line_bytes, longest}
use Rattle.printed.specs.Runs.{State, Works, Exchange, WorksAll, Worked, lines_of, Ends}
use Rattle.printed.proofs.Journals.{carries_one_more}
use Rattle.printed.specs.declared.line.Line.{Line}
use Rattle.printed.specs.declared.line.Line.TheVariants as line
use Rattle.printed.specs.declared.no_frame.NoFrame.{NoFrame}

-- the exchanges, and one after them
abbrev pub also : List Exchange → Framed → Line → List Exchange
also xs frame told = xs ++ (record { frame = frame; told = told }) ∷ []

-- a frame more
works_one_more : (before between after : State) (xs : List Exchange) (x : Exchange) → WorksAll before xs between
    → Works between x.frame x.told after → WorksAll before (xs ++ x ∷ []) after
works_one_more before between after [] x same works = (after, subst (λ (s : State). Works s x.frame x.told after) same works, refl)
works_one_more before between after (y ∷ ys) x first works = (first.0, first.1, works_one_more first.0 between after ys x first.2 works)

-- what has been worked of the input where the frame at p is next, and what the output then has
pub record SoFar (before : State) (input : List ℕ) (old : List ℕ) (p : ℕ) (new : List ℕ) (after : State) : Type 0 where
  pub exchanges : List Exchange
  pub worked : Worked before input exchanges (drop p input) after
  pub carries : CarriesJournalAll before exchanges after
  pub within : p ≤ length input
  pub output : new ≡ old ++ lines_of exchanges

pub lines_also : (xs : List Exchange) (frame : Framed) (told : Line) → lines_of (also xs frame told) ≡ lines_of xs ++ line_bytes told
lines_also xs frame told = sym (flat_map_more (λ (x : Exchange). line_bytes x.told) [] xs (record { frame = frame; told = told }))

module _ {before : State} {input : List ℕ} {old new : List ℕ} {p : ℕ} {between : State} (so_far : SoFar before input old p new between) where
  module _ {q : ℕ} (frame : Framed) (stands : FrameAt input p q frame) where
    still_within : q ≤ length input
    still_within = omega (arith, ap length stands.split, length-append (frame_bytes frame) (drop q input), length-drop p input, length-drop q input, stands.moved, so_far.within)

    module _ (after : State) (told : Line) (works : Works between frame told after) (carries : CarriesJournal between after (Journaled (marks_told between.account) frame told)) where
      worked_also : Worked before input (also so_far.exchanges frame told) (drop q input) after
      worked_also = record {
        split = so_far.worked.split ∙ ap (λ l. flat_map (λ (x : Exchange). frame_bytes x.frame) so_far.exchanges ++ l) stands.split ∙ sym (append_assoc _ (frame_bytes frame) (drop q input)) ∙ ap (λ l. l ++ drop q input) (flat_map_more (λ (x : Exchange). frame_bytes x.frame) [] so_far.exchanges (record { frame = frame; told = told }));
        formed = All-push (λ (x : Exchange). WellFormed x.frame) so_far.exchanges (record { frame = frame; told = told }) so_far.worked.formed stands.formed;
        works = works_one_more before between after so_far.exchanges (record { frame = frame; told = told }) so_far.worked.works works;
      }

      carries_also : CarriesJournalAll before (also so_far.exchanges frame told) after
      carries_also = carries_one_more before between after so_far.exchanges (record { frame = frame; told = told }) so_far.carries works carries

      pub one_more : SoFar before input old q (new ++ line_bytes told) after
      one_more = record {
        exchanges = also so_far.exchanges frame told;
        worked = worked_also;
        carries = carries_also;
        within = still_within;
        output = ap (λ l. l ++ line_bytes told) so_far.output ∙ append_assoc old (lines_of so_far.exchanges) (line_bytes told) ∙ ap (λ l. old ++ l) (sym (lines_also so_far.exchanges frame told));
      }

    -- the frame has not been worked, for want of room for its line
    pub no_room_for_a_line : {room : ℕ} → room < length new + longest → LacksRoomWith CarriesJournalAll before input room old new between
    no_room_for_a_line short = (
      record {
        exchanges = so_far.exchanges;
        rest = drop p input;
        worked = so_far.worked;
        output = so_far.output;
        asked = longest;
        next = inl (frame, drop q input, stands.formed, stands.split, refl);
        short = short;
      },
      so_far.carries,
    )

  pub at_end : {q : ℕ} → AtEnd input p q → PrintedWith CarriesJournalAll before input old new between
  at_end end = (
    record {
      exchanges = so_far.exchanges;
      rest = [];
      worked = subst (λ l. Worked before input so_far.exchanges l between) end.over so_far.worked;
      last = [];
      ends = refl;
      output = so_far.output ∙ ap (λ l. old ++ l) (sym (append-nil (lines_of so_far.exchanges)));
    },
    so_far.carries,
  )

  module _ {q : ℕ} (e : NoFrame) (none : NoFrameAt input p q e) where
    here : e.at ≡ length input - length (drop p input)
    here = none.told ∙ omega (arith, length-drop p input, so_far.within)

    ends_with : (rest : List ℕ) → BeginsNoFrame rest → e.at ≡ length input - length rest → Ends input rest (line_bytes (line.NoFrame e.at))
    ends_with [] begins at = absurd (omega (arith, begins.some))
    ends_with (b ∷ bs) begins at = (begins, ap (λ p. line_bytes (line.NoFrame p)) at)

    at_no_frame : PrintedWith CarriesJournalAll before input old (new ++ line_bytes (line.NoFrame e.at)) between
    at_no_frame = (
      record {
        exchanges = so_far.exchanges;
        rest = drop p input;
        worked = so_far.worked;
        last = line_bytes (line.NoFrame e.at);
        ends = ends_with (drop p input) none.none here;
        output = ap (λ l. l ++ line_bytes (line.NoFrame e.at)) so_far.output ∙ append_assoc old (lines_of so_far.exchanges) _;
      },
      so_far.carries,
    )

    no_room_for_the_last_line : (room : ℕ) → room < length new + length (line_bytes (line.NoFrame e.at))
        → LacksRoomWith CarriesJournalAll before input room old new between
    no_room_for_the_last_line room short = (
      record {
        exchanges = so_far.exchanges;
        rest = drop p input;
        worked = so_far.worked;
        output = so_far.output;
        asked = length (line_bytes (line.NoFrame e.at));
        next = inr (none.none, ap (λ p. length (line_bytes (line.NoFrame p))) here);
        short = short;
      },
      so_far.carries,
    )

    -- the last line was appended, or there is no room for it
    pub end_of_run : {E : Type 0} {last : List ℕ} (room : ℕ) (ended : Result Unit E)
        → last ≡ (if is_ok ended then new ++ line_bytes (line.NoFrame e.at) else new)
        → OnErr ended (room < length last + length (line_bytes (line.NoFrame e.at)))
        → MatchResult ended (λ _. PrintedWith CarriesJournalAll before input old last between) (λ _. LacksRoomWith CarriesJournalAll before input room old last between)
    end_of_run room (Ok u) is full = subst (λ (l : List ℕ). PrintedWith CarriesJournalAll before input old l between) (sym is) at_no_frame
    end_of_run room (Err x) is full =
        let short = subst (λ (l : List ℕ). room < length l + length (line_bytes (line.NoFrame e.at))) is full in
        subst (λ (l : List ℕ). LacksRoomWith CarriesJournalAll before input room old l between) (sym is) (no_room_for_the_last_line room short)

-- what the reader found, in the input that it reads
pub found_frame : {s input : List ℕ} {p q : ℕ} {next : Option Frame} {f : Frame} → s ≡ input
    → MatchOption next (AtEnd s p q) (λ x. FrameAt s p q (framed x)) → next ≡ Some f → FrameAt input p q (framed f)
found_frame {s} {input} {p} {q} {next} {f} same found is =
    subst (λ (l : List ℕ). FrameAt l p q (framed f)) same (subst (λ (o : Option Frame). MatchOption o (AtEnd s p q) (λ x. FrameAt s p q (framed x))) is found)

pub found_end : {s input : List ℕ} {p q : ℕ} {next : Option Frame} → s ≡ input
    → MatchOption next (AtEnd s p q) (λ x. FrameAt s p q (framed x)) → next ≡ None → AtEnd input p q
found_end {s} {input} {p} {q} {next} same found is =
    subst (λ (l : List ℕ). AtEnd l p q) same (subst (λ (o : Option Frame). MatchOption o (AtEnd s p q) (λ x. FrameAt s p q (framed x))) is found)
