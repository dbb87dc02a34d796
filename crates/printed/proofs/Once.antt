-- A run has one output.
use Rattle.std.proofs.Common.{◌≡◌, ℕ, ◌++◌, List, [], ◌∷◌, length, Option, Some, None, Result, Ok, Err, MatchResult, refl, ap, sym, ◌∙◌}
use Rattle.std.proofs.Common.{subst, ◌⊎◌, inl, inr, arith, append_assoc}
use Rattle.std.specs.List.{All, flat_map}
use Rattle.std.proofs.lemmas.List.Elements.{All-head, All-tail}
use Rattle.book.specs.Account.{Account}
use Rattle.book.specs.Duties.{marked_book}
use Rattle.book.specs.Amending.{answer_now, replaced, settled_now}
use Rattle.book.specs.Entering.{answer_to, with_month}
use Rattle.book.specs.Opening.{Given}
use Rattle.book.specs.Postings.{posting_asked, all_asked, PostingRefused}
use Rattle.book.specs.Refusals.{book_refusal}
use Rattle.book.specs.declared.fault.BookFault.{BookFault}
use Rattle.book.specs.declared.fault.BookFault.TheVariants.{Month}
use Rattle.book.specs.declared.kind.PostingKind.{PostingKind}
use Rattle.book.specs.declared.kind.PostingKind.TheVariants.{Entry, Amendment}
use Rattle.book.proofs.Admitted.{none_refused}
use Rattle.charges.specs.Meaning.{Meaning}
use Rattle.fields.specs.Questions.{first_no, carried}
use Rattle.fields.proofs.Asked.{first_no_stop, carried_some, some_none}
use Rattle.month.specs.Asked.{month_asked}
use Rattle.month.specs.Figures.{Figures}
use Rattle.month.specs.declared.fault.FileFault.{FileFault}
use Rattle.month.specs.declared.fault.MonthFault.TheVariants.{File}
use Rattle.monthfile.specs.Questions.{file_asked, asked}
use Rattle.monthfile.proofs.Exact.{file_same}
use Rattle.settlement.specs.Settling.{answered}
use Rattle.settlement.specs.declared.answer.Answer.{Answer}
use Rattle.settlement.specs.declared.record.Mark.TheVariants.{Filed}
use Rattle.printed.specs.Frames.{Framed, WellFormed, frame_bytes, BeginsNoFrame}
use Rattle.printed.specs.Frames.Framed.{Opens, Enters, Amends}
use Rattle.printed.specs.Lines.{line_bytes, answer_fields, letter, spaced}
use Rattle.printed.specs.Runs.{State, EntersBy, AmendsBy, RefusesPosting, Works, Exchange, WorksAll, lines_of, Ends, Printed, LacksRoom}
use Rattle.printed.specs.declared.call.Call.{Call}
use Rattle.printed.specs.declared.call.Call.TheVariants as call
use Rattle.printed.specs.declared.line.Line.{Line}
use Rattle.printed.specs.declared.line.Line.TheVariants as line
use Rattle.printed.proofs.Prefixes.{frame_same, opening_long}

some_same : {F : Type 0} {x y : F} → Some x ≡ Some y → x ≡ y
some_same e = cc

-- two lines have the same bytes, and two states of the book are one
pub record Same (x y : Line) (a b : State) : Type 0 where
  pub line : line_bytes x ≡ line_bytes y
  pub state : a ≡ b

module _ (kind : PostingKind) (row : List Meaning) (account : Option Account) (file : List ℕ) where
  -- where one of questions 1 to 5 is answered no, the fault is the file's, whatever figures the others are asked of
  fault_of_file : (x : FileFault) (f : Figures) (d : BookFault) → first_no (file_asked file) ≡ Some x
      → first_no (all_asked kind row account file f) ≡ Some d → Month (File x) ≡ d
  fault_of_file x f d is first =
      let month = first_no_stop (carried File (file_asked file)) (month_asked f) (File x) (carried_some File (file_asked file) x is) in
      let whole = first_no_stop (carried Month (asked file f)) (posting_asked kind row account f) (Month (File x)) (carried_some Month (asked file f) (File x) month) in
      some_same (sym whole ∙ first)

  -- and where none is, the others are asked of the figures that the file states
  fault_same : (o : Option FileFault) (d e : BookFault) → first_no (file_asked file) ≡ o → PostingRefused kind row account file d
      → PostingRefused kind row account file e → d ≡ e
  fault_same None d e is r s =
      let same = file_same r.asked_of s.asked_of (sym (r.states is).is ∙ (s.states is).is) in
      some_same (sym r.first ∙ ap (λ f. first_no (all_asked kind row account file f)) same ∙ s.first)
  fault_same (Some x) d e is r s = sym (fault_of_file x r.asked_of d is r.first) ∙ fault_of_file x s.asked_of e is s.first

-- a posting that is refused is refused with one fault
refused_once : (kind : PostingKind) (told : Call) (before : State) (file : List ℕ) (x y : Line) (a b : State) (d e : BookFault)
    → x ≡ line.Refused told (book_refusal d) → y ≡ line.Refused told (book_refusal e)
    → PostingRefused kind before.charges before.account file d → PostingRefused kind before.charges before.account file e → a ≡ before
    → b ≡ before → Same x y a b
refused_once kind told before file x y a b d e p q r s same_a same_b =
    let fault : d ≡ e = fault_same kind before.charges before.account file (first_no (file_asked file)) d e refl r s in
    let lines : x ≡ y = p ∙ ap (λ f. line.Refused told (book_refusal f)) fault ∙ sym q in
    record { line = ap line_bytes lines; state = same_a ∙ sym same_b }

-- what a file makes of a book is one, be it entered or an amendment: where it is accepted, as `By` says, the line and the state are one, and it is not refused too
module _ (kind : PostingKind) (told : Call) (before : State) (file : List ℕ) (tells : ℕ → Answer → Line) (By : ℕ → Answer → State → Type 0)
    (once : (m n : ℕ) (x y : Answer) (a b : State) → By m x a → By n y b → Same (tells m x) (tells n y) a b)
    (not_refused : (m : ℕ) (x : Answer) (a : State) (d : BookFault) → By m x a → PostingRefused kind before.charges before.account file d → ⊥) where
  abbrev Makes : Line → State → Type 0
  Makes l after =
      ((month : ℕ) × (answer : Answer) × (l ≡ tells month answer) × By month answer after)
      ⊎ ((fault : BookFault) × (l ≡ line.Refused told (book_refusal fault)) × RefusesPosting kind before file fault after)

  posting_once : (x y : Line) (a b : State) → Makes x a → Makes y b → Same x y a b
  posting_once x y a b (inl p) (inl q) =
      let same = once p.0 q.0 p.1 q.1 a b p.3 q.3 in
      record { line = ap line_bytes p.2 ∙ same.line ∙ sym (ap line_bytes q.2); state = same.state }
  posting_once x y a b (inl p) (inr q) = absurd (not_refused p.0 p.1 a q.0 p.3 q.2.refuses)
  posting_once x y a b (inr p) (inl q) = absurd (not_refused q.0 q.1 b p.0 q.3 p.2.refuses)
  posting_once x y a b (inr p) (inr q) = refused_once kind told before file x y a b p.0 q.0 p.1 q.1 p.2.refuses q.2.refuses p.2.same q.2.same

module _ (before : State) (file : List ℕ) where
  entered_once : (m n : ℕ) (x y : Answer) (a b : State) → EntersBy before file m x a → EntersBy before file n y b
      → Same (line.Entered m x) (line.Entered n y) a b
  entered_once m n x y a b p q =
      let stated : p.enters.stated ≡ q.enters.stated = file_same _ _ (sym p.enters.file_states ∙ q.enters.file_states) in
      let account : p.enters.account ≡ q.enters.account = some_same (sym p.enters.open_before ∙ q.enters.open_before) in
      let answer : answered x ≡ answered y = p.enters.answer_is ∙ (λ i. answer_to before.charges (account i) (stated i)) ∙ sym q.enters.answer_is in
      let number : p.duty.month ≡ q.duty.month = p.enters.duty_month ∙ ap (λ f. f.month) stated ∙ sym q.enters.duty_month in
      let month : m ≡ n = p.of_duty ∙ number ∙ sym q.of_duty in
      let entered : p.entered ≡ q.entered = p.enters.book ∙ (λ i. Some (with_month before.charges (account i) (stated i))) ∙ sym q.enters.book in
      let held : a.account ≡ b.account = p.files.book ∙ (λ i. marked_book Filed (number i) (entered i)) ∙ sym q.files.book in
      let row : a.charges ≡ b.charges = p.charges ∙ sym q.charges in
      record {
        line = λ i. letter (line.Entered m x) ++ (spaced (answer_fields (month i) (answer i)) ++ 10 ∷ []);
        state = λ i. record { charges = row i; account = held i };
      }

  amended_once : (m n : ℕ) (x y : Answer) (a b : State) → AmendsBy before file m x a → AmendsBy before file n y b
      → Same (line.Amended m x) (line.Amended n y) a b
  amended_once m n x y a b p q =
      let stated : p.amends.stated ≡ q.amends.stated = file_same _ _ (sym p.amends.file_states ∙ q.amends.file_states) in
      let account : p.amends.account ≡ q.amends.account = some_same (sym p.amends.open_before ∙ q.amends.open_before) in
      let answer : answered x ≡ answered y = p.amends.answer_is ∙ (λ i. answer_now before.charges (replaced (stated i) (account i))) ∙ sym q.amends.answer_is in
      let month : m ≡ n = p.amends.month_is ∙ ap (λ f. f.month) stated ∙ sym q.amends.month_is in
      let held : a.account ≡ b.account = p.amends.book ∙ (λ i. Some (settled_now before.charges (replaced (stated i) (account i)))) ∙ sym q.amends.book in
      let row : a.charges ≡ b.charges = p.charges ∙ sym q.charges in
      record {
        line = λ i. letter (line.Amended m x) ++ (spaced (answer_fields (month i) (answer i)) ++ 10 ∷ []);
        state = λ i. record { charges = row i; account = held i };
      }

  entered_not_refused : (m : ℕ) (x : Answer) (a : State) (d : BookFault) → EntersBy before file m x a
      → PostingRefused Entry before.charges before.account file d → ⊥
  entered_not_refused m x a d p r = none_refused Entry before.charges before.account file p.enters.stated d p.enters.valid p.enters.file_states p.enters.asked r

  amended_not_refused : (m : ℕ) (x : Answer) (a : State) (d : BookFault) → AmendsBy before file m x a
      → PostingRefused Amendment before.charges before.account file d → ⊥
  amended_not_refused m x a d p r = none_refused Amendment before.charges before.account file p.amends.stated d p.amends.valid p.amends.file_states p.amends.asked r

  entry_once : (x y : Line) (a b : State) → Works before (Enters file) x a → Works before (Enters file) y b → Same x y a b
  entry_once = posting_once Entry call.Entry before file line.Entered (EntersBy before file) entered_once entered_not_refused

  amendment_once : (x y : Line) (a b : State) → Works before (Amends file) x a → Works before (Amends file) y b → Same x y a b
  amendment_once = posting_once Amendment call.Amendment before file line.Amended (AmendsBy before file) amended_once amended_not_refused

opening_once : (before : State) (k : ℕ) (g : Given) (x y : Line) (a b : State) → Works before (Opens k g) x a → Works before (Opens k g) y b
    → Same x y a b
opening_once before k g x y a b (inl p) (inl q) = record { line = ap line_bytes (p.0 ∙ sym q.0); state = p.1.book ∙ sym q.1.book }
opening_once before k g x y a b (inl p) (inr q) = absurd (some_none (sym q.2.first ∙ p.1.asked))
opening_once before k g x y a b (inr p) (inl q) = absurd (some_none (sym p.2.first ∙ q.1.asked))
opening_once before k g x y a b (inr p) (inr q) =
    let refusal : p.0 ≡ q.0 = some_same (sym p.2.first ∙ q.2.first) in
    let told : x ≡ y = p.1 ∙ ap (λ d. line.Refused call.Opening d) refusal ∙ sym q.1 in
    record { line = ap line_bytes told; state = p.2.same ∙ sym q.2.same }

-- what a frame makes of a book is one
works_once : (before : State) (f : Framed) (x y : Line) (a b : State) → Works before f x a → Works before f y b → Same x y a b
works_once before (Opens k g) x y a b p q = opening_once before k g x y a b p q
works_once before (Enters file) x y a b p q = entry_once before file x y a b p q
works_once before (Amends file) x y a b p q = amendment_once before file x y a b p q

-- no frame is next
abbrev NoFrameNext : List ℕ → Type 0
NoFrameNext rest = (f : Framed) (later : List ℕ) → WellFormed f → rest ≡ frame_bytes f ++ later → ⊥

begins_no_frame : (rest : List ℕ) → BeginsNoFrame rest → NoFrameNext rest
begins_no_frame rest begins (Opens k g) later formed is = begins.no_opening _ later (opening_long k g formed) is
begins_no_frame rest begins (Enters file) later formed is = begins.no_entry file later formed is
begins_no_frame rest begins (Amends file) later formed is = begins.no_amendment file later formed is

nothing_left : NoFrameNext []
nothing_left (Opens k g) later formed is = omega (arith, ap length is)
nothing_left (Enters file) later formed is = omega (arith, ap length is)
nothing_left (Amends file) later formed is = omega (arith, ap length is)

no_frame_next : (input rest last : List ℕ) → Ends input rest last → NoFrameNext rest
no_frame_next input [] last ends = nothing_left
no_frame_next input (b ∷ bs) last ends = begins_no_frame (b ∷ bs) ends.0

last_once : (input rest l m : List ℕ) → Ends input rest l → Ends input rest m → l ≡ m
last_once input [] l m p q = p ∙ sym q
last_once input (b ∷ bs) l m p q = p.1 ∙ sym q.1

abbrev frames_of : List Exchange → List ℕ
frames_of xs = flat_map (λ x. frame_bytes x.frame) xs

-- two runs have the same lines, leave the same bytes, and leave one state of the book
pub record SameRun (xs ys : List Exchange) (r s : List ℕ) (a b : State) : Type 0 where
  pub lines : lines_of xs ≡ lines_of ys
  pub rest : r ≡ s
  pub state : a ≡ b

-- the bytes tell the frames one after another, until none is next
works_all_once : (before : State) (xs ys : List Exchange) (r s : List ℕ) (a b : State) → All (λ x. WellFormed x.frame) xs
    → All (λ x. WellFormed x.frame) ys → NoFrameNext r → NoFrameNext s → frames_of xs ++ r ≡ frames_of ys ++ s → WorksAll before xs a
    → WorksAll before ys b → SameRun xs ys r s a b
works_all_once before [] [] r s a b f g m n e p q = record { lines = refl; rest = e; state = p ∙ sym q }
works_all_once before [] (y ∷ ys) r s a b f g m n e p q = absurd (m y.frame (frames_of ys ++ s) (All-head (λ (x : Exchange). WellFormed x.frame) y ys g) (e ∙ append_assoc (frame_bytes y.frame) (frames_of ys) s))
works_all_once before (x ∷ xs) [] r s a b f g m n e p q = absurd (n x.frame (frames_of xs ++ r) (All-head (λ (x : Exchange). WellFormed x.frame) x xs f) (sym e ∙ append_assoc (frame_bytes x.frame) (frames_of xs) r))
works_all_once before (x ∷ xs) (y ∷ ys) r s a b f g m n e p q =
    let formed = λ (z : Exchange). WellFormed z.frame in
    let here = frame_same x.frame y.frame (frames_of xs ++ r) (frames_of ys ++ s) (All-head formed x xs f) (All-head formed y ys g) (sym (append_assoc (frame_bytes x.frame) (frames_of xs) r) ∙ e ∙ append_assoc (frame_bytes y.frame) (frames_of ys) s) in
    let other : Works before x.frame y.told q.0 = subst (λ (h : Framed). Works before h y.told q.0) (sym here.0) q.1 in
    let once = works_once before x.frame x.told y.told p.0 q.0 p.1 other in
    let later : WorksAll p.0 ys b = subst (λ (c : State). WorksAll c ys b) (sym once.state) q.2 in
    let rest = works_all_once p.0 xs ys r s a b (All-tail formed x xs f) (All-tail formed y ys g) m n here.1 p.2 later in
    record { lines = λ i. once.line i ++ rest.lines i; rest = rest.rest; state = rest.state }

-- the input and the book settle the output and the state that the book is left in
pub printed_once : (before : State) (input old new out : List ℕ) (a b : State) → Printed before input old new a
    → Printed before input old out b → (new ≡ out) × (a ≡ b)
printed_once before input old new out a b p q =
    let same = works_all_once before p.exchanges q.exchanges p.rest q.rest a b p.worked.formed q.worked.formed (no_frame_next input p.rest p.last p.ends) (no_frame_next input q.rest q.last q.ends) (sym p.worked.split ∙ q.worked.split) p.worked.works q.worked.works in
    let last : p.last ≡ q.last = last_once input q.rest p.last q.last (subst (λ (l : List ℕ). Ends input l p.last) same.rest p.ends) q.ends in
    (p.output ∙ (λ i. old ++ (same.lines i ++ last i)) ∙ sym q.output, same.state)

-- the lines of a run begin with those of fewer of its frames
lines_begin : (before : State) (xs ys : List Exchange) (r s : List ℕ) (a b : State) → All (λ x. WellFormed x.frame) xs
    → All (λ x. WellFormed x.frame) ys → NoFrameNext s → frames_of xs ++ r ≡ frames_of ys ++ s → WorksAll before xs a → WorksAll before ys b
    → (later : List ℕ) × (lines_of ys ≡ lines_of xs ++ later)
lines_begin before [] ys r s a b f g n e p q = (lines_of ys, refl)
lines_begin before (x ∷ xs) [] r s a b f g n e p q = absurd (n x.frame (frames_of xs ++ r) (All-head (λ (x : Exchange). WellFormed x.frame) x xs f) (sym e ∙ append_assoc (frame_bytes x.frame) (frames_of xs) r))
lines_begin before (x ∷ xs) (y ∷ ys) r s a b f g n e p q =
    let formed = λ (z : Exchange). WellFormed z.frame in
    let here = frame_same x.frame y.frame (frames_of xs ++ r) (frames_of ys ++ s) (All-head formed x xs f) (All-head formed y ys g) (sym (append_assoc (frame_bytes x.frame) (frames_of xs) r) ∙ e ∙ append_assoc (frame_bytes y.frame) (frames_of ys) s) in
    let other : Works before x.frame y.told q.0 = subst (λ (h : Framed). Works before h y.told q.0) (sym here.0) q.1 in
    let once = works_once before x.frame x.told y.told p.0 q.0 p.1 other in
    let after : WorksAll p.0 ys b = subst (λ (c : State). WorksAll c ys b) (sym once.state) q.2 in
    let rest = lines_begin p.0 xs ys r s a b (All-tail formed x xs f) (All-tail formed y ys g) n here.1 p.2 after in
    (rest.0, (λ i. sym once.line i ++ rest.1 i) ∙ sym (append_assoc (line_bytes x.told) (lines_of xs) rest.0))

-- where a run broke off, its output is a beginning of that one
module _ (before : State) (input : List ℕ) (room : ℕ) (old new out : List ℕ) (a b : State) (broken : LacksRoom before input room old new a) (whole : Printed before input old out b) where
  begins_whole : (later : List ℕ) × (out ≡ new ++ later)
  begins_whole =
      let begin = lines_begin before broken.exchanges whole.exchanges broken.rest whole.rest a b broken.worked.formed whole.worked.formed (no_frame_next input whole.rest whole.last whole.ends) (sym broken.worked.split ∙ whole.worked.split) broken.worked.works whole.worked.works in
      let later : List ℕ = begin.0 ++ whole.last in
      let same : lines_of whole.exchanges ++ whole.last ≡ lines_of broken.exchanges ++ later =
      ap (λ l. l ++ whole.last) begin.1 ∙ append_assoc (lines_of broken.exchanges) begin.0 whole.last in
      (later, whole.output ∙ ap (λ l. old ++ l) same ∙ sym (append_assoc old (lines_of broken.exchanges) later) ∙ ap (λ l. l ++ later) (sym broken.output))

-- the same of a run that may break off
pub once_where_printed : {E : Type 0} (before : State) (input : List ℕ) (room : ℕ) (old new : List ℕ) (a : State) (ran : Result Unit E)
    → MatchResult ran (λ _. Printed before input old new a) (λ _. LacksRoom before input room old new a)
    → (out : List ℕ) (b : State) → Printed before input old out b → MatchResult ran (λ _. (new ≡ out) × (a ≡ b)) (λ _. (later : List ℕ) × (out ≡ new ++ later))
once_where_printed before input room old new a (Ok u) printed out b p = printed_once before input old new out a b printed p
once_where_printed before input room old new a (Err e) broken out b p = begins_whole before input room old new out a b broken p
