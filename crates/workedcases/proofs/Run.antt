-- The run of the stream, frame by frame.
use Rattle.std.proofs.Common.{◌≡◌, ℕ, ◌≤◌, List, [], ◌∷◌, pos, neg_ℤ, Some, FitsSigned, refl, inl, arith}
use Rattle.std.specs.Fmt.{digits}
use Rattle.std.specs.Int.{w64}
use Rattle.std.specs.List.{All}
use Rattle.std.proofs.lemmas.Int.{ints}
use Rattle.std.proofs.lemmas.List.Elements.{All-from_recursion}
use Rattle.bounded.specs.declared.up_to.UpTo.{UpTo}
use Rattle.book.specs.Entering.{with_month}
use Rattle.fields.specs.Bytes.{be}
use Rattle.month.specs.Figures.{Counted}
use Rattle.month.specs.Sample.{sample_month}
use Rattle.month.specs.Validity.{valid_from_yes}
use Rattle.monthfile.specs.Layout.{file_of}
use Rattle.settlement.specs.declared.amounts.Rate.{Rate}
use Rattle.settlement.specs.declared.answer.Answer.{Answer}
use Rattle.settlement.specs.declared.standing.Standing.TheVariants.{Steady}
use Rattle.printed.specs.Frames.{WellFormed}
use Rattle.printed.specs.Frames.Framed.{Opens, Enters, Amends}
use Rattle.printed.specs.Runs.{State, EntersBy, AmendsBy, Exchange, WorksAll, Printed, closed}
use Rattle.printed.specs.declared.line.Line.TheVariants as line
use Rattle.printed.proofs.Once.{printed_once}
use Rattle.workedcases.specs.Sample.{charges, opening, opened, filed}
use Rattle.workedcases.specs.Stream.{stream, lines, left}

rate : (n : ℕ) → n ≤ 11000000 → Rate
rate n most = record { units = pos n; least = omega (arith, ints); most = omega (arith, ints, most) }

-- four rates; nobody looks past them
rates : Rate → Rate → Rate → Rate → UpTo Rate 8
rates a b c d = record { items = a ∷ b ∷ c ∷ d ∷ a ∷ a ∷ a ∷ a ∷ []; len = 4; whole = refl; within = omega arith }

-- the answers as the code has them
entry_answer : Answer
entry_answer = record {
  rates = rates (rate 49791 (omega arith)) (rate 10000 (omega arith)) (rate 4645 (omega arith)) (rate 3300 (omega arith));
  closing = record { total = neg_ℤ (pos 104757845); revenue = 7289242155 };
  standing = Steady;
}

amendment_answer : Answer
amendment_answer = record {
  rates = rates (rate 49833 (omega arith)) (rate 10000 (omega arith)) (rate 4649 (omega arith)) (rate 3300 (omega arith));
  closing = record { total = neg_ℤ (pos 99905398); revenue = 7294094602 };
  standing = Steady;
}

counted : (recovered : ℕ) → Counted (sample_month 1 recovered)
counted recovered = record { some_source = omega arith; few_sources = omega arith; few_brackets = omega arith }

exchanges : List Exchange
exchanges =
    record { frame = Opens 500 (opening 500); told = line.Opened 7 }
    ∷ record { frame = Enters (file_of (sample_month 1 50000)); told = line.Entered 1 entry_answer }
    ∷ record { frame = Amends (file_of (sample_month 1 0)); told = line.Amended 1 amendment_answer }
    ∷ []

after_opening : State
after_opening = record { charges = charges; account = Some (opened 500) }

after_entry : State
after_entry = record { charges = charges; account = Some filed }

entered : EntersBy after_opening (file_of (sample_month 1 50000)) 1 entry_answer after_entry
unfolding after_opening after_entry entry_answer rates rate
entered = record {
  entered = Some (with_month charges (opened 500) (sample_month 1 50000));
  duty = record { book = 7; month = 1 };
  enters = record {
    account = opened 500;
    open_before = refl;
    stated = sample_month 1 50000;
    valid = valid_from_yes (sample_month 1 50000) (counted 50000) refl refl;
    file_states = refl;
    asked = refl;
    book = refl;
    answer_is = refl;
    duty_book = refl;
    duty_month = refl;
  };
  files = record { asked = refl; book = refl };
  of_duty = refl;
  charges = refl;
}

amended : AmendsBy after_entry (file_of (sample_month 1 0)) 1 amendment_answer left
unfolding after_entry amendment_answer rates rate
amended = record {
  amends = record {
    account = filed;
    open_before = refl;
    stated = sample_month 1 0;
    valid = valid_from_yes (sample_month 1 0) (counted 0) refl refl;
    file_states = refl;
    asked = refl;
    book = refl;
    answer_is = refl;
    month_is = refl;
  };
  charges = refl;
}

works : WorksAll closed exchanges left
unfolding exchanges after_opening after_entry
works = (
  after_opening,
  inl (refl, record { asked = refl; book = refl }),
  (
    after_entry,
    inl (1, entry_answer, refl, entered),
    (left, inl (1, amendment_answer, refl, amended), refl),
  ),
)

formed : All (λ x. WellFormed x.frame) exchanges
unfolding exchanges be
formed =
    let balances = All-from_recursion (FitsSigned w64) (opening 500).balances (omega (arith, ints), (omega (arith, ints), (omega (arith, ints), (omega (arith, ints), tt)))) in
    All-from_recursion (λ (x : Exchange). WellFormed x.frame) exchanges ((refl, refl, balances), (omega arith, (omega arith, tt)))

pub printed : Printed closed stream [] lines left
unfolding exchanges entry_answer amendment_answer rates rate be digits
printed = record {
  exchanges = exchanges;
  rest = [];
  worked = record { split = refl; formed = formed; works = works };
  last = [];
  ends = refl;
  output = refl;
}

pub printed_alone : (out : List ℕ) (after : State) → Printed closed stream [] out after → (out ≡ lines) × (after ≡ left)
printed_alone out after run = printed_once closed stream [] out lines after left run printed
