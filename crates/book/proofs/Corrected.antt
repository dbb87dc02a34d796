-- Where the rates of the rules are announced, for the months as they stand, each keeps the laws of a correction.
use Rattle.std.proofs.Common.{◌≡◌, ℕ, ◌+◌, ◌-◌, ◌<◌, ◌≤◌, List, [], ◌∷◌, ◌++◌, map, length, set, refl, ap, sym, ◌∙◌, subst, ℤ, pos, Option}
use Rattle.std.proofs.Common.{Some, None, slice_get, slice_index_or, arith}
use Rattle.std.specs.List.{All}
use Rattle.std.specs.Option.{option_map}
use Rattle.std.proofs.lemmas.List.{length_push, length-map, length-set}
use Rattle.std.proofs.lemmas.Nat.{mul-le}
use Rattle.std.proofs.lemmas.Option.{slice_get-get_or}
use Rattle.bounded.specs.declared.up_to.UpTo.{UpTo}
use Rattle.charges.specs.Meaning.{Meaning, Lawful}
use Rattle.month.specs.Figures.{Figures}
use Rattle.month.specs.View.{figures}
use Rattle.month.specs.declared.month.Month.{Month}
use Rattle.schedule.specs.Rows.{numbered}
use Rattle.settlement.specs.CorrectionLaws.{Announcement, unit_comes_to, rate_by_rule}
use Rattle.settlement.specs.Corrections.{is_barred}
use Rattle.settlement.specs.Months.{quantity_at}
use Rattle.settlement.specs.Numbers.{by_number}
use Rattle.settlement.specs.Rules.{outstanding}
use Rattle.settlement.specs.Settling.{Answered, announced_rate, left_by}
use Rattle.settlement.specs.declared.amounts.Rate.{Rate}
use Rattle.settlement.specs.declared.record.Mark.TheVariants.{Pending}
use Rattle.settlement.specs.declared.record.Record.{Record}
use Rattle.settlement.specs.declared.standing.Standing.{Standing}
use Rattle.book.specs.Account.{Account, account_of, held_by, standing_of}
use Rattle.book.specs.Amending.{record_before_last, SettlesNow, SomeMonth, settled_now, answer_now, closed_by}
use Rattle.book.specs.Corrected.{Announces, EachAnnounced, Correctable, BookCorrectable}
use Rattle.book.specs.Entering.{AnswersTo, Adds, added, with_month, answer_to}
use Rattle.book.specs.Places.{of_month}
use Rattle.book.specs.Reading.{mark_told}
use Rattle.book.specs.Sound.{Sound}
use Rattle.book.specs.declared.duty.Duty.{Duty}
use Rattle.book.specs.declared.opened.Opened.{Opened}
use Rattle.book.proofs.Changed.{of_this_month, of_other_month, length_changed, last_of}
use Rattle.book.proofs.Fits.{fit_all_lawful, months_of}
use Rattle.book.proofs.OfMonth.{of_month_before, of_month_added}
use Rattle.book.proofs.Sums.{get_by_number}

-- what the rules announce of mechanism i by this standing and by the record of the month before the last
abbrev rate_after : List Meaning → Account → Standing → Option Record → ℕ → ℤ
rate_after row a standing before i =
    announced_rate (numbered row i) i standing (is_barred before) a.spread (slice_index_or a.balances i (pos 0)) a.months a.billed

-- the rates of the rules are announced, for the months as they stand
abbrev RatesNow : List Meaning → Account → Type 0
RatesNow row a = a.announced ≡ by_number (rate_after row a (standing_of a) (record_before_last a)) (length a.balances)

rates_with_month : (row : List Meaning) (a : Account) (m : Figures) → RatesNow row (with_month row a m)
rates_with_month row a m =
    let now = with_month row a m in
    let answer = answer_to row a m in
    let r : Record = record { closing = answer.closing; mark = Pending; standing = answer.standing } in
    let long : length (a.records ++ r ∷ []) ≡ length a.records + 1 = length_push a.records r in
    let standing : standing_of now ≡ answer.standing = ap (λ n. left_by (of_month (a.records ++ r ∷ []) n)) long ∙ ap left_by (of_month_added a.records r) in
    let before : record_before_last now ≡ of_month a.records (length a.records) =
    ap (λ n. of_month (a.records ++ r ∷ []) (n - 1)) long ∙ ap (of_month (a.records ++ r ∷ [])) (omega arith) ∙ of_month_before a.records (r ∷ []) (length a.records) (omega arith) in
    λ j. by_number (rate_after row now (sym standing j) (sym before j)) (length a.balances)

rates_settled : (row : List Meaning) (a : Account) → 1 ≤ length a.records → RatesNow row (settled_now row a)
rates_settled row a some =
    let now = settled_now row a in
    let answer = answer_now row a in
    let rs : List Record = a.records in
    let last = last_of rs some in
    let long : length now.records ≡ length rs = length_changed (closed_by answer) (length rs) rs in
    let stood : of_month rs (length rs) ≡ Some last.1 =
    (λ j. of_month (last.2 j) (length (last.2 j))) ∙ ap (of_month (last.0 ++ last.1 ∷ [])) (length_push last.0 last.1) ∙ of_month_added last.0 last.1 in
    let standing : standing_of now ≡ answer.standing =
    ap (λ n. left_by (of_month now.records n)) long ∙ ap left_by (of_this_month (closed_by answer) rs (length rs) ∙ ap (option_map (closed_by answer)) stood) in
    let before : record_before_last now ≡ record_before_last a =
    ap (λ n. of_month now.records (n - 1)) long ∙ of_other_month (closed_by answer) rs (length rs) (length rs - 1) (λ same. omega (arith, same, some)) in
    λ j. by_number (rate_after row now (sym standing j) (sym before j)) (length a.balances)

-- a law of an announcement by the rules
abbrev ByRules : (Announcement → Type 0) → Type 0
ByRules law = (a : Announcement) → 1 ≤ unit_comes_to a → a.rate ≡ rate_by_rule a → law a

module _ (row : List Meaning) (a : Account) (law : Announcement → Type 0) (by_rules : ByRules law) (rates : RatesNow row a) (known : Correctable row a) where
  -- what is announced of mechanism i
  abbrev announcement : ℕ → Announcement
  announcement i = record {
    rate = rate_after row a (standing_of a) (record_before_last a) i;
    base_rate = ((numbered row i).assessed a.months).0;
    quantity = quantity_at (numbered row i) a.months (length a.months - 1);
    outstanding = outstanding (numbered row i) i (slice_index_or a.balances i (pos 0)) a.months a.billed;
    spread = a.spread;
    standing = standing_of a;
    mark = mark_told (Some a) (length a.months - 1);
  }

  announces : (i : ℕ) → i < length row → Announces row a i (announcement i)
  announces i inside = record {
    rate = ap (λ rs. slice_get rs i) rates ∙ get_by_number (rate_after row a (standing_of a) (record_before_last a)) (length a.balances) i (omega (arith, known.mechanisms));
    outstanding = ap (option_map (λ opening. outstanding (numbered row i) i opening a.months a.billed)) (slice_get-get_or a.balances i (pos 0) (omega (arith, known.mechanisms)));
    standing = refl;
    mark = refl;
    spread = refl;
    base_rate = refl;
    quantity = refl;
  }

  some_unit : (i : ℕ) → i < length row → 1 ≤ unit_comes_to (announcement i)
  some_unit i inside =
      let last = (known.lawful i inside).lawful (length a.months - 1) (omega (arith, known.some)) in
      omega (arith, mul-le 1 1 a.spread (quantity_at (numbered row i) a.months (length a.months - 1)) known.spread last.least)

  by_rule : (i : ℕ) → (announcement i).rate ≡ rate_by_rule (announcement i)
  by_rule i = ap (λ n. rate_after row a (standing_of a) (of_month a.records (n - 1)) i) known.recorded

  each_announced : EachAnnounced law row (Some a)
  each_announced i inside = (announcement i, announces i inside, by_rules (announcement i) (some_unit i inside) (by_rule i))

module _ (law : Announcement → Type 0) (by_rules : ByRules law) (row : List Meaning) where
  pub entry_announces : (before after : Option Account) (m : Figures) (answer : Answered) (duty : Duty) → AnswersTo row before m answer
      → Adds before after m answer duty → BookCorrectable row after → EachAnnounced law row after
  entry_announces None after m answer duty answers adds known = absurd adds
  entry_announces (Some a) after m answer duty answers adds known =
      let book : after ≡ Some (with_month row a m) = adds.0 ∙ ap (λ x. Some (added a m x)) answers in
      rw book (each_announced row (with_month row a m) law by_rules (rates_with_month row a m) (subst (BookCorrectable row) book known))

  pub amendment_announces : (between after : Option Account) (answer : Answered) → SettlesNow row between after answer
      → BookCorrectable row after → EachAnnounced law row after
  amendment_announces None after answer settles known = absurd settles
  amendment_announces (Some a) after answer settles known =
      let book = settles.1 in
      let now = subst (BookCorrectable row) book known in
      let some : 1 ≤ length a.records = omega (arith, now.some, now.recorded, length_changed (closed_by (answer_now row a)) (length a.records) a.records) in
      rw book (each_announced row (settled_now row a) law by_rules (rates_settled row a some) now)

-- a sound book with a month
pub correctable : (row : List Meaning) (o : Opened) (months : List Month) (billed : List (UpTo Rate 8)) (records : List Record)
    → All Lawful row → Sound row (Some o) months billed records → 1 ≤ length months → Correctable row (account_of o months billed records)
correctable row o months billed records laws sound some =
    let long : length (map figures months) ≡ length months = length-map months figures in
    record {
      spread = o.terms.spread.least;
      some = omega (arith, some, long);
      recorded = sound.all_recorded ∙ sym long;
      mechanisms = sym sound.suits;
      lawful = fit_all_lawful row (map figures months) (months_of row (Some o) months billed records sound) laws;
    }

-- and where it was settled: with other rates, and another record for one that stood
pub correctable_settled : (row : List Meaning) {opened : Option Opened} (o : Opened) (rates : UpTo Rate 8) (months : List Month) (billed : List (UpTo Rate 8)) (records : List Record) (n : ℕ) (r : Record) → opened ≡ Some o → All Lawful row → Sound row opened months billed records → SomeMonth (held_by opened months billed records) → Correctable row (account_of (record o { announced = rates }) months billed (set records n r))
correctable_settled row o rates months billed records n r is laws sound some =
    let sound_open = subst (λ (x : Option Opened). Sound row x months billed records) is sound in
    let some_open = subst (λ (x : Option Opened). SomeMonth (held_by x months billed records)) is some in
    let known = correctable row o months billed records laws sound_open (omega (arith, some_open, length-map months figures)) in
    record {
      spread = known.spread;
      some = known.some;
      recorded = length-set records n r ∙ known.recorded;
      mechanisms = known.mechanisms;
      lawful = known.lawful;
    }
