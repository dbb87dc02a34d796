-- The book and the months of the worked cases.
use Rattle.std.specs.Prelude.{ℕ, Bool, List, [], ◌∷◌, map, replicate, ℤ, pos}
use Rattle.book.specs.Account.{Account, marks_of}
use Rattle.book.specs.Amending.{answer_now, replaced}
use Rattle.book.specs.Duties.{marked}
use Rattle.book.specs.Entering.{answer_to, with_month}
use Rattle.book.specs.Opening.{Given, newly_opened}
use Rattle.book.specs.Tally.{Posting, entry, amendment}
use Rattle.charges.specs.Meaning.{Meaning}
use Rattle.month.specs.Figures.{Figures}
use Rattle.month.specs.Sample.{sample_month}
use Rattle.monthfile.specs.Layout.{file_of}
use Rattle.schedule.specs.Four.{four_charges}
use Rattle.settlement.specs.declared.record.Mark.{Mark}
use Rattle.settlement.specs.declared.record.Mark.TheVariants.{Filed}

-- the four charges, with a feeder loss cap of 5 percent
abbrev pub charges : List Meaning
charges = four_charges 500

-- an opening by its starting rate of the lifeline charge
abbrev pub opening : ℕ → Given
opening lifeline = record {
  number = 7;
  spread = 6;
  rates = 50000 ∷ 10000 ∷ 8000 ∷ lifeline ∷ [];
  balances = pos 0 ∷ pos 0 ∷ pos 0 ∷ pos 0 ∷ [];
}

abbrev pub opened : ℕ → Account
opened lifeline = newly_opened (opening lifeline)

-- the book with the sample as month 1, whose filing was made
abbrev pub filed : Account
filed = marked Filed 1 (with_month charges (opened 500) (sample_month 1 50000))

-- the sample entered as month 1, by the starting rate of the lifeline charge; and then amended to a pilferage recovery of 0
abbrev pub first : ℕ → Posting
first lifeline = entry (file_of (sample_month 1 50000)) (sample_month 1 50000) [] (answer_to charges (opened lifeline) (sample_month 1 50000))

abbrev pub second : Posting
second = amendment (file_of (sample_month 1 0)) (sample_month 1 0) (marks_of filed) (answer_now charges (replaced (sample_month 1 0) filed))

-- a book that has 1,000,000,000 units of generation to recover when it is opened
abbrev pub owing : Account
owing = newly_opened (record (opening 500) { balances = pos 1000000000 ∷ pos 0 ∷ pos 0 ∷ pos 0 ∷ [] })

-- the rates that it announces with month 2, by the mark of month 1
abbrev pub rates_after : Mark → List ℤ
rates_after mark = (answer_to charges (marked mark 1 (with_month charges owing (sample_month 1 50000))) (sample_month 2 50000)).rates

-- the sample as months 1 to 4, of which the odd ones have no pilferage recovery
abbrev pub four_months : List Figures
four_months = sample_month 1 0 ∷ sample_month 2 50000 ∷ sample_month 3 0 ∷ sample_month 4 50000 ∷ []

-- a month of 100 kWh, of which 1 is sold at the full rate, and which costs nothing. A cost, of 100 units for each centavo, is on average as many units per
-- kWh as it has centavos
abbrev pub hundred_kwh : Figures
hundred_kwh = record {
  month = 1;
  sources = record { cost = 0; taken = 0; passed = 0 } ∷ [];
  pilferage = 0;
  transmission = record { cost = 0; taken = 0; passed = 0 };
  energy = record { input = 100; substation = 0; feeder = 0 };
  exempt = record { generation = 0; transmission = 0 };
  brackets = [];
  sales = record { nonlifeline = 1; rate = 0; metering = 0 };
}

-- it loses this much in the substation, and this much in the feeders
abbrev pub losing : ℕ → ℕ → Figures
losing substation feeder = record hundred_kwh { energy = record { input = 100; substation = substation; feeder = feeder } }

-- a month that loses half of its input, and then twelve that lose less in the feeders than a cap of 5 percent allows
abbrev pub thirteen_months : List Figures
thirteen_months = losing 20 30 ∷ replicate 12 (losing 5 4)

-- its power costs so many centavos
abbrev pub power_at : ℕ → Figures
power_at cost = record hundred_kwh { sources = record { cost = cost; taken = 0; passed = 0 } ∷ [] }

-- its transmission costs so many centavos
abbrev pub transmission_at : ℕ → Figures
transmission_at cost = record hundred_kwh { transmission = record { cost = cost; taken = 0; passed = 0 } }

-- a customer in a bracket is discounted all that it owes, which is 1,000,000 units for 1 kWh and this metering charge
abbrev pub lifeline_at : ℕ → Figures
lifeline_at metering = record hundred_kwh {
  brackets = record { kwh = 1; customers = 1; percent = 100 } ∷ [];
  sales = record { nonlifeline = 1; rate = 1000000; metering = metering };
}

-- a month with two of whatever there can be several of, and none of its figures 0: two sources and two brackets, discounts of which a part is passed on,
-- input that is charged no generation and input that is charged no transmission
abbrev pub full_month : Figures
full_month = record {
  month = 1;
  sources = record { cost = 20000001; taken = 300001; passed = 100000 } ∷ record { cost = 30000002; taken = 200000; passed = 50001 } ∷ [];
  pilferage = 7003;
  transmission = record { cost = 9000001; taken = 20001; passed = 5000 };
  energy = record { input = 120000; substation = 2400; feeder = 4803 };
  exempt = record { generation = 5001; transmission = 7002 };
  brackets = record { kwh = 8001; customers = 401; percent = 24 } ∷ record { kwh = 5003; customers = 207; percent = 35 } ∷ [];
  sales = record { nonlifeline = 90007; rate = 81001; metering = 50003 };
}

-- what each mechanism of the row is billed on, and answers, for a month standing alone
abbrev pub billed_on_and_answered : List Meaning → Figures → List (ℕ × (ℕ × ℕ))
billed_on_and_answered row m = map (λ k. (k.quantity m, k.assessed (m ∷ []))) row

-- the base rate of month 1 standing alone, and whether the month is fit
abbrev pub price_and_fit : Meaning → Figures → ℕ × Bool
price_and_fit k m = ((k.assessed (m ∷ [])).0, k.fit m)
