-- Worked cases, each by the definitions that the contracts cite. Below zero, neg_ℤ (pos n) is −n.
use Rattle.std.specs.Prelude.{◌≡◌, ℕ, true, false, List, [], ◌∷◌, ◌++◌, length, codes, pos, neg_ℤ, Option, Some, None}
use Rattle.book.specs.Account.{Account}
use Rattle.book.specs.Amending.{answer_now, replaced}
use Rattle.book.specs.Entering.{answer_to, with_month}
use Rattle.book.specs.Opening.{numbers_of}
use Rattle.book.specs.Postings.{all_asked}
use Rattle.book.specs.Refusals.{book_refusal}
use Rattle.book.specs.Sums.{total_by_tally, rate_by_tally}
use Rattle.book.specs.Tally.{tally}
use Rattle.book.specs.declared.kind.PostingKind.{PostingKind}
use Rattle.book.specs.declared.kind.PostingKind.TheVariants.{Entry, Amendment}
use Rattle.charges.specs.Charges.{generation, transmission, lifeline}
use Rattle.charges.specs.Formulas.{twelve_months, gross_up}
use Rattle.fields.specs.Questions.{first_no, carried}
use Rattle.fields.specs.declared.refusal.Layer.TheVariants as layer
use Rattle.month.specs.Amounts.{generation_cost, transmission_cost, sold, discount}
use Rattle.month.specs.Asked.{month_asked}
use Rattle.month.specs.Figures.{Figures}
use Rattle.month.specs.Refusals.{month_refusal}
use Rattle.month.specs.Sample.{sample_month}
use Rattle.monthfile.specs.Layout.{file_of}
use Rattle.printed.specs.Lines.{line_bytes, answer_line}
use Rattle.printed.specs.Runs.{State, frame_asked, closed, Printed}
use Rattle.printed.specs.declared.call.Call.TheVariants as call
use Rattle.printed.specs.declared.line.Line.TheVariants as line
use Rattle.settlement.specs.Settling.{answered, standing_after}
use Rattle.settlement.specs.Bands.{band}
use Rattle.settlement.specs.Corrections.{spread_over, correction}
use Rattle.settlement.specs.Numbers.{by_number}
use Rattle.settlement.specs.Rules.{revenue}
use Rattle.settlement.specs.declared.answer.Answer.{Answer}
use Rattle.settlement.specs.declared.band.Band.TheVariants.{Beyond, Between, Within}
use Rattle.settlement.specs.declared.record.Mark.TheVariants.{Pending, Filed, Missed}
use Rattle.settlement.specs.declared.standing.Standing.TheVariants.{Steady, Correcting}
use Rattle.workedcases.specs.Sample.{charges, opening, opened, filed, first, second, owing, rates_after, four_months, thirteen_months}
use Rattle.workedcases.specs.Sample.{full_month, billed_on_and_answered, losing, power_at, transmission_at, lifeline_at, price_and_fit}
use Rattle.workedcases.specs.Stream.{stream, lines, left}

pub record WorkedCases : Type 0 where
  -- month 1 entered into a newly opened book, and then amended to a pilferage recovery of 0
  pub opening_accepted : first_no (frame_asked closed 500 (opening 500)) ≡ None
  pub entry_accepted : first_no (all_asked Entry charges (Some (opened 500)) (file_of (sample_month 1 50000)) (sample_month 1 50000)) ≡ None
  pub entry_answered : answer_to charges (opened 500) (sample_month 1 50000) ≡ record {
    rates = pos 49791 ∷ pos 10000 ∷ pos 4645 ∷ pos 3300 ∷ [];
    closing = record { total = neg_ℤ (pos 104757845); revenue = 7289242155 };
    standing = Steady;
  }
  pub amendment_accepted : first_no (all_asked Amendment charges (Some filed) (file_of (sample_month 1 0)) (sample_month 1 0)) ≡ None
  pub amendment_answered : answer_now charges (replaced (sample_month 1 0) filed) ≡ record {
    rates = pos 49833 ∷ pos 10000 ∷ pos 4649 ∷ pos 3300 ∷ [];
    closing = record { total = neg_ℤ (pos 99905398); revenue = 7294094602 };
    standing = Steady;
  }
  -- the lines that tell of these, and that the line of any answer of the program is that of what it answers
  pub opening_line : line_bytes (line.Opened 7) ≡ codes "O 7" ++ 10 ∷ []
  pub entry_line :
      answer_line call.Entry 1 (answer_to charges (opened 500) (sample_month 1 50000)) ≡ codes "E 1 49791 10000 4645 3300 -104757845 7289242155 steady" ++ 10 ∷ []
  pub amendment_line :
      answer_line call.Amendment 1 (answer_now charges (replaced (sample_month 1 0) filed)) ≡ codes "A 1 49833 10000 4649 3300 -99905398 7294094602 steady" ++ 10 ∷ []
  pub line_of_an_entry : (m : ℕ) (a : Answer) → line_bytes (line.Entered m a) ≡ answer_line call.Entry m (answered a)
  pub line_of_an_amendment : (m : ℕ) (a : Answer) → line_bytes (line.Amended m a) ≡ answer_line call.Amendment m (answered a)
  -- from bytes to bytes: the run of the opening, the entry and the amendment from a closed book on has these lines, and no others
  pub stream_length : length stream ≡ 431
  pub stream_printed : Printed closed stream [] lines left
  pub stream_printed_once : (out : List ℕ) (after : State) → Printed closed stream [] out after → (out ≡ lines) × (after ≡ left)
  -- the same total and revenue by the tally of the postings
  pub entry_balances : total_by_tally charges (numbers_of (opening 500)) (tally (numbers_of (opening 500)) (first 500 ∷ [])) ≡ neg_ℤ (pos 104757845)
  pub entry_revenue : revenue charges 4 (tally (numbers_of (opening 500)) (first 500 ∷ [])).months ≡ 7289242155
  pub amendment_balances :
      total_by_tally charges (numbers_of (opening 500)) (tally (numbers_of (opening 500)) (first 500 ∷ second ∷ [])) ≡ neg_ℤ (pos 99905398)
  pub amendment_revenue : revenue charges 4 (tally (numbers_of (opening 500)) (first 500 ∷ second ∷ [])).months ≡ 7294094602
  -- with a starting rate of 8,000 of the lifeline charge, the total is beyond its band
  pub correcting_entry_answered : answer_to charges (opened 8000) (sample_month 1 50000) ≡ record {
    rates = pos 49757 ∷ pos 10000 ∷ pos 4086 ∷ pos 2517 ∷ [];
    closing = record { total = neg_ℤ (pos 854757845); revenue = 7289242155 };
    standing = Correcting;
  }
  pub correcting_entry_line :
      answer_line call.Entry 1 (answer_to charges (opened 8000) (sample_month 1 50000)) ≡ codes "E 1 49757 10000 4086 2517 -854757845 7289242155 correcting" ++ 10 ∷ []
  -- the same total and rates by the tally of the posting
  pub correcting_entry_balances :
      total_by_tally charges (numbers_of (opening 8000)) (tally (numbers_of (opening 8000)) (first 8000 ∷ [])) ≡ neg_ℤ (pos 854757845)
  pub correcting_entry_rates :
      by_number (rate_by_tally charges (numbers_of (opening 8000)) (tally (numbers_of (opening 8000)) (first 8000 ∷ [])) [] Correcting) 4
      ≡ pos 49757 ∷ pos 10000 ∷ pos 4086 ∷ pos 2517 ∷ []
  -- a tenth of the revenue, and one unit more
  pub tenth_not_beyond : band (pos 100) 1000 ≡ Between
  pub tenth_below_zero_not_beyond : band (neg_ℤ (pos 100)) 1000 ≡ Between
  pub above_a_tenth_beyond : band (pos 101) 1000 ≡ Beyond
  pub above_a_tenth_below_zero_beyond : band (neg_ℤ (pos 101)) 1000 ≡ Beyond
  -- three hundredths of the revenue, and one unit more
  pub three_hundredths_within : band (pos 30) 1000 ≡ Within
  pub three_hundredths_below_zero_within : band (neg_ℤ (pos 30)) 1000 ≡ Within
  pub above_three_hundredths_not_within : band (pos 31) 1000 ≡ Between
  pub above_three_hundredths_below_zero_not_within : band (neg_ℤ (pos 31)) 1000 ≡ Between
  -- with no revenue
  pub nothing_within_nothing : band (pos 0) 0 ≡ Within
  pub one_beyond_nothing : band (pos 1) 0 ≡ Beyond
  -- between the bands the standing is the one that the month before left, at either limit
  pub steady_up_to_a_tenth : standing_after Steady (record { total = pos 100; revenue = 1000 }) ≡ Steady
  pub correcting_beyond_a_tenth : standing_after Steady (record { total = pos 101; revenue = 1000 }) ≡ Correcting
  pub correcting_above_three_hundredths : standing_after Correcting (record { total = pos 31; revenue = 1000 }) ≡ Correcting
  pub steady_within_three_hundredths : standing_after Correcting (record { total = pos 30; revenue = 1000 }) ≡ Steady
  -- a correction is rounded toward zero
  pub rounded_toward_zero : spread_over (neg_ℤ (pos 7)) 2 ≡ neg_ℤ (pos 3)
  -- spread over six months of 100 kWh, a balance comes to 1,000,000 for each kWh, and to one more, which is cut
  pub correction_at_the_most : correction Correcting false 6 (pos 600000000) 100 ≡ pos 1000000
  pub correction_above_the_most : correction Correcting false 6 (pos 600000600) 100 ≡ pos 1000000
  pub correction_at_the_least : correction Correcting false 6 (neg_ℤ (pos 600000000)) 100 ≡ neg_ℤ (pos 1000000)
  pub correction_below_the_least : correction Correcting false 6 (neg_ℤ (pos 600000600)) 100 ≡ neg_ℤ (pos 1000000)
  -- where a correction is barred, one above zero is 0, and one below zero is as it was
  pub upward_not_barred : correction Correcting false 6 (pos 1800) 100 ≡ pos 3
  pub upward_barred : correction Correcting true 6 (pos 1800) 100 ≡ pos 0
  pub downward_barred : correction Correcting true 6 (neg_ℤ (pos 1800)) 100 ≡ neg_ℤ (pos 3)
  -- one month bars nothing, also where it is amended and pending: generation and lifeline are corrected upward, and loss downward
  pub one_month_bars_nothing : (answer_to charges owing (sample_month 1 50000)).rates ≡ pos 51299 ∷ pos 10000 ∷ pos 4086 ∷ pos 3766 ∷ []
  pub one_month_amended_bars_nothing :
      (answer_now charges (with_month charges owing (sample_month 1 50000))).rates ≡ pos 51299 ∷ pos 10000 ∷ pos 4086 ∷ pos 3766 ∷ []
  -- of two months the first bars what is upward, unless it is filed
  pub filed_month_bars_nothing : rates_after Filed ≡ pos 51048 ∷ pos 10000 ∷ pos 4180 ∷ pos 3689 ∷ []
  pub pending_month_bars : rates_after Pending ≡ pos 49791 ∷ pos 10000 ∷ pos 4180 ∷ pos 3300 ∷ []
  pub missed_month_bars : rates_after Missed ≡ pos 49791 ∷ pos 10000 ∷ pos 4180 ∷ pos 3300 ∷ []
  -- the revenue is that of the latest three months, and U goes by the latest twelve
  pub revenue_of_the_latest_three : revenue charges 4 four_months ≡ 21872578912
  pub gross_up_of_the_latest_twelve : gross_up 500 (twelve_months thirteen_months) ≡ 989
  -- a month with two sources, two brackets, discounts and exempt input, which loses less in the feeders than the cap allows: the amounts, of which the
  -- lifeline discount is rounded once, and for each charge what the month is billed on, its base rate and its allowance
  pub full_month_accepted : first_no (carried month_refusal (month_asked full_month)) ≡ None
  pub full_month_generation_cost : generation_cost full_month ≡ 4981800000
  pub full_month_transmission_cost : transmission_cost full_month ≡ 899250050
  pub full_month_sold : sold full_month ≡ 103011
  pub full_month_discount : discount full_month ≡ 305813167
  pub full_month_answered :
      billed_on_and_answered charges full_month
      ≡ (103011, (43320, 4462475324))
      ∷ (103011, (7958, 819772446))
      ∷ (103011, (3271, 337004236))
      ∷ (90007, (3397, 305813167))
      ∷ []
  -- half of the input of 100 kWh may be lost, and no more: question 10, of field 5
  pub half_lost_accepted : first_no (carried month_refusal (month_asked (losing 20 30))) ≡ None
  pub above_half_lost_refused :
      first_no (carried month_refusal (month_asked (losing 20 31))) ≡ Some (record { number = 10; layer = layer.Month; place = 5 })
  -- an empty file, entered or to amend, into an open book or a closed one: question 1, at byte 0, whatever figures the later questions are asked of
  pub empty_file_refused :
      (kind : PostingKind) (account : Option Account) (m : Figures)
      → first_no (carried book_refusal (all_asked kind charges account [] m)) ≡ Some (record { number = 1; layer = layer.File; place = 0 })
  -- month 2 before month 1: question 12, of month 2
  pub month_2_first_refused :
      first_no (carried book_refusal (all_asked Entry charges (Some (opened 500)) (file_of (sample_month 2 50000)) (sample_month 2 50000)))
      ≡ Some (record { number = 12; layer = layer.Book; place = 2 })
  -- the lines of these two refusals, and the one that tells where no frame begins
  pub empty_file_line : line_bytes (line.Refused call.Entry (record { number = 1; layer = layer.File; place = 0 })) ≡ codes "E refused 1 file 0" ++ 10 ∷ []
  pub month_2_first_line : line_bytes (line.Refused call.Entry (record { number = 12; layer = layer.Book; place = 2 })) ≡ codes "E refused 12 book 2" ++ 10 ∷ []
  pub no_frame_line : line_bytes (line.NoFrame 261) ≡ codes "X 261" ++ 10 ∷ []
  -- a price of 1,000,000 is fit, and one unit more is not; likewise a lifeline rate, which here is 1,000,000 and the metering charge
  pub power_at_the_limit_fit : price_and_fit generation (power_at 1000000) ≡ (1000000, true)
  pub power_above_the_limit_not_fit : price_and_fit generation (power_at 1000001) ≡ (1000001, false)
  pub transmission_at_the_limit_fit : price_and_fit transmission (transmission_at 1000000) ≡ (1000000, true)
  pub transmission_above_the_limit_not_fit : price_and_fit transmission (transmission_at 1000001) ≡ (1000001, false)
  pub lifeline_at_the_limit_fit : price_and_fit lifeline (lifeline_at 0) ≡ (1000000, true)
  pub lifeline_above_the_limit_not_fit : price_and_fit lifeline (lifeline_at 1) ≡ (1000001, false)
