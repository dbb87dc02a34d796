-- The definitions compute each case.
use Rattle.std.proofs.Common.{refl}
use Rattle.std.specs.Fmt.{digits}
use Rattle.fields.specs.Bytes.{be}
use Rattle.workedcases.specs.WorkedCases.{WorkedCases}
use Rattle.workedcases.proofs.Run.{printed, printed_alone}

pub worked_cases : WorkedCases
unfolding be digits
worked_cases = record {
  opening_accepted = refl;
  entry_accepted = refl;
  entry_answered = refl;
  amendment_accepted = refl;
  amendment_answered = refl;
  opening_line = refl;
  entry_line = refl;
  amendment_line = refl;
  line_of_an_entry = λ m a. refl;
  line_of_an_amendment = λ m a. refl;
  stream_length = refl;
  stream_printed = printed;
  stream_printed_once = printed_alone;
  entry_balances = refl;
  entry_revenue = refl;
  amendment_balances = refl;
  amendment_revenue = refl;
  correcting_entry_answered = refl;
  correcting_entry_line = refl;
  correcting_entry_balances = refl;
  correcting_entry_rates = refl;
  tenth_not_beyond = refl;
  tenth_below_zero_not_beyond = refl;
  above_a_tenth_beyond = refl;
  above_a_tenth_below_zero_beyond = refl;
  three_hundredths_within = refl;
  three_hundredths_below_zero_within = refl;
  above_three_hundredths_not_within = refl;
  above_three_hundredths_below_zero_not_within = refl;
  nothing_within_nothing = refl;
  one_beyond_nothing = refl;
  steady_up_to_a_tenth = refl;
  correcting_beyond_a_tenth = refl;
  correcting_above_three_hundredths = refl;
  steady_within_three_hundredths = refl;
  rounded_toward_zero = refl;
  correction_at_the_most = refl;
  correction_above_the_most = refl;
  correction_at_the_least = refl;
  correction_below_the_least = refl;
  upward_not_barred = refl;
  upward_barred = refl;
  downward_barred = refl;
  one_month_bars_nothing = refl;
  one_month_amended_bars_nothing = refl;
  filed_month_bars_nothing = refl;
  pending_month_bars = refl;
  missed_month_bars = refl;
  revenue_of_the_latest_three = refl;
  gross_up_of_the_latest_twelve = refl;
  full_month_accepted = refl;
  full_month_generation_cost = refl;
  full_month_transmission_cost = refl;
  full_month_sold = refl;
  full_month_discount = refl;
  full_month_answered = refl;
  half_lost_accepted = refl;
  above_half_lost_refused = refl;
  empty_file_refused = λ kind account m. refl;
  month_2_first_refused = refl;
  empty_file_line = refl;
  month_2_first_line = refl;
  no_frame_line = refl;
  power_at_the_limit_fit = refl;
  power_above_the_limit_not_fit = refl;
  transmission_at_the_limit_fit = refl;
  transmission_above_the_limit_not_fit = refl;
  lifeline_at_the_limit_fit = refl;
  lifeline_above_the_limit_not_fit = refl;
}
