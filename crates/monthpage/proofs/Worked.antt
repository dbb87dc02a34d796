-- Worked examples: lines of refusals, with another cap, and of a month that is not fit. The whole page of a good file is the program's stored output.
use Rattle.std.proofs.Common.{◌≡◌, [], ◌∷◌, ◌++◌, codes, refl}
use Rattle.std.specs.Fmt.{digits}
use Rattle.charges.specs.Refusals.{cap_told}
use Rattle.charges.specs.Words.{cap_sentence}
use Rattle.charges.specs.declared.cap.CapTooHigh.{CapTooHigh}
use Rattle.fields.specs.declared.fault.FieldFault.TheVariants.{CutShort}
use Rattle.month.specs.Refusals.{month_refusal}
use Rattle.month.specs.Sample.{sample_month}
use Rattle.month.specs.Words.{month_sentence}
use Rattle.month.specs.declared.fault.FileFault.TheVariants.{Field}
use Rattle.month.specs.declared.fault.MonthFault.{MonthFault}
use Rattle.month.specs.declared.fault.MonthFault.TheVariants.{File}
use Rattle.schedule.specs.Four.{four_charges}
use Rattle.schedule.specs.Rows.{numbered}
use Rattle.monthpage.specs.Lines.{line, text, charge_line, refusal_lines}

abbrev cut_short : MonthFault
cut_short = File (Field (CutShort 140))

refused_file :
    text (refusal_lines (month_refusal cut_short) (month_sentence cut_short))
    ≡ codes "refused 4 file 140" ++ 10 ∷ codes "The file ends before the value of the field at byte 140 does." ++ 10 ∷ []
unfolding line text digits
refused_file = refl

refused_cap : (fault : CapTooHigh) → fault.cap ≡ 5001
    → text (refusal_lines cap_told (cap_sentence fault)) ≡ codes "refused 15 book 1" ++ 10 ∷ codes "The feeder loss cap of 5001 hundredths of a percent is above 5000." ++ 10 ∷ []
unfolding line text digits
refused_cap fault is = rw is refl

-- at a cap of 4.5 percent
loss_at_another_cap :
    line (charge_line 2 (codes "loss") (numbered (four_charges 450) 2) (sample_month 1 50000))
    ≡ codes "charge 2, loss: quantity 108000 kWh, base rate 4316 units per kWh, allowance 466226301 units = 46622.6301 pesos" ++ 10 ∷ []
unfolding line digits
loss_at_another_cap = refl

-- 2^32 centavos more, so that generation costs 3,628,931 units per kWh
generation_not_fit :
    line (charge_line 0 (codes "generation") (numbered (four_charges 500) 0) (record (sample_month 1 50000) { sources = record { cost = 4354967296; taken = 400000; passed = 0 } ∷ [] }))
    ≡ codes "charge 0, generation: the month is not fit" ++ 10 ∷ []
unfolding line digits
generation_not_fit = refl
