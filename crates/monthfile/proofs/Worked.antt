-- Worked examples: the definitions compute them.
use Rattle.std.proofs.Common.{◌≡◌, ℕ, Bool, List, [], ◌∷◌, ◌++◌, replicate, Some, None, refl}
use Rattle.fields.specs.declared.fault.FieldFault.TheVariants.{NoHead, WrongLength}
use Rattle.fields.specs.declared.due.Due.{Due}
use Rattle.fields.specs.Bytes.{be}
use Rattle.fields.specs.Heads.{field_asked}
use Rattle.fields.specs.Questions.{first_no, carried}
use Rattle.month.specs.declared.fault.FileFault.TheVariants.{Field, GoesOn}
use Rattle.month.specs.declared.fault.MonthFault.{MonthFault}
use Rattle.month.specs.declared.fault.MonthFault.TheVariants.{File, EnergyInconsistent}
use Rattle.month.specs.declared.tag.Tag.TheVariants.{Energy}
use Rattle.month.specs.Amounts.{generation_cost, transmission_cost, sold, discount}
use Rattle.month.specs.Asked.{month_asked}
use Rattle.month.specs.Figures.{Figures}
use Rattle.month.specs.Refusals.{month_refusal}
use Rattle.month.specs.Sample.{sample_month}
use Rattle.monthfile.specs.Layout.{file_of}
use Rattle.monthfile.specs.Questions.{asked_from, file_asked}

sample : Figures
sample = sample_month 1 50000

sample_file : List ℕ
sample_file =
    1 ∷ 0 ∷ 2 ∷ 0 ∷ 1
    ∷ 2 ∷ 0 ∷ 24 ∷ 0 ∷ 0 ∷ 0 ∷ 0 ∷ 3 ∷ 147 ∷ 135 ∷ 0 ∷ 0 ∷ 0 ∷ 0 ∷ 0 ∷ 0 ∷ 6 ∷ 26 ∷ 128 ∷ 0 ∷ 0 ∷ 0 ∷ 0 ∷ 0 ∷ 0 ∷ 0 ∷ 0
    ∷ 3 ∷ 0 ∷ 8 ∷ 0 ∷ 0 ∷ 0 ∷ 0 ∷ 0 ∷ 0 ∷ 195 ∷ 80
    ∷ 4 ∷ 0 ∷ 24 ∷ 0 ∷ 0 ∷ 0 ∷ 0 ∷ 0 ∷ 183 ∷ 27 ∷ 0 ∷ 0 ∷ 0 ∷ 0 ∷ 0 ∷ 0 ∷ 0 ∷ 0 ∷ 0 ∷ 0 ∷ 0 ∷ 0 ∷ 0 ∷ 0 ∷ 0 ∷ 0 ∷ 0
    ∷ 5 ∷ 0 ∷ 40 ∷ 0 ∷ 0 ∷ 0 ∷ 0 ∷ 0 ∷ 1 ∷ 212 ∷ 192 ∷ 0 ∷ 0 ∷ 0 ∷ 0 ∷ 0 ∷ 0 ∷ 9 ∷ 96 ∷ 0 ∷ 0 ∷ 0 ∷ 0 ∷ 0 ∷ 0 ∷ 37 ∷ 128 ∷ 0 ∷ 0 ∷ 0 ∷ 0 ∷ 0 ∷ 0 ∷ 0 ∷ 0 ∷ 0 ∷ 0 ∷ 0 ∷ 0 ∷ 0 ∷ 0 ∷ 0 ∷ 0
    ∷ 6 ∷ 0 ∷ 24 ∷ 0 ∷ 0 ∷ 0 ∷ 0 ∷ 0 ∷ 0 ∷ 31 ∷ 64 ∷ 0 ∷ 0 ∷ 0 ∷ 0 ∷ 0 ∷ 0 ∷ 1 ∷ 144 ∷ 0 ∷ 0 ∷ 0 ∷ 0 ∷ 0 ∷ 0 ∷ 0 ∷ 50
    ∷ 7 ∷ 0 ∷ 24 ∷ 0 ∷ 0 ∷ 0 ∷ 0 ∷ 0 ∷ 1 ∷ 134 ∷ 160 ∷ 0 ∷ 0 ∷ 0 ∷ 0 ∷ 0 ∷ 1 ∷ 56 ∷ 128 ∷ 0 ∷ 0 ∷ 0 ∷ 0 ∷ 0 ∷ 0 ∷ 195 ∷ 80
    ∷ []

sample_encoded : file_of sample ≡ sample_file
unfolding be sample sample_file
sample_encoded = refl

sample_asked : first_no (month_asked sample) ≡ None
unfolding sample
sample_asked = refl

sample_sound : first_no (file_asked sample_file) ≡ None
unfolding sample_file
sample_sound = refl

sample_generation : generation_cost sample ≡ 5975000000
unfolding sample
sample_generation = refl

sample_transmission : transmission_cost sample ≡ 1200000000
unfolding sample
sample_transmission = refl

sample_sales : sold sample ≡ 108000
unfolding sample
sample_sales = refl

sample_discount : discount sample ≡ 330000000
unfolding sample
sample_discount = refl

-- an input of 100 kWh, of which so much is lost on the feeder
losing : ℕ → Figures
losing lost = record {
  month = 1;
  sources = record { cost = 100; taken = 0; passed = 0 } ∷ [];
  pilferage = 0;
  transmission = record { cost = 100; taken = 0; passed = 0 };
  energy = record { input = 100; substation = 0; feeder = lost };
  exempt = record { generation = 0; transmission = 0 };
  brackets = [];
  sales = record { nonlifeline = 40; rate = 0; metering = 0 };
}

half_lost : first_no (month_asked (losing 50)) ≡ None
unfolding losing
half_lost = refl

more_lost : first_no (month_asked (losing 51)) ≡ Some (EnergyInconsistent Energy)
unfolding losing
more_lost = refl

empty_file : first_no (file_asked []) ≡ Some (Field (NoHead 0))
empty_file = refl

one_byte_more : first_no (file_asked (sample_file ++ 0 ∷ [])) ≡ Some (GoesOn 167)
unfolding sample_file
one_byte_more = refl

-- so many sources
bought_from : ℕ → Figures
bought_from count = record {
  month = 1;
  sources = replicate count (record { cost = 100; taken = 0; passed = 0 });
  pilferage = 0;
  transmission = record { cost = 100; taken = 0; passed = 0 };
  energy = record { input = 100; substation = 0; feeder = 0 };
  exempt = record { generation = 0; transmission = 0 };
  brackets = [];
  sales = record { nonlifeline = 40; rate = 0; metering = 0 };
}

eight_sources : first_no (file_asked (file_of (bought_from 8))) ≡ None
unfolding be bought_from
eight_sources = refl

nine_sources : first_no (file_asked (file_of (bought_from 9))) ≡ Some (Field (WrongLength 5))
unfolding be bought_from
nine_sources = refl

-- the questions as number and place, in the order in which they are asked
abbrev told : List (Bool × MonthFault) → List (ℕ × ℕ)
told [] = []
told (q ∷ qs) = ((month_refusal q.1).number, (month_refusal q.1).place) ∷ told qs

month_questions : (f : Figures)
    → told (month_asked f) ≡ (6, 1) ∷ (6, 2) ∷ (6, 3) ∷ (6, 4) ∷ (6, 5) ∷ (6, 6) ∷ (6, 7) ∷ (7, 2) ∷ (7, 4) ∷ (8, 2) ∷ (9, 2) ∷ (9, 4) ∷ (10, 5) ∷ (11, 7) ∷ []
month_questions f = refl

field_questions : (bs : List ℕ) (p : ℕ) (d : Due) → told (carried (λ e. File (Field e)) (field_asked bs p d)) ≡ (1, p) ∷ (2, p) ∷ (3, p) ∷ (4, p) ∷ []
field_questions bs p d = refl

last_question : (bs : List ℕ) (p : ℕ) → told (carried File (asked_from bs p [])) ≡ (5, p) ∷ []
last_question bs p = refl
