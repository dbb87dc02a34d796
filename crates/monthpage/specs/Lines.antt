-- The lines that are printed of a month, in their order.
use Rattle.std.specs.Prelude.{ℕ, if◌then◌else◌, List, [], ◌∷◌, ◌++◌, map, codes, decimal}
use Rattle.std.specs.List.{flat_map, enumerate_from}
use Rattle.charges.specs.Meaning.{Meaning}
use Rattle.fields.specs.Words.{refusal_words}
use Rattle.fields.specs.declared.refusal.Refusal.{Refusal}
use Rattle.month.specs.declared.parts.Source.{Source}
use Rattle.month.specs.declared.parts.Bracket.{Bracket}
use Rattle.month.specs.Amounts.{generation_cost, transmission_cost, sold, discount}
use Rattle.month.specs.Figures.{Figures}
use Rattle.month.specs.UnitWords.{units_words}
use Rattle.schedule.specs.Rows.{numbered}

-- a line by its pieces
abbrev pub Line : Type 0
Line = List (List ℕ)

-- one after another, and byte 10
unfoldable pub line : Line → List ℕ
line [] = 10 ∷ []
line (piece ∷ pieces) = piece ++ line pieces

unfoldable pub text : List Line → List ℕ
text lines = flat_map line lines

-- a line for each, numbered from n on
abbrev pub each_from : {X : Type 0} → ℕ → (ℕ → X → Line) → List X → List Line
each_from n tell xs = map (λ x. tell x.0 x.1) (enumerate_from n xs)

-- an amount, in units and in pesos
abbrev pub units : ℕ → List ℕ
units n = units_words (record { 0 = n })

-- what was bought from one supplier
abbrev pub costs_line : List ℕ → Source → Line
costs_line name s = name ∷ codes ": cost " ∷ decimal s.cost ∷ codes ", discount taken " ∷ decimal s.taken ∷ codes ", passed on " ∷ decimal s.passed ∷ codes " (centavos)" ∷ []

-- a figure, after its name and before its unit
abbrev pub figure_line : List ℕ → ℕ → List ℕ → Line
figure_line name n unit = name ∷ codes ": " ∷ decimal n ∷ codes " " ∷ unit ∷ []

abbrev pub units_line : List ℕ → ℕ → Line
units_line name n = name ∷ codes ": " ∷ units n ∷ []

abbrev pub cost_lines : Figures → List Line
cost_lines f =
    each_from 1 (λ k s. costs_line (codes "source " ++ decimal k) s) f.sources
    ++ (figure_line (codes "pilferage recovery P") f.pilferage (codes "centavos")
    ∷ costs_line (codes "transmission") f.transmission
    ∷ [])

abbrev pub energy_lines : Figures → List Line
energy_lines f =
    figure_line (codes "input I") f.energy.input (codes "kWh")
    ∷ figure_line (codes "sub-transmission and substation loss A") f.energy.substation (codes "kWh")
    ∷ figure_line (codes "feeder loss F") f.energy.feeder (codes "kWh")
    ∷ figure_line (codes "input charged no generation X") f.exempt.generation (codes "kWh")
    ∷ figure_line (codes "input charged no transmission Y") f.exempt.transmission (codes "kWh")
    ∷ []

abbrev pub bracket_line : ℕ → Bracket → Line
bracket_line k b = codes "lifeline bracket " ∷ decimal k ∷ codes ": " ∷ decimal b.kwh ∷ codes " kWh, " ∷ decimal b.customers ∷ codes " customers, " ∷ decimal b.percent ∷ codes " percent" ∷ []

abbrev pub sales_lines : Figures → List Line
sales_lines f =
    each_from 1 bracket_line f.brackets
    ++ (figure_line (codes "non-lifeline sales N") f.sales.nonlifeline (codes "kWh")
    ∷ figure_line (codes "full rate R") f.sales.rate (codes "units per kWh")
    ∷ figure_line (codes "metering charge M") f.sales.metering (codes "units per customer")
    ∷ [])

abbrev pub amount_lines : Figures → List Line
amount_lines f =
    units_line (codes "cost of generation G") (generation_cost f)
    ∷ units_line (codes "cost of transmission T") (transmission_cost f)
    ∷ figure_line (codes "sales S") (sold f) (codes "kWh")
    ∷ units_line (codes "lifeline discount D") (discount f)
    ∷ []

-- the figures, and the amounts that follow
abbrev pub month_lines : Figures → List Line
month_lines f =
    ((codes "month " ++ decimal f.month) ∷ [])
    ∷ cost_lines f ++ energy_lines f ++ sales_lines f ++ amount_lines f

abbrev pub cap_line : ℕ → Line
cap_line cap = figure_line (codes "feeder loss cap C") cap (codes "hundredths of a percent")

-- what a charge answers for the month by itself
abbrev pub charge_answer : Meaning → Figures → Line
charge_answer k f =
    if k.fit f
    then codes "quantity " ∷ decimal (k.quantity f)
    ∷ codes " kWh, base rate " ∷ decimal (k.assessed (f ∷ [])).0
    ∷ codes " units per kWh, allowance " ∷ units (k.assessed (f ∷ [])).1 ∷ []
    else codes "the month is not fit" ∷ []

abbrev pub charge_line : ℕ → List ℕ → Meaning → Figures → Line
charge_line number name k f = codes "charge " ∷ decimal number ∷ codes ", " ∷ name ∷ codes ": " ∷ charge_answer k f

abbrev pub charge_lines : List Meaning → Figures → List Line
charge_lines row f =
    charge_line 0 (codes "generation") (numbered row 0) f
    ∷ charge_line 1 (codes "transmission") (numbered row 1) f
    ∷ charge_line 2 (codes "loss") (numbered row 2) f
    ∷ charge_line 3 (codes "lifeline") (numbered row 3) f
    ∷ []

-- a refusal, and its sentence
abbrev pub refusal_lines : Refusal → List ℕ → List Line
refusal_lines r sentence = (refusal_words r ∷ []) ∷ (sentence ∷ []) ∷ []
