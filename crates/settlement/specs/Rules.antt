-- The rules by which the months that stand are settled. Mechanisms are numbered from 0, and months are counted from 0.
use Rattle.std.specs.Prelude.{ℕ, List, [], length, sum, ℤ, pos, ◌+ℤ◌, ◌-ℤ◌, ◌*ℤ◌, slice_index, slice_index_or}
use Rattle.bounded.specs.Ends.{latest}
use Rattle.charges.specs.Meaning.{Meaning}
use Rattle.month.specs.Figures.{Figures}
use Rattle.schedule.specs.Rows.{numbered}
use Rattle.settlement.specs.Months.{quantities, allowances}
use Rattle.settlement.specs.Numbers.{by_number, int_sum}

-- what mechanism i was billed at in month j
abbrev pub billed_rate : List (List ℤ) → ℕ → ℕ → ℤ
billed_rate bills i j = slice_index_or (slice_index_or bills j []) i (pos 0)

-- an opening balance and, month by month, allowance − billed rate × quantity of mechanism i
abbrev pub balance_after : ℤ → ℕ → List ℕ → List ℕ → List (List ℤ) → ℤ
balance_after opening i allowances quantities bills =
    opening +ℤ int_sum (by_number (λ j. pos (slice_index allowances j) -ℤ (billed_rate bills i j *ℤ pos (slice_index quantities j))) (length allowances))

-- the outstanding balance of mechanism i: its opening balance and, over the months that stand, allowance − billed rate × quantity
abbrev pub outstanding : Meaning → ℕ → ℤ → List Figures → List (List ℤ) → ℤ
outstanding k i opening ms bills = balance_after opening i (allowances k ms) (quantities k ms) bills

-- a mechanism's allowances over the last three months, or fewer when fewer stand
abbrev pub recent : Meaning → List Figures → ℕ
recent k ms = sum (latest 3 (allowances k ms))

-- what is outstanding of each mechanism, by the opening balances
abbrev pub balances_of : List Meaning → List ℤ → List Figures → List (List ℤ) → List ℤ
balances_of row balances ms bills = by_number (λ i. outstanding (numbered row i) i (slice_index_or balances i (pos 0)) ms bills) (length balances)

-- the total: all that is outstanding
abbrev pub total : List Meaning → List ℤ → List Figures → List (List ℤ) → ℤ
total row balances ms bills = int_sum (balances_of row balances ms bills)

-- the revenue: all allowances of n mechanisms over the last three months, or fewer when fewer stand
abbrev pub revenue : List Meaning → ℕ → List Figures → ℕ
revenue row n ms = sum (by_number (λ i. recent (numbered row i) ms) n)
