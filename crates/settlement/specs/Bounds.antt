-- How large the amounts may become.
use Rattle.std.specs.Prelude.{ℕ}

-- an allowance: a quantity of 10,000,000 at a base rate of 10,000,000, and one unit less than the quantity
abbrev pub greatest_allowance : ℕ
greatest_allowance = 100000009999999

-- the size of what one month adds to a balance: that allowance, and a quantity of 10,000,000 billed at -1,000,000
abbrev pub greatest_month_adds : ℕ
greatest_month_adds = 110000009999999

-- the size of what is outstanding: an opening balance, and 36 months
abbrev pub greatest_outstanding : ℕ
greatest_outstanding = 3961000359999964

-- the allowances of three months
abbrev pub greatest_recent : ℕ
greatest_recent = 300000029999997
