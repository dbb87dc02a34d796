-- How large a total is beside the revenue.
use Rattle.std.specs.Prelude.{ℕ, ◌*◌, if◌then◌else◌, ℤ, nat_abs, nat_lt, nat_le}
use Rattle.settlement.specs.declared.band.Band.{Band}
use Rattle.settlement.specs.declared.band.Band.TheVariants.{Beyond, Between, Within}

-- beyond: ten times its size is more than the revenue (footnote 30); within: a hundred times its size is at most three times the revenue
abbrev pub band : ℤ → ℕ → Band
band total revenue =
    if nat_lt revenue (10 * nat_abs total) then Beyond
    else if nat_le (100 * nat_abs total) (3 * revenue) then Within
    else Between
