-- What is asked of a month file, in order.
use Rattle.std.specs.Prelude.{ℕ, ◌+◌, Bool, List, [], ◌∷◌, ◌++◌, length, ◌==◌}
use Rattle.fields.specs.declared.due.Due.{Due}
use Rattle.fields.specs.Heads.{field_asked, size_at}
use Rattle.fields.specs.Questions.{carried}
use Rattle.month.specs.declared.fault.FileFault.{FileFault}
use Rattle.month.specs.declared.fault.FileFault.TheVariants.{Field, GoesOn}
use Rattle.month.specs.declared.fault.MonthFault.{MonthFault}
use Rattle.month.specs.declared.fault.MonthFault.TheVariants.{File}
use Rattle.month.specs.Asked.{month_asked}
use Rattle.month.specs.Figures.{Figures}

-- the fields that are due
abbrev pub dues : List Due
dues =
    record { tag = 1; each = 2; least = 1; most = 1 }
    ∷ record { tag = 2; each = 24; least = 1; most = 8 }
    ∷ record { tag = 3; each = 8; least = 1; most = 1 }
    ∷ record { tag = 4; each = 24; least = 1; most = 1 }
    ∷ record { tag = 5; each = 40; least = 1; most = 1 }
    ∷ record { tag = 6; each = 24; least = 0; most = 4 }
    ∷ record { tag = 7; each = 24; least = 1; most = 1 }
    ∷ []

-- questions 1 to 4 of each due field from p on, and then 5: does the file stop?
abbrev pub asked_from : List ℕ → ℕ → List Due → List (Bool × FileFault)
asked_from bs p [] = ((p == length bs), GoesOn p) ∷ []
asked_from bs p (d ∷ ds) = carried Field (field_asked bs p d) ++ asked_from bs (p + 3 + size_at bs p) ds

-- questions 1 to 5
abbrev pub file_asked : List ℕ → List (Bool × FileFault)
file_asked file = asked_from file 0 dues

-- questions 1 to 11, of a file and of the figures that it states
abbrev pub asked : List ℕ → Figures → List (Bool × MonthFault)
asked file f = carried File (file_asked file) ++ month_asked f
