-- The sentences for a fault.
use Rattle.std.specs.Prelude.{ℕ, List, ◌++◌, codes, decimal}
use Rattle.month.specs.Words.{month_sentence}
use Rattle.book.specs.declared.fault.BookFault.{BookFault}
use Rattle.book.specs.declared.fault.BookFault.TheVariants.{Month, WrongMonth, NotFit, NotPending, Opening, Buffer}
use Rattle.book.specs.declared.fault.OpeningFault.{OpeningFault}
use Rattle.book.specs.declared.fault.OpeningFault.TheVariants.{Spread, StartingRate, Balance, Count, AlreadyOpen}

abbrev pub opening_sentence : OpeningFault → List ℕ
opening_sentence Spread = codes "The spread is not 1 to 12 months."
opening_sentence StartingRate = codes "A starting rate is above 10000000 units."
opening_sentence Balance = codes "An opening balance is more than 1000000000000 units from zero."
opening_sentence Count = codes "There are not 1 to 8 mechanisms, each with a starting rate and an opening balance."
opening_sentence AlreadyOpen = codes "The book is open already."

abbrev pub book_sentence : BookFault → List ℕ
book_sentence (Month e) = month_sentence e
book_sentence (WrongMonth month) = codes "The book has no use for month " ++ (decimal month ++ codes " here.")
book_sentence (NotFit number) = codes "Mechanism " ++ (decimal number ++ codes " does not find the month fit.")
book_sentence (NotPending month) = codes "This book has no filing pending for month " ++ (decimal month ++ codes ".")
book_sentence (Opening e) = opening_sentence e
book_sentence (Buffer short) = codes "The buffer has " ++ (decimal short.length ++ codes " bytes, and 1024 are asked for.")
