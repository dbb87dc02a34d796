-- What is told of each fault: the number of its question, its layer and its place.
use Rattle.std.specs.Prelude.{ℕ}
use Rattle.fields.specs.Refusals.{buffer_refusal}
use Rattle.fields.specs.declared.refusal.Layer.TheVariants as layer
use Rattle.fields.specs.declared.refusal.Refusal.{Refusal}
use Rattle.month.specs.Refusals.{month_refusal}
use Rattle.book.specs.declared.fault.BookFault.{BookFault}
use Rattle.book.specs.declared.fault.BookFault.TheVariants.{Month, WrongMonth, NotFit, NotPending, Opening, Buffer}
use Rattle.book.specs.declared.fault.OpeningFault.{OpeningFault}
use Rattle.book.specs.declared.fault.OpeningFault.TheVariants.{Spread, StartingRate, Balance, Count, AlreadyOpen}

-- place 1 is the cap's, which is asked about when the loss charge is made
abbrev pub opening_place : OpeningFault → ℕ
opening_place Spread = 2
opening_place StartingRate = 3
opening_place Balance = 4
opening_place Count = 5
opening_place AlreadyOpen = 6

abbrev pub book_refusal : BookFault → Refusal
book_refusal (Month e) = month_refusal e
book_refusal (WrongMonth month) = record { number = 12; layer = layer.Book; place = month }
book_refusal (NotFit number) = record { number = 13; layer = layer.Book; place = number }
book_refusal (NotPending month) = record { number = 14; layer = layer.Book; place = month }
book_refusal (Opening e) = record { number = 15; layer = layer.Book; place = opening_place e }
book_refusal (Buffer short) = buffer_refusal short
