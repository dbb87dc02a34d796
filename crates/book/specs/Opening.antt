-- What is asked of an opening, and what it makes.
use Rattle.std.specs.Prelude.{◌≡◌, ℕ, Bool, true, false, ◌&&◌, List, [], ◌∷◌, map, length, ℤ, pos, negsuc, int_le, Option, Some, None, ◌==◌, nat_le}
use Rattle.std.specs.List.{list_all}
use Rattle.fields.specs.Questions.{first_no, carried}
use Rattle.book.specs.Account.{Account}
use Rattle.book.specs.Refusals.{book_refusal}
use Rattle.book.specs.declared.fault.BookFault.{BookFault}
use Rattle.book.specs.declared.fault.BookFault.TheVariants.{Opening as NotOpen}
use Rattle.book.specs.declared.fault.OpeningFault.{OpeningFault}
use Rattle.book.specs.declared.fault.OpeningFault.TheVariants.{Spread, StartingRate, Balance, Count, AlreadyOpen}
use Rattle.book.specs.declared.opening.Opening.{Opening}

-- the numbers of an opening by which anyone may count
pub record OpeningNumbers : Type 0 where
  pub spread : ℕ
  pub rates : List ℤ
  pub balances : List ℤ

abbrev pub is_closed : Option Account → Bool
is_closed None = true
is_closed (Some _) = false

abbrev pub is_spread : ℕ → Bool
is_spread months = nat_le 1 months && nat_le months 12

abbrev pub is_starting_rate : ℕ → Bool
is_starting_rate units = nat_le units 10000000

abbrev pub is_balance : ℤ → Bool
is_balance units = int_le (negsuc 999999999999) units && int_le units (pos 1000000000000)

-- 1 to 8 mechanisms, and as many rates and balances
abbrev pub is_count : ℕ → ℕ → ℕ → Bool
is_count mechanisms rates balances = nat_le 1 mechanisms && nat_le mechanisms 8 && rates == mechanisms && balances == mechanisms

-- what an opening gives
pub record Given : Type 0 where
  pub number : ℕ
  pub spread : ℕ
  pub rates : List ℕ
  pub balances : List ℤ

abbrev pub given : Opening → Given
given o = record { number = o.number; spread = o.spread; rates = o.rates.now; balances = o.balances.now }

-- question 15, from place 2 on: the spread, all rates, then all balances, then the counts, then the book
abbrev pub opening_asked : ℕ → Option Account → Given → List (Bool × OpeningFault)
opening_asked mechanisms account g =
    (is_spread g.spread, Spread)
    ∷ (list_all is_starting_rate g.rates, StartingRate)
    ∷ (list_all is_balance g.balances, Balance)
    ∷ (is_count mechanisms (length g.rates) (length g.balances), Count)
    ∷ (is_closed account, AlreadyOpen)
    ∷ []

-- the numbers by which anyone may count; the number of the book is not among them
abbrev pub numbers_of : Given → OpeningNumbers
numbers_of g = record { spread = g.spread; rates = map pos g.rates; balances = g.balances }

-- a newly opened book: its starting rates are announced, and no month stands
abbrev pub newly_opened : Given → Account
newly_opened g = record {
  number = g.number;
  spread = g.spread;
  balances = g.balances;
  announced = map pos g.rates;
  months = [];
  billed = [];
  records = [];
}

-- question 15 is answered yes, and the book is open with these numbers
pub record Opens (mechanisms : ℕ) (before after : Option Account) (g : Given) : Type 0 where
  pub asked : first_no (opening_asked mechanisms before g) ≡ None
  pub book : after ≡ Some (newly_opened g)

-- it is answered no, at the place that the fault tells
pub record NotOpened (mechanisms : ℕ) (before : Option Account) (g : Given) (e : BookFault) : Type 0 where
  pub first : first_no (carried NotOpen (opening_asked mechanisms before g)) ≡ Some e
  -- the same, by number, layer and place
  pub told : first_no (carried book_refusal (carried NotOpen (opening_asked mechanisms before g))) ≡ Some (book_refusal e)
