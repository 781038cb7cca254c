-- What contracts see of a seat, and of the passes that are left (project)
use Rattle.std.specs.Prelude.{ℕ, ◌≡◌, List, [], ◌∷◌, Option, Some, None}
use Rattle.atomic_table.specs.Seated.{TableId}
use Rattle.model_clock.specs.declared.state.ClockState.{ClockState}
use Rattle.discipline_seat.specs.declared.table.Seats.{Seats}
use Rattle.discipline_seat.specs.declared.view.View.{View}

-- the table it belongs to, what it knows, and how many more entries it takes without allocating
pub record SeatValue : Type 0 where
  pub table : TableId
  pub view : View
  pub spare : ℕ

-- a value of these, without a place for entries
abbrev pub seat_value : TableId → View → SeatValue
seat_value table view = record { table = table; view = view; spare = 0 }

-- the seat is one of this table, whose clocks opened so
pub record Belongs (table : TableId) (openings : List ClockState) (seat : SeatValue) : Type 0 where
  pub table_is : seat.table ≡ table
  pub openings_are : seat.view.openings ≡ openings

-- the seat is one of these seats
abbrev pub IsSeatOf : Seats → SeatValue → Type 0
IsSeatOf seats seat = Belongs seats.table.shared.table_id seats.openings.items seat

-- passes that nobody took so far, and how many were made
pub record PassesLeft : Type 0 where
  pub passes : List SeatValue
  pub made : ℕ

-- what is taken is the first, and the others stay
abbrev pub IsFirst : List SeatValue → Option SeatValue → List SeatValue → Type 0
IsFirst old None new = (old ≡ []) × (new ≡ [])
IsFirst old (Some pass) new = old ≡ pass ∷ new
