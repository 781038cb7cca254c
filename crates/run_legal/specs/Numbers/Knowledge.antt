-- When nobody knows less of a clock's log than before, or than whom it heard of (project). All
-- lists have the newest first.
use Rattle.std.specs.Prelude.{ℕ, ◌≤◌, ◌<◌, Bool, true, false, if◌then◌else◌, List, [], ◌∷◌, ◌++◌, length, All}
use Rattle.ptp_profile.specs.declared.roles.RoleOrder.{RoleOrder}
use Rattle.ptp_profile.specs.declared.seats.LogEntry.{LogEntry}
use Rattle.ptp_profile.specs.Roles.SeatLogs.{log_at}
use Rattle.bc_history.specs.declared.entry.Entry.{Entry}
use Rattle.bc_history.specs.declared.entry.Who.{Who}
use Rattle.bc_history.specs.declared.scenario.Scenario.{Scenario}
use Rattle.bc_history.specs.Phases.Inputs.{event_of}
use Rattle.bc_history.specs.Phases.State.{Event}
use Rattle.bc_history.specs.Run.Actors.{actor_of, entries_of, is_by}
use Rattle.run_legal.specs.Numbers.Marks.{Sight, Mark, hub_sights, sight_mark, marks_of, marks_in, of_clock}
use Rattle.run_legal.specs.Numbers.LogNumbers.{order_numbers, numbers_in}

-- the entries up to and with the last one of an actor
abbrev pub known_to : Who → List Entry → List Entry
known_to who [] = []
known_to who (e ∷ before) = if is_by who e then e ∷ before else known_to who before

-- a number goes on from a former one of its actor: a change's is above it, another's is not below
abbrev pub GoesOn : Bool → (number former : ℕ) → Type 0
GoesOn true number former = former < number
GoesOn false number former = former ≤ number

-- the numbers of one actor never fall, and a change's is above all former ones of its clock
abbrev pub AreRising : List Mark → Type 0
AreRising [] = Unit {0}
AreRising (mark ∷ former) =
    All (λ (earlier : Mark). GoesOn mark.is_change mark.number earlier.number)
    (of_clock mark.clock former)
    × AreRising former

-- a mark is not below the numbers that entries have for its clock
abbrev pub IsUpTo : Scenario → List (List LogEntry) → List Entry → Mark → Type 0
IsUpTo s logs entries mark =
    All (λ number. number ≤ mark.number) (numbers_in s logs mark.clock entries)

-- the log of its clock has so many entries
abbrev pub IsWithin : List (List LogEntry) → Mark → Type 0
IsWithin logs mark = mark.number ≤ length (log_at logs mark.clock)

-- what an event knew, after the entries before it
pub record IsAbreast (s : Scenario) (logs : List (List LogEntry)) (event : Event) (before : List Entry) : Type 0 where
  -- the actor's own numbers rise
  pub rising :
      AreRising (marks_of s event ++ marks_in s (entries_of (actor_of event.input) before))
  -- no number is beyond its clock's log
  pub within : All (IsWithin logs) (marks_of s event)
  -- the actor knows what the entries up to its last one knew
  pub told : All (IsUpTo s logs (known_to (actor_of event.input) before)) (marks_of s event)
  -- the hub's reading knows what all entries before it knew
  pub read : All (λ (sight : Sight). IsUpTo s logs before (sight_mark sight)) (hub_sights s event)

-- an order has a number above all that was known of its clock before
abbrev pub ComesAfter : Scenario → List (List LogEntry) → List Entry → RoleOrder → Type 0
ComesAfter s logs before order =
    All
    (λ number. All (λ (mark : Mark). mark.number < number)
    (of_clock order.clock (marks_in s before)))
    (order_numbers logs order.clock (order ∷ []))

-- the numbers of an entry, after the entries before it
pub record IsNumbered (s : Scenario) (logs : List (List LogEntry)) (e : Entry) (before : List Entry) : Type 0 where
  -- what it knew is not less than what was known
  pub abreast : IsAbreast s logs (event_of e) before
  -- nobody had known of the orders that are made with it
  pub ordered : All (ComesAfter s logs before) e.effects.orders
