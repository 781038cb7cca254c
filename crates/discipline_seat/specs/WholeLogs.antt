-- The whole logs, once the hub's seat took in all passes (project)
use Rattle.std.specs.Prelude.{◌≡◌, ℕ, suc, ◌⊎◌, List, [], ◌∷◌, ◌++◌, All, length, map, Some}
use Rattle.std.specs.List.{AllByRecursion}
use Rattle.model_clock.specs.declared.state.ClockState.{ClockState}
use Rattle.ptp_profile.specs.Roles.SeatLogs.{entry_at, log_at}
use Rattle.ptp_profile.specs.declared.seats.LogEntry.{LogEntry}
use Rattle.ptp_profile.specs.declared.seats.LogEntry.TheVariants.{Order, Change}
use Rattle.discipline_seat.specs.declared.view.Owner.TheVariants.{Hub}
use Rattle.discipline_seat.specs.declared.view.View.{View}
use Rattle.discipline_seat.specs.SeatValue.{SeatValue}
use Rattle.discipline_seat.specs.Rule.SeatLog.{SeatLog, Extends, GrewByOthers, IsSeatLog, pass_owner}
use Rattle.discipline_seat.specs.Rule.SeatView.{IsAmong, IsTruthful, seen_log}
use Rattle.discipline_seat.specs.Rule.Story.{AreEntriesOf, StoryAgrees, receipts_of}

-- ---- what was made of a clock

-- the orders of a log with their numbers, the newest first
abbrev pub orders_of : SeatLog → List (ℕ × LogEntry)
orders_of [] = []
orders_of (Order gener ctrl ∷ log) = (suc (length log), Order gener ctrl) ∷ orders_of log
orders_of (Change gener ctrl tick step freq ∷ log) = orders_of log

-- what the seats made of a clock, each entry with its number: the changes that the passes have
-- receipts of, and the orders, which the hub's seat has seen
abbrev pub made_of : ℕ → View → List SeatValue → List (ℕ × LogEntry)
made_of clock hub [] = orders_of (seen_log hub clock)
made_of clock hub (pass ∷ passes) =
    receipts_of clock pass.view.stories.story ++ made_of clock hub passes

-- the entry with this number is one of these
abbrev pub IsMade : ℕ → LogEntry → List (ℕ × LogEntry) → Type 0
IsMade number entry [] = ⊥
IsMade number entry (first ∷ entries) =
    (first ≡ (number, entry)) ⊎ IsMade number entry entries

-- the log has each of these entries at its number, and no others
pub record IsWhole (made : List (ℕ × LogEntry)) (log : SeatLog) : Type 0 where
  pub each : (number : ℕ) (entry : LogEntry) → IsMade number entry made →
      entry_at number log ≡ Some entry
  pub others : (number : ℕ) (entry : LogEntry) → entry_at number log ≡ Some entry →
      IsMade number entry made

-- ---- the logs after closing

-- what the logs say of a pass: they end with all that it had seen, its changes are those of its
-- receipts, each once and in order, and each answer of its story agrees with them
pub record AreLogsOfPass (openings : List ClockState) (logs : List SeatLog)
    (pass : SeatValue) : Type 0 where
  pub seen : (clock : ℕ) → Extends (seen_log pass.view clock) (log_at logs clock)
  pub changes : (clock : ℕ) → AreEntriesOf clock pass.view.owner (log_at logs clock)
      (receipts_of clock pass.view.stories.story)
  pub answers : StoryAgrees openings (log_at logs) pass.view.stories.story

-- what closing gives: a lawful log of each clock, whole, with no order but those that the hub's
-- seat has made
pub record CloseYields (rows : ℕ) (openings : List ClockState) (hub : View)
    (passes : List SeatValue) (logs : List SeatLog) : Type 0 where
  pub clocks : length logs ≡ length openings
  pub lawful : (clock : ℕ) → IsSeatLog rows (log_at logs clock)
  pub whole : (clock : ℕ) → IsWhole (made_of clock hub passes) (log_at logs clock)
  pub orders : (clock : ℕ) →
      GrewByOthers clock Hub (seen_log hub clock) (log_at logs clock)
  pub passes_are : All (AreLogsOfPass openings logs) passes

-- ---- the steps to it

-- the hub's view took in a pass for good
pub record TakenIn (hub : View) (pass : SeatValue) (new : View) : Type 0 where
  pub owner : new.owner ≡ hub.owner
  pub ports : new.ports ≡ hub.ports
  pub passes : new.passes ≡ hub.passes
  pub joined : new.joined ≡ pass.view.number ∷ hub.joined
  pub grew : (clock : ℕ) →
      GrewByOthers clock hub.owner (seen_log hub clock) (seen_log new clock)
  pub own : (clock : ℕ) →
      GrewByOthers clock pass.view.owner (seen_log pass.view clock) (seen_log new clock)
  pub before : (m : ℕ) → IsAmong m hub.joined → (clock : ℕ) →
      GrewByOthers clock (pass_owner hub.ports m) (seen_log hub clock) (seen_log new clock)
  pub named : pass.view.owner ≡ pass_owner hub.ports pass.view.number
  pub truth : IsTruthful pass.view

-- of a pass that was taken in the hub's view has all that it made
pub record IsTakenIn (ports : ℕ) (new : View) (pass : SeatValue) : Type 0 where
  pub own : (clock : ℕ) →
      GrewByOthers clock pass.view.owner (seen_log pass.view clock) (seen_log new clock)
  pub named : pass.view.owner ≡ pass_owner ports pass.view.number
  pub truth : IsTruthful pass.view

-- the hub's view took in these passes, the last first
pub record AllTakenIn (hub : View) (passes : List SeatValue) (new : View) : Type 0 where
  pub owner : new.owner ≡ hub.owner
  pub ports : new.ports ≡ hub.ports
  pub counted : new.passes ≡ hub.passes
  pub joined : new.joined ≡ map (λ (pass : SeatValue). pass.view.number) passes ++ hub.joined
  pub grew : (clock : ℕ) →
      GrewByOthers clock hub.owner (seen_log hub clock) (seen_log new clock)
  pub each : AllByRecursion (IsTakenIn hub.ports new) passes
