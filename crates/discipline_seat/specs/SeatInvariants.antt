-- What the table of the seats keeps.
use Rattle.std.specs.Prelude.{ℕ, ◌+◌, ◌≤◌, ◌≡◌, List, [], ◌∷◌, length, map, All}
use Rattle.ptp_base.specs.declared.limits.TheConstants.{CLOCKS_MAX, ORDERS_MAX, ROWS_MAX}
use Rattle.model_clock.specs.declared.state.ClockState.{ClockState}
use Rattle.model_clock.specs.Clock.{IsClock}
use Rattle.ptp_base.specs.Room.{Reserved}
use Rattle.ptp_profile.specs.declared.roles.Stamp.{Stamp}
use Rattle.ptp_profile.specs.declared.seats.Log.{Log}
use Rattle.ptp_profile.specs.declared.seats.LogEntry.{LogEntry}
use Rattle.ptp_profile.specs.declared.seats.LogEntry.TheVariants.{Order, Change}
use Rattle.ptp_profile.specs.Roles.SeatLogs.{clock_after, stamp_after, MayFollow, order_count}

-- one clock: its opening, its log, the newest entry first, and how many more entries it takes
-- without allocating
pub record Line : Type 0 where
  pub opening : ClockState
  pub log : List LogEntry
  pub room : ℕ

-- what the clocks were before their logs
abbrev pub openings_of : List Line → List ClockState
openings_of lines = map (λ (line : Line). line.opening) lines

-- the clocks' logs
abbrev pub logs_of : List Line → List (List LogEntry)
logs_of lines = map (λ (line : Line). line.log) lines

-- the state and the stamp that are kept are those after the log
pub record IsKept (opening state : ClockState) (stamp : Stamp) (log : List LogEntry) : Type 0 where
  pub state_is : state ≡ clock_after opening log
  pub stamp_is : stamp ≡ stamp_after log
  pub clock : IsClock state

-- the generations of a log's orders rise
abbrev pub Rises : List LogEntry → Type 0
Rises [] = Unit {0}
Rises (Order gener ctrl ∷ log) = MayFollow (stamp_after log) gener × Rises log
Rises (Change gener ctrl tick step freq ∷ log) = Rises log

-- a log that came by orders and changes
pub record HasCome (rows : ℕ) (log : List LogEntry) : Type 0 where
  pub rises : Rises log
  pub orders : order_count log ≤ ORDERS_MAX
  pub long : length log ≤ rows + order_count log

-- the lines of a table
pub record IsTable (rows spare : ℕ) (lines : List Line) (parted : Reserved Log) : Type 0 where
  pub rows_few : rows ≤ ROWS_MAX
  pub clocks_few : length lines ≤ CLOCKS_MAX
  pub rooms : All (λ (line : Line). spare ≤ line.room) lines
  pub come : All (λ (line : Line). HasCome rows line.log) lines
  pub empty : parted.items ≡ []
  pub places : length lines ≤ parted.spare
