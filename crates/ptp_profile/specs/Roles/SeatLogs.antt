-- The log of a clock, the newest entry first: what was ordered and changed since the clock's
-- opening (project)
use Rattle.std.specs.Prelude.{ℕ, suc, ℤ, ◌+◌, ◌-◌, ◌<◌, ◌≤◌, ◌≡◌, ◌≢◌, ◌⊎◌, Bool, true, false, not, ◌==◌, ◌&&◌, nat_le, if◌then◌else◌, List, [], ◌∷◌, length, map, filter, fold, drop, reverse, slice_get, slice_index_or, slice_set, Option, Some, None, Contains, Result, Ok, Err}
use Rattle.ptp_base.specs.declared.limits.TheConstants.{CONTROLLER_PORTS, FOLLOWER_BASE}
use Rattle.model_clock.specs.declared.state.ClockState.{ClockState}
use Rattle.model_clock.specs.Clock.{after_change}
use Rattle.ptp_profile.specs.declared.roles.RoleOrder.{RoleOrder}
use Rattle.ptp_profile.specs.declared.roles.Stamp.{Stamp}
use Rattle.ptp_profile.specs.declared.seats.Held.{Held}
use Rattle.ptp_profile.specs.declared.seats.Log.{Log}
use Rattle.ptp_profile.specs.declared.seats.LogEntry.{LogEntry}
use Rattle.ptp_profile.specs.declared.seats.LogEntry.TheVariants.{Order, Change}
use Rattle.ptp_profile.specs.declared.seats.Reading.{Reading}
use Rattle.ptp_profile.specs.declared.seats.Receipt.{Receipt}
use Rattle.ptp_profile.specs.declared.seats.Refused.{Refused}
use Rattle.ptp_profile.specs.declared.seats.Refused.TheVariants.{Superseded, Spent}
use Rattle.ptp_profile.specs.Roles.Edges.{no_stamp}

-- the stamp in force: that of the last order
abbrev pub stamp_after : List LogEntry → Stamp
stamp_after [] = no_stamp
stamp_after (Order gener ctrl ∷ log) = record { gener = gener; ctrl = ctrl }
stamp_after (Change gener ctrl tick step freq ∷ log) = stamp_after log

-- the clock's opening, changed by the changes in their order
abbrev pub clock_after : ClockState → List LogEntry → ClockState
clock_after opening [] = opening
clock_after opening (Order gener ctrl ∷ log) = clock_after opening log
clock_after opening (Change gener ctrl tick step freq ∷ log) =
    after_change (clock_after opening log) tick step freq

-- a reading of a clock after all entries of its log: how many they are, the stamp in force, and the
-- clock's state. After its first k entries it is that of `log_after k`.
abbrev pub whole_reading : ClockState → List LogEntry → Reading
whole_reading opening log = record {
  number = length log;
  gener = (stamp_after log).gener;
  ctrl = (stamp_after log).ctrl;
  state = clock_after opening log;
}

-- the log as it was after its first k entries, or the whole where it has no more
abbrev pub log_after : ℕ → List LogEntry → List LogEntry
log_after k log = drop (length log - k) log

-- the entry with a number: an entry's number is one more than the number of entries before it
abbrev pub entry_at : ℕ → List LogEntry → Option LogEntry
entry_at n [] = None
entry_at n (entry ∷ log) = if n == suc (length log) then Some entry else entry_at n log

-- the entry is an order
abbrev pub is_order : LogEntry → Bool
is_order (Order gener ctrl) = true
is_order (Change gener ctrl tick step freq) = false

-- the entry of an order
abbrev pub order_entry : RoleOrder → LogEntry
order_entry order = Order order.gener order.ctrl

-- the entries of the orders for a clock, the newest first in both lists
abbrev pub orders_for : ℕ → List RoleOrder → List LogEntry
orders_for clock orders =
    map order_entry (filter (λ (order : RoleOrder). order.clock == clock) orders)

-- the log has this order
abbrev pub HasOrder : List LogEntry → ℕ → ℕ → Type 0
HasOrder log gener ctrl = Contains log (Order gener ctrl)

-- a change bears the stamp in force before it, with a controller other than 0
abbrev pub IsStamped : LogEntry → List LogEntry → Type 0
IsStamped (Order gener ctrl) before = Unit {0}
IsStamped (Change gener ctrl tick step freq) before =
    (gener ≡ (stamp_after before).gener) × (ctrl ≡ (stamp_after before).ctrl) × (ctrl ≢ 0)

-- so does each change of the log
abbrev pub AreStamped : List LogEntry → Type 0
AreStamped [] = Unit {0}
AreStamped (entry ∷ log) = IsStamped entry log × AreStamped log

-- the log of a clock is lawful: its orders are those for the clock, all and in order, and each
-- change bears the stamp in force
pub record IsLawful (clock : ℕ) (orders : List RoleOrder) (log : List LogEntry) : Type 0 where
  pub orders_are : filter is_order log ≡ orders_for clock orders
  pub stamped : AreStamped log

-- how many orders a log has
abbrev pub order_count : List LogEntry → ℕ
order_count log = length (filter is_order log)

-- ---- what an order may be

-- nobody, a port from 1 to 32, or the follower that copies one of so many clocks
abbrev pub IsController : ℕ → ℕ → Type 0
IsController clocks ctrl =
    (ctrl ≤ CONTROLLER_PORTS) ⊎ ((FOLLOWER_BASE ≤ ctrl) × (ctrl < FOLLOWER_BASE + clocks))

-- a generation that may follow the stamp: it is no older, and newer where somebody holds the clock
abbrev pub MayFollow : Stamp → ℕ → Type 0
MayFollow stamp gener = (stamp.gener ≤ gener) × (stamp.ctrl ≢ 0 → stamp.gener < gener)

-- ---- exchanges

-- the change that a holder makes
abbrev pub change_of : Held → ℕ → ℤ → ℤ → LogEntry
change_of held tick step freq = Change held.gener held.ctrl tick step freq

-- the entry with this number is the holder's change
abbrev pub IsChanged : List LogEntry → Held → ℕ → ℤ → ℤ → ℕ → Type 0
IsChanged log held tick step freq number =
    entry_at number log ≡ Some (change_of held tick step freq)

-- a generation newer than the holder's was in force after so many entries
pub record IsSuperseded (log : List LogEntry) (held : Held) (newer at : ℕ) : Type 0 where
  pub is_newer : held.gener < newer
  pub within : at ≤ length log
  pub in_force : (stamp_after (log_after at log)).gener ≡ newer

-- the holder's stamp was in force after so many entries, which are as many as the log may have
pub record IsSpent (log : List LogEntry) (held : Held) (rows at : ℕ) : Type 0 where
  pub within : at ≤ length log
  pub gener : (stamp_after (log_after at log)).gener ≡ held.gener
  pub ctrl : (stamp_after (log_after at log)).ctrl ≡ held.ctrl
  pub full : rows ≤ at

-- what a refusal says
abbrev pub IsRefusal : List LogEntry → Held → ℕ → Refused → Type 0
IsRefusal log held rows (Superseded newer at) = IsSuperseded log held newer at
IsRefusal log held rows (Spent at) = IsSpent log held rows at

-- the stamp is the held one
abbrev pub is_held : Held → Stamp → Bool
is_held held stamp = (stamp.gener == held.gener) && (stamp.ctrl == held.ctrl)

-- what a holder is answered: a stamp other than the held one is in force, or the log has as many
-- entries as it may have, or the change is taken, as the next entry
abbrev pub exchange_answer : ℕ → Held → List LogEntry → Result Receipt Refused
exchange_answer rows held log =
    if not (is_held held (stamp_after log)) then Err (Superseded (stamp_after log).gener (length log))
    else if nat_le rows (length log) then Err (Spent (length log))
    else Ok (record { number = length log + 1 })

-- the log after the answer to a change: that is an entry where it was taken
abbrev pub after_answer : Result Receipt Refused → LogEntry → List LogEntry → List LogEntry
after_answer (Ok receipt) change log = change ∷ log
after_answer (Err refused) change log = log

-- ---- the logs of all clocks, by rising clock

-- nothing was ordered or changed
abbrev pub no_logs : List ClockState → List (List LogEntry)
no_logs clocks = map (λ clock. []) clocks

-- the log of a clock; that of a clock that is not there is empty
abbrev pub log_at : List (List LogEntry) → ℕ → List LogEntry
log_at logs clock = slice_index_or logs clock []

-- one more entry in the log of a clock
abbrev pub with_log_entry : List (List LogEntry) → ℕ → LogEntry → List (List LogEntry)
with_log_entry logs clock entry = slice_set logs clock (entry ∷ log_at logs clock)

-- an order in the log of its clock
abbrev pub with_order : List (List LogEntry) → RoleOrder → List (List LogEntry)
with_order logs order = with_log_entry logs order.clock (order_entry order)

-- orders in the logs of their clocks, the first order first
abbrev pub with_orders : List (List LogEntry) → List RoleOrder → List (List LogEntry)
with_orders logs orders = fold with_order logs orders

-- each clock's log is lawful
abbrev pub AreLawful : List RoleOrder → List (List LogEntry) → Type 0
AreLawful orders logs =
    (clock : ℕ) (log : List LogEntry) → slice_get logs clock ≡ Some log → IsLawful clock orders log

-- the logs from a clock on with their openings, the oldest entry first
abbrev pub logs_from : ℕ → List ClockState → List (List LogEntry) → List Log
logs_from clock (opening ∷ openings) (log ∷ logs) =
    record { clock = clock; opening = opening; entries = reverse log }
    ∷ logs_from (clock + 1) openings logs
logs_from clock (opening ∷ openings) [] = []
logs_from clock [] logs = []
