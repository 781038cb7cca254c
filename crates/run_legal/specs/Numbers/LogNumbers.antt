-- The numbers that entries have for a clock: those of their marks and of their orders (project).
use Rattle.std.specs.Prelude.{ℕ, suc, ◌==◌, ◌&&◌, if◌then◌else◌, List, [], ◌∷◌, ◌++◌, length, map, filter, filter_map, flat_map, Option, None, Some}
use Rattle.ptp_profile.specs.declared.roles.RoleOrder.{RoleOrder}
use Rattle.ptp_profile.specs.declared.seats.LogEntry.{LogEntry}
use Rattle.ptp_profile.specs.declared.seats.LogEntry.TheVariants.{Order, Change}
use Rattle.ptp_profile.specs.Roles.SeatLogs.{log_at}
use Rattle.bc_history.specs.declared.entry.Entry.{Entry}
use Rattle.bc_history.specs.declared.scenario.Scenario.{Scenario}
use Rattle.bc_history.specs.Phases.Inputs.{event_of}
use Rattle.run_legal.specs.Numbers.Marks.{Mark, marks_of, of_clock}

-- the number of the order with this stamp in a log, the newest entry first
abbrev pub order_number : (gener ctrl : ℕ) → List LogEntry → Option ℕ
order_number gener ctrl [] = None
order_number gener ctrl (Order g k ∷ log) =
    if (g == gener) && (k == ctrl) then
    Some (suc (length log))
    else
    order_number gener ctrl log
order_number gener ctrl (Change g k tick step freq ∷ log) = order_number gener ctrl log

-- the numbers that orders for a clock have in its log
abbrev pub order_numbers : List (List LogEntry) → ℕ → List RoleOrder → List ℕ
order_numbers logs clock orders =
    filter_map (λ (order : RoleOrder). order_number order.gener order.ctrl (log_at logs clock))
    (filter (λ (order : RoleOrder). order.clock == clock) orders)

-- the numbers that an entry has for a clock
abbrev pub numbers_of : Scenario → List (List LogEntry) → ℕ → Entry → List ℕ
numbers_of s logs clock e =
    map (λ (mark : Mark). mark.number) (of_clock clock (marks_of s (event_of e)))
    ++ order_numbers logs clock e.effects.orders

-- the numbers that entries have for a clock
abbrev pub numbers_in : Scenario → List (List LogEntry) → ℕ → List Entry → List ℕ
numbers_in s logs clock entries = flat_map (numbers_of s logs clock) entries
