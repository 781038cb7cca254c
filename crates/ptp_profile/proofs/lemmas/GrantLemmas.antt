-- A stamp in force was ordered.
use Rattle.std.proofs.Common.{◌≢◌, suc, List, [], ◌∷◌, refl, arith}
use Rattle.std.specs.Prelude.{Contains}
use Rattle.ptp_profile.specs.declared.seats.LogEntry.{LogEntry}
use Rattle.ptp_profile.specs.declared.seats.LogEntry.TheVariants.{Order, Change}
use Rattle.ptp_profile.specs.Roles.SeatLogs.{stamp_after, HasOrder}

contains_behind : (entry x : LogEntry) (log : List LogEntry) → Contains log x → Contains (entry ∷ log) x
contains_behind entry x log (k, within, here) = (suc k, omega arith, here)

pub stamp_was_ordered : (log : List LogEntry) → (stamp_after log).ctrl ≢ 0 → HasOrder log (stamp_after log).gener (stamp_after log).ctrl
stamp_was_ordered [] some = absurd (some refl)
stamp_was_ordered (Order gener ctrl ∷ log) some = (0, omega arith, refl)
stamp_was_ordered (Change gener ctrl tick step freq ∷ log) some =
    contains_behind (Change gener ctrl tick step freq) (Order (stamp_after log).gener (stamp_after log).ctrl) log (stamp_was_ordered log some)
