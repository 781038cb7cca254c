-- The stamp of each clock's last order, by rising clock (project).
use Rattle.std.specs.Prelude.{ℕ, List, map, fold, slice_index_or, slice_set}
use Rattle.std.specs.List.{range_with_len}
use Rattle.ptp_profile.specs.declared.roles.RoleOrder.{RoleOrder}
use Rattle.ptp_profile.specs.declared.roles.Stamp.{Stamp}
use Rattle.ptp_profile.specs.declared.seats.Held.{Held}
use Rattle.ptp_profile.specs.Roles.Edges.{no_stamp, stamp_of}

-- the stamp of a clock; a clock that is not there has that before the first order
abbrev pub stamp_at : List Stamp → ℕ → Stamp
stamp_at stamps clock = slice_index_or stamps clock no_stamp

-- a clock with its stamp
abbrev pub held_at : List Stamp → ℕ → Held
held_at stamps clock =
    record {
      clock = clock;
      gener = (stamp_at stamps clock).gener;
      ctrl = (stamp_at stamps clock).ctrl;
    }

-- the stamp that an order gives its clock
abbrev pub stamp_by : RoleOrder → Stamp
stamp_by order = record { gener = order.gener; ctrl = order.ctrl }

-- the stamps after an order
abbrev pub with_stamp : List Stamp → RoleOrder → List Stamp
with_stamp stamps order = slice_set stamps order.clock (stamp_by order)

-- the stamps after orders, the first order first
abbrev pub with_stamps : List Stamp → List RoleOrder → List Stamp
with_stamps stamps orders = fold with_stamp stamps orders

-- the stamps of so many clocks after orders, the newest order first
abbrev pub stamps_of : ℕ → List RoleOrder → List Stamp
stamps_of clocks orders = map (λ clock. stamp_of clock orders) (range_with_len 0 clocks)

-- the controllers of the clocks
abbrev pub ctrls_in : List Stamp → List ℕ
ctrls_in stamps = map (λ stamp. stamp.ctrl) stamps
