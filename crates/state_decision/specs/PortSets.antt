-- Ports that are set one after another.
use Rattle.std.specs.Prelude.{ℕ, ◌-◌, ◌≤◌, List, fold, slice_set}
use Rattle.ptp_profile.specs.declared.port_best.PortBest.{PortBest}

-- the port of this set is one of so many
abbrev pub IsOfPorts : ℕ → ℕ × PortBest → Type 0
IsOfPorts ports set = (1 ≤ set.0) × (set.0 ≤ ports)

-- the ports after these sets, the first of them first: a set puts a state and a best in the place of
-- those that the port of this number had
abbrev pub ports_after : List (ℕ × PortBest) → List PortBest → List PortBest
ports_after sets ports =
    fold (λ (before : List PortBest) (set : ℕ × PortBest). slice_set before (set.0 - 1) set.1)
    ports sets
