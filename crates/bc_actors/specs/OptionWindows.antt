-- Windows of the option: which windows that a hub was given are one window of a run (project).
use Rattle.std.specs.Prelude.{ℕ, zero, suc, ◌*◌, List}
use Rattle.bc_history.specs.declared.entry.Entry.{Entry}
use Rattle.bc_history.specs.declared.scenario.Scenario.{Scenario}
use Rattle.run_legal.specs.Runs.LegalRuns.{window_at}
use Rattle.bc_windows.specs.Windows.{IsBeyond, Window}

-- no actor has a next input before a numbered window: up to the last tick of the one before, if
-- there is one
abbrev pub IsThroughBefore : Scenario → List Entry → ℕ → Type 0
IsThroughBefore s entries zero = Unit {0}
IsThroughBefore s entries (suc number) = IsBeyond s entries (number * s.options.window)

-- when the window was given no actor had a next input before the window that its end is in
abbrev pub IsOneWindow : Scenario → Window → Type 0
IsOneWindow s w = IsThroughBefore s w.begun (window_at s w.end)
