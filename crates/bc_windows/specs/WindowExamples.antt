-- A worked example: a port that hears nothing is MASTER at 6 s, and sends its first Sync at 7 s.
use Rattle.std.specs.Prelude.{List, [], ◌∷◌, drop}
use Rattle.bc_history.specs.declared.entry.Entry.{Entry}
use Rattle.bc_history.specs.declared.scenario.Scenario.{Scenario}
use Rattle.bc_history.specs.Run.RunExamples.{history_before}
use Rattle.bc_history.specs.Scenario.Defaults.{silent}
use Rattle.bc_windows.specs.Windows.{Window}

-- the port and its run of 7 s
abbrev pub lonely : Scenario
lonely = silent 7 1

-- its history
abbrev pub lonely_entries : List Entry
lonely_entries = history_before 0 lonely 3

-- the window that ends at 6 s, given before all entries
abbrev pub first_window : Window
first_window = record { end = 6000000000; begun = [] }

-- the window that ends at 7 s, given after the first entry
abbrev pub second_window : Window
second_window = record { end = 7000000000; begun = drop 1 lonely_entries }

-- both windows
abbrev pub lonely_windows : List Window
lonely_windows = second_window ∷ first_window ∷ []

-- both windows, the later one given while the first entry was still to come
abbrev pub hurried_windows : List Window
hurried_windows = record second_window { begun = [] } ∷ first_window ∷ []
