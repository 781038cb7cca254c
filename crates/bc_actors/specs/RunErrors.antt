-- Why a scenario was not run to its end.
use Rattle.std.specs.Prelude.{◌≡◌, length, reverse}
use Rattle.ptp_base.specs.declared.limits.TheConstants.{ENTRIES_MAX}
use Rattle.bc_history.specs.declared.entry.Input.{Input}
use Rattle.bc_history.specs.declared.entry.Run.{Run}
use Rattle.bc_history.specs.declared.scenario.Scenario.{Scenario}
use Rattle.bc_history.specs.Phases.Step.{state_of}
use Rattle.bc_history.specs.Run.NextInputs.{IsDue}
use Rattle.run_legal.specs.Runs.LegalRuns.{IsOpen, IsWindowed}
use Rattle.bc_actors.specs.declared.run.RunError.{RunError}
use Rattle.bc_actors.specs.declared.run.RunError.TheVariants.{NoMemory, Events}

-- an open and windowed run of a scenario that has as many entries as a run may have, and after
-- which an actor has a due next input
pub record IsFull (s : Scenario) (held : Run) : Type 0 where
  pub is_open : IsOpen s held
  pub windowed : IsWindowed s held
  pub full : length held.entries ≡ ENTRIES_MAX
  pub next : Input
  pub due : IsDue s (state_of s (reverse held.entries)) next

-- want of memory has no cause that is told
abbrev pub IsRunError : Scenario → RunError → Type 0
IsRunError s NoMemory = Unit {0}
IsRunError s (Events held) = IsFull s held
