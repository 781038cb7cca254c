-- Which histories a scenario has, the newest entry first.
use Rattle.std.specs.Prelude.{◌≤◌, ◌≡◌, List, [], ◌∷◌, length, is_some}
use Rattle.ptp_base.specs.declared.limits.TheConstants.{ENTRIES_MAX}
use Rattle.bc_history.specs.declared.entry.Entry.{Entry}
use Rattle.bc_history.specs.declared.entry.Input.{Input}
use Rattle.bc_history.specs.declared.scenario.Scenario.{Scenario}
use Rattle.bc_history.specs.Phases.Inputs.{is_read}
use Rattle.bc_history.specs.Phases.Step.{state_of}
use Rattle.bc_history.specs.Phases.EntryEffects.{entry_after}
use Rattle.bc_history.specs.Run.NextInputs.{IsDue}

-- the entry is due after those before it, it has a reading exactly where it is a frame or a timer,
-- and it has the moment and the effects that follow
pub record Follows (s : Scenario) (before : List Entry) (e : Entry) : Type 0 where
  pub due : IsDue s (state_of s before) e.input
  pub read : is_some e.seen ≡ is_read e.input
  pub made : e ≡ entry_after s before e.input e.seen

-- each entry follows those before it
abbrev pub Continues : Scenario → List Entry → Type 0
Continues s [] = Unit {0}
Continues s (e ∷ before) = Follows s before e × Continues s before

-- at most ENTRIES_MAX entries, each of which follows those before it
pub record IsHistory (s : Scenario) (entries : List Entry) : Type 0 where
  pub few : length entries ≤ ENTRIES_MAX
  pub continues : Continues s entries

-- no actor has a next input that is due
abbrev pub IsFinished : Scenario → List Entry → Type 0
IsFinished s entries = (input : Input) → ¬ (IsDue s (state_of s entries) input)
