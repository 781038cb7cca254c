-- The run that a command makes of the scenario of a text, and where it makes none (project). `gen`
-- is about no text.
use Rattle.std.specs.Prelude.{ℕ}
use Rattle.bc_history.specs.declared.scenario.Scenario.{Scenario}
use Rattle.bc_history.specs.declared.entry.Run.{Run}
use Rattle.bc_history.specs.Run.World.{IsWorld, IsEnd, Not_due, Events as Too_many}
use Rattle.run_legal.specs.Runs.LegalRuns.{IsLegal, IsWindowed}
use Rattle.bc_actors.specs.RunErrors.{IsRunError}
use Rattle.bc_actors.specs.declared.run.RunError.TheVariants.{Events}
use Rattle.bc_top.specs.declared.words.Command.{Command}
use Rattle.bc_top.specs.declared.words.Command.TheVariants.{Replay, Run as By_threads, Gen}

-- a run that the command makes of a scenario: `replay` makes the World's, `run` a windowed one;
-- both are legal
abbrev pub IsRunBy : Command → Scenario → Run → Type 0
IsRunBy Replay s run = IsWorld s run × IsLegal s run
IsRunBy By_threads s run = IsLegal s run × IsWindowed s run
IsRunBy (Gen n) s run = ⊥

-- by the command a scenario has one event too many: at `replay` its turns end so, at `run` an open
-- and windowed run is full, and another event is due
abbrev pub Overflows : Command → Scenario → Type 0
Overflows Replay s = IsEnd s Too_many
Overflows By_threads s = (held : Run) × IsRunError s (Events held)
Overflows (Gen n) s = ⊥

-- by the command a scenario ends at a turn of its schedule which has no step; `run` takes no turns
abbrev pub StopsAt : Command → Scenario → ℕ → Type 0
StopsAt Replay s turn = IsEnd s (Not_due turn)
StopsAt By_threads s turn = ⊥
StopsAt (Gen n) s turn = ⊥
