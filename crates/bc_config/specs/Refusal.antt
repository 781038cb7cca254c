-- What a refusal says of a text.
use Rattle.std.specs.Prelude.{ℕ, List}
use Rattle.bc_history.specs.Scenario.LineFaults.{IsFirstFault}
use Rattle.bc_config.specs.declared.refusal.LineError.{LineError}
use Rattle.bc_config.specs.declared.refusal.LineError.TheVariants.{Fault, NoMemory as No_room}
use Rattle.bc_config.specs.declared.refusal.Refusal.{Refusal}
use Rattle.bc_config.specs.declared.refusal.Refusal.TheVariants.{Line, NoMemory}

-- the line is the least faulty one and the reason its first; want of memory is free
abbrev pub IsRefusedBy : List ℕ → Refusal → Type 0
IsRefusedBy text (Line line reason) = IsFirstFault text line reason
IsRefusedBy text NoMemory = Unit {0}

-- a line that was not taken
abbrev pub refusal_at : ℕ → LineError → Refusal
refusal_at line (Fault reason) = Line line reason
refusal_at line No_room = NoMemory
