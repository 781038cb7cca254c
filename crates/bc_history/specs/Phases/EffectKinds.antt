-- Which effects an entry has by the kind of its input.
use Rattle.std.specs.Prelude.{◌≡◌, Bool, true, false, ◌&&◌, [], is_some, slice_get, None}
use Rattle.bc_history.specs.declared.entry.Entry.{Entry}
use Rattle.bc_history.specs.declared.entry.Input.{Input}
use Rattle.bc_history.specs.declared.entry.Input.TheVariants.{Frame, Timed, Down, Up, Report, Turn, Sampled, Query}
use Rattle.bc_history.specs.Phases.Inputs.{port_at, is_read}
use Rattle.bc_history.specs.Phases.State.{State}

-- the input is a frame of a port
abbrev pub is_frame : Input → Bool
is_frame (Frame port tick octets) = true
is_frame _ = false

-- the input is a turn of a follower
abbrev pub is_turn : Input → Bool
is_turn (Turn clock tick) = true
is_turn _ = false

-- the input is a query
abbrev pub is_query : Input → Bool
is_query (Query tick text) = true
is_query _ = false

-- whom the input is of is there: its port, or the follower of its clock
abbrev pub is_there : State → Input → Bool
is_there h (Frame port tick octets) = is_some (port_at h.core.ports port)
is_there h (Timed port tick timer) = is_some (port_at h.core.ports port)
is_there h (Down port tick) = is_some (port_at h.core.ports port)
is_there h (Up port tick) = is_some (port_at h.core.ports port)
is_there h (Report port tick gener action outcome) = is_some (port_at h.core.ports port)
is_there h (Turn clock tick) = is_some (slice_get h.followers clock)
is_there h (Sampled clock tick lead theirs own action outcome) =
    is_some (slice_get h.followers clock)
is_there h (Query tick text) = true

-- an entry after a history that gave h tells what its input is for
pub record TellsByKind (h : State) (e : Entry) : Type 0 where
  -- each frame has a fate, and nothing else has one
  pub fate : is_some e.effects.fate ≡ (is_frame e.input && is_there h e.input)
  -- each turn is told something, and nobody else is
  pub told : is_some e.effects.told ≡ (is_turn e.input && is_there h e.input)
  -- only a frame gives a measure
  pub measure : is_frame e.input ≡ false → e.effects.measure ≡ None
  -- only what comes with a reading sends frames: a frame and a timer
  pub frames : is_read e.input ≡ false → e.effects.frames ≡ []
  -- only a query asks and is answered, and one that makes no request is not
  pub asked : is_query e.input ≡ false → e.effects.asked ≡ None
  pub answers : is_query e.input ≡ false → e.effects.answers ≡ []
  pub refused : is_some e.effects.asked ≡ true → e.effects.answers ≡ []
