-- Inputs of followers: turns and samples; and which inputs the hub takes.
use Rattle.std.specs.Prelude.{◌<◌, Bool, true, false, length}
use Rattle.bc_history.specs.declared.entry.Input.{Input}
use Rattle.bc_history.specs.declared.entry.Input.TheVariants.{Frame, Timed, Down, Up, Report, Turn, Sampled, Query}
use Rattle.bc_notices.specs.NoticesView.{NoticesView}

-- the input is a follower's
abbrev pub is_of_follower : Input → Bool
is_of_follower (Frame port tick octets) = false
is_of_follower (Timed port tick timer) = false
is_of_follower (Down port tick) = false
is_of_follower (Up port tick) = false
is_of_follower (Report port tick gener action outcome) = false
is_of_follower (Turn clock tick) = true
is_of_follower (Sampled clock tick lead theirs own action outcome) = true
is_of_follower (Query tick text) = false

-- the input is a port's or a follower's, and no query
abbrev pub IsServed : Input → Type 0
IsServed (Frame port tick octets) = Unit {0}
IsServed (Timed port tick timer) = Unit {0}
IsServed (Down port tick) = Unit {0}
IsServed (Up port tick) = Unit {0}
IsServed (Report port tick gener action outcome) = Unit {0}
IsServed (Turn clock tick) = Unit {0}
IsServed (Sampled clock tick lead theirs own action outcome) = Unit {0}
IsServed (Query tick text) = ⊥

-- where it is a turn, the follower is there
abbrev pub IsTurnerThere : NoticesView → Input → Type 0
IsTurnerThere n (Turn clock tick) = clock < length n.followers
IsTurnerThere n (Frame port tick octets) = Unit {0}
IsTurnerThere n (Timed port tick timer) = Unit {0}
IsTurnerThere n (Down port tick) = Unit {0}
IsTurnerThere n (Up port tick) = Unit {0}
IsTurnerThere n (Report port tick gener action outcome) = Unit {0}
IsTurnerThere n (Sampled clock tick lead theirs own action outcome) = Unit {0}
IsTurnerThere n (Query tick text) = Unit {0}
