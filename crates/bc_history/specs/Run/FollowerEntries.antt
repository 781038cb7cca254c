-- What a follower's own entries say of it (project). The newest entry is first.
use Rattle.std.specs.Prelude.{ℕ, ◌+◌, ◌<◌, Bool, false, ◌==◌, if◌then◌else◌, List, [], ◌∷◌, filter, length, Option, None, option_map, Contains}
use Rattle.ptp_profile.specs.declared.roles.Lead.{Lead}
use Rattle.ptp_profile.specs.declared.roles.RoleOrder.{RoleOrder}
use Rattle.bc_history.specs.declared.entry.Entry.{Entry}
use Rattle.bc_history.specs.declared.entry.Input.{Input}
use Rattle.bc_history.specs.declared.entry.Input.TheVariants.{Frame, Timed, Down, Up, Report, Turn, Sampled, Query}
use Rattle.bc_history.specs.declared.entry.Who.TheVariants.{Follower}
use Rattle.bc_history.specs.declared.scenario.Scenario.{Scenario}
use Rattle.bc_history.specs.Phases.Inputs.{tick_of}
use Rattle.bc_history.specs.Phases.State.{TickLead}
use Rattle.bc_history.specs.Run.Actors.{is_by}
use Rattle.bc_history.specs.Run.FollowerPlace.{told_lead}

-- the input is a turn of the follower of clock c
abbrev pub is_turn_of : ℕ → Input → Bool
is_turn_of c (Frame port tick octets) = false
is_turn_of c (Timed port tick timer) = false
is_turn_of c (Down port tick) = false
is_turn_of c (Up port tick) = false
is_turn_of c (Report port tick gener action outcome) = false
is_turn_of c (Turn clock tick) = c == clock
is_turn_of c (Sampled clock tick lead theirs own action outcome) = false
is_turn_of c (Query tick text) = false

-- how many turns the follower of clock c took
abbrev pub turns_by : ℕ → List Entry → ℕ
turns_by c entries = length (filter (λ (e : Entry). is_turn_of c e.input) entries)

-- what an entry told its follower to copy, at the tick of its input
abbrev pub led_with : Entry → Option TickLead
led_with e = option_map (λ lead. record { tick = tick_of e.input; lead = lead }) (told_lead e)

-- what the last entry of the follower of clock c told it to copy, where it told it anything
abbrev pub leading_by : ℕ → List Entry → Option TickLead
leading_by c [] = None
leading_by c (e ∷ before) = if is_by (Follower c) e then led_with e else leading_by c before

-- a lead of the follower of clock c: a clock of the scenario, and an order gave clock c to its
-- follower, to copy it
pub record IsLeadOf (s : Scenario) (orders : List RoleOrder) (c : ℕ) (lead : Lead) : Type 0 where
  pub source : lead.source < length s.clocks
  pub ordered : Contains orders
      (record { clock = c; gener = lead.gener; ctrl = 128 + lead.source })
