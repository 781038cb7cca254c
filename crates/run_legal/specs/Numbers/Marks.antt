-- What an event read of clocks, what it asked of them, and up to which entry it knew their logs
-- (project). All lists have the newest first.
use Rattle.std.specs.Prelude.{ℕ, Bool, true, false, ◌==◌, List, [], ◌∷◌, ◌++◌, map, filter, flat_map, Option, None, Some, option_map, option_to_list, unwrap_or}
use Rattle.ptp_base.specs.declared.port_conf.PortConf.{PortConf}
use Rattle.ptp_profile.specs.declared.timing.Action.{Action}
use Rattle.ptp_profile.specs.declared.seats.Held.{Held}
use Rattle.bc_history.specs.declared.entry.Entry.{Entry}
use Rattle.bc_history.specs.declared.entry.Input.{Input}
use Rattle.bc_history.specs.declared.entry.Input.TheVariants.{Report, Sampled}
use Rattle.bc_history.specs.declared.entry.Outcome.{Outcome}
use Rattle.bc_history.specs.declared.entry.Outcome.TheVariants.{Unlocked, Changed, Superseded, Spent}
use Rattle.bc_history.specs.declared.entry.Seen.{Seen}
use Rattle.bc_history.specs.declared.scenario.Scenario.{Scenario}
use Rattle.bc_history.specs.Phases.Inputs.{port_of, port_at, event_of}
use Rattle.bc_history.specs.Phases.State.{Event}
use Rattle.bc_history.specs.Run.World.{held_by}

-- ---- readings

-- a reading of a clock
pub record Sight : Type 0 where
  pub clock : ℕ
  pub seen : Seen

-- the clock of a port, 0 where there is no such port
abbrev pub clock_of : Scenario → ℕ → ℕ
clock_of s p = unwrap_or (option_map (λ (conf : PortConf). conf.clock) (port_at s.ports p)) 0

-- the reading that the hub took of the clock of a port, where the event is a port's
abbrev pub hub_sights : Scenario → Event → List Sight
hub_sights s event = at (port_of event.input)
  where
    at : Option ℕ → List Sight
    at None = []
    at (Some p) =
        map (λ (seen : Seen). record { clock = clock_of s p; seen = seen })
        (option_to_list event.seen)

-- the two readings of a follower: of the clock that it copies, and then of its own
abbrev pub follower_sights : Input → List Sight
follower_sights (Sampled clock tick lead theirs own action outcome) =
    record { clock = clock; seen = own } ∷ record { clock = lead.source; seen = theirs } ∷ []
follower_sights _ = []

-- all readings of an event
abbrev pub sights_of : Scenario → Event → List Sight
sights_of s event = follower_sights event.input ++ hub_sights s event

-- ---- exchanges

-- what was asked of a clock at a tick, under which stamp, and what became of it
pub record Exchange : Type 0 where
  pub held : Held
  pub tick : ℕ
  pub action : Action
  pub outcome : Outcome

-- the stamp of a port's clock, of a generation, with the port as its controller
abbrev pub held_by_port : Scenario → (p gener : ℕ) → Held
held_by_port s p gener = record { clock = clock_of s p; gener = gener; ctrl = p }

-- the exchange of an input: a port's under the generation that it measured in, a follower's under
-- its lead
abbrev pub exchange_of : Scenario → Input → Option Exchange
exchange_of s (Report port tick gener action outcome) =
    Some
    (record {
      held = held_by_port s port gener;
      tick = tick;
      action = action;
      outcome = outcome;
    })
exchange_of s (Sampled clock tick lead theirs own action outcome) =
    Some (record { held = held_by clock lead; tick = tick; action = action; outcome = outcome })
exchange_of s _ = None

-- ---- marks

-- a clock's log was known up to the entry with this number, which may be a change just made
pub record Mark : Type 0 where
  pub clock : ℕ
  pub number : ℕ
  pub is_change : Bool

-- what a reading knew
abbrev pub sight_mark : Sight → Mark
sight_mark sight =
    record { clock = sight.clock; number = sight.seen.number; is_change = false }

-- what an exchange with a clock knew that had this outcome
abbrev pub outcome_marks : ℕ → Outcome → List Mark
outcome_marks clock Unlocked = []
outcome_marks clock (Changed number) =
    record { clock = clock; number = number; is_change = true } ∷ []
outcome_marks clock (Superseded newer at) =
    record { clock = clock; number = at; is_change = false } ∷ []
outcome_marks clock (Spent at) =
    record { clock = clock; number = at; is_change = false } ∷ []

-- what the exchange of an input knew
abbrev pub exchange_marks : Scenario → Input → List Mark
exchange_marks s input =
    flat_map (λ (exchange : Exchange). outcome_marks exchange.held.clock exchange.outcome)
    (option_to_list (exchange_of s input))

-- what an event knew: its exchange comes after its readings
abbrev pub marks_of : Scenario → Event → List Mark
marks_of s event = exchange_marks s event.input ++ map sight_mark (sights_of s event)

-- what entries knew
abbrev pub marks_in : Scenario → List Entry → List Mark
marks_in s entries = flat_map (λ (e : Entry). marks_of s (event_of e)) entries

-- the changes that outcomes name
abbrev pub changes_in : Scenario → List Entry → List Mark
changes_in s entries = filter (λ (mark : Mark). mark.is_change) (marks_in s entries)

-- the marks of one clock
abbrev pub of_clock : ℕ → List Mark → List Mark
of_clock clock marks = filter (λ (mark : Mark). mark.clock == clock) marks
