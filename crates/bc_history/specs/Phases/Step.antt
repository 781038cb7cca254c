-- A history and one more entry: its own port, the decision, the roles, the followers.
use Rattle.std.specs.Prelude.{ℕ, ◌+◌, max, List, [], ◌∷◌, Option, Some, None, option_map, option_and_then}
use Rattle.ptp_profile.specs.declared.timing.Measure.{Measure}
use Rattle.ptp_profile.specs.declared.roles.RoleOrder.{RoleOrder}
use Rattle.ptp_profile.specs.declared.seats.Held.{Held}
use Rattle.ptp_profile.specs.Roles.Edges.{stamp_of}
use Rattle.bc_history.specs.declared.entry.Input.{Input}
use Rattle.bc_history.specs.declared.entry.Input.TheVariants.{Query}
use Rattle.bc_history.specs.declared.entry.Entry.{Entry}
use Rattle.bc_history.specs.declared.port_input.PortInput.{PortInput}
use Rattle.bc_history.specs.declared.scenario.Options.{Options}
use Rattle.bc_history.specs.declared.scenario.Scenario.{Scenario}
use Rattle.bc_history.specs.Phases.Inputs.{tick_of, port_of, port_at, port_input, value_of, event_of}
use Rattle.bc_history.specs.Phases.OpeningState.{opening}
use Rattle.bc_history.specs.Phases.PortPhase.{after_port}
use Rattle.bc_history.specs.Phases.DecisionPhase.{after_decision}
use Rattle.bc_history.specs.Phases.RolePhase.{after_roles}
use Rattle.bc_history.specs.Phases.NoticePhase.{after_notices, after_turn}
use Rattle.bc_history.specs.Phases.QueryAnswers.{requests_after}
use Rattle.bc_history.specs.Phases.State.{Event, Follower, Core, Roles, State}
use Rattle.bc_history.specs.Phases.HubPort.{TickMeasure, HubPort}
use Rattle.bc_history.specs.declared.port_input.PortEntry.{PortEntry}

-- ---- the phases of an entry

-- a clock with the stamp of its last order
abbrev pub held_of : ℕ → List RoleOrder → Held
held_of clock orders =
    record {
      clock = clock;
      gener = (stamp_of clock orders).gener;
      ctrl = (stamp_of clock orders).ctrl;
    }

-- the clock of a port so; a port that is not there stands for clock 0
abbrev pub port_held : List RoleOrder → Option HubPort → Held
port_held orders None = held_of 0 orders
port_held orders (Some h) = held_of h.port.conf.clock orders

-- what the phases of ports look at, where an entry is one of a port
abbrev pub port_entry : State → Event → Option PortEntry
port_entry h e = option_map made (port_input e.input)
  where
    made : PortInput → PortEntry
    made p = record {
      input = p;
      held = port_held h.roles.orders (port_at h.core.ports p.number);
      reading =
          value_of e.seen;
    }

-- ports and data sets at the moment of an entry: the greatest tick so far
abbrev pub at_moment : ℕ → Core → Core
at_moment tick c = record c { moment = max c.moment tick }

-- ports and data sets at the moment of an entry, before it
abbrev pub core_before : State → Event → Core
core_before h e = at_moment (tick_of e.input) h.core

-- after the entry's own port
abbrev pub port_phase : Options → Option PortEntry → Core → Core
port_phase o None c = c
port_phase o (Some e) c = after_port o e c

-- and after the decision, where the entry raises one
abbrev pub decision_phase : Options → Option PortEntry → Core → Core → Core
decision_phase o None before c = c
decision_phase o (Some e) before c = after_decision o e before c

-- ports and data sets after the entry's own port took its input, before the decision
abbrev pub core_between : Options → State → Event → Core
core_between o h e = port_phase o (port_entry h e) (core_before h e)

-- ports and data sets after an entry
abbrev pub core_after : Options → State → Event → Core
core_after o h e = decision_phase o (port_entry h e) (core_before h e) (core_between o h e)

-- the roles after an entry
abbrev pub roles_after : Options → State → Event → Roles
roles_after o h e = after_roles (core_after o h e) h.roles

-- the followers after a generation that begins with the entry
abbrev pub followers_between : Options → State → Event → List Follower
followers_between o h e = after_notices o (core_after o h e) h.roles (roles_after o h e) h.followers

-- the followers after an entry
abbrev pub followers_after : Options → State → Event → List Follower
followers_after o h e =
    after_turn o (core_after o h e) (roles_after o h e) e.input (followers_between o h e)

-- ---- all

-- what the entry's port measured
abbrev pub measure_at : Event → List HubPort → Option (Measure × Held)
measure_at e ports =
    option_map (λ (m : TickMeasure). (m.measure, m.held))
    (option_and_then (λ (h : HubPort). h.measured)
    (option_and_then (port_at ports) (port_of e.input)))

-- the last measure of any port
abbrev pub last_measure : Option (Measure × Held) → Option Measure → Option Measure
last_measure None former = former
last_measure (Some m) former = Some m.0

-- how many queries came
abbrev pub queries_after : Input → ℕ → ℕ
queries_after (Query tick text) n = n + 1
queries_after _ n = n

-- what a history gives with one entry more
unfoldable pub step : Options → State → Event → State
step o h e = record {
  core = core_after o h e;
  roles = roles_after o h e;
  measured = last_measure (measure_at e (core_after o h e).ports) h.measured;
  followers = followers_after o h e;
  queries = queries_after e.input h.queries;
  requests = requests_after e.input h.requests;
}

-- what a history gives; the newest entry is first
unfoldable pub state_of : Scenario → List Entry → State
state_of s [] = opening s
state_of s (e ∷ before) = step s.options (state_of s before) (event_of e)
