-- All that a hub keeps of its history but the entries.
use Rattle.std.specs.Prelude.{◌≡◌, ℕ, ◌+◌, ◌*◌, ◌<◌, ◌≤◌, List, ◌∷◌, length, map}
use Rattle.ptp_base.specs.declared.limits.TheConstants.{ENTRIES_MAX}
use Rattle.ptp_base.specs.declared.port_conf.PortConf.{PortConf}
use Rattle.ptp_profile.specs.declared.seats.LogEntry.{LogEntry}
use Rattle.bc_history.specs.declared.entry.Entry.{Entry}
use Rattle.bc_history.specs.declared.entry.Input.{Input}
use Rattle.bc_history.specs.declared.scenario.Scenario.{Scenario}
use Rattle.bc_history.specs.Phases.EntryEffects.{entry_after}
use Rattle.bc_history.specs.Run.NextInputs.{IsDue}
use Rattle.bc_history.specs.Scenario.ScenarioRules.{IsScenario}
use Rattle.bc_history.specs.Phases.State.{State}
use Rattle.bc_history.specs.Phases.Step.{state_of}
use Rattle.bc_ports.specs.Representation.{ClockRepresents, IsSound}
use Rattle.bc_roles.specs.RolesView.{RolesRepresent, RolesView}
use Rattle.bc_notices.specs.NoticesView.{NoticesRepresent}
use Rattle.hub_core.specs.PortReading.{input_seen}
use Rattle.hub_core.specs.declared.hub_parts.HubParts.{HubParts}

-- the clock of each port
abbrev pub clocks_by : Scenario → List ℕ
clocks_by s = map (λ (conf : PortConf). conf.clock) s.ports

-- ports, data sets, roles and followers are what the history gives; seats and places are those of the
-- scenario
pub record PartsRepresent (s : Scenario) (m : HubParts) (h : State) : Type 0 where
  pub clocks : m.port_clocks.items ≡ clocks_by s
  pub core : ClockRepresents s.options m.core h.core h.measured
  pub sound : IsSound m.core
  pub ports : m.core.ports.len ≡ length s.ports
  pub roles : RolesRepresent m.roles h.roles
  pub rows : m.roles.seats.rows ≡ s.options.seat_rows
  pub openings : m.roles.seats.openings ≡ s.clocks
  pub stamps : length m.roles.stamps ≡ length s.clocks
  pub places : length s.ports ≤ length m.states.items + m.states.spare
  pub notices : NoticesRepresent s.options m.notices h.followers
  pub drafts : length s.clocks ≤ length m.drafts.items + m.drafts.spare

-- another generation may begin, and there is a place for its orders
pub record HasOrderRoom (r : RolesView) : Type 0 where
  pub gener : r.generation.gener < ENTRIES_MAX
  pub spare : 2 * length r.stamps ≤ r.seats.spare

-- the machine stands where an input is due, and may have one entry more
pub record IsAt (m : HubParts) (input : Input) : Type 0 where
  pub scenario : Scenario
  pub entries : List Entry
  pub rules : IsScenario scenario
  pub machine : PartsRepresent scenario m (state_of scenario entries)
  pub due : IsDue scenario (state_of scenario entries) input
  pub few : length entries < ENTRIES_MAX
  pub room : HasOrderRoom m.roles

-- the machine made of the input the entry that the history has next, and is what the history and
-- that entry give
pub record PartsYield (s : Scenario) (entries : List Entry) (logs : List (List LogEntry)) (input : Input) (new : HubParts) (entry : Entry) : Type 0 where
  pub entry_is : entry ≡ entry_after s entries input (input_seen s logs input)
  pub machine : PartsRepresent s new (state_of s (entry ∷ entries))
