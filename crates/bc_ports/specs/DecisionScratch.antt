-- What a decision works on, and what it leaves of the data sets.
use Rattle.std.specs.Prelude.{◌≡◌, ◌+◌, ◌<◌, ◌≤◌, ℕ, List, [], ◌∷◌, map, length, Option, Some, None, IfSome}
use Rattle.std.specs.Int.{w64, saturate_signed}
use Rattle.ptp_base.specs.declared.limits.TheConstants.{STEPS_END}
use Rattle.ptp_base.specs.declared.announcement.Announcement.{Announcement}
use Rattle.ptp_profile.specs.declared.port_best.PortBest.{PortBest}
use Rattle.ptp_base.specs.declared.port_state.PortState.{PortState}
use Rattle.ptp_profile.specs.declared.timing.Measure.{Measure}
use Rattle.data_sets.specs.declared.data_sets.DataSets.{DataSets}
use Rattle.data_sets.specs.declared.port_set.PortSet.{PortSet}
use Rattle.bc_history.specs.Phases.DecisionPhase.{best_of}
use Rattle.bc_history.specs.Phases.HubPort.{HubPort}
use Rattle.bc_ports.specs.declared.scratch.DecisionScratch.{DecisionScratch}

-- the announcement, if there is one, may be qualified (9.3.2.5)
abbrev pub IsNear : Option Announcement → Type 0
IsNear best = IfSome best (λ a. a.steps < STEPS_END)

-- the state of each port, and its Erbest at m
abbrev pub port_bests : ℕ → List HubPort → List PortBest
port_bests m hs = map (λ (h : HubPort). record { state = h.port.state; best = best_of m h }) hs

-- there is room for n ports
pub record HasRoom (n : ℕ) (s : DecisionScratch) : Type 0 where
  pub bests : n ≤ length s.bests.items + s.bests.spare
  pub codes : s.codes.len ≡ n
  pub states : n ≤ length s.states.items + s.states.spare

-- what a decision leaves of the data sets: the last measure, and portDS of each port
pub record OthersStay (old new : DataSets) : Type 0 where
  pub offset : new.offset ≡ old.offset
  pub delay : new.delay ≡ old.delay
  pub ports : new.ports ≡ old.ports

-- a measure is taken into the data sets, and nothing else of them changes
abbrev pub IsMeasured : DataSets → DataSets → Option Measure → Type 0
IsMeasured old new None = new ≡ old
IsMeasured old new (Some m) =
    new ≡ record old { offset = saturate_signed w64 m.offset; delay = saturate_signed w64 m.delay }

-- ---- portDS of all ports

-- the states in portDS
abbrev pub states_in : List PortSet → List PortState
states_in sets = map (λ (set : PortSet). set.state) sets

-- each with another state
abbrev pub with_states : List PortSet → List PortState → List PortSet
with_states [] states = []
with_states (set ∷ sets) [] = set ∷ sets
with_states (set ∷ sets) (state ∷ states) = record set { state = state } ∷ with_states sets states
