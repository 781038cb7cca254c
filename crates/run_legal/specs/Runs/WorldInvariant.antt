-- What is so of the World from step to step: its entries and logs belong together, and each actor
-- is at a place of its job that follows from them (project).
use Rattle.std.specs.Prelude.{ℕ, ◌<◌, ◌≡◌, ◌≢◌, ◌⊎◌, List, ◌∷◌, length, Some, None, slice_get}
use Rattle.ptp_base.specs.declared.limits.TheConstants.{ENTRIES_MAX}
use Rattle.ptp_profile.specs.declared.timing.Action.{Action}
use Rattle.ptp_profile.specs.declared.timing.Action.TheVariants.{Unlocked as Unlocked_action}
use Rattle.ptp_profile.specs.declared.roles.Lead.{Lead}
use Rattle.ptp_profile.specs.Roles.SeatLogs.{HasOrder, log_at}
use Rattle.bc_history.specs.declared.entry.Input.{Input}
use Rattle.bc_history.specs.declared.entry.Input.TheVariants.{Report, Sampled}
use Rattle.bc_history.specs.declared.entry.Outcome.{Outcome}
use Rattle.bc_history.specs.declared.entry.Outcome.TheVariants.{Unlocked}
use Rattle.bc_history.specs.declared.entry.Seen.{Seen}
use Rattle.bc_history.specs.declared.entry.Who.{Who}
use Rattle.bc_history.specs.declared.entry.Who.TheVariants.{Follower as A_follower}
use Rattle.bc_history.specs.declared.place.PortPlace.{PortPlace}
use Rattle.bc_history.specs.declared.place.PortPlace.TheVariants.{Waits, Exchanges, Reports}
use Rattle.bc_history.specs.declared.scenario.Scenario.{Scenario}
use Rattle.bc_history.specs.Phases.Inputs.{port_at}
use Rattle.bc_history.specs.Phases.State.{Follower}
use Rattle.bc_history.specs.Phases.EntryEffects.{event}
use Rattle.bc_history.specs.Phases.Step.{state_of}
use Rattle.bc_history.specs.Run.Actors.{entries_of}
use Rattle.bc_history.specs.declared.place.FollowerPlace.{FollowerPlace}
use Rattle.bc_history.specs.declared.place.FollowerPlace.TheVariants.{Turns as Turns_next, ReadsTheirs as Reads_theirs, ReadsOwn as Reads_own, Exchanges as Exchanges_own, Samples}
use Rattle.bc_history.specs.Run.PortPlace.{place_by_entries, port_place}
use Rattle.bc_history.specs.Run.World.{World, Event, Free, Going, held_by, step_of, run_of, status_after}
use Rattle.run_legal.specs.Numbers.Marks.{Sight, sight_mark, marks_in}
use Rattle.run_legal.specs.Numbers.Knowledge.{known_to, AreRising, IsUpTo, IsAbreast}
use Rattle.run_legal.specs.Runs.Courses.{IsCourse, IsSightRight, IsReadRight, IsSteered, IsAgreed}
use Rattle.run_legal.specs.Runs.LegalRuns.{IsOpen}

-- ---- ports

-- a port is to report: it came there by its own entries and exchanges, and its report would be
-- right as to outcome and numbers if it came now
pub record IsToReport (s : Scenario) (w : World) (p tick gener : ℕ) (action : Action) (outcome : Outcome) : Type 0 where
  pub exchanges : List Outcome
  pub place :
      port_place s.options p w.entries exchanges ≡ Reports tick gener action outcome
  pub agreed : IsAgreed s w.logs (Report p tick gener action outcome)
  pub abreast : IsAbreast s w.logs (event (Report p tick gener action outcome) None) w.entries

-- a port is where its entries put it, or has made its exchange and is to report
abbrev pub IsPortPlaced : Scenario → World → ℕ → PortPlace → Type 0
IsPortPlaced s w p Waits = place_by_entries s.options p w.entries ≡ Waits
IsPortPlaced s w p (Exchanges tick held action) =
    place_by_entries s.options p w.entries ≡ Exchanges tick held action
IsPortPlaced s w p (Reports tick gener action outcome) = IsToReport s w p tick gener action outcome

-- ---- followers

-- a sample would be right as to readings, action and numbers if it came now
pub record IsReady (s : Scenario) (w : World) (input : Input) : Type 0 where
  pub readings : IsReadRight s w.logs (event input None)
  pub action : IsSteered s input w.entries
  pub abreast : IsAbreast s w.logs (event input None) w.entries

-- the lead of a follower was ordered for its clock
abbrev pub IsLeadOrdered : World → ℕ → Lead → Type 0
IsLeadOrdered w c lead = HasOrder (log_at w.logs c) lead.gener (held_by c lead).ctrl

-- a follower of clock c is to read its own clock: it read the one that it copies
pub record IsToReadOwn (s : Scenario) (w : World) (c tick : ℕ) (lead : Lead) (theirs : Sight) : Type 0 where
  pub seen : IsSightRight s w.logs tick theirs
  pub ordered : IsLeadOrdered w c lead
  pub rising : AreRising (sight_mark theirs ∷ marks_in s (entries_of (A_follower c) w.entries))
  pub told : IsUpTo s w.logs (known_to (A_follower c) w.entries) (sight_mark theirs)

-- a follower of clock c is to change its own clock
pub record IsToExchange (s : Scenario) (w : World) (c tick : ℕ) (lead : Lead) (theirs own : Seen) (action : Action) : Type 0 where
  pub ordered : IsLeadOrdered w c lead
  pub asks : action ≢ Unlocked_action
  pub ready : IsReady s w (Sampled c tick lead theirs own action Unlocked)

-- a follower of clock c is to sample
pub record IsToSample (s : Scenario) (w : World) (c tick : ℕ) (lead : Lead) (theirs own : Seen) (action : Action) (outcome : Outcome) : Type 0 where
  pub ready : IsReady s w (Sampled c tick lead theirs own action outcome)
  pub agreed : IsAgreed s w.logs (Sampled c tick lead theirs own action outcome)

-- the last entry told a follower this lead at this tick
abbrev pub IsLed : Follower → ℕ → Lead → Type 0
IsLed f tick lead = f.leading ≡ Some (record { tick = tick; lead = lead })

-- a follower is where its last entry and what it did since put it
abbrev pub IsFollowerPlaced : Scenario → World → ℕ → Follower → FollowerPlace → Type 0
IsFollowerPlaced s w c f Turns_next = f.leading ≡ None
IsFollowerPlaced s w c f (Reads_theirs tick lead) = IsLed f tick lead × IsLeadOrdered w c lead
IsFollowerPlaced s w c f (Reads_own tick lead theirs) =
    IsLed f tick lead
    × IsToReadOwn s w c tick lead (record { clock = lead.source; seen = theirs })
IsFollowerPlaced s w c f (Exchanges_own tick lead theirs own action) =
    IsLed f tick lead × IsToExchange s w c tick lead theirs own action
IsFollowerPlaced s w c f (Samples tick lead theirs own action outcome) =
    IsLed f tick lead × IsToSample s w c tick lead theirs own action outcome

-- ---- all

-- each port of the World is where it may be
abbrev pub ArePortsPlaced : Scenario → World → Type 0
ArePortsPlaced s w =
    (p : ℕ) (place : PortPlace) → port_at w.ports p ≡ Some place → IsPortPlaced s w p place

-- each follower of the World is where it may be
abbrev pub AreFollowersPlaced : Scenario → World → Type 0
AreFollowersPlaced s w =
    (c : ℕ) (f : Follower) (place : FollowerPlace) →
    slice_get (state_of s w.entries).followers c ≡ Some f →
    slice_get w.followers c ≡ Some place → IsFollowerPlaced s w c f place

-- entries and logs of the World belong together, and all actors are where they may be
pub record IsRight (s : Scenario) (w : World) : Type 0 where
  pub course : IsCourse s w.entries w.logs
  pub port_count : length w.ports ≡ length s.ports
  pub ports : ArePortsPlaced s w
  pub follower_count : length w.followers ≡ length (state_of s w.entries).followers
  pub followers : AreFollowersPlaced s w

-- an actor's step: a reading or an exchange, or an event where there is room for one
abbrev pub IsStepTo : Scenario → World → Who → World → Type 0
IsStepTo s w who next =
    ((step_of s w who ≡ Some (Event next)) × (length w.entries < ENTRIES_MAX))
    ⊎ (step_of s w who ≡ Some (Free next))

-- a World that is right is so after each step of each actor
abbrev pub StaysRight : Scenario → Type 0
StaysRight s =
    (w next : World) (who : Who) → IsRight s w → IsStepTo s w who next → IsRight s next

-- each state of the World that goes on is an open run
abbrev pub IsOpenThroughout : Scenario → Type 0
IsOpenThroughout s = (n : ℕ) (w : World) → status_after s n ≡ Going w → IsOpen s (run_of s w)
