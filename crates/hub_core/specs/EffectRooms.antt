-- Places for what an event tells, and for its copy.
use Rattle.std.specs.Prelude.{◌≡◌, ℕ, ◌*◌, ◌≤◌, [], length, All}
use Rattle.ptp_base.specs.Room.{Reserved}
use Rattle.ptp_base.specs.declared.limits.TheConstants.{SENT_MAX}
use Rattle.bc_history.specs.declared.entry.Effects.{Effects}
use Rattle.bc_history.specs.declared.entry.Sent.{Sent}
use Rattle.bc_history.specs.declared.scenario.Scenario.{Scenario}
use Rattle.hub_core.specs.declared.effect_rooms.EffectRooms.{EffectRooms}
use Rattle.hub_core.specs.declared.effect_rooms.EffectCopies.{EffectCopies}

-- an empty list with so many places, or more
pub record HasPlacesFor {X : Type 0} (n : ℕ) (r : Reserved X) : Type 0 where
  pub empty : r.items ≡ []
  pub places : n ≤ r.spare

-- places for the moves of so many ports, the orders of so many clocks, and two frames
pub record AreRooms (ports clocks : ℕ) (r : EffectRooms) : Type 0 where
  pub moves : HasPlacesFor (2 * ports) r.moves
  pub orders : HasPlacesFor (2 * clocks) r.orders
  pub frames : HasPlacesFor 2 r.frames
  pub sends : HasPlacesFor 2 r.sends

-- the same for a copy
pub record AreCopies (ports clocks : ℕ) (c : EffectCopies) : Type 0 where
  pub moves : HasPlacesFor (2 * ports) c.moves
  pub orders : HasPlacesFor (2 * clocks) c.orders
  pub sends : HasPlacesFor 2 c.sends
  pub first : HasPlacesFor SENT_MAX c.first
  pub second : HasPlacesFor SENT_MAX c.second

-- a frame no longer than an Announce (13.5)
abbrev pub IsShort : Sent → Type 0
IsShort sent = length sent.octets ≤ SENT_MAX

-- what an event of ports tells, with so many ports and clocks: at most two moves a port, two orders
-- a clock, and two short frames
pub record AreFew (ports clocks : ℕ) (f : Effects) : Type 0 where
  pub moves : length f.states ≤ 2 * ports
  pub orders : length f.orders ≤ 2 * clocks
  pub frames : length f.frames ≤ 2
  pub short : All IsShort f.frames
  pub unanswered : f.answers ≡ []

-- so of the ports and clocks of a scenario
abbrev pub TellsFew : Scenario → Effects → Type 0
TellsFew s f = AreFew (length s.ports) (length s.clocks) f
