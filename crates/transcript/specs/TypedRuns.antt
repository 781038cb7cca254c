-- Runs whose numbers lie in the ranges of the types of their fields (project): every value of the
-- type `Run` is one.
use Rattle.std.specs.Prelude.{length, All, Option, Some, None}
use Rattle.ptp_base.specs.declared.identity.PortId.{PortId}
use Rattle.model_clock.specs.declared.state.ClockState.{ClockState}
use Rattle.ptp_profile.specs.declared.timing.Measure.{Measure}
use Rattle.ptp_profile.specs.declared.seats.Held.{Held}
use Rattle.ptp_profile.specs.declared.seats.Log.{Log}
use Rattle.bc_history.specs.declared.entry.Moved.{Moved}
use Rattle.bc_history.specs.declared.entry.Sent.{Sent}
use Rattle.bc_history.specs.declared.entry.Told.{Told}
use Rattle.bc_history.specs.declared.entry.Effects.{Effects}
use Rattle.bc_history.specs.declared.entry.Entry.{Entry}
use Rattle.bc_history.specs.declared.entry.Run.{Run}
use Rattle.transcript.specs.TypedLines.{IsWithin, IsWithinSigned, AreOctets, IsTypedInput, IsTypedReading, IsTypedPort, IsTypedOrder, IsTypedMeasure, IsTypedOptionLead, IsTypedLogEntry}

abbrev pub IsTypedParent : Option PortId → Type 0
IsTypedParent None = Unit {0}
IsTypedParent (Some parent) = IsTypedPort parent

abbrev pub IsTypedHeld : Held → Type 0
IsTypedHeld held = IsWithin 8 held.clock × IsWithin 32 held.gener × IsWithin 8 held.ctrl

abbrev pub IsTypedMeasured : Option (Measure × Held) → Type 0
IsTypedMeasured None = Unit {0}
IsTypedMeasured (Some m) = IsTypedMeasure m.0 × IsTypedHeld m.1

abbrev pub IsTypedTold : Option Told → Type 0
IsTypedTold None = Unit {0}
IsTypedTold (Some told) = IsTypedOptionLead told.lead × IsWithin 32 told.missed

abbrev pub IsTypedMove : Moved → Type 0
IsTypedMove m = IsWithin 16 m.port

abbrev pub IsTypedSent : Sent → Type 0
IsTypedSent sent = IsWithin 16 sent.port × AreOctets sent.octets

pub record IsTypedEffects (f : Effects) : Type 0 where
  pub states : All IsTypedMove f.states
  pub parent : IsTypedParent f.parent
  pub orders : All IsTypedOrder f.orders
  pub measure : IsTypedMeasured f.measure
  pub frames : All IsTypedSent f.frames
  pub told : IsTypedTold f.told
  pub answers : All AreOctets f.answers

pub record IsTypedEntry (e : Entry) : Type 0 where
  pub moment : IsWithin 64 e.moment
  pub input : IsTypedInput e.input
  pub seen : IsTypedReading e.seen
  pub effects : IsTypedEffects e.effects

pub record IsTypedOpening (c : ClockState) : Type 0 where
  pub tick : IsWithin 64 c.tick
  pub time : IsWithinSigned 63 c.time
  pub freq : IsWithinSigned 63 c.freq
  pub drift : IsWithinSigned 63 c.drift

pub record IsTypedLog (log : Log) : Type 0 where
  pub clock : IsWithin 8 log.clock
  pub opening : IsTypedOpening log.opening
  pub entries : All IsTypedLogEntry log.entries
  pub count : IsWithin 64 (length log.entries)

-- a run that the type `Run` can hold
pub record IsTypedRun (run : Run) : Type 0 where
  pub entries : All IsTypedEntry run.entries
  pub logs : All IsTypedLog run.logs
  pub count : IsWithin 64 (length run.entries)
