-- What the newest entry of a history tells. Its reading is the hub's `newest_seen`.
use Rattle.std.specs.Prelude.{List, [], ◌∷◌, Option, None}
use Rattle.ptp_profile.specs.declared.seats.Held.{Held}
use Rattle.ptp_profile.specs.declared.timing.Measure.{Measure}
use Rattle.bc_history.specs.declared.entry.Entry.{Entry}
use Rattle.bc_history.specs.declared.entry.Told.{Told}

-- the measure that it gave, with the stamp of the port's clock, if any
abbrev pub newest_measure : List Entry → Option (Measure × Held)
newest_measure [] = None
newest_measure (e ∷ before) = e.effects.measure

-- what a follower was told, if anything
abbrev pub newest_told : List Entry → Option Told
newest_told [] = None
newest_told (e ∷ before) = e.effects.told
