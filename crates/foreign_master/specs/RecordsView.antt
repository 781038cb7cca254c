-- What contracts see of Records.
use Rattle.std.specs.Prelude.{◌≡◌, ℕ, ◌<◌, List, [], ◌∷◌, IfSome}
use Rattle.ptp_base.specs.declared.announcement.Announcement.{Announcement}
use Rattle.ptp_base.specs.declared.limits.TheConstants.{STEPS_END}
use Rattle.ptp_base.specs.declared.identity.PortId.{PortId}
use Rattle.ptp_profile.specs.declared.foreign_master.KeptAnnounce.{KeptAnnounce}
use Rattle.ptp_profile.specs.Best.ForeignMasters.{winner}
use Rattle.foreign_master.specs.declared.foreign_master.ForeignMaster.{ForeignMaster}
use Rattle.foreign_master.specs.declared.pass.Pass.{Pass}
use Rattle.foreign_master.specs.ForeignMasterTable.{IsReached, MastersRepresent, said_by, oldest_of}

-- the port that hears, the length of its foreign master window in ns, the moment of the last kept
-- Announce (0 before the first one), and a foreign master for each sender that is kept
pub record RecordsView : Type 0 where
  pub receiver : PortId
  pub window : ℕ
  pub heard : ℕ
  pub masters : List ForeignMaster

-- the moment of the last kept Announce
abbrev pub last_moment : List KeptAnnounce → ℕ
last_moment [] = 0
last_moment (h ∷ kept) = h.at

-- the records stand for a whole list of kept Announces, the newest first: they give all that it
-- gives, and the newest is the latest
pub record RecordsRepresent (records : RecordsView) (kept : List KeptAnnounce) : Type 0 where
  pub masters : MastersRepresent records.window records.masters kept
  pub heard : records.heard ≡ last_moment kept
  pub latest : IsReached records.heard kept

-- a pass over the foreign masters at a moment: its winner, and the moment that leaves the window
-- first
pub record IsPassOver (w m : ℕ) (masters : List ForeignMaster) (pass : Pass) : Type 0 where
  pub winner : pass.winner ≡ winner (said_by w m masters)
  pub oldest : pass.oldest ≡ oldest_of w m masters

-- what always holds of records: the pass that is kept is that at the moment of the last kept
-- Announce, and its winner is of fewer than STEPS_END steps
pub record AreSound (window heard : ℕ) (masters : List ForeignMaster) (pass : Pass) : Type 0 where
  pub kept : IsPassOver window heard masters pass
  pub near : IfSome pass.winner (λ (a : Announcement). a.steps < STEPS_END)
