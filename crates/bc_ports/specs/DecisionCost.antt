-- How many comparisons of announcements the decision of an entry takes at most.
use Rattle.std.specs.Prelude.{◌≡◌, ℕ, ◌+◌, ◌*◌, ◌≤◌, Bool, false, not, if◌then◌else◌, List, map, length, count_by, Option, None}
use Rattle.ptp_base.specs.declared.announcement.Announcement.{Announcement}
use Rattle.ptp_base.specs.declared.port_conf.PortConf.{PortConf}
use Rattle.ptp_profile.specs.Port.PortTimers.{window_of}
use Rattle.foreign_master.specs.SettledRecords.{is_settled}
use Rattle.bc_history.specs.Phases.DecisionPhase.{best_of}
use Rattle.bc_history.specs.Phases.HubPort.{HubPort}

-- the qualified set of the port at m is neither empty nor that of its last kept Announce, so that
-- its Erbest takes a pass
abbrev pub may_pass : ℕ → HubPort → Bool
may_pass m h = not (is_settled (window_of h.port.conf) m h.kept)

-- how many ports' Erbest at m takes a pass
abbrev pub passing : ℕ → List HubPort → ℕ
passing m hs = count_by (may_pass m) hs

-- Erbest of each port at m, in rising port number
abbrev pub bests_at : ℕ → List HubPort → List (Option Announcement)
bests_at m hs = map (best_of m) hs

-- no port has one, as before the first decision
abbrev pub no_bests : List PortConf → List (Option Announcement)
no_bests confs = map (λ (conf : PortConf). None) confs

-- Erbest of each port at the last decision, behind an entry that may have raised one: by hs at m, the
-- ports once the entry's own took its input
abbrev pub last_bests : (raises : Bool) → ℕ → List HubPort → (former : List (Option Announcement)) → List (Option Announcement)
last_bests raises m hs former = if raises then bests_at m hs else former

-- so many comparisons hear an Announce and find Erbest of each port
abbrev pub hearing_cost : ℕ → List HubPort → ℕ
hearing_cost m hs = 15 + 15 * passing m hs

-- so many take the Erbests of n ports into the decision, where these are others than at the last one
abbrev pub setting_cost : ℕ → ℕ
setting_cost n = n * (2 * n + 2)

-- the count of comparisons from before an entry to after it: none where the entry raises no
-- decision, and few where each port's Erbest, at m among hs, is that of the last decision
pub record IsCounted (raises : Bool) (m : ℕ) (hs : List HubPort) (last : List (Option Announcement)) (before after : ℕ) : Type 0 where
  pub uncounted : raises ≡ false → after ≡ before
  pub same_bests : bests_at m hs ≡ last → after ≤ before + hearing_cost m hs
  pub counted : after ≤ before + hearing_cost m hs + setting_cost (length hs)
