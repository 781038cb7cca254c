-- Foreign masters, the entries of foreignMasterDS, and what they say of the Announces that were
-- kept.
use Rattle.std.specs.Prelude.{◌≡◌, ℕ, ◌+◌, ◌<◌, ◌≤◌, Bool, false, nat_lt, nat_le, List, map, filter, filter_map, find, All, Option, Some, None, option_map, length}
use Rattle.std.specs.List.Sorted.{IsStrictlySortedBy}
use Rattle.std.specs.Ordering.{is_lt}
use Rattle.ptp_base.specs.Least.{first_least}
use Rattle.ptp_base.specs.declared.announcement.Announcement.{Announcement}
use Rattle.ptp_base.specs.declared.limits.TheConstants.{SENDERS_MAX, STEPS_END}
use Rattle.ptp_base.specs.declared.identity.PortId.{PortId}
use Rattle.ptp_profile.specs.declared.foreign_master.KeptAnnounce.{KeptAnnounce}
use Rattle.ptp_profile.specs.Best.PortIdentity.{is_same_port, port_cmp}
use Rattle.ptp_profile.specs.Best.ForeignMasters.{is_from, count_from}
use Rattle.foreign_master.specs.declared.foreign_master.ForeignMaster.{ForeignMaster}

-- ---- one foreign master

-- a foreign master is of this sender
abbrev pub is_of : PortId → ForeignMaster → Bool
is_of sender p = is_same_port p.said.sender sender

-- its sender is above this one
abbrev pub is_above : PortId → ForeignMaster → Bool
is_above sender p = is_lt (port_cmp sender p.said.sender)

-- its latest Announce is above the window's lower end
abbrev pub is_present : ℕ → ℕ → ForeignMaster → Bool
is_present w m p = nat_lt m (p.last + w)

-- there is such a moment, and it is above the window's lower end
abbrev pub is_within : ℕ → ℕ → Option ℕ → Bool
is_within w m None = false
is_within w m (Some at) = nat_lt m (at + w)

-- so is the one before the latest
abbrev pub is_qualified : ℕ → ℕ → ForeignMaster → Bool
is_qualified w m p = is_within w m p.before

-- no kept Announce is later than m
abbrev pub IsReached : ℕ → List KeptAnnounce → Type 0
IsReached m kept = All (λ (h : KeptAnnounce). h.at ≤ m) kept

-- the foreign master says what the kept Announces of the sender give at m
pub record IsMasterOf (w m : ℕ) (kept : List KeptAnnounce) (sender : PortId) (p : ForeignMaster) : Type 0 where
  pub present : nat_le 1 (count_from w m sender kept) ≡ is_present w m p
  pub qualified : nat_le 2 (count_from w m sender kept) ≡ is_qualified w m p
  pub latest : find (is_from sender) kept ≡ Some (record { at = p.last; said = p.said })

-- what is kept of a sender stands for its kept Announces; a sender without a foreign master has
-- none in the window
abbrev pub MasterRepresents : ℕ → ℕ → List KeptAnnounce → PortId → Option ForeignMaster → Type 0
MasterRepresents w m kept sender None = count_from w m sender kept ≡ 0
MasterRepresents w m kept sender (Some p) = IsMasterOf w m kept sender p

-- the foreign master of a sender after one more Announce of it
abbrev pub next_master : KeptAnnounce → Option ForeignMaster → ForeignMaster
next_master h o =
    record { said = h.said; last = h.at; before = option_map (λ (p : ForeignMaster). p.last) o }

-- ---- all of them

-- the foreign master of a sender
abbrev pub master_of : PortId → List ForeignMaster → Option ForeignMaster
master_of sender masters = find (is_of sender) masters

-- their senders
abbrev pub senders_of : List ForeignMaster → List PortId
senders_of masters = map (λ (p : ForeignMaster). p.said.sender) masters

-- those that are qualified
abbrev pub qualified_of : ℕ → ℕ → List ForeignMaster → List ForeignMaster
qualified_of w m masters = filter (is_qualified w m) masters

-- what these say
abbrev pub said_by : ℕ → ℕ → List ForeignMaster → List Announcement
said_by w m masters = map (λ (p : ForeignMaster). p.said) (qualified_of w m masters)

-- the moments before their latest
abbrev pub befores_of : ℕ → ℕ → List ForeignMaster → List ℕ
befores_of w m masters =
    filter_map (λ (p : ForeignMaster). p.before) (qualified_of w m masters)

-- the least of these moments: it leaves the window first, and its foreign master is then no more
-- qualified
abbrev pub oldest_of : ℕ → ℕ → List ForeignMaster → Option ℕ
oldest_of w m masters = first_least (λ at. at) (befores_of w m masters)

-- the foreign masters are in strictly rising sender identity (project)
abbrev pub AreRising : List ForeignMaster → Type 0
AreRising masters = IsStrictlySortedBy port_cmp (senders_of masters)

-- each Announce is of fewer than STEPS_END steps
abbrev pub AreNear : List ForeignMaster → Type 0
AreNear masters = All (λ (p : ForeignMaster). p.said.steps < STEPS_END) masters

-- what always holds of them: there are so many at most, for which memory is reserved, in rising
-- sender identity, each with an Announce of fewer than STEPS_END steps
pub record IsTable (masters : List ForeignMaster) (capacity : ℕ) : Type 0 where
  pub reserved : SENDERS_MAX ≤ capacity
  pub few : length masters ≤ SENDERS_MAX
  pub rising : AreRising masters
  pub near : AreNear masters

-- the foreign masters stand for the kept Announces: they tell all that counts of these, at each
-- moment that is still to come
abbrev pub MastersRepresent : ℕ → List ForeignMaster → List KeptAnnounce → Type 0
MastersRepresent w masters kept =
    (sender : PortId) (m : ℕ) → IsReached m kept →
    MasterRepresents w m kept sender (master_of sender masters)
