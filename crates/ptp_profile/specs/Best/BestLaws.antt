-- What holds of the best announcement and of the codes.
use Rattle.std.specs.Prelude.{◌≡◌, ◌≢◌, ◌↔◌, ℕ, ◌+◌, IsTrue, List, map, All, Contains, filter_map, length, slice_get, Some, None, IsSomeAnd}
use Rattle.std.specs.List.Sorted.{IsStrictlySortedBy}
use Rattle.ptp_base.specs.declared.announcement.Announcement.{Announcement}
use Rattle.ptp_base.specs.declared.code.Code.TheVariants.{S1}
use Rattle.ptp_base.specs.declared.identity.ClockId.{ClockId}
use Rattle.ptp_base.specs.declared.identity.PortId.{PortId}
use Rattle.ptp_profile.specs.declared.port_best.PortBest.{PortBest}
use Rattle.ptp_profile.specs.declared.foreign_master.KeptAnnounce.{KeptAnnounce}
use Rattle.ptp_profile.specs.Best.Comparison.{wins}
use Rattle.ptp_profile.specs.Best.ForeignMasters.{winner, ebest, senders, record_of, qualified}
use Rattle.ptp_profile.specs.Best.PortIdentity.{port_cmp}
use Rattle.ptp_profile.specs.Best.StateDecision.{bests_of, codes_of}

-- the best of those ports that have one
abbrev pub heard_by : List PortBest → List Announcement
heard_by ports = filter_map (λ best. best) (bests_of ports)

-- each port's best was received on that port
abbrev pub AreHeardThere : List PortBest → Type 0
AreHeardThere ports =
    (i : ℕ) (a : Announcement) → slice_get (bests_of ports) i ≡ Some (Some a) →
    a.receiver.port ≡ i + 1

-- equal grandmasters have equal quality
abbrev pub AgreeOnQuality : List Announcement → Type 0
AgreeOnQuality all =
    (a b : Announcement) → Contains all a → Contains all b → a.grandmaster ≡ b.grandmaster →
    a.quality ≡ b.quality

-- a coherent set of announcements: what the ports of one clock hear from others, where all that is
-- said of a grandmaster's quality is alike
pub record IsCoherent (all : List Announcement) : Type 0 where
  -- equal grandmasters have equal quality
  pub one_quality : AgreeOnQuality all
  -- all receivers are ports of one clock
  pub one_receiver : (a b : Announcement) → Contains all a → Contains all b → a.receiver.clock ≡ b.receiver.clock
  -- no sender is a port of that clock
  pub from_others : (a b : Announcement) → Contains all a → Contains all b → a.sender.clock ≢ b.receiver.clock
  -- no two members agree in both sender and receiver
  pub told_apart : (a b : Announcement) → Contains all a → Contains all b → a.sender ≡ b.sender → a.receiver ≡ b.receiver → a ≡ b

-- it was received by a port of this clock from another clock
pub record IsOfClock (clock : ClockId) (a : Announcement) : Type 0 where
  pub received : a.receiver.clock ≡ clock
  pub from_other : a.sender.clock ≢ clock

-- the qualified set of a port is coherent where it agrees on quality
abbrev pub QualifiedAreCoherent : Type 0
QualifiedAreCoherent =
    (w m : ℕ) (kept : List KeptAnnounce) (clock : ClockId) →
    All (λ (h : KeptAnnounce). IsOfClock clock h.said) kept → AgreeOnQuality (qualified w m kept) →
    IsCoherent (qualified w m kept)

-- the best of all ports are a coherent set where they agree on quality
abbrev pub BestsAreCoherent : Type 0
BestsAreCoherent =
    (ports : List PortBest) (clock : ClockId) →
    AreHeardThere ports → All (IsOfClock clock) (heard_by ports) → AgreeOnQuality (heard_by ports) →
    IsCoherent (heard_by ports)

-- in a coherent set the best wins against every other member
abbrev pub BestWins : Type 0
BestWins =
    (all : List Announcement) (best a : Announcement) →
    IsCoherent all → winner all ≡ Some best → Contains all a → a ≢ best → IsTrue (wins best a)

-- the best is a member, whatever the set
abbrev pub BestIsMember : Type 0
BestIsMember =
    (all : List Announcement) (best : Announcement) → winner all ≡ Some best → Contains all best

-- there is no best exactly where there is no member
abbrev pub NoBestOfNone : Type 0
NoBestOfNone = (all : List Announcement) → (winner all ≡ None) ↔ (length all ≡ 0)

-- the senders rise, and so each is there once
abbrev pub SendersRise : Type 0
SendersRise = (kept : List KeptAnnounce) → IsStrictlySortedBy port_cmp (senders kept)

-- the senders are those of the kept Announces and no others
abbrev pub SendersAreThose : Type 0
SendersAreThose =
    (kept : List KeptAnnounce) (s : PortId) →
    Contains (senders kept) s ↔ Contains (map (λ (h : KeptAnnounce). h.said.sender) kept) s

-- the qualified set is in rising sender identity, and so has each sender once
abbrev pub QualifiedRise : Type 0
QualifiedRise =
    (w m : ℕ) (kept : List KeptAnnounce) →
    IsStrictlySortedBy port_cmp (map (λ (a : Announcement). a.sender) (qualified w m kept))

-- a member of the qualified set is the record of its sender
abbrev pub QualifiedAreRecords : Type 0
QualifiedAreRecords =
    (w m : ℕ) (kept : List KeptAnnounce) (a : Announcement) →
    Contains (qualified w m kept) a ↔ (record_of w m kept a.sender ≡ Some a)

-- at most one port has the code S1
abbrev pub OneFollows : Type 0
OneFollows =
    (own : Announcement) (ports : List PortBest) (i j : ℕ) →
    slice_get (codes_of own ports) i ≡ Some S1 → slice_get (codes_of own ports) j ≡ Some S1 → i ≡ j

-- a port with the code S1 is the one on which Ebest was received
abbrev pub FollowerIsNamed : Type 0
FollowerIsNamed =
    (own : Announcement) (ports : List PortBest) (i : ℕ) →
    slice_get (codes_of own ports) i ≡ Some S1 →
    IsSomeAnd (ebest (bests_of ports)) (λ best. best.receiver.port ≡ i + 1)

-- where each port's best was received on that port, the best of the port with the code S1 is Ebest
abbrev pub FollowerHearsBest : Type 0
FollowerHearsBest =
    (own : Announcement) (ports : List PortBest) (i : ℕ) →
    AreHeardThere ports → slice_get (codes_of own ports) i ≡ Some S1 →
    slice_get (bests_of ports) i ≡ Some (ebest (bests_of ports))
