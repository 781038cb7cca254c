-- The Announces that a port keeps, and the best of them (IEEE 1588-2019, 9.3.2). A list of kept
-- Announces has the newest first, and begins anew at each reset of the port.
use Rattle.std.specs.Prelude.{ℕ, ◌+◌, Bool, ◌==◌, ◌&&◌, nat_lt, nat_le, if◌then◌else◌, List, [], ◌∷◌, length, count_by, filter, filter_map, find, fold, option_map, Option, Some, None}
use Rattle.std.specs.declared.cmp.Ordering.{Ordering}
use Rattle.std.specs.declared.cmp.Ordering.TheVariants.{Less, Equal, Greater}
use Rattle.ptp_base.specs.declared.limits.TheConstants.{SENDERS_MAX, STEPS_END}
use Rattle.ptp_base.specs.declared.identity.PortId.{PortId}
use Rattle.ptp_base.specs.declared.announcement.Announcement.{Announcement}
use Rattle.ptp_profile.specs.declared.foreign_master.KeptAnnounce.{KeptAnnounce}
use Rattle.ptp_profile.specs.declared.foreign_master.Heard.{Heard}
use Rattle.ptp_profile.specs.declared.foreign_master.Heard.TheVariants.{Kept, Own, Far, Alternate, Crowded}
use Rattle.ptp_profile.specs.declared.port_event.Fate.{Fate}
use Rattle.ptp_profile.specs.declared.port_event.Fate.TheVariants.{Kept as Fate_kept, Own as Fate_own, Far as Fate_far, Alternate as Fate_alternate, Crowded as Fate_crowded}
use Rattle.ptp_profile.specs.Best.PortIdentity.{is_same_port, port_cmp}
use Rattle.ptp_profile.specs.Best.Comparison.{wins}

-- a kept Announce is of this sender (9.3.2.5)
abbrev pub is_from : PortId → KeptAnnounce → Bool
is_from sender h = is_same_port h.said.sender sender

-- the foreign master window of length w at m: the moments above m - w and at most m (project)
abbrev pub is_in_window : ℕ → ℕ → KeptAnnounce → Bool
is_in_window w m h = nat_lt m (h.at + w) && nat_le h.at m

-- how many of a sender's kept Announces are in the window (9.3.2.5)
abbrev pub count_from : ℕ → ℕ → PortId → List KeptAnnounce → ℕ
count_from w m sender kept = count_by (λ h. is_from sender h && is_in_window w m h) kept

-- a sender among rising others, by its comparison with the first of them: it goes in front, it is
-- there already, or it goes further on
abbrev pub with_sender_by : PortId → PortId → List PortId → List PortId → Ordering → List PortId
with_sender_by s t ts further Less = s ∷ t ∷ ts
with_sender_by s t ts further Equal = t ∷ ts
with_sender_by s t ts further Greater = t ∷ further

-- rising senders and one more, which then is there once
abbrev pub with_sender : PortId → List PortId → List PortId
with_sender s [] = s ∷ []
with_sender s (t ∷ ts) = with_sender_by s t ts (with_sender s ts) (port_cmp s t)

-- the senders of the kept Announces, each once, in rising identity (project)
abbrev pub senders : List KeptAnnounce → List PortId
senders [] = []
senders (h ∷ kept) = with_sender h.said.sender (senders kept)

-- the senders that have a kept Announce in the window (project)
abbrev pub present : ℕ → ℕ → List KeptAnnounce → List PortId
present w m kept = filter (λ s. nat_le 1 (count_from w m s kept)) (senders kept)

-- a sender's record: its latest kept Announce, where two or more of its kept ones are in the window
-- (9.3.2.5)
abbrev pub record_of : ℕ → ℕ → List KeptAnnounce → PortId → Option Announcement
record_of w m kept sender =
    if nat_le 2 (count_from w m sender kept) then option_map (λ (h : KeptAnnounce). h.said) (find (is_from sender) kept)
    else None

-- the qualified set: the senders' records, in rising sender identity (9.3.2.5)
abbrev pub qualified : ℕ → ℕ → List KeptAnnounce → List Announcement
qualified w m kept = filter_map (record_of w m kept) (senders kept)

-- a later one replaces the winner so far exactly where it wins against it (project)
abbrev pub better : Option Announcement → Announcement → Option Announcement
better None a = Some a
better (Some b) a = if wins a b then Some a else Some b

-- the winner of one pass (project)
abbrev pub winner : List Announcement → Option Announcement
winner all = fold better None all

-- Erbest: the winner of one pass over the qualified set in rising sender identity (9.3.2; the order
-- of the pass is the project's)
abbrev pub erbest : ℕ → ℕ → List KeptAnnounce → Option Announcement
erbest w m kept = winner (qualified w m kept)

-- Ebest: the winner of one pass over the ports' best in rising port number, without the ports that
-- have none (9.3.2; the order of the pass is the project's)
abbrev pub ebest : List (Option Announcement) → Option Announcement
ebest bests = winner (filter_map (λ best. best) bests)

-- a sender has none in the window, while as many others have one as may (project)
abbrev pub is_crowded : ℕ → ℕ → List KeptAnnounce → PortId → Bool
is_crowded w m kept sender =
    (count_from w m sender kept == 0) && nat_le SENDERS_MAX (length (present w m kept))

-- what becomes of an Announce that is heard at m: the first of own, far, alternate and crowded that
-- holds, else it is kept (9.3.2.5; crowded is the project's)
abbrev pub hearing_of : ℕ → ℕ → List KeptAnnounce → Announcement → Heard
hearing_of w m kept a =
    if a.sender.clock.id == a.receiver.clock.id then Own
    else if nat_le STEPS_END a.steps then Far
    else if a.alternate then Alternate
    else if is_crowded w m kept a.sender then Crowded
    else Kept

-- the fate of a frame that is such an Announce (project)
abbrev pub fate_of_hearing : Heard → Fate
fate_of_hearing Kept = Fate_kept
fate_of_hearing Own = Fate_own
fate_of_hearing Far = Fate_far
fate_of_hearing Alternate = Fate_alternate
fate_of_hearing Crowded = Fate_crowded
