-- Which of two announcements is better (IEEE 1588-2019, 9.3.4).
use Rattle.std.specs.Prelude.{◌+◌, Bool, true, false, ◌==◌, nat_lt, if◌then◌else◌}
use Rattle.std.specs.Ordering.{nat_cmp, ordering_then}
use Rattle.std.specs.declared.cmp.Ordering.{Ordering}
use Rattle.std.specs.declared.cmp.Ordering.TheVariants.{Less, Equal, Greater}
use Rattle.ptp_base.specs.declared.announcement.Announcement.{Announcement}
use Rattle.ptp_base.specs.declared.announcement.Quality.{Quality}
use Rattle.ptp_profile.specs.declared.comparison.Order.{Order}
use Rattle.ptp_profile.specs.declared.comparison.Order.TheVariants.{ABetter, ATopo, BBetter, BTopo, Same}
use Rattle.ptp_profile.specs.Best.PortIdentity.{port_cmp}

-- qualities compare by the first of these that differs: priority1, class, accuracy, variance,
-- priority2 (9.3.4, figure 34)
abbrev pub quality_cmp : Quality → Quality → Ordering
quality_cmp p q =
    ordering_then (nat_cmp p.priority1 q.priority1)
    (ordering_then (nat_cmp p.class q.class)
    (ordering_then (nat_cmp p.accuracy q.accuracy)
    (ordering_then (nat_cmp p.variance q.variance)
    (nat_cmp p.priority2 q.priority2))))

-- grandmasters compare by quality and then by identity (9.3.4, figure 34)
abbrev pub master_cmp : Announcement → Announcement → Ordering
master_cmp a b =
    ordering_then (quality_cmp a.quality b.quality) (nat_cmp a.grandmaster.id b.grandmaster.id)

-- of two grandmasters the lower is better (9.3.4, figure 34)
abbrev pub lower_is_better : Ordering → Order
lower_is_better Less = ABetter
lower_is_better Equal = Same
lower_is_better Greater = BBetter

-- different grandmasters (9.3.4, figure 34)
abbrev pub by_master : Announcement → Announcement → Order
by_master a b = lower_is_better (master_cmp a b)

-- a has one step less: it is better, the same or better by topology where the receiver of b is
-- below, at or above the sender of b (9.3.4, figure 35)
abbrev pub a_is_nearer : Ordering → Order
a_is_nearer Less = ABetter
a_is_nearer Equal = Same
a_is_nearer Greater = ATopo

-- b has one step less: it is better, the same or better by topology where the receiver of a is
-- below, at or above the sender of a (9.3.4, figure 35)
abbrev pub b_is_nearer : Ordering → Order
b_is_nearer Less = BBetter
b_is_nearer Equal = Same
b_is_nearer Greater = BTopo

-- the steps are equal: the lower is better by topology (9.3.4, figure 35)
abbrev pub lower_is_nearer : Ordering → Order
lower_is_nearer Less = ATopo
lower_is_nearer Equal = Same
lower_is_nearer Greater = BTopo

-- at equal steps paths compare by the sender and then by the port number of the receiver (9.3.4,
-- figure 35)
abbrev pub ends_cmp : Announcement → Announcement → Ordering
ends_cmp a b = ordering_then (port_cmp a.sender b.sender) (nat_cmp a.receiver.port b.receiver.port)

-- one grandmaster: fewer steps by two or more are better, fewer by one are better or better by
-- topology, and equal steps go by the ends (9.3.4, figure 35)
abbrev pub by_path : Announcement → Announcement → Order
by_path a b =
    if nat_lt (a.steps + 1) b.steps then ABetter
    else if nat_lt (b.steps + 1) a.steps then BBetter
    else if nat_lt a.steps b.steps then a_is_nearer (port_cmp b.receiver b.sender)
    else if nat_lt b.steps a.steps then b_is_nearer (port_cmp a.receiver a.sender)
    else lower_is_nearer (ends_cmp a b)

-- the comparison of two announcements (9.3.4, figures 34 and 35)
abbrev pub order_of : Announcement → Announcement → Order
order_of a b = if a.grandmaster.id == b.grandmaster.id then by_path a b else by_master a b

-- the first is better, or better by topology (9.3.4)
abbrev pub is_a_winner : Order → Bool
is_a_winner ABetter = true
is_a_winner ATopo = true
is_a_winner BBetter = false
is_a_winner BTopo = false
is_a_winner Same = false

-- a wins against b where it is better, or better by topology (9.3.4)
abbrev pub wins : Announcement → Announcement → Bool
wins a b = is_a_winner (order_of a b)

-- the first is better by topology alone (9.3.4)
abbrev pub is_a_topo : Order → Bool
is_a_topo ATopo = true
is_a_topo ABetter = false
is_a_topo BBetter = false
is_a_topo BTopo = false
is_a_topo Same = false
