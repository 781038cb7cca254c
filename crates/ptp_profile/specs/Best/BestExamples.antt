-- Announcements, kept Announces and ports by which the comparison, the records and the decision are
-- shown.
use Rattle.std.specs.Prelude.{ℕ, zero, suc, pos, false, List, [], ◌∷◌, ◌++◌, map, Some, None}
use Rattle.ptp_base.specs.declared.announcement.Announcement.{Announcement}
use Rattle.ptp_base.specs.declared.announcement.Quality.{Quality}
use Rattle.ptp_base.specs.declared.identity.PortId.{PortId}
use Rattle.ptp_base.specs.declared.port_conf.PortConf.{PortConf}
use Rattle.ptp_base.specs.declared.port_state.PortState.{PortState}
use Rattle.ptp_base.specs.declared.port_state.PortState.TheVariants.{Listening}
use Rattle.ptp_profile.specs.declared.foreign_master.KeptAnnounce.{KeptAnnounce}
use Rattle.ptp_profile.specs.declared.port_best.PortBest.{PortBest}
use Rattle.ptp_profile.specs.Best.ForeignMasters.{erbest}

-- a port identity
abbrev pub port_id : ℕ → ℕ → PortId
port_id clock port = record { clock = record { id = clock }; port = port }

-- priority1, class, accuracy, variance and priority2
abbrev pub quality : ℕ → ℕ → ℕ → ℕ → ℕ → Quality
quality priority1 class accuracy variance priority2 = record {
  priority1 = priority1;
  class = class;
  accuracy = accuracy;
  variance = variance;
  priority2 = priority2;
}

-- the own clock, 020000.fffe.000001
abbrev pub own_clock : ℕ
own_clock = 0x020000fffe000001

-- the own announcement where no option is set, but of this class
abbrev pub own_of_class : ℕ → Announcement
own_of_class class = record {
  grandmaster = record { id = own_clock };
  quality = quality 128 class 0xFE 0xFFFF 128;
  steps = 0;
  sender = port_id own_clock 0;
  receiver = port_id own_clock 0;
  time = record { utc_offset = pos 37; flags = 8; source = 0xA0 };
  alternate = false;
}

-- the own announcement where no option is set
abbrev pub own_default : Announcement
own_default = own_of_class 248

-- the clock of a grandmaster, 000a00.fffe.000001
abbrev pub master_clock : ℕ
master_clock = 0x000a00fffe000001

-- what that grandmaster says by its port 1, as port 1 hears it
abbrev pub from_master : Announcement
from_master = record {
  grandmaster = record { id = master_clock };
  quality = quality 128 6 0x21 0x4e5d 128;
  steps = 0;
  sender = port_id master_clock 1;
  receiver = port_id own_clock 1;
  time = record { utc_offset = pos 37; flags = 8; source = 0x20 };
  alternate = false;
}

-- a port where no option is set
abbrev pub default_port : PortConf
default_port =
    record { clock = 0; log_announce = pos 1; log_sync = pos 0; log_delay = pos 0; receipt = 3 }

-- its foreign master window: four announce intervals of two seconds
abbrev pub window : ℕ
window = 8000000000

-- the same Announce, kept at this moment
abbrev pub kept_at : ℕ → Announcement → KeptAnnounce
kept_at moment a = record { at = moment; said = a }

-- these, each kept at 1 s and again at 3 s
abbrev pub kept_twice : List Announcement → List KeptAnnounce
kept_twice all = map (kept_at 3000000000) all ++ map (kept_at 1000000000) all

-- the same from port 1 of another clock
abbrev pub from_clock : ℕ → Announcement → Announcement
from_clock clock a = record a { sender = port_id clock 1 }

-- what the grandmaster says, from so many senders, each kept at 1 s
abbrev pub kept_of : ℕ → List KeptAnnounce
kept_of zero = []
kept_of (suc n) = kept_at 1000000000 (from_clock (suc n) from_master) ∷ kept_of n

-- the same with other steps
abbrev pub of_steps : ℕ → Announcement → Announcement
of_steps steps a = record a { steps = steps }

-- the same of another grandmaster and quality
abbrev pub of_master : ℕ → Quality → Announcement → Announcement
of_master id q a = record a { grandmaster = record { id = id }; quality = q }

-- the same Announce of another grandmaster and quality
abbrev pub claimed : ℕ → Quality → Announcement
claimed id q = of_master id q from_master

-- the same by other ends, the sender first
abbrev pub by_ends : PortId → PortId → Announcement → Announcement
by_ends sender receiver a = record a { sender = sender; receiver = receiver }

-- what the grandmaster says in so many steps, by this sender to this receiver
abbrev pub path : ℕ → PortId → PortId → Announcement
path steps sender receiver = by_ends sender receiver (of_steps steps from_master)

-- by grandmaster, priority1, steps and sender
abbrev pub claim : ℕ → ℕ → ℕ → ℕ → Announcement
claim id priority1 steps sender =
    from_clock sender (of_steps steps (claimed id (quality priority1 6 0x21 0x4e5d 128)))

-- three announcements, each by the clock of its sender: the first wins against the second, the
-- second against the third, and the third against the first
abbrev pub first_claim : ℕ → Announcement
first_claim sender = claim 0x000c00fffe000001 10 5 sender

-- wins against the third
abbrev pub second_claim : ℕ → Announcement
second_claim sender = claim 0x000d00fffe000001 20 0 sender

-- wins against the first
abbrev pub third_claim : ℕ → Announcement
third_claim sender = claim 0x000c00fffe000001 30 0 sender

-- a port in this state that hears nothing
abbrev pub silent : PortState → PortBest
silent state = record { state = state; best = None }

-- a port in this state, with the best that it hears
abbrev pub hearing : PortState → Announcement → PortBest
hearing state a = record { state = state; best = Some a }

-- what a grandmaster of the same quality says, in so many steps, by this sender to this port of the
-- own clock
abbrev pub relayed : ℕ → PortId → ℕ → Announcement
relayed steps sender port =
    by_ends sender (port_id own_clock port)
    (of_steps steps (claimed 0x000c00fffe000001 (quality 128 6 0x21 0x4e5d 128)))

-- the grandmaster's Announce with priority1 100
abbrev pub preferred : Announcement
preferred = claimed master_clock (quality 100 6 0x21 0x4e5d 128)

-- a port that listens and hears that
abbrev pub hears_relayed : ℕ → PortId → ℕ → PortBest
hears_relayed steps sender port = hearing Listening (relayed steps sender port)

-- a port that listens and heard this at 1 s and at 3 s, as it stands at 3 s
abbrev pub heard_twice : Announcement → PortBest
heard_twice a = record { state = Listening; best = erbest window 3000000000 (kept_twice (a ∷ [])) }

-- another grandmaster, of priority1 200, as port 2 hears it
abbrev pub from_second_master : Announcement
from_second_master =
    by_ends (port_id 0x000b00fffe000002 1) (port_id own_clock 2)
    (claimed 0x000b00fffe000002 (quality 200 6 0x21 0x4e5d 128))
