-- The timers of a port, and what each state sets (IEEE 1588-2019, 9.2.6 and 9.5; the moments at
-- which they are set are the project's).
use Rattle.std.specs.Prelude.{ℕ, ◌+◌, ◌*◌, List, [], ◌∷◌, filter_map, option_map, Option, Some, None}
use Rattle.ptp_base.specs.Least.{first_least}
use Rattle.ptp_base.specs.declared.port_conf.PortConf.{PortConf}
use Rattle.ptp_base.specs.declared.code.Code.TheVariants.{M3}
use Rattle.ptp_base.specs.Floor.{interval_of}
use Rattle.ptp_base.specs.declared.limits.TheConstants.{FOREIGN_MASTER_TIME_WINDOW}
use Rattle.ptp_profile.specs.declared.port_event.PortEvent.{PortEvent}
use Rattle.ptp_profile.specs.declared.port_event.PortEvent.TheVariants.{Decided}
use Rattle.ptp_profile.specs.declared.port_event.Timer.{Timer}
use Rattle.ptp_profile.specs.declared.port_event.Timer.TheVariants.{AnnounceReceipt, Qualification, AnnounceSend, SyncSend, DelayRequest}

-- the moment that each timer is set for, if it is set
pub record Timers : Type 0 where
  pub receipt : Option ℕ
  pub qualification : Option ℕ
  pub announce : Option ℕ
  pub sync : Option ℕ
  pub delay : Option ℕ

-- the three intervals of a port (7.7.2)
abbrev pub announce_interval : PortConf → ℕ
announce_interval conf = interval_of conf.log_announce

-- syncInterval in ns (7.7.2.3)
abbrev pub sync_interval : PortConf → ℕ
sync_interval conf = interval_of conf.log_sync

-- minDelayReqInterval in ns (7.7.2.4)
abbrev pub delay_interval : PortConf → ℕ
delay_interval conf = interval_of conf.log_delay

-- how long a port waits for an Announce (9.2.6.12)
abbrev pub receipt_time : PortConf → ℕ
receipt_time conf = conf.receipt * announce_interval conf

-- how long an Announce counts for qualification (9.3.2.4)
abbrev pub window_of : PortConf → ℕ
window_of conf = FOREIGN_MASTER_TIME_WINDOW * announce_interval conf

-- no timer is set
abbrev pub no_timers : Timers
no_timers =
    record { receipt = None; qualification = None; announce = None; sync = None; delay = None }

-- the moment that a timer is set for
abbrev pub timer_at : Timers → Timer → Option ℕ
timer_at t AnnounceReceipt = t.receipt
timer_at t Qualification = t.qualification
timer_at t AnnounceSend = t.announce
timer_at t SyncSend = t.sync
timer_at t DelayRequest = t.delay

-- the timers with one of them set or cleared
abbrev pub with_timer : Timers → Timer → Option ℕ → Timers
with_timer t AnnounceReceipt at = record t { receipt = at }
with_timer t Qualification at = record t { qualification = at }
with_timer t AnnounceSend at = record t { announce = at }
with_timer t SyncSend at = record t { sync = at }
with_timer t DelayRequest at = record t { delay = at }

-- all timers, in the order in which they go at one moment (project)
abbrev pub all_timers : List Timer
all_timers = AnnounceReceipt ∷ Qualification ∷ AnnounceSend ∷ SyncSend ∷ DelayRequest ∷ []

-- a timer that is set, with its moment
abbrev pub set_timer : Timers → Timer → Option (ℕ × Timer)
set_timer t timer = option_map (λ at. (at, timer)) (timer_at t timer)

-- the timer that is due first: the least moment, and at one moment the first in the order of all
-- timers
abbrev pub due_of : Timers → Option (ℕ × Timer)
due_of t = first_least (λ (due : ℕ × Timer). due.0) (filter_map (set_timer t) all_timers)

-- LISTENING and PASSIVE from moment m on: announce receipt alone
abbrev pub waiting_timers : PortConf → ℕ → Timers
waiting_timers conf m =
    record {
      receipt = Some (m + receipt_time conf);
      qualification = None;
      announce = None;
      sync = None;
      delay = None;
    }

-- MASTER: the first Announce and the first Sync, an interval later
abbrev pub sending_timers : PortConf → ℕ → Timers
sending_timers conf m =
    record {
      receipt = None;
      qualification = None;
      announce = Some (m + announce_interval conf);
      sync = Some (m + sync_interval conf);
      delay = None;
    }

-- UNCALIBRATED by a decision: announce receipt, and the first Delay_Req an interval later
abbrev pub following_timers : PortConf → ℕ → Timers
following_timers conf m =
    record {
      receipt = Some (m + receipt_time conf);
      qualification = None;
      announce = None;
      sync = None;
      delay = Some (m + delay_interval conf);
    }

-- PRE_MASTER: qualification alone
abbrev pub qualifying_timers : ℕ → Timers
qualifying_timers at =
    record { receipt = None; qualification = Some at; announce = None; sync = None; delay = None }

-- when a port that enters PRE_MASTER at m is qualified: at once after M1 or M2, and after M3 one
-- announce interval later for each step to the grandmaster and one more (9.2.6.11)
abbrev pub qualification_of : PortConf → ℕ → ℕ → PortEvent → ℕ
qualification_of conf m steps (Decided M3) = m + (steps + 1) * announce_interval conf
qualification_of conf m steps _ = m
