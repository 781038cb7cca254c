-- Runs that are judged as worked examples (project).
use Rattle.std.specs.Prelude.{ℕ, pos, negsuc, true, List, [], ◌∷◌, ◌++◌, Option, Some, None}
use Rattle.ptp_base.specs.declared.port_state.PortState.TheVariants.{Listening, Uncalibrated, Slave}
use Rattle.ptp_profile.specs.declared.port_event.Timer.TheVariants.{DelayRequest}
use Rattle.ptp_profile.specs.declared.port_event.Fate.TheVariants.{Kept, Paired, Matched, Dropped}
use Rattle.ptp_profile.specs.declared.message.Reject.TheVariants.{Short}
use Rattle.ptp_profile.specs.declared.timing.Action.{Action}
use Rattle.ptp_profile.specs.declared.timing.Action.TheVariants.{Unlocked as Unlocked_action, Jump, Locked}
use Rattle.ptp_profile.specs.declared.roles.Lead.{Lead}
use Rattle.ptp_profile.specs.declared.seats.Log.{Log}
use Rattle.ptp_profile.specs.declared.seats.LogEntry.{LogEntry}
use Rattle.ptp_profile.specs.declared.seats.LogEntry.TheVariants.{Order, Change}
use Rattle.bc_history.specs.declared.entry.Entry.{Entry}
use Rattle.bc_history.specs.declared.entry.Effects.{Effects}
use Rattle.bc_history.specs.declared.entry.Run.{Run}
use Rattle.bc_history.specs.declared.entry.Seen.{Seen}
use Rattle.bc_history.specs.declared.entry.Input.TheVariants.{Frame, Timed, Report, Turn, Sampled}
use Rattle.bc_history.specs.declared.entry.Outcome.{Outcome}
use Rattle.bc_history.specs.declared.entry.Outcome.TheVariants.{Unlocked, Changed}
use Rattle.bc_history.specs.declared.scenario.Scenario.{Scenario}
use Rattle.model_clock.specs.Clock.{plain_clock}
use Rattle.bc_history.specs.Scenario.Defaults.{plain_port}
use Rattle.bc_history.specs.Run.RunExamples.{one_port, frame_at, announce_frame, sync_frame, response_frame, order}

-- one port that hears a master 50,000 ns ahead and 1,000 ns away, until it has stepped its clock
abbrev pub steers : Scenario
steers = one_port 5500000000 (frame_at 1 1000000000 (announce_frame 0) ∷ frame_at 1 3000000000 (announce_frame 1) ∷ frame_at 1 3500000000 (sync_frame 0 3) ∷ frame_at 1 4100000000 response_frame ∷ frame_at 1 4500000000 (sync_frame 1 4) ∷ frame_at 1 5500000000 (sync_frame 2 5) ∷ [])

-- an entry that tells nothing
abbrev pub no_effects : Effects
no_effects = record { fate = None; states = []; parent = None; orders = []; measure = None; frames = []; told = None; asked = None; answers = [] }

-- what a clock shows that runs at its own pace, after so many entries of its log
abbrev pub shows : ℕ → ℕ → Option Seen
shows number tick = Some (record { number = number; value = pos tick; freq = pos 0 })

-- port 1 hears a frame
abbrev pub hears : ℕ → List ℕ → Option Seen → Effects → Entry
hears tick octets seen effects = record { input = Frame 1 tick octets; moment = tick; seen = seen; effects = effects }

-- port 1 reports, under generation 1
abbrev pub reports : ℕ → Action → Outcome → Entry
reports tick action outcome = record { input = Report 1 tick 1 action outcome; moment = tick; seen = None; effects = no_effects }

-- the master's first Announce, with its reading
abbrev pub first_announce : Option Seen → Entry
first_announce seen = hears 1000000000 (announce_frame 0) seen (record no_effects { fate = Some Kept })

-- the second, from which on port 1 follows the master
abbrev pub second_announce : Option Seen → Entry
second_announce seen = hears 3000000000 (announce_frame 1) seen (record no_effects {
  fate = Some Kept;
  states = record { port = 1; old = Listening; new = Uncalibrated } ∷ [];
  parent = Some (record { clock = record { id = 0x000a00fffe000001 }; port = 1 });
  orders = order 0 1 1 ∷ [];
})

-- the first Sync, after the order
abbrev pub first_sync : Entry
first_sync = hears 3500000000 (sync_frame 0 3) (shows 1 3500000000) (record no_effects { fate = Some Paired })

-- the Delay_Req of port 1, by its sequence
abbrev pub request_frame : ℕ → List ℕ
request_frame seq = 0x01 ∷ 0x12 ∷ 0x00 ∷ 0x2c ∷ 0 ∷ 0 ∷ 0 ∷ 0 ∷ 0 ∷ 0 ∷ 0 ∷ 0 ∷ 0 ∷ 0 ∷ 0 ∷ 0 ∷ 0 ∷ 0 ∷ 0 ∷ 0 ∷ 0x02 ∷ 0x00 ∷ 0x00 ∷ 0xff ∷ 0xfe ∷ 0x00 ∷ 0x00 ∷ 0x01 ∷ 0x00 ∷ 0x01 ∷ 0x00 ∷ seq ∷ 0x01 ∷ 0x7f ∷ 0 ∷ 0 ∷ 0 ∷ 0 ∷ 0 ∷ 0 ∷ 0 ∷ 0 ∷ 0 ∷ 0 ∷ []

-- port 1 asks for the delay at a tick
abbrev pub requests : ℕ → ℕ → Entry
requests tick seq = record { input = Timed 1 tick DelayRequest; moment = tick; seen = shows 1 tick; effects = record no_effects { frames = record { port = 1; octets = request_frame seq } ∷ [] } }

-- and is answered
abbrev pub response : Entry
response = hears 4100000000 response_frame (shows 1 4100000000) (record no_effects { fate = Some Matched })

-- a Sync that gives a measure: 50,000 ns behind the master, which is 1,000 ns away
abbrev pub measures : ℕ → List ℕ → ℕ → Entry
measures tick octets number = hears tick octets (shows number tick) (record no_effects {
  fate = Some Paired;
  measure = Some (record { offset = negsuc 3276799999; delay = pos 65536000; local = pos tick }, record { clock = 0; gener = 1; ctrl = 1 });
})

-- the run of one port up to its second measure, which a reading after so many entries gave
abbrev pub before_the_step : ℕ → List Entry
before_the_step number =
    first_announce (shows 0 1000000000) ∷ second_announce (shows 0 3000000000) ∷ first_sync ∷ requests 4000000000 0 ∷ response
    ∷ measures 4500000000 (sync_frame 1 4) 1 ∷ reports 4500000000 Unlocked_action Unlocked ∷ requests 5000000000 1 ∷ measures 5500000000 (sync_frame 2 5) number ∷ []

-- the only clock's log
abbrev pub logged : List LogEntry → List Log
logged log = record { clock = 0; opening = plain_clock; entries = log } ∷ []

-- the port steps its clock by 50,000 ns
abbrev pub steered : Run
steered = record {
  entries = before_the_step 1 ++ reports 5500000000 (Jump (pos 50000) (pos 0)) (Changed 2) ∷ [];
  logs = logged (Order 1 1 ∷ Change 1 1 5500000000 (pos 50000) (pos 0) ∷ []);
}

-- ---- runs of the same scenario in each of which one thing is wrong

-- a frame came and the clock was not read
abbrev pub unread : Run
unread = record { entries = first_announce None ∷ []; logs = logged [] }

-- the second Announce came first
abbrev pub out_of_turn : Run
out_of_turn = record { entries = hears 3000000000 (announce_frame 1) (shows 0 3000000000) (record no_effects { fate = Some Kept }) ∷ []; logs = logged [] }

-- the order is not in the log
abbrev pub unordered : Run
unordered = record { entries = first_announce (shows 0 1000000000) ∷ second_announce (shows 0 3000000000) ∷ []; logs = logged [] }

-- the clock was one nanosecond further
abbrev pub misread : Run
misread = record { entries = first_announce (shows 0 1000000001) ∷ []; logs = logged [] }

-- the port stepped its clock by more than its servo asked for
abbrev pub oversteered : Run
oversteered = record {
  entries = before_the_step 1 ++ reports 5500000000 (Jump (pos 60000) (pos 0)) (Changed 2) ∷ [];
  logs = logged (Order 1 1 ∷ Change 1 1 5500000000 (pos 60000) (pos 0) ∷ []);
}

-- the log has another step than the port reports
abbrev pub misreported : Run
misreported = record steered { logs = logged (Order 1 1 ∷ Change 1 1 5500000000 (pos 60000) (pos 0) ∷ []) }

-- the order was known before it was made
abbrev pub foreseen : Run
foreseen = record { entries = first_announce (shows 1 1000000000) ∷ second_announce (shows 1 3000000000) ∷ []; logs = logged (Order 1 1 ∷ []) }

-- a change that nobody made, though all that is said is right
abbrev pub unnamed : Run
unnamed = record steered { entries = before_the_step 1 }

-- nothing came yet
abbrev pub unfinished : Run
unfinished = record { entries = []; logs = logged [] }

-- the same port where a servo never steps as it first locks
abbrev pub never_steps : Scenario
never_steps = record steers { options = record steers.options { first_step_threshold = 0 } }

-- the port read its clock after its own change, and then made that change
abbrev pub changed_before : Run
changed_before = record {
  entries = before_the_step 2 ++ record { input = Report 1 5500000000 1 (Locked (pos 0)) (Changed 2); moment = 5500000000; seen = None; effects = record no_effects { states = record { port = 1; old = Uncalibrated; new = Slave } ∷ [] } } ∷ [];
  logs = logged (Order 1 1 ∷ Change 1 1 5500000000 (pos 0) (pos 0) ∷ []);
}

-- two ports on one clock, the second of which hears an octet that is no message
abbrev pub two_hear : Scenario
two_hear = record steers {
  ports = plain_port ∷ plain_port ∷ [];
  records = frame_at 1 1000000000 (announce_frame 0) ∷ frame_at 1 3000000000 (announce_frame 1) ∷ frame_at 2 3200000000 (0 ∷ []) ∷ [];
}

-- the hub read a clock without the order that it had made before
abbrev pub forgotten : Run
forgotten = record {
  entries = first_announce (shows 0 1000000000) ∷ second_announce (shows 0 3000000000) ∷ record { input = Frame 2 3200000000 (0 ∷ []); moment = 3200000000; seen = shows 0 3200000000; effects = record no_effects { fate = Some (Dropped Short) } } ∷ [];
  logs = logged (Order 1 1 ∷ []);
}

-- a second clock, whose follower takes its first turn at 5.6 s
abbrev pub follows : Scenario
follows = record never_steps {
  clocks = plain_clock ∷ plain_clock ∷ [];
  options = record never_steps.options { boundary_clock_jbod = true; follow_interval = 5600000000; duration = 5600000000 };
}

-- what that follower is told to copy
abbrev pub copied : Lead
copied = record { gener = 2; source = 0 }

-- the follower of clock 1 samples, with clock 0 read after so many entries of its log
abbrev pub samples : ℕ → Entry
samples number = record {
  input = Sampled 1 5600000000 copied (record { number = number; value = pos 5600000000; freq = pos 0 }) (record { number = 1; value = pos 5600000000; freq = pos 0 }) Unlocked_action Unlocked;
  moment = 5600000000;
  seen = None;
  effects = no_effects;
}

-- the follower of a clock takes its turn, and is told this lead
abbrev pub takes_turn : ℕ → Option Lead → Entry
takes_turn clock lead = record { input = Turn clock 5600000000; moment = 5600000000; seen = None; effects = record no_effects { told = Some (record { lead = lead; missed = 0 }) } }

-- the run of both clocks up to the port's last report, and then these entries
abbrev pub followed_by : List Entry → Run
followed_by entries = record {
  entries =
      before_the_step 1
      ++ record { input = Report 1 5500000000 1 (Locked (pos 0)) (Changed 2); moment = 5500000000; seen = None; effects = record no_effects { states = record { port = 1; old = Uncalibrated; new = Slave } ∷ []; orders = order 1 2 128 ∷ [] } }
      ∷ entries;
  logs =
      record { clock = 0; opening = plain_clock; entries = Order 1 1 ∷ Change 1 1 5500000000 (pos 0) (pos 0) ∷ [] }
      ∷ record { clock = 1; opening = plain_clock; entries = Order 2 128 ∷ [] } ∷ [];
}

-- the follower of clock 1 samples, with clock 0 read after all entries of its log; the turn of the
-- follower of clock 0 is still due
abbrev pub followed : Run
followed = followed_by (takes_turn 1 (Some copied) ∷ samples 2 ∷ [])

-- the same, where the follower of clock 0 took its turn first, and was told to copy nobody
abbrev pub followed_to_the_end : Run
followed_to_the_end = followed_by (takes_turn 0 None ∷ takes_turn 1 (Some copied) ∷ samples 2 ∷ [])

-- a follower read the master's clock without the change that it was told of
abbrev pub untold : Run
untold = followed_by (takes_turn 1 (Some copied) ∷ samples 1 ∷ [])

-- the frame of a later window came first
abbrev pub backwards : Run
backwards = record { entries = second_announce (shows 0 3000000000) ∷ first_announce (shows 0 1000000000) ∷ []; logs = logged [] }
