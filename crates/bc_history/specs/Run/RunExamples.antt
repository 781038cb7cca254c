-- Scenarios and frames of the worked examples.
use Rattle.std.specs.Prelude.{ℕ, pos, List, [], ◌∷◌, ◌+◌, ◌++◌, map, flat_map, filter_map, option_map, length, reverse, take, drop, ◌*◌, codes, filter, option_to_list, slice_get, slice_index, Option, Some, None, true}
use Rattle.ptp_base.specs.declared.port_state.PortState.{PortState}
use Rattle.ptp_base.specs.declared.port_state.PortState.TheVariants.{Listening, Master}
use Rattle.ptp_profile.specs.declared.port_event.Timer.TheVariants.{AnnounceReceipt}
use Rattle.ptp_profile.specs.declared.port_event.Fate.{Fate}
use Rattle.ptp_profile.specs.declared.seats.Log.{Log}
use Rattle.bc_history.specs.declared.entry.Entry.{Entry}
use Rattle.bc_history.specs.declared.entry.Run.{Run}
use Rattle.bc_history.specs.declared.entry.Moved.{Moved}
use Rattle.ptp_profile.specs.declared.roles.RoleOrder.{RoleOrder}
use Rattle.ptp_profile.specs.declared.seats.LogEntry.{LogEntry}
use Rattle.ptp_management.specs.declared.managed.Managed.{Managed}
use Rattle.ptp_management.specs.declared.managed.Tlv.{Tlv}
use Rattle.ptp_management.specs.declared.managed.Tlv.TheVariants.{Management, Error}
use Rattle.ptp_management.specs.ManagementMessages.{managed_read}
use Rattle.bc_history.specs.declared.entry.Effects.{Effects}
use Rattle.bc_history.specs.declared.scenario.Asked.{Asked}
use Rattle.bc_history.specs.declared.scenario.Record.{Record}
use Rattle.bc_history.specs.Phases.EffectKinds.{is_query}
use Rattle.bc_history.specs.declared.scenario.Turner.TheVariants.{Default, Port as Port_turn}
use Rattle.bc_history.specs.declared.scenario.Happening.TheVariants.{Frame as Frame_record, Down as Down_record}
use Rattle.bc_history.specs.Scenario.Defaults.{default_options, plain_port, silent}
use Rattle.model_clock.specs.Clock.{plain_clock}
use Rattle.bc_history.specs.Run.World.{Status, Going, Ended, Finished, Not_due, Events, status_after}
use Rattle.bc_history.specs.declared.entry.Input.{Input}
use Rattle.bc_history.specs.declared.entry.Input.TheVariants.{Frame, Timed, Down, Up, Report, Turn, Sampled, Query}
use Rattle.bc_history.specs.declared.entry.Outcome.{Outcome}
use Rattle.bc_history.specs.declared.entry.Sent.{Sent}
use Rattle.bc_history.specs.declared.scenario.Scenario.{Scenario}

-- a port's announce receipt timer at 6 s takes it from LISTENING to MASTER
abbrev pub becomes_master : ℕ → Entry
becomes_master p = record {
  input = Timed p 6000000000 AnnounceReceipt;
  moment = 6000000000;
  seen = Some (record { number = 0; value = pos 6000000000; freq = pos 0 });
  effects =
      record
      { fate = None; states = record { port = p; old = Listening; new = Master } ∷ []; parent = None; orders = []; measure = None; frames = []; told = None; asked = None; answers = [] };
}

-- the log of a clock that nobody steered
abbrev pub quiet_log : Log
quiet_log = record { clock = 0; opening = plain_clock; entries = [] }

-- the run in which two silent ports become MASTER
abbrev pub two_masters : Run
two_masters = record { entries = becomes_master 1 ∷ becomes_master 2 ∷ []; logs = quiet_log ∷ [] }

-- the octets of a grandmaster's identity
abbrev pub first_master : List ℕ
first_master = 0x00 ∷ 0x0a ∷ 0x00 ∷ 0xff ∷ 0xfe ∷ 0x00 ∷ 0x00 ∷ 0x01 ∷ []

-- the octets of another grandmaster's identity
abbrev pub second_master : List ℕ
second_master = 0x00 ∷ 0x0b ∷ 0x00 ∷ 0xff ∷ 0xfe ∷ 0x00 ∷ 0x00 ∷ 0x02 ∷ []

-- the octets of a third grandmaster's identity
abbrev pub far_master : List ℕ
far_master = 0x00 ∷ 0x0c ∷ 0x00 ∷ 0xff ∷ 0xfe ∷ 0x00 ∷ 0x00 ∷ 0x01 ∷ []

-- an Announce of port 1 of a sender, of class 6, by grandmaster, priority1, steps and sequence
abbrev pub announce_of : (sender grandmaster : List ℕ) → (priority1 steps seq : ℕ) → List ℕ
announce_of sender grandmaster priority1 steps seq =
    0x0b ∷ 0x12 ∷ 0x00 ∷ 0x40 ∷ 0x00 ∷ 0x00 ∷ 0x00 ∷ 0x08 ∷ 0 ∷ 0 ∷ 0 ∷ 0 ∷ 0 ∷ 0 ∷ 0 ∷ 0 ∷ 0 ∷ 0
    ∷ 0 ∷ 0 ∷ []
    ++ sender
    ++ 0x00 ∷ 0x01 ∷ 0x00 ∷ seq ∷ 0x05 ∷ 0x01 ∷ 0 ∷ 0 ∷ 0 ∷ 0 ∷ 0 ∷ 0 ∷ 0 ∷ 0 ∷ 0 ∷ 0 ∷ 0x00 ∷ 0x25
    ∷ 0x00 ∷ priority1 ∷ 0x06 ∷ 0x21 ∷ 0x4e ∷ 0x5d ∷ 0x80 ∷ []
    ++ grandmaster ++ 0x00 ∷ steps ∷ 0x20 ∷ []

-- an Announce of the first master, by its sequence
abbrev pub announce_frame : ℕ → List ℕ
announce_frame seq = announce_of first_master first_master 128 0 seq

-- a one-step Sync of the master, sent 49,000 ns after half a second past so many seconds, by its
-- sequence
abbrev pub sync_frame : ℕ → ℕ → List ℕ
sync_frame seq seconds =
    0 ∷ 18 ∷ 0 ∷ 44 ∷ 0 ∷ 0 ∷ 0 ∷ 0 ∷ 0 ∷ 0 ∷ 0 ∷ 0 ∷ 0 ∷ 0 ∷ 0 ∷ 0 ∷ 0 ∷ 0 ∷ 0 ∷ 0 ∷ 0 ∷ 10 ∷ 0
    ∷ 255 ∷ 254 ∷ 0 ∷ 0 ∷ 1 ∷ 0 ∷ 1 ∷ 0 ∷ seq ∷ 0 ∷ 0 ∷ 0 ∷ 0 ∷ 0 ∷ 0 ∷ 0 ∷ seconds ∷ 29 ∷ 206 ∷ 36
    ∷ 104 ∷ []

-- a Delay_Resp of the master to port 1 of the own clock, sequence 0, received at 4.000051 s
abbrev pub response_frame : List ℕ
response_frame =
    9 ∷ 18 ∷ 0 ∷ 54 ∷ 0 ∷ 0 ∷ 0 ∷ 0 ∷ 0 ∷ 0 ∷ 0 ∷ 0 ∷ 0 ∷ 0 ∷ 0 ∷ 0 ∷ 0 ∷ 0 ∷ 0 ∷ 0 ∷ 0 ∷ 10 ∷ 0
    ∷ 255 ∷ 254 ∷ 0 ∷ 0 ∷ 1 ∷ 0 ∷ 1 ∷ 0 ∷ 0 ∷ 3 ∷ 0 ∷ 0 ∷ 0 ∷ 0 ∷ 0 ∷ 0 ∷ 4 ∷ 0 ∷ 0 ∷ 199 ∷ 56 ∷ 2
    ∷ 0 ∷ 0 ∷ 255 ∷ 254 ∷ 0 ∷ 0 ∷ 1 ∷ 0 ∷ 1 ∷ []

-- a record of a frame of port p
abbrev pub frame_at : ℕ → ℕ → List ℕ → Record
frame_at p tick octets = record { port = p; tick = tick; what = Frame_record octets }

-- a scenario of one port that hears frames, for so many ns
abbrev pub one_port : ℕ → List Record → Scenario
one_port duration records = record {
  options = record default_options { duration = duration };
  clocks = plain_clock ∷ [];
  ports = plain_port ∷ [];
  records = records;
  queries = [];
  turns = [];
}

-- what port 1 hears of a grandmaster in the first seven seconds
abbrev pub master_records : List Record
master_records =
    frame_at 1 1000000000 (announce_frame 0) ∷ frame_at 1 3000000000 (announce_frame 1)
    ∷ frame_at 1 3500000000 (sync_frame 0 3)
    ∷ frame_at 1 4100000000 response_frame ∷ frame_at 1 4500000000 (sync_frame 1 4)
    ∷ frame_at 1 5000000000 (announce_frame 2)
    ∷ frame_at 1 5500000000 (sync_frame 2 5) ∷ frame_at 1 6500000000 (sync_frame 3 6)
    ∷ frame_at 1 7000000000 (announce_frame 3) ∷ []

-- the realistic example: a master 50,000 ns ahead and 1,000 ns away on port 1 of clock 0, and port
-- 2 on clock 1
abbrev pub realistic : Scenario
realistic = record {
  options = record default_options { boundary_clock_jbod = true; duration = 8000000000 };
  clocks = plain_clock ∷ plain_clock ∷ [];
  ports = plain_port ∷ record plain_port { clock = 1 } ∷ [];
  records = master_records;
  queries = [];
  turns = [];
}

-- the same with both ports on one clock
abbrev pub on_one_clock : Scenario
on_one_clock =
    record realistic {
      clocks = plain_clock ∷ [];
      ports = plain_port ∷ plain_port ∷ [];
      options = record default_options { duration = 8000000000 };
    }

-- a better master on port 2 takes over while port 1 has measured and not yet changed its clock
abbrev pub handover : Scenario
handover = record realistic {
  options = record default_options { boundary_clock_jbod = true; duration = 5900000000 };
  records =
      master_records
      ++ frame_at 2 4000000000 (announce_of second_master second_master 100 0 0)
      ∷ frame_at 2 5500000000 (announce_of second_master second_master 100 0 1) ∷ [];
  turns = record { who = Default; count = 21 } ∷ record { who = Port_turn 2; count = 1 } ∷ [];
}

-- subscriptions that end before they are renewed
abbrev pub unsubscribed : Scenario
unsubscribed =
    record realistic {
      options = record default_options {
        boundary_clock_jbod = true;
        duration = 8000000000;
        subscribe_duration = 3000000000;
        subscribe_renew = 10000000000;
      };
    }

-- clocks whose logs have room for two entries
abbrev pub two_rows : Scenario → Scenario
two_rows s = record s { options = record s.options { seat_rows = 2 } }

-- one port that hears a master of priority1 100 twice, with an own clock of a class
abbrev pub hears_twice : (class duration : ℕ) → Scenario
hears_twice class duration = record {
  options = record default_options { duration = duration; clock_class = class };
  clocks = plain_clock ∷ [];
  ports = plain_port ∷ [];
  records =
      frame_at 1 1000000000 (announce_of first_master first_master 100 0 0)
      ∷ frame_at 1 3000000000 (announce_of first_master first_master 100 0 1) ∷ [];
  queries = [];
  turns = [];
}

-- port 1 hears a clock that is one step away, and port 2 a worse one
abbrev pub two_masters_heard : Scenario
two_masters_heard = record {
  options = record default_options { duration = 12000000000 };
  clocks = plain_clock ∷ [];
  ports = plain_port ∷ plain_port ∷ [];
  records =
      map (λ k. frame_at 1 ((2 * k + 1) * 1000000000) (announce_of first_master far_master 128 1 k))
      (0 ∷ 1 ∷ 2 ∷ 3 ∷ 4 ∷ 5 ∷ [])
      ++ frame_at 2 3200000000 (announce_of second_master second_master 200 0 0)
      ∷ frame_at 2 5200000000 (announce_of second_master second_master 200 0 1) ∷ [];
  queries = [];
  turns = [];
}

-- one port that hears a clock worse than the own
abbrev pub worse_heard : Scenario
worse_heard =
    one_port 4000000000
    (frame_at 1 1000000000 (announce_of second_master second_master 200 0 0)
    ∷ frame_at 1 3000000000 (announce_of second_master second_master 200 0 1) ∷ [])

-- the run that a scenario ended with
abbrev pub finished_run : Status → Option Run
finished_run (Going w) = None
finished_run (Ended (Finished run)) = Some run
finished_run (Ended (Not_due turn)) = None
finished_run (Ended Events) = None

-- what a run did: how many entries it has, when which port moved, the orders, and the clocks' logs
pub record Summary : Type 0 where
  pub entries : ℕ
  pub moves : List (ℕ × ℕ × Moved)
  pub orders : List RoleOrder
  pub logs : List (List LogEntry)

-- the moves with the numbers and the moments of their entries
abbrev pub moves_from : ℕ → List Entry → List (ℕ × ℕ × Moved)
moves_from n [] = []
moves_from n (e ∷ es) =
    map (λ (m : Moved). (n, e.moment, m)) e.effects.states ++ moves_from (n + 1) es

-- what a run is compared by
abbrev pub summary_of : Run → Summary
summary_of run = record {
  entries = length run.entries;
  moves = moves_from 1 run.entries;
  orders = flat_map (λ (e : Entry). e.effects.orders) run.entries;
  logs = map (λ (log : Log). log.entries) run.logs;
}

-- what a scenario did in so many turns, or fewer
abbrev pub summary_after : Scenario → ℕ → Option Summary
summary_after s turns = option_map summary_of (finished_run (status_after s turns))

-- how many entries a run has, and the clocks' logs
pub record Ending : Type 0 where
  pub entries : ℕ
  pub logs : List (List LogEntry)

-- how many entries there are after so many turns, and the logs, where the run has ended
abbrev pub ending_after : Scenario → ℕ → Option Ending
ending_after s turns =
    option_map (λ (summary : Summary). record { entries = summary.entries; logs = summary.logs })
    (summary_after s turns)

-- which port moved, and when
abbrev pub moves_after : Scenario → ℕ → Option (List (ℕ × Moved))
moves_after s turns =
    option_map (λ (summary : Summary). map (λ (m : ℕ × ℕ × Moved). (m.1, m.2)) summary.moves)
    (summary_after s turns)

-- a move of a port's state, with its moment
abbrev pub at : ℕ → ℕ → PortState → PortState → ℕ × Moved
at moment port old new = (moment, record { port = port; old = old; new = new })

-- the outcome that a port reports
abbrev pub report_in : Input → Option Outcome
report_in (Report port tick gener action outcome) = Some outcome
report_in (Frame port tick octets) = None
report_in (Timed port tick timer) = None
report_in (Down port tick) = None
report_in (Up port tick) = None
report_in (Turn clock tick) = None
report_in (Sampled clock tick lead theirs own action outcome) = None
report_in (Query tick text) = None

-- the outcomes that ports reported, where the run has ended
abbrev pub reports_after : Scenario → ℕ → Option (List Outcome)
reports_after s turns =
    option_map (λ (run : Run). filter_map (λ (e : Entry). report_in e.input) run.entries)
    (finished_run (status_after s turns))

-- the frames that a run sent
abbrev pub frames_after : Scenario → ℕ → Option (List Sent)
frames_after s turns =
    option_map (λ (run : Run). flat_map (λ (e : Entry). e.effects.frames) run.entries)
    (finished_run (status_after s turns))

-- a move of a port's state, with its entry's number and moment
abbrev pub move : ℕ → ℕ → ℕ → PortState → PortState → ℕ × ℕ × Moved
move n moment port old new = (n, moment, record { port = port; old = old; new = new })

-- an order of a role
abbrev pub order : ℕ → ℕ → ℕ → RoleOrder
order clock gener ctrl = record { clock = clock; gener = gener; ctrl = ctrl }

-- the Sync of port 1 at 7 s, and its Follow_Up
abbrev pub first_sync : List ℕ
first_sync =
    0 ∷ 18 ∷ 0 ∷ 44 ∷ 0 ∷ 0 ∷ 2 ∷ 0 ∷ 0 ∷ 0 ∷ 0 ∷ 0 ∷ 0 ∷ 0 ∷ 0 ∷ 0 ∷ 0 ∷ 0 ∷ 0 ∷ 0 ∷ 2 ∷ 0 ∷ 0
    ∷ 255 ∷ 254 ∷ 0 ∷ 0 ∷ 1 ∷ 0 ∷ 1 ∷ 0 ∷ 0 ∷ 0 ∷ 0 ∷ 0 ∷ 0 ∷ 0 ∷ 0 ∷ 0 ∷ 0 ∷ 0 ∷ 0 ∷ 0 ∷ 0 ∷ []

-- the first Follow_Up that a port sends
abbrev pub first_follow_up : List ℕ
first_follow_up =
    8 ∷ 18 ∷ 0 ∷ 44 ∷ 0 ∷ 0 ∷ 0 ∷ 0 ∷ 0 ∷ 0 ∷ 0 ∷ 0 ∷ 0 ∷ 0 ∷ 0 ∷ 0 ∷ 0 ∷ 0 ∷ 0 ∷ 0 ∷ 2 ∷ 0 ∷ 0
    ∷ 255 ∷ 254 ∷ 0 ∷ 0 ∷ 1 ∷ 0 ∷ 1 ∷ 0 ∷ 0 ∷ 2 ∷ 0 ∷ 0 ∷ 0 ∷ 0 ∷ 0 ∷ 0 ∷ 7 ∷ 0 ∷ 0 ∷ 0 ∷ 0 ∷ []

-- how many octets each frame has that ports sent, where the run has ended
abbrev pub lengths_after : Scenario → ℕ → Option (List ℕ)
lengths_after s turns =
    option_map (λ (frames : List Sent). map (λ (sent : Sent). length sent.octets) frames)
    (frames_after s turns)

-- the first n frames that ports sent, where the run has ended
abbrev pub sent_first : ℕ → Scenario → ℕ → Option (List Sent)
sent_first n s turns = option_map (λ (frames : List Sent). take n frames) (frames_after s turns)

-- one port whose link goes down at 6.5 s
abbrev pub goes_down : Scenario
goes_down = one_port 8000000000 (record { port = 1; tick = 6500000000; what = Down_record } ∷ [])

-- what became of the frames of a run
abbrev pub fates_after : Scenario → ℕ → Option (List Fate)
fates_after s turns =
    option_map (λ (run : Run). filter_map (λ (e : Entry). e.effects.fate) run.entries)
    (finished_run (status_after s turns))

-- a master's Syncs, and nothing that gives a delay
abbrev pub syncs_alone : Scenario
syncs_alone = record on_one_clock {
  records =
      frame_at 1 1000000000 (announce_frame 0) ∷ frame_at 1 3000000000 (announce_frame 1)
      ∷ frame_at 1 3500000000 (sync_frame 0 3) ∷ frame_at 1 4500000000 (sync_frame 1 4)
      ∷ frame_at 1 5000000000 (announce_frame 2) ∷ frame_at 1 5500000000 (sync_frame 2 5)
      ∷ frame_at 1 6500000000 (sync_frame 3 6) ∷ frame_at 1 7000000000 (announce_frame 3) ∷ [];
}

-- a response that comes twice
abbrev pub responds_twice : Scenario
responds_twice = record on_one_clock {
  records =
      frame_at 1 1000000000 (announce_frame 0) ∷ frame_at 1 3000000000 (announce_frame 1)
      ∷ frame_at 1 4100000000 response_frame ∷ frame_at 1 4100000000 response_frame ∷ [];
  options = record default_options { duration = 5000000000 };
}

-- the entries of the run that a scenario ended with, the oldest first; none where it goes on
abbrev pub entries_of : Option Run → List Entry
entries_of None = []
entries_of (Some run) = run.entries

-- the entries of a run that has ended
abbrev pub entries_after : Scenario → ℕ → List Entry
entries_after s turns = entries_of (finished_run (status_after s turns))

-- the same, the newest first, without as many of the newest
abbrev pub history_before : ℕ → Scenario → ℕ → List Entry
history_before less s turns = drop less (reverse (entries_after s turns))

-- ---- queries

-- two ports that hear nothing for 6 s, and six lines of queries then
abbrev pub queried : Scenario
queried = record (silent 6 2) { queries = map (λ (text : List ℕ). let q : Asked = record { tick = 6000000000; text = text } in q) texts }
  where
    texts : List (List ℕ)
    texts =
        codes "GET PRIORITY1" ∷ codes "GET PORT_DATA_SET" ∷ codes "GET PORT_DATA_SET 9"
        ∷ codes "GET NOTHING"
        ∷ codes "SET PRIORITY1 1" ∷ codes "GET PORT_DATA_SET x" ∷ []

-- what its run tells of each query, by 9 turns
abbrev pub query_effects : List Effects
query_effects =
    map (λ (e : Entry). e.effects)
    (filter (λ (e : Entry). is_query e.input) (entries_after queried 9))

-- the answers to the query of an index
abbrev pub answers_to_query : ℕ → List (List ℕ)
answers_to_query n =
    flat_map (λ (f : Effects). f.answers) (option_to_list (slice_get query_effects n))

-- the answer to the first, in hex
abbrev pub priority_hex : List ℕ
priority_hex =
    codes
    "0d12003800000000000000000000000000000000020000fffe00000100000000047f00000000000000000001000002000001000420058000"

-- a response of a port: the port, the sequence, and portState
pub record PortAnswer : Type 0 where
  pub port : ℕ
  pub seq : ℕ
  pub state : ℕ

-- an answer to PORT_DATA_SET: who is told of, and its state
abbrev pub port_answer : List ℕ → Option PortAnswer
port_answer octets = option_map of (managed_read 0 octets)
  where
    state_in : Tlv → ℕ
    state_in (Management id values) = slice_index values 10
    state_in (Error error id) = 0

    of : Managed → PortAnswer
    of m = record { port = m.sender.port; seq = m.seq; state = state_in m.tlv }
