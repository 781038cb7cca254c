-- One port: its state, its timers, and what it keeps of the messages of its parent (IEEE 1588-2019,
-- 9.2, 9.5 and 11.3).
use Rattle.std.specs.Prelude.{ℕ, ℤ, ◌+◌, ◌%◌, ◌==◌, ◌&&◌, Bool, true, false, if◌then◌else◌, List, [], ◌++◌, bit_and, Option, Some, None, option_and_then, option_to_list}
use Rattle.ptp_base.specs.declared.identity.PortId.{PortId}
use Rattle.ptp_base.specs.declared.triple.Triple.{Triple}
use Rattle.ptp_base.specs.declared.code.Code.TheVariants.{S1}
use Rattle.ptp_base.specs.declared.port_conf.PortConf.{PortConf}
use Rattle.ptp_base.specs.declared.port_state.PortState.{PortState}
use Rattle.ptp_base.specs.declared.port_state.PortState.TheVariants.{Initializing, Faulty, Disabled, Listening, PreMaster, Master, Passive, Uncalibrated, Slave}
use Rattle.ptp_profile.specs.declared.port_event.PortEvent.{PortEvent}
use Rattle.ptp_profile.specs.declared.port_event.PortEvent.TheVariants.{Decided}
use Rattle.ptp_profile.specs.declared.port_event.Timer.{Timer}
use Rattle.ptp_profile.specs.declared.port_event.Timer.TheVariants.{AnnounceReceipt, Qualification, AnnounceSend, SyncSend, DelayRequest}
use Rattle.ptp_profile.specs.declared.port_event.Fate.{Fate}
use Rattle.ptp_profile.specs.declared.port_event.Fate.TheVariants.{Ignored, Waiting, Paired, Matched, Unmatched, Answered}
use Rattle.ptp_profile.specs.declared.timing.Measure.{Measure}
use Rattle.ptp_profile.specs.declared.message.Message.{Message}
use Rattle.ptp_profile.specs.declared.message.Body.{Body}
use Rattle.ptp_profile.specs.declared.message.Body.TheVariants.{Sync as Sync_body, DelayReq, FollowUp, DelayResp, Announce}
use Rattle.ptp_profile.specs.Best.PortIdentity.{is_same_port}
use Rattle.ptp_profile.specs.Port.PortStates.{is_following, is_master, next, state_number}
use Rattle.ptp_profile.specs.Port.PortTimers.{Timers, no_timers, timer_at, with_timer, waiting_timers, sending_timers, following_timers, qualifying_timers, qualification_of, receipt_time, announce_interval, sync_interval, delay_interval}
use Rattle.ptp_profile.specs.Timing.OffsetAndDelay.{Piece, One_step, Sync, Follow_up, Request, triple_after, request_answered, with_delay, mean_of, measure_of}

-- a port: its state, its timers, what it keeps of pairs and delays, and how many messages of each
-- kind it sent
pub record Port : Type 0 where
  pub id : PortId
  pub conf : PortConf
  pub state : PortState
  pub timers : Timers
  -- the Syncs and Follow_Ups of the parent since the pairing was last cleared, the newest first
  pub pieces : List Piece
  -- the last triple since the last flush or clearing
  pub triple : Option Triple
  -- the last request that has no response, since the last flush or clearing
  pub request : Option Request
  -- the delays since the last clearing, the newest first
  pub delays : List ℤ
  -- how many Announces, Syncs and Delay_Reqs were sent in the whole run
  pub announces : ℕ
  pub syncs : ℕ
  pub requests : ℕ

-- a port as the run begins: LISTENING from moment 0 on
abbrev pub open_port : PortId → PortConf → Port
open_port id conf = record {
  id = id;
  conf = conf;
  state = Listening;
  timers = waiting_timers conf 0;
  pieces = [];
  triple = None;
  request = None;
  delays = [];
  announces = 0;
  syncs = 0;
  requests = 0;
}

-- ---- states and timers

-- pairing and delays are cleared
abbrev pub after_clearing : Port → Port
after_clearing p = record p { pieces = []; triple = None; request = None; delays = [] }

-- after the clock was stepped: the times that were kept no longer hold, and the delays stay
abbrev pub after_clock_step : Port → Port
after_clock_step p = record p { pieces = []; triple = None; request = None }

-- announce receipt is set anew at moment m
abbrev pub with_receipt_renewed : ℕ → Port → Port
with_receipt_renewed m p =
    record p { timers = with_timer p.timers AnnounceReceipt (Some (m + receipt_time p.conf)) }

-- a port that enters UNCALIBRATED: by a decision it begins to follow; by a synchronization fault it
-- goes on
abbrev pub after_entering_uncalibrated : ℕ → PortEvent → Port → Port
after_entering_uncalibrated m (Decided code) p =
    record (after_clearing p) { state = Uncalibrated; timers = following_timers p.conf m }
after_entering_uncalibrated m _ p = record p { state = Uncalibrated }

-- a port that enters a state at m by an event, with so many steps to its grandmaster
abbrev pub after_entering : ℕ → ℕ → PortEvent → PortState → Port → Port
after_entering m steps cause Listening p =
    record p { state = Listening; timers = waiting_timers p.conf m }
after_entering m steps cause Passive p =
    record p { state = Passive; timers = waiting_timers p.conf m }
after_entering m steps cause Uncalibrated p = after_entering_uncalibrated m cause p
after_entering m steps cause Slave p = record p { state = Slave }
after_entering m steps cause PreMaster p =
    record p {
      state = PreMaster;
      timers = qualifying_timers (qualification_of p.conf m steps cause);
    }
after_entering m steps cause Master p =
    record p { state = Master; timers = sending_timers p.conf m }
after_entering m steps cause Faulty p = record p { state = Faulty; timers = no_timers }
after_entering m steps cause Initializing p = record p { state = Initializing }
after_entering m steps cause Disabled p = record p { state = Disabled }

-- a decision that makes a port follow
abbrev pub is_following_code : PortEvent → Bool
is_following_code (Decided S1) = true
is_following_code _ = false

-- a port that follows already is to follow another parent
abbrev pub gets_parent : PortEvent → Bool → PortState → Bool
gets_parent cause is_new state = is_new && (is_following_code cause && is_following state)

-- the port after an event at m; is_new says that the best announcement comes from another sender
-- than the parent
abbrev pub after_event : ℕ → ℕ → PortEvent → Bool → Port → Port
after_event m steps cause is_new p =
    if gets_parent cause is_new p.state then with_receipt_renewed m (record (after_clearing p) { state = Uncalibrated })
    else if state_number (next p.state cause is_new) == state_number p.state then p
    else after_entering m steps cause (next p.state cause is_new) p

-- the timer of the port was set for that tick
abbrev pub is_set_for : Timer → ℕ → Port → Bool
is_set_for timer tick p = is_at (timer_at p.timers timer)
  where
    is_at : Option ℕ → Bool
    is_at None = false
    is_at (Some at) = at == tick

-- a timer that fires at its tick, with the reading then: it is cleared, and one that sends is set
-- for an interval after its own tick
abbrev pub after_firing : ℕ → ℤ → Timer → Port → Port
after_firing tick seen AnnounceReceipt p =
    record p { timers = with_timer p.timers AnnounceReceipt None }
after_firing tick seen Qualification p =
    record p { timers = with_timer p.timers Qualification None }
after_firing tick seen AnnounceSend p =
    record p {
      timers = with_timer p.timers AnnounceSend (Some (tick + announce_interval p.conf));
      announces = p.announces + 1;
    }
after_firing tick seen SyncSend p =
    record p {
      timers = with_timer p.timers SyncSend (Some (tick + sync_interval p.conf));
      syncs = p.syncs + 1;
    }
after_firing tick seen DelayRequest p =
    record p {
      timers = with_timer p.timers DelayRequest (Some (tick + delay_interval p.conf));
      request = Some (record { seq = p.requests % 65536; sent = seen });
      requests = p.requests + 1;
    }

-- ---- messages that are no Announce

-- a Sync or a Follow_Up as a piece; the flag twoStep says that a Follow_Up comes (7.3.7, 13.3.2.8)
abbrev pub piece_of : Message → ℤ → Body → Option Piece
piece_of message seen (Sync_body origin) =
    if bit_and message.flags 0x0200 == 0 then
    Some (One_step origin seen message.correction)
    else
    Some (Sync message.seq seen message.correction)
piece_of message seen (FollowUp precise) = Some (Follow_up message.seq precise message.correction)
piece_of message seen (DelayReq origin) = None
piece_of message seen (DelayResp receive requesting) = None
piece_of message seen (Announce origin said) = None

-- the triple that a message gives, after the pieces before it
abbrev pub triple_of : Message → ℤ → Port → Option Triple
triple_of message seen p =
    option_and_then (λ piece. triple_after piece p.pieces) (piece_of message seen message.body)

-- the port takes timing messages of the sender: it follows, and the sender is its parent
abbrev pub takes_from : PortId → PortId → Port → Bool
takes_from parent sender p = is_following p.state && is_same_port sender parent

-- the request of the port that a message answers
abbrev pub request_answered_by : Message → Body → Port → Option Request
request_answered_by message (DelayResp receive requesting) p =
    request_answered p.id message.seq requesting p.request
request_answered_by message (Sync_body origin) p = None
request_answered_by message (DelayReq origin) p = None
request_answered_by message (FollowUp precise) p = None
request_answered_by message (Announce origin said) p = None

-- the fate of a Sync or a Follow_Up, by what it gave
abbrev pub paired_fate : Option Triple → Fate
paired_fate None = Waiting
paired_fate (Some t) = Paired

-- the fate of a Delay_Resp, by the request that it answers
abbrev pub response_fate : Option Request → Fate
response_fate None = Unmatched
response_fate (Some request) = Matched

-- what becomes of a message of another clock that is no Announce; Announces are judged by the
-- records
abbrev pub timing_fate : PortId → Message → ℤ → Port → Body → Fate
timing_fate parent message seen p (DelayReq origin) =
    if is_master p.state then Answered else Ignored
timing_fate parent message seen p (Sync_body origin) =
    if takes_from parent message.sender p then paired_fate (triple_of message seen p) else Ignored
timing_fate parent message seen p (FollowUp precise) =
    if takes_from parent message.sender p then paired_fate (triple_of message seen p) else Ignored
timing_fate parent message seen p (DelayResp receive requesting) =
    if takes_from parent message.sender p then
    response_fate (request_answered_by message message.body p)
    else
    Ignored
timing_fate parent message seen p (Announce origin said) = Ignored

-- one more Sync or Follow_Up
abbrev pub with_piece : Message → ℤ → Port → Port
with_piece message seen p =
    record p { pieces = option_to_list (piece_of message seen message.body) ++ p.pieces }

-- the delay that a response gives (11.3.2); the request is then given up
abbrev pub with_response : Message → Body → Port → Port
with_response message (DelayResp receive requesting) p =
    record p {
      request = None;
      delays = with_delay p.triple p.request receive message.correction p.delays;
    }
with_response message (Sync_body origin) p = p
with_response message (DelayReq origin) p = p
with_response message (FollowUp precise) p = p
with_response message (Announce origin said) p = p

-- the port after a message that is no Announce, with its fate
abbrev pub after_timing : Message → ℤ → Fate → Port → Port
after_timing message seen Waiting p = with_piece message seen p
after_timing message seen Paired p =
    record (with_piece message seen p) { triple = triple_of message seen p }
after_timing message seen Matched p = with_response message message.body p
after_timing message seen _ p = p

-- the measure that a message gives, with the mean over so many delays (11.2)
abbrev pub timing_measure : ℕ → Message → ℤ → Fate → Port → Option Measure
timing_measure length message seen Paired p =
    option_and_then (λ t. measure_of t (mean_of length p.delays)) (triple_of message seen p)
timing_measure length message seen _ p = None
