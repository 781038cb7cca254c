-- The frames that a port sends (IEEE 1588-2019, 9.5 and 11.3.2).
use Rattle.std.specs.Prelude.{ℕ, ℤ, pos, ◌%◌, List, [], ◌∷◌}
use Rattle.ptp_base.specs.declared.identity.PortId.{PortId}
use Rattle.ptp_profile.specs.declared.port_event.Timer.{Timer}
use Rattle.ptp_profile.specs.declared.port_event.Timer.TheVariants.{AnnounceReceipt, Qualification, AnnounceSend, SyncSend, DelayRequest}
use Rattle.ptp_profile.specs.declared.message.Message.{Message}
use Rattle.ptp_profile.specs.declared.message.Body.{Body}
use Rattle.ptp_profile.specs.declared.message.Body.TheVariants.{Sync, DelayReq, FollowUp, DelayResp, Announce}
use Rattle.ptp_profile.specs.Best.MasterData.{Master}
use Rattle.ptp_profile.specs.Port.Port.{Port}

-- a message of the own port, in a domain
abbrev pub message_by : ℕ → PortId → ℕ → ℕ → ℤ → ℤ → Body → Message
message_by domain sender flags seq correction interval body =
    record {
      domain = domain;
      flags = flags;
      correction = correction;
      sender = sender;
      seq = seq;
      log_interval = interval;
      body = body;
    }

-- an Announce says what the data sets say; of the flags the low six are those of the time
-- properties (9.5.8, 13.3.2.8)
abbrev pub announce_by : ℕ → Master → Port → Message
announce_by domain master p =
    message_by domain p.id (master.time.flags % 64) (p.announces % 65536) (pos 0)
    p.conf.log_announce
    (Announce (pos 0)
    (record {
      grandmaster = master.grandmaster;
      quality = master.quality;
      steps = master.steps;
      utc_offset = master.time.utc_offset;
      source = master.time.source;
    }))

-- a Sync says by the flag twoStep that its Follow_Up has the time (9.5.9)
abbrev pub sync_by : ℕ → Port → Message
sync_by domain p =
    message_by domain p.id 0x0200 (p.syncs % 65536) (pos 0) p.conf.log_sync (Sync (pos 0))

-- a Follow_Up has the sequence of its Sync, and the reading (9.5.10)
abbrev pub follow_up_by : ℕ → ℤ → Port → Message
follow_up_by domain seen p =
    message_by domain p.id 0 (p.syncs % 65536) (pos 0) p.conf.log_sync (FollowUp seen)

-- a Delay_Req (9.5.11); its interval is 0x7F (13.3.2.14)
abbrev pub delay_request_by : ℕ → Port → Message
delay_request_by domain p =
    message_by domain p.id 0 (p.requests % 65536) (pos 0) (pos 0x7F) (DelayReq (pos 0))

-- a Delay_Resp has the sequence and the correction of its request, the reading, and the request's
-- sender (9.5.12, 11.3.2)
abbrev pub delay_response_by : ℕ → ℤ → Message → Port → Message
delay_response_by domain seen request p =
    message_by domain p.id 0 request.seq request.correction p.conf.log_delay
    (DelayResp seen request.sender)

-- the messages that a timer sends, with the reading then
abbrev pub timer_messages : ℕ → Master → ℤ → Timer → Port → List Message
timer_messages domain master seen AnnounceSend p = announce_by domain master p ∷ []
timer_messages domain master seen SyncSend p = sync_by domain p ∷ follow_up_by domain seen p ∷ []
timer_messages domain master seen DelayRequest p = delay_request_by domain p ∷ []
timer_messages domain master seen AnnounceReceipt p = []
timer_messages domain master seen Qualification p = []
