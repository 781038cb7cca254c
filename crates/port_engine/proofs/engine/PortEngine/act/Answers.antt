use Rattle.std.proofs.Common.{rules, ◌∙◌, ap, subst, ℤ, [], ◌∷◌, ◌++◌, w64}
use Rattle.std.proofs.lemmas.Int.{to_z-of_z}
use Rattle.ptp_profile.specs.declared.port_event.Timer.TheVariants.{DelayRequest}
use Rattle.ptp_profile.specs.Port.Port.{after_firing}
use Rattle.ptp_profile.specs.Wire.MessageFormat.{message_octets}
use Rattle.ptp_profile.specs.Port.PortMessages.{sync_by, follow_up_by}
use Rattle.port_engine.specs.EngineView.{EngineRepresents}
use Rattle.port_engine.proofs.engine.PortEngine.act.Goals as goal

pub returns-in-AnnounceSend-clause-port : goal.returns-in-AnnounceSend-clause-port
returns-in-AnnounceSend-clause-port c = λ length p is. rw c.in-AnnounceSend.is (c.send_announce.ensures.port length p c.args.seen is)

pub returns-in-SyncSend-clause-port : goal.returns-in-SyncSend-clause-port
returns-in-SyncSend-clause-port c = λ length p is. rw c.in-SyncSend.is (c.send_sync.ensures.port length p is)

pub returns-in-SyncSend-clause-sent : goal.returns-in-SyncSend-clause-sent
returns-in-SyncSend-clause-sent c = λ length p is.
    rw c.in-SyncSend.is (c.send_sync.ensures.sent length p is
    ∙ ap (λ (z : ℤ). c.args.frames.now.items ++ message_octets (sync_by c.args.d.now.domain p) ∷ message_octets (follow_up_by c.args.d.now.domain z p) ∷ []) (to_z-of_z w64 c.args.seen (search rules)))

pub returns-in-DelayRequest-clause-port : goal.returns-in-DelayRequest-clause-port
returns-in-DelayRequest-clause-port c = λ length p is.
    let P : ℤ → Type 0 = λ z. EngineRepresents length c.send_delay_request.new.self (after_firing c.args.tick z DelayRequest p) in
    rw c.in-DelayRequest.is (subst P (to_z-of_z w64 c.args.seen (search rules)) (c.send_delay_request.ensures.port length p is))
