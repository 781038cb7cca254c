use Rattle.std.proofs.Common.{rules, ◌∙◌, ap, ℤ, [], ◌∷◌, ◌++◌, w64}
use Rattle.std.proofs.lemmas.Int.{to_z-of_z}
use Rattle.ptp_profile.specs.Wire.MessageFormat.{message_octets}
use Rattle.ptp_profile.specs.Port.PortMessages.{sync_by, follow_up_by}
use Rattle.port_engine.proofs.lemmas.SendingTimerLemmas.{two_put}
use Rattle.port_engine.proofs.engine.PortEngine.send_sync.Goals as goal

pub returns-clause-sent : goal.returns-clause-sent
returns-clause-sent c = λ length p is.
    two_put c.args.frames.now c.put.new.self c.put-2.new.self _ _ _ _ _ _ c.put.ensures c.put-2.ensures (c.sync-message.ensures.exact length p is) (c.follow_up-follow_up.ensures.exact length p is)
    ∙ ap (λ (z : ℤ). c.args.frames.now.items ++ message_octets (sync_by c.args.domain p) ∷ message_octets (follow_up_by c.args.domain z p) ∷ []) (to_z-of_z w64 c.args.seen (search rules))
