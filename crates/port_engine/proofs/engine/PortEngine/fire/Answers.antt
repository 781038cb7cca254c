use Rattle.std.proofs.Common.{rules, ◌≡◌, ◌∙◌, ap, subst, ℕ, ℤ, List, ◌++◌, map, w64}
use Rattle.std.proofs.lemmas.Int.{to_z-of_z}
use Rattle.ptp_profile.specs.Port.Port.{after_firing}
use Rattle.ptp_profile.specs.Wire.MessageFormat.{message_octets}
use Rattle.ptp_profile.specs.Port.PortMessages.{timer_messages}
use Rattle.data_sets.specs.DataSetsView.{master_in}
use Rattle.port_engine.specs.EngineView.{EngineRepresents}
use Rattle.port_engine.proofs.lemmas.SendingTimerLemmas.{one_moment}
use Rattle.port_engine.proofs.lemmas.EngineStateLemmas.{timers_of}
use Rattle.port_engine.proofs.engine.PortEngine.fire.Goals as goal

pub returns-clause-port : goal.returns-clause-port
returns-clause-port c = λ length p tick is set.
    let same : c.in-Some.tick ≡ tick = one_moment c.args.t _ p.timers _ _ _ c.at.ensures c.in-Some.is (ap timers_of c.self.view_is ∙ is.timers) set in
    let P : ℕ → Type 0 = λ n. EngineRepresents length c.act.new.self (after_firing n c.args.seen c.args.t p) in
    let Q : ℤ → Type 0 = λ z. EngineRepresents length c.act.new.self (after_firing c.in-Some.tick z c.args.t p) in
    subst P same (subst Q (to_z-of_z w64 c.args.seen (search rules)) (c.act.ensures.port length p is))

pub returns-clause-sent : goal.returns-clause-sent
returns-clause-sent c = λ length p is.
    c.act.ensures.sent length p is
    ∙ ap (λ (z : ℤ). c.reserve.new.self.items ++ map message_octets (timer_messages c.args.d.now.domain (master_in c.args.d.now) z c.args.t p)) (to_z-of_z w64 c.args.seen (search rules))
    ∙ ap (λ (xs : List (List ℕ)). xs ++ map message_octets (timer_messages c.args.d.now.domain (master_in c.args.d.now) c.args.seen c.args.t p)) c.reserve.ensures.items
