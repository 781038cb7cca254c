use Rattle.std.proofs.Common.{rules, sym, subst}
use Rattle.std.proofs.lemmas.Int.{to_z-of_z}
use Rattle.port_engine.specs.EngineView.{Engine, EngineRepresents}
use Rattle.port_engine.proofs.lemmas.TimingMessageLemmas.{sync_found, sync_kept, with_pairing}
use Rattle.port_engine.proofs.engine.PortEngine.keep_sync.Goals as goal

pub returns-clause-found : goal.returns-clause-found
returns-clause-found c = λ length p is.
    let P : Engine → Type 0 = λ e. EngineRepresents length e p in
    let own = subst P (sym c.self.view_is) is in
    sync_found c.args.m.now c.args.seen c.args.origin.now _ _ _ _ p _ (c.sync.ensures.answer p.pieces own.pieces) c.requires c.is_two_step-two_step.ensures
    (search (rules, to_z-of_z)) (search (rules, to_z-of_z)) (search (rules, to_z-of_z))

pub returns-clause-port : goal.returns-clause-port
returns-clause-port c = λ length p is.
    let P : Engine → Type 0 = λ e. EngineRepresents length e p in
    let own = subst P (sym c.self.view_is) is in
    with_pairing length _ p _ _ own
    (sync_kept c.args.m.now c.args.seen c.args.origin.now _ _ _ _ p _ (c.sync.ensures.kept p.pieces own.pieces) c.requires c.is_two_step-two_step.ensures
    (search (rules, to_z-of_z)) (search (rules, to_z-of_z)) (search (rules, to_z-of_z)))
