use Rattle.std.proofs.Common.{rules, ◌∙◌, ap, sym, subst, ℤ, w64}
use Rattle.std.proofs.lemmas.Int.{to_z-of_z}
use Rattle.ptp_profile.specs.Port.Port.{triple_of, with_piece, paired_fate}
use Rattle.port_engine.specs.EngineView.{EngineRepresents}
use Rattle.port_engine.proofs.lemmas.TimingMessageLemmas.{judged_measure, judged_port, sync_fate}
use Rattle.port_engine.proofs.engine.PortEngine.take_sync.Goals as goal

pub returns-clause-fate : goal.returns-clause-fate
returns-clause-fate c = λ length p is.
    let kept = to_z-of_z w64 c.args.seen (search rules) in
    let found = c.keep_sync-found.ensures.found length p is ∙ ap (λ (z : ℤ). triple_of c.args.m.now z p) kept in
    c.judge.ensures.fate ∙ ap paired_fate found

pub returns-clause-measure : goal.returns-clause-measure
returns-clause-measure c = λ length p is.
    let kept = to_z-of_z w64 c.args.seen (search rules) in
    let found = c.keep_sync-found.ensures.found length p is ∙ ap (λ (z : ℤ). triple_of c.args.m.now z p) kept in
    judged_measure length c.args.m.now c.args.seen p _ _ _ c.judge.ensures.fate found (c.judge.ensures.measure length _ (c.keep_sync-found.ensures.port length p is))

pub returns-clause-port : goal.returns-clause-port
returns-clause-port c = λ length p is.
    let kept = to_z-of_z w64 c.args.seen (search rules) in
    let found = c.keep_sync-found.ensures.found length p is ∙ ap (λ (z : ℤ). triple_of c.args.m.now z p) kept in
    let P : ℤ → Type 0 = λ z. EngineRepresents length c.keep_sync-found.new.self (with_piece c.args.m.now z p) in
    judged_port length _ c.args.m.now c.args.seen p _ _ c.judge.ensures.fate found (c.judge.ensures.port length _ (subst P kept (c.keep_sync-found.ensures.port length p is)))

pub returns-clause-told : goal.returns-clause-told
returns-clause-told c = λ length p parent is takes.
    let kept = to_z-of_z w64 c.args.seen (search rules) in
    let found = c.keep_sync-found.ensures.found length p is ∙ ap (λ (z : ℤ). triple_of c.args.m.now z p) kept in
    c.judge.ensures.fate ∙ ap paired_fate found ∙ sym (sync_fate parent c.args.m.now c.args.seen p _ _ c.requires takes)
