use Rattle.std.proofs.Common.{ℕ, Option, length, arith, ap, ◌∙◌, subst, sym}
use Rattle.ptp_profile.specs.Roles.Edges.{edge_by}
use Rattle.role_gen.specs.Generation.{HaveCtrls}
use Rattle.role_gen.proofs.lemmas.SlavePortLemmas.{edges-more, edges-done, HaveCtrls-edges}
use Rattle.role_gen.proofs.edge.edges.Goals as goal

pub loop-clock-preserved : goal.loop-clock-preserved
loop-clock-preserved c =
    edges-more _ c.loop-clock.clock (length c.args.out.now) c.loop-clock.out _ c.edge_by.result (omega arith) (omega arith)
    (c.edge_by.ensures ∙ ap (λ (port : Option ℕ). edge_by c.args.parent port c.slave_clock-source.result) c.port_on.ensures) c.loop-clock.invariant

pub returns-clause-ctrls : goal.returns-clause-ctrls
returns-clause-ctrls c =
    let all = edges-done _ c.loop-clock.clock (length c.args.out.now) c.loop-clock.out _ (omega arith) (omega arith) c.loop-clock.invariant in
    subst HaveCtrls (sym all) (HaveCtrls-edges (length c.args.out.now) (length c.args.out.now) _ c.args.states.now c.args.map.now c.requires.few c.requires.clocks c.requires.there)
