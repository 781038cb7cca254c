use Rattle.std.proofs.Common.{◌≡◌, ◌++◌, drop, length, sym, subst, take, arith}
use Rattle.std.proofs.lemmas.Grind.{common_steps}
use Rattle.ptp_profile.specs.Roles.Edges.{edges_of}
use Rattle.bc_roles.specs.NextGeneration.{AreEdges}
use Rattle.bc_roles.proofs.lemmas.EdgeHolderLemmas.{AreEdges-placed}
use Rattle.bc_roles.proofs.orders.place_edges.Goals as goal

pub returns-clause-forest : goal.returns-clause-forest
returns-clause-forest c =
    let is : take c.args.next.now.len (c.edges.new.out ++ drop (length c.edges.new.out) c.args.next.now.items)
    ≡ edges_of (length c.args.next.now.items) c.args.parent c.args.states.now c.args.map.now = grind (arith, common_steps) in
    subst (AreEdges (length c.args.next.now.items)) (sym is)
    (AreEdges-placed (length c.args.next.now.items) c.args.parent c.args.states.now c.args.map.now c.requires.few
    c.requires.placed)
