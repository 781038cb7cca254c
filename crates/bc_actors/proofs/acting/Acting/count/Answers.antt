use Rattle.std.proofs.Common.{arith}
use Rattle.bc_actors.proofs.lemmas.RoundLemmas.{acting-few, acting-many}
use Rattle.bc_actors.proofs.acting.Acting.count.Goals as goal

pub overflow_cast-result : goal.overflow_cast-result
overflow_cast-result g c =
    let i = c.self.invariant in
    omega (arith, c.len.ensures, acting-many g.N.Naming.scenario c.self.inside.actors.items i.all.acting, acting-few g.N.Naming.scenario i.rules.port_count.1 i.rules.clock_count.1)
