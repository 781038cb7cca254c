use Rattle.std.proofs.Common.{◌≡◌, ◌<◌, ◌-◌, suc, length, arith, refl}
use Rattle.bc_ports.proofs.lemmas.BoundaryClockLemmas.{core-renewed}
use Rattle.bc_ports.proofs.boundary_clock.BoundaryClock.renew.Goals as goal

pub returns-clause-core : goal.returns-clause-core
returns-clause-core c = λ o core heard bests is.
    let number_is : c.args.number ≡ suc (c.args.number - 1) = omega (arith, c.requires.some) in
    let lt : c.args.number - 1 < length c.args.self.now.ports.items = omega (arith, c.requires.some, c.requires.there) in
    core-renewed o c.args.number core c.args.self.now _ (c.args.number - 1) c.index_mut-port.result.now c.renew.new.self c.args.sender c.best-best.result
    number_is lt c.index_mut-port.ensures.value c.renew.ensures.same refl refl refl refl (λ h s best newest. c.renew.ensures.port o.delay_filter_length h s best newest) c.best-best.ensures bests heard is
