use Rattle.std.proofs.Common.{◌≡◌, ◌<◌, ◌-◌, ℤ, suc, length, arith, refl, rules, subst, w64, to_z, of_z}
use Rattle.std.proofs.lemmas.Int.{to_z-of_z}
use Rattle.bc_history.specs.declared.port_input.EventContext.{EventContext}
use Rattle.bc_ports.specs.PortYield.{PortYields}
use Rattle.bc_ports.proofs.lemmas.BoundaryClockLemmas.{core-taken}
use Rattle.bc_ports.proofs.boundary_clock.BoundaryClock.take.Given.{Over}
use Rattle.bc_ports.proofs.boundary_clock.BoundaryClock.take.Goals as goal

-- the reading as the port was given it
same : (g : Over) (c : goal.After-self-2-1 g) → to_z w64 (of_z w64 c.args.entry.now.reading) ≡ c.args.entry.now.reading
same g c = to_z-of_z w64 c.args.entry.now.reading (let t = c.requires.among.reading in search rules)

pub returns-clause-yields : goal.returns-clause-yields
returns-clause-yields g c = λ o core is.
    let e = c.args.entry.now in
    let d = c.args.self.now.sets in
    let number = e.input.number in
    let number_is : number ≡ suc (number - 1) = omega (arith, c.requires.among.some) in
    let lt : number - 1 < length c.args.self.now.ports.items = omega (arith, c.requires.among.some, c.requires.among.there) in
    let K : ℤ → EventContext = λ reading. record { moment = c.max-self.result; parent = d.parent; steps = d.steps; held = e.held; reading = reading } in
    core-taken o e core c.args.self.now _ (number - 1) c.index_mut-port.result.now c.take.new.self c.args.frames.now.items c.take.new.frames.items c.take.result
    number_is lt c.index_mut-port.ensures.value c.take.ensures.same c.max-self.ensures refl refl refl
    (λ h clock s. subst (λ (r : ℤ). PortYields o (K r) d e.input.tick e.input.what c.take.new.self c.args.frames.now.items c.take.new.frames.items c.take.result h) (same g c) (c.take.ensures.yields o h clock s)) is
