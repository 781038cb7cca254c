use Rattle.std.proofs.Common.{◌∙◌, ◌≤◌, max, ap, arith, ℕ}
use Rattle.bc_ports.proofs.lemmas.RepresentationLemmas.{PortsRepresent-later}
use Rattle.bc_ports.proofs.boundary_clock.BoundaryClock.advance_moment.Goals as goal

pub returns-clause-clock : goal.returns-clause-clock
returns-clause-clock c = λ o core measured is.
    let n = c.args.self.now in
    let moment = c.max-self.ensures in
    let before = is.core.moment in
    let le : n.moment ≤ c.max-self.result = omega (arith, moment) in
    record {
      core = record {
        moment = moment ∙ ap (λ (m : ℕ). max m c.args.tick) before;
        clock = is.core.clock;
        master = is.core.master;
        own = is.core.own;
        numbers = is.core.numbers;
        ports = PortsRepresent-later o.delay_filter_length n.moment c.max-self.result n.ports.items core.ports le is.core.ports;
      };
      port_sets = is.port_sets;
      measure = is.measure;
    }
