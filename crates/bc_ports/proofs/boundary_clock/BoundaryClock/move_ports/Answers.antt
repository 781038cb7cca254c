use Rattle.std.proofs.Common.{◌∙◌, List, length, ap, arith}
use Rattle.data_sets.specs.declared.port_set.PortSet.{PortSet}
use Rattle.bc_ports.proofs.lemmas.EventLemmas.{with_states-length}
use Rattle.bc_ports.proofs.boundary_clock.BoundaryClock.move_ports.Goals as goal

pub returns-then-is_decided-clause-sound : goal.returns-then-is_decided-clause-sound
returns-then-is_decided-clause-sound c =
    let was = c.requires.sound in
    let places = c.move_all.ensures.places in
    record {
      few = was.few;
      early = was.early;
      sets = ap (λ (xs : List PortSet). length xs) c.move_all.ensures.sets ∙ (with_states-length c.args.self.now.sets.ports _ ∙ was.sets);
      bests = was.bests;
      codes = was.codes;
      states = omega (arith, places, c.deref.ensures.len);
      decided = was.decided;
    }

pub returns-else-is_decided-clause-sound : goal.returns-else-is_decided-clause-sound
returns-else-is_decided-clause-sound c =
    let was = c.requires.sound in
    record {
      few = was.few;
      early = was.early;
      sets = ap (λ (xs : List PortSet). length xs) c.move_own.ensures.sets ∙ (with_states-length c.args.self.now.sets.ports _ ∙ was.sets);
      bests = was.bests;
      codes = was.codes;
      states = was.states;
      decided = was.decided;
    }
