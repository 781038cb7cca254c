use Rattle.std.proofs.Common.{◌<◌, arith}
use Rattle.ptp_base.specs.declared.limits.TheConstants.{PORTS_MAX}
use Rattle.role_gen.proofs.lemmas.SlavePortLemmas.{place-small, port-from_place, no_port-from_place}
use Rattle.role_gen.proofs.edge.port_on.Goals as goal

pub overflow_cast-result : goal.overflow_cast-result
overflow_cast-result c =
    let small : c.in-Some.place < PORTS_MAX = place-small c.args.clock c.args.states.now c.args.map.now c.in-Some.place c.requires.few c.in-Some.ensures in omega arith

pub overflow_add-result : goal.overflow_add-result
overflow_add-result c =
    let small : c.in-Some.place < PORTS_MAX = place-small c.args.clock c.args.states.now c.args.map.now c.in-Some.place c.requires.few c.in-Some.ensures in omega arith

pub returns-in-Some : goal.returns-in-Some
returns-in-Some c = port-from_place c.args.clock c.args.states.now c.args.map.now c.in-Some.place c.in-Some.ensures

pub returns-in-None : goal.returns-in-None
returns-in-None c = no_port-from_place c.args.clock c.args.states.now c.args.map.now c.in-None.ensures
