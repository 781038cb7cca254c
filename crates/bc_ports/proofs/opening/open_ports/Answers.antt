use Rattle.std.proofs.Common.{◌≡◌, ◌+◌, ◌<◌, ℕ, pos, List, ◌++◌, ◌∷◌, [], length, take, get_or, subst, sym, arith}
use Rattle.std.proofs.lemmas.List.{take_more, length-take-le}
use Rattle.ptp_base.specs.declared.port_conf.PortConf.{PortConf}
use Rattle.bc_ports.specs.OpenPorts.{ArePortsFrom, IsOpenPort}
use Rattle.bc_ports.specs.declared.hub_port.HubPort.{HubPort as KeptPort}
use Rattle.bc_ports.proofs.lemmas.OpenPortLemmas.{ArePortsFrom-push}
use Rattle.bc_ports.proofs.opening.open_ports.Goals as goal

pub loop-conf-preserved : goal.loop-conf-preserved
loop-conf-preserved c =
    let at = c.loop-conf in
    let o = c.args.options.now in
    let q = c.in_ok-open_port.field-0 in
    let lt : at.conf-index < length c.args.confs.now = omega arith in
    let taken = length-take-le at.conf-index c.args.confs.now (omega arith) in
    let number : at.number + 1 ≡ 1 + length (take at.conf-index c.args.confs.now) = omega (arith, at.invariant.number, taken) in
    let none : PortConf = record { clock = 0; log_announce = pos 0; log_sync = pos 0; log_delay = pos 0; receipt = 0 } in
    let conf = get_or c.args.confs.now at.conf-index none in
    let N : ℕ → Type 0 = λ k. IsOpenPort o k conf q in
    let T : List PortConf → Type 0 = λ cs. ArePortsFrom o 1 (at.ports.items ++ q ∷ []) cs in
    let Q : List KeptPort → Type 0 = λ qs. ArePortsFrom o 1 qs (take (at.conf-index + 1) c.args.confs.now) in
    let one = subst N number c.in_ok-open_port.ensures in
    record {
      number = omega (arith, at.invariant.number);
      count = omega (arith, at.invariant.count, c.in_ok-push.ensures.len);
      ports = subst Q (sym c.in_ok-push.ensures.items) (subst T (sym (take_more c.args.confs.now at.conf-index none lt)) (ArePortsFrom-push o 1 at.ports.items (take at.conf-index c.args.confs.now) q conf at.invariant.ports one));
    }

pub open_port-requires-clause-conf : goal.open_port-requires-clause-conf
open_port-requires-clause-conf c =
    let none : PortConf = record { clock = 0; log_announce = pos 0; log_sync = pos 0; log_delay = pos 0; receipt = 0 } in
    c.requires.confs c.loop-conf.conf-index none (omega arith)
