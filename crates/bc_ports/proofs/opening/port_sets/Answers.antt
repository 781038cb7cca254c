use Rattle.std.proofs.Common.{◌≡◌, ◌∙◌, ◌+◌, ◌<◌, ℕ, pos, List, ◌++◌, ◌∷◌, [], length, take, get_or, ap, sym, arith}
use Rattle.std.proofs.lemmas.List.{take_more, length-take-le}
use Rattle.ptp_base.specs.declared.port_conf.PortConf.{PortConf}
use Rattle.data_sets.specs.declared.port_set.PortSet.{PortSet}
use Rattle.bc_ports.specs.OpenPorts.{port_set_from, port_sets_from}
use Rattle.bc_ports.proofs.lemmas.OpenPortLemmas.{port_sets_from-push}
use Rattle.bc_ports.proofs.opening.port_sets.Goals as goal

pub loop-conf-preserved : goal.loop-conf-preserved
loop-conf-preserved c =
    let at = c.loop-conf in
    let o = c.args.options.now in
    let confs : List PortConf = c.args.confs.now in
    let lt : at.conf-index < length confs = omega arith in
    let taken = length-take-le at.conf-index confs (omega arith) in
    let number : at.number + 1 ≡ 1 + length (take at.conf-index confs) = omega (arith, at.invariant.number, taken) in
    let none : PortConf = record { clock = 0; log_announce = pos 0; log_sync = pos 0; log_delay = pos 0; receipt = 0 } in
    let conf = get_or confs at.conf-index none in
    let one : c.port_set_of.result ≡ port_set_from o (1 + length (take at.conf-index confs)) conf = c.port_set_of.ensures ∙ ap (λ (k : ℕ). port_set_from o k conf) number in
    record {
      number = omega (arith, at.invariant.number);
      sets = c.in_ok-push.ensures.ok
          ∙ (ap (λ (xs : List PortSet). xs ++ c.port_set_of.result ∷ []) at.invariant.sets
          ∙ (ap (λ (x : PortSet). port_sets_from o 1 (take at.conf-index confs) ++ x ∷ []) one
          ∙ (sym (port_sets_from-push o 1 (take at.conf-index confs) conf) ∙ ap (λ (cs : List PortConf). port_sets_from o 1 cs) (sym (take_more confs at.conf-index none lt)))));
    }
