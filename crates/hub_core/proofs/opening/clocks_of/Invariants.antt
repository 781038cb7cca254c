use Rattle.std.proofs.Common.{◌≡◌, map, take}
use Rattle.ptp_base.specs.declared.port_conf.PortConf.{PortConf}
use Rattle.hub_core.proofs.opening.clocks_of.Given as goal

abbrev pub invariant-loop-conf : goal.invariant-loop-conf
invariant-loop-conf l = l.clocks.items ≡ map (λ (conf : PortConf). conf.clock) (take l.conf-index l.confs)
