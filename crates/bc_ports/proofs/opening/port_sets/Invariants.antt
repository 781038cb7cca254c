use Rattle.std.proofs.Common.{◌≡◌, take}
use Rattle.bc_ports.specs.OpenPorts.{port_sets_from}
use Rattle.bc_ports.proofs.opening.port_sets.Given as goal

abbrev pub invariant-loop-conf : goal.invariant-loop-conf
invariant-loop-conf l = record { number : l.number ≡ l.conf-index; sets : l.sets ≡ port_sets_from l.options 1 (take l.conf-index l.confs) }
