use Rattle.std.proofs.Common.{◌≡◌, take}
use Rattle.bc_ports.specs.OpenPorts.{ArePortsFrom}
use Rattle.bc_ports.proofs.opening.open_ports.Given as goal

abbrev pub invariant-loop-conf : goal.invariant-loop-conf
invariant-loop-conf l = record {
  number : l.number ≡ l.conf-index;
  count : l.ports.len ≡ l.conf-index;
  ports : ArePortsFrom l.options 1 l.ports.items (take l.conf-index l.confs);
}
