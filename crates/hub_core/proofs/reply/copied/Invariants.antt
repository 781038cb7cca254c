use Rattle.std.proofs.Common.{◌≡◌, take}
use Rattle.hub_core.proofs.reply.copied.Given as goal

-- those before the index are copied
abbrev pub invariant-loop-octets : goal.invariant-loop-octets
invariant-loop-octets l = l.copy ≡ take l.octets-index l.from
