use Rattle.std.proofs.Common.{◌≡◌, ◌≤◌, ◌++◌, length, map}
use Rattle.std.specs.Vec.Iter.{into_iter_items, into_iter_len}
use Rattle.hub_core.specs.EffectParts.{sent_by}
use Rattle.hub_core.proofs.effects.sends_of.Given as goal

abbrev pub invariant-loop-octets : goal.invariant-loop-octets
invariant-loop-octets l = record {
  all : l.yielded ++ into_iter_items l.octets-iterator ≡ into_iter_items l.initial.octets-iterator;
  left : into_iter_len l.octets-iterator ≡ length (into_iter_items l.octets-iterator);
  sends : l.out.items ≡ map (sent_by l.port) l.yielded;
  places : length (into_iter_items l.octets-iterator) ≤ l.out.spare;
}
