use Rattle.std.proofs.Common.{◌<◌, ℕ}
use Rattle.run_legal.proofs.lemmas.NextInputLemmas.{has-next, next-all}
use Rattle.run_legal.proofs.world_laws.next_inputs_are_of_actors.Goals as goal

pub returns : goal.returns
returns c = record {
  has_next = has-next;
  beyond = λ s w end right steps input next. next-all s w (λ (tick : ℕ). end < tick) right steps input next;
}
