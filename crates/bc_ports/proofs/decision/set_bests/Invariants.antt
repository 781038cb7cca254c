use Rattle.std.proofs.Common.{◌≡◌, ◌+◌, ◌*◌, ◌≤◌, length}
use Rattle.ptp_profile.specs.Best.StateDecision.{bests_of}
use Rattle.bc_ports.proofs.lemmas.SettingLemmas.{set_so_far}
use Rattle.bc_ports.proofs.decision.set_bests.Given as goal

abbrev pub invariant-loop-i : goal.invariant-loop-i
invariant-loop-i g l = record {
  bests : l.decider ≡ record l.initial.decider { bests = set_so_far l.i l.bests l.initial.decider.bests };
  long : length l.decider.bests ≡ length l.bests;
  same_bests : bests_of l.bests ≡ bests_of l.initial.decider.bests → l.steps ≡ l.initial.steps;
  counted : l.steps ≤ l.initial.steps + l.i * (2 * length l.bests + 2);
}
