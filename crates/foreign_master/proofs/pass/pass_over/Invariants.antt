use Rattle.std.proofs.Common.{◌≡◌, ◌+◌, ℕ, drop, length}
use Rattle.std.specs.Option.{is_some, IfSome}
use Rattle.std.specs.List.{fold}
use Rattle.ptp_base.specs.Least.{lesser}
use Rattle.ptp_profile.specs.Best.ForeignMasters.{better, winner}
use Rattle.foreign_master.specs.ForeignMasterTable.{qualified_of, said_by, befores_of, oldest_of}
use Rattle.foreign_master.proofs.lemmas.PassLemmas.{one_if, HasFewSteps}
use Rattle.foreign_master.proofs.pass.pass_over.Given as goal

abbrev pub invariant-loop-master : goal.invariant-loop-master
invariant-loop-master g l = record {
  winner : fold better l.pass.winner (said_by l.window l.at (drop l.master-index l.masters)) ≡ winner (said_by l.window l.at l.masters);
  oldest : fold (lesser (λ (m : ℕ). m)) l.pass.oldest (befores_of l.window l.at (drop l.master-index l.masters)) ≡ oldest_of l.window l.at l.masters;
  counted : l.steps + one_if (is_some l.pass.winner) + length (qualified_of l.window l.at (drop l.master-index l.masters)) ≡ l.initial.steps + length (qualified_of l.window l.at l.masters);
  near : IfSome l.pass.winner HasFewSteps;
}
