use Rattle.std.proofs.Common.{◌≡◌, drop}
use Rattle.std.specs.Prelude.{fold}
use Rattle.ptp_profile.specs.Best.MasterData.{after_code}
use Rattle.data_sets.specs.DataSetsView.{master_in}
use Rattle.bc_history.specs.declared.scenario.Options.{Options}
use Rattle.bc_history.specs.Phases.OpeningState.{local_announcement}
use Rattle.bc_ports.specs.Representation.{IsClockOf}
use Rattle.bc_ports.specs.DecisionScratch.{OthersStay}
use Rattle.bc_ports.proofs.decision.apply_codes.Given as goal

abbrev pub invariant-loop-code : goal.invariant-loop-code
invariant-loop-code l = record {
  master : (o : Options) → IsClockOf o l.initial.sets → fold (after_code (local_announcement o) l.best) (master_in l.sets) (drop l.code-index l.codes) ≡ fold (after_code (local_announcement o) l.best) (master_in l.initial.sets) l.codes;
  clock : (o : Options) → IsClockOf o l.initial.sets → IsClockOf o l.sets;
  others : OthersStay l.initial.sets l.sets;
}
