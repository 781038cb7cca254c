use Rattle.std.proofs.Common.{refl}
use Rattle.ptp_profile.specs.Wire.MessageFormat.{number_at, message_octets}
use Rattle.bc_history.specs.Run.World.{status_after}
use Rattle.bc_history.specs.Phases.Step.{step, state_of}
use Rattle.bc_history.specs.Phases.PortPhase.{after_port}
use Rattle.bc_history.specs.Phases.DecisionPhase.{with_codes, after_hearing}
use Rattle.bc_history.specs.Phases.RolePhase.{after_roles}
use Rattle.bc_history.specs.Phases.NoticePhase.{after_turn}
use Rattle.bc_history.specs.Phases.EntryEffects.{effects_of, entry_after}
use Rattle.bc_history.proofs.examples.master_sends.Goals as goal

pub returns-clause-octets : goal.returns-clause-octets
unfolding number_at message_octets status_after step state_of after_port with_codes after_hearing after_roles after_turn effects_of entry_after
returns-clause-octets c = refl

pub returns-clause-lengths : goal.returns-clause-lengths
unfolding number_at message_octets status_after step state_of after_port with_codes after_hearing after_roles after_turn effects_of entry_after
returns-clause-lengths c = refl

pub returns-clause-moves : goal.returns-clause-moves
unfolding number_at message_octets status_after step state_of after_port with_codes after_hearing after_roles after_turn effects_of entry_after
returns-clause-moves c = refl

pub returns-clause-silent : goal.returns-clause-silent
unfolding number_at message_octets status_after step state_of after_port with_codes after_hearing after_roles after_turn effects_of entry_after
returns-clause-silent c = refl
