use Rattle.std.proofs.Common.{refl}
use Rattle.ptp_profile.specs.Wire.MessageFormat.{number_at, message_octets}
use Rattle.bc_history.specs.Run.World.{status_after}
use Rattle.bc_history.specs.Phases.Step.{step, state_of}
use Rattle.bc_history.specs.Phases.PortPhase.{after_port}
use Rattle.bc_history.specs.Phases.DecisionPhase.{with_codes, after_hearing}
use Rattle.bc_history.specs.Phases.RolePhase.{after_roles}
use Rattle.bc_history.specs.Phases.NoticePhase.{after_turn}
use Rattle.bc_history.specs.Phases.EntryEffects.{effects_of, entry_after}
use Rattle.bc_history.proofs.examples.class_decides.Goals as goal

pub returns-clause-passive : goal.returns-clause-passive
unfolding number_at message_octets status_after step state_of after_port with_codes after_hearing after_roles after_turn effects_of entry_after
returns-clause-passive c = refl

pub returns-clause-follows : goal.returns-clause-follows
unfolding number_at message_octets status_after step state_of after_port with_codes after_hearing after_roles after_turn effects_of entry_after
returns-clause-follows c = refl

pub returns-clause-ordered : goal.returns-clause-ordered
unfolding number_at message_octets status_after step state_of after_port with_codes after_hearing after_roles after_turn effects_of entry_after
returns-clause-ordered c = refl
