use Rattle.std.proofs.Common.{refl}
use Rattle.ptp_profile.specs.Wire.MessageFormat.{number_at, message_octets}
use Rattle.bc_history.specs.Run.World.{status_after}
use Rattle.bc_history.specs.Phases.Step.{step, state_of}
use Rattle.bc_history.specs.Phases.PortPhase.{after_port}
use Rattle.bc_history.specs.Phases.DecisionPhase.{with_codes, after_hearing}
use Rattle.bc_history.specs.Phases.RolePhase.{after_roles}
use Rattle.bc_history.specs.Phases.NoticePhase.{after_turn}
use Rattle.bc_history.specs.Phases.EntryEffects.{effects_of, entry_after}
use Rattle.bc_history.proofs.examples.two_announces_qualify.Goals as goal

pub returns-clause-one : goal.returns-clause-one
unfolding number_at message_octets status_after step state_of after_port with_codes after_hearing after_roles after_turn effects_of entry_after
returns-clause-one c = refl

pub returns-clause-late : goal.returns-clause-late
unfolding number_at message_octets status_after step state_of after_port with_codes after_hearing after_roles after_turn effects_of entry_after
returns-clause-late c = refl

pub returns-clause-early : goal.returns-clause-early
unfolding number_at message_octets status_after step state_of after_port with_codes after_hearing after_roles after_turn effects_of entry_after
returns-clause-early c = refl
