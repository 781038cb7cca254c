use Rattle.std.proofs.Common.{refl}
use Rattle.std.specs.Fmt.{digits}
use Rattle.hex.specs.Hex.{encode_with}
use Rattle.ptp_management.specs.ManagementFields.{id_numbered}
use Rattle.ptp_management.specs.ManagementMessages.{is_managed, managed_octets}
use Rattle.ptp_management.specs.ManagementQueries.{answers_to, asked_by, id_named, name_text, origin_text, printed_lines, shows}
use Rattle.ptp_profile.specs.Wire.MessageFormat.{number_at, message_octets}
use Rattle.bc_history.specs.Run.World.{status_after}
use Rattle.bc_history.specs.Phases.Step.{step, state_of}
use Rattle.bc_history.specs.Phases.PortPhase.{after_port}
use Rattle.bc_history.specs.Phases.DecisionPhase.{with_codes, after_hearing}
use Rattle.bc_history.specs.Phases.RolePhase.{after_roles}
use Rattle.bc_history.specs.Phases.NoticePhase.{after_turn}
use Rattle.bc_history.specs.Phases.EntryEffects.{effects_of, entry_after}
use Rattle.bc_history.specs.Run.Transcript.{effects_text, entry_text}
use Rattle.bc_history.proofs.examples.queries_are_answered.Goals as goal

pub returns-clause-entries : goal.returns-clause-entries
unfolding number_at message_octets status_after step state_of after_port with_codes after_hearing after_roles after_turn effects_of entry_after managed_octets is_managed id_numbered id_named asked_by answers_to shows name_text origin_text printed_lines effects_text entry_text encode_with digits
returns-clause-entries c = refl

pub returns-clause-asked : goal.returns-clause-asked
unfolding number_at message_octets status_after step state_of after_port with_codes after_hearing after_roles after_turn effects_of entry_after managed_octets is_managed id_numbered id_named asked_by answers_to shows name_text origin_text printed_lines effects_text entry_text encode_with digits
returns-clause-asked c = refl

pub returns-clause-value : goal.returns-clause-value
unfolding number_at message_octets status_after step state_of after_port with_codes after_hearing after_roles after_turn effects_of entry_after managed_octets is_managed id_numbered id_named asked_by answers_to shows name_text origin_text printed_lines effects_text entry_text encode_with digits
returns-clause-value c = refl

pub returns-clause-ports : goal.returns-clause-ports
unfolding number_at message_octets status_after step state_of after_port with_codes after_hearing after_roles after_turn effects_of entry_after managed_octets is_managed id_numbered id_named asked_by answers_to shows name_text origin_text printed_lines effects_text entry_text encode_with digits
returns-clause-ports c = refl

pub returns-clause-absent : goal.returns-clause-absent
unfolding number_at message_octets status_after step state_of after_port with_codes after_hearing after_roles after_turn effects_of entry_after managed_octets is_managed id_numbered id_named asked_by answers_to shows name_text origin_text printed_lines effects_text entry_text encode_with digits
returns-clause-absent c = refl

pub returns-clause-unsupported : goal.returns-clause-unsupported
unfolding number_at message_octets status_after step state_of after_port with_codes after_hearing after_roles after_turn effects_of entry_after managed_octets is_managed id_numbered id_named asked_by answers_to shows name_text origin_text printed_lines effects_text entry_text encode_with digits
returns-clause-unsupported c = refl

pub returns-clause-text : goal.returns-clause-text
unfolding number_at message_octets status_after step state_of after_port with_codes after_hearing after_roles after_turn effects_of entry_after managed_octets is_managed id_numbered id_named asked_by answers_to shows name_text origin_text printed_lines effects_text entry_text encode_with digits
returns-clause-text c = refl
