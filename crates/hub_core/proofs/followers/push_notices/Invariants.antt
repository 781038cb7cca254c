use Rattle.std.proofs.Common.{◌≡◌, ◌+◌, ◌≤◌, length}
use Rattle.ptp_profile.specs.Roles.Edges.{slave_port}
use Rattle.bc_history.specs.Phases.RolePhase.{states_of}
use Rattle.bc_history.specs.Phases.State.{Core, Roles}
use Rattle.bc_notices.specs.NoticesView.{notices_for}
use Rattle.bc_roles.specs.RolesView.{RolesRepresent}
use Rattle.hub_core.proofs.followers.push_notices.Given as goal

abbrev pub invariant-loop-clock : goal.invariant-loop-clock
invariant-loop-clock l = record {
  count : length l.out.items ≡ l.clock;
  places : l.initial.out.spare ≤ length l.out.items + l.out.spare;
  notices : (c : Core) (r : Roles) → RolesRepresent l.roles r → l.slave ≡ slave_port (states_of c.ports) → l.out.items ≡ notices_for c r l.clock;
}
