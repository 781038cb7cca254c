use Rattle.std.proofs.Common.{◌≡◌, length, replicate, arith}
use Rattle.std.proofs.lemmas.Grind.{common_steps}
use Rattle.ptp_profile.specs.Roles.Edges.{no_stamp}
use Rattle.bc_roles.specs.RolesView.{no_roles, roles_view}
use Rattle.bc_roles.proofs.lemmas.NextGenerationLemmas.{IsRoles-opened}
use Rattle.bc_roles.proofs.lemmas.RolesViewLemmas.{RolesRepresent-opening}
use Rattle.bc_roles.proofs.roles.Roles.new.Goals as goal

pub invariant_of-result : goal.invariant_of-result
invariant_of-result c =
    IsRoles-opened c.in_ok-new.field-0 c.in_ok-vec.field-0.items c.in_ok-new-2.field-0 c.args.rows c.args.clocks.now
    c.in_ok-vec-2.field-0.items
    c.in_ok-vec-3.field-0.items c.in_ok-new.ensures (grind (arith, common_steps)) c.in_ok-new-2.ensures c.requires.few
    (grind (arith, common_steps)) (grind (arith, common_steps))

pub returns-clause-history : goal.returns-clause-history
returns-clause-history c = λ s same.
    let stamps : c.in_ok-vec.field-0.items ≡ replicate (length c.args.clocks.now) no_stamp = grind (arith, common_steps) in
    let is : roles_view c.in_ok-new.field-0 c.in_ok-vec.field-0.items c.in_ok-new-2.field-0
    ≡ no_roles c.args.rows c.args.clocks.now =
    cc (stamps, c.in_ok-new.ensures, c.in_ok-new-2.ensures) in
    RolesRepresent-opening (roles_view c.in_ok-new.field-0 c.in_ok-vec.field-0.items c.in_ok-new-2.field-0)
    c.args.rows c.args.clocks.now s is same
