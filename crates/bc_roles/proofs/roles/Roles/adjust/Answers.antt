use Rattle.std.proofs.Common.{◌≡◌, ◌<◌, length, sym, subst, arith}
use Rattle.std.specs.Prelude.{OnOk}
use Rattle.std.proofs.lemmas.Grind.{common_steps}
use Rattle.ptp_profile.specs.Roles.SeatLogs.{change_of}
use Rattle.discipline_seat.specs.SeatsView.{with_entry}
use Rattle.bc_roles.specs.RolesView.{roles_view, RolesRepresent, RolesView}
use Rattle.bc_roles.proofs.lemmas.SeatsAgreeLemmas.{SeatsAgree-answered}
use Rattle.bc_roles.proofs.lemmas.NextGenerationLemmas.{IsRoles-seats}
use Rattle.bc_roles.proofs.lemmas.RolesViewLemmas.{RolesRepresent-answered}
use Rattle.bc_roles.proofs.roles.Roles.adjust.Goals as goal

pub invariant_of-self : goal.invariant_of-self
invariant_of-self c =
    let v : RolesView = roles_view c.self.inside.generations c.self.inside.stamps.items c.self.inside.seats in
    let there : c.args.held.clock < length v.stamps =
    subst (λ (w : RolesView). c.args.held.clock < length w.stamps) (sym c.self.view_is) c.requires.there in
    let taken : OnOk c.adjust.result
    (c.adjust.new.self ≡ with_entry v.seats c.args.held.clock (change_of c.args.held c.args.tick c.args.step c.args.freq)) =
    grind (arith, common_steps) in
    IsRoles-seats v c.adjust.new.self c.self.inside.next.items c.self.inside.drafts.items c.self.invariant
    (SeatsAgree-answered v.stamps v.seats c.adjust.new.self c.args.held c.args.tick c.args.step c.args.freq
    c.adjust.result c.self.invariant.agree there
    taken c.adjust.ensures.same)

pub returns-clause-history : goal.returns-clause-history
returns-clause-history c = λ r h.
    let v : RolesView = roles_view c.self.inside.generations c.self.inside.stamps.items c.self.inside.seats in
    let before : RolesRepresent v r = subst (λ (w : RolesView). RolesRepresent w r) (sym c.self.view_is) h in
    let taken : OnOk c.adjust.result
    (c.adjust.new.self ≡ with_entry v.seats c.args.held.clock (change_of c.args.held c.args.tick c.args.step c.args.freq)) =
    grind (arith, common_steps) in
    RolesRepresent-answered v r c.adjust.new.self c.args.held c.args.tick c.args.step c.args.freq c.adjust.result before
    c.requires.somebody
    c.adjust.ensures.answer taken c.adjust.ensures.same
