use Rattle.std.proofs.Common.{◌≡◌, ◌<◌, ℕ, List, Option, length, take, ap, sym, ◌∙◌, subst}
use Rattle.ptp_base.specs.declared.limits.TheConstants.{ENTRIES_MAX}
use Rattle.ptp_profile.specs.declared.roles.Edge.{Edge}
use Rattle.ptp_profile.specs.declared.roles.RoleOrder.{RoleOrder}
use Rattle.ptp_profile.specs.Roles.SeatLogs.{with_orders}
use Rattle.bc_history.specs.Phases.RolePhase.{edges_now}
use Rattle.bc_roles.specs.NextGeneration.{orders_to, AreEdges, GenerationYields}
use Rattle.bc_roles.specs.OrderRules.{AreAllowed}
use Rattle.bc_roles.specs.RolesView.{roles_view, IsSameTable, RolesRepresent, RolesView}
use Rattle.bc_roles.proofs.lemmas.NextGenerationLemmas.{allowed-begun, GoesOn-logs, GoesOn-roles, GoesOn-same}
use Rattle.bc_roles.proofs.lemmas.RolesViewLemmas.{edges-same, GoesOn-advanced}
use Rattle.bc_roles.proofs.roles.Roles.advance.Goals as goal

pub go_on-requires-clause-allowed : goal.go_on-requires-clause-allowed
go_on-requires-clause-allowed c =
    let v : RolesView = roles_view c.self.inside.generations c.self.inside.stamps.items c.self.inside.seats in
    let news : List (Option Edge) = c.place_edges.new.next.items in
    let are : AreEdges (length v.stamps) news =
    subst (λ (n : ℕ). AreEdges n news) c.self.invariant.places c.place_edges.ensures.forest in
    let below : v.generation.gener < ENTRIES_MAX =
    subst (λ (w : RolesView). w.generation.gener < ENTRIES_MAX) (sym c.self.view_is) c.requires.below in
    let orders : take c.draft-count.result c.deref-3.result.now ≡ orders_to v news =
    ap (λ (os : List RoleOrder). take c.draft-count.result os) c.deref-3.ensures.value ∙ c.draft-count.ensures.orders
    ∙ ap (λ (es : List (Option Edge)). orders_to v es) c.deref.ensures.value in
    subst (AreAllowed v.stamps) (sym orders)
    (allowed-begun v c.self.inside.next.items news c.self.inside.drafts.items c.self.invariant are below)

pub invariant_of-self : goal.invariant_of-self
invariant_of-self c =
    let v : RolesView = roles_view c.self.inside.generations c.self.inside.stamps.items c.self.inside.seats in
    let new : RolesView = roles_view c.go_on.new.generations c.go_on.new.stamps.items c.go_on.new.seats in
    let news : List (Option Edge) = c.place_edges.new.next.items in
    let are : AreEdges (length v.stamps) news =
    subst (λ (n : ℕ). AreEdges n news) c.self.invariant.places c.place_edges.ensures.forest in
    let goes : GenerationYields v news new c.go_on.result =
    subst (λ (es : List (Option Edge)). GenerationYields v es new c.go_on.result) c.deref-2.ensures.value c.go_on.ensures.goes in
    GoesOn-roles v new c.self.inside.next.items news c.self.inside.drafts.items c.draft-count.new.drafts.items
    c.go_on.result goes c.self.invariant are
    c.draft-count.ensures.pairs c.go_on.ensures.agree

pub returns-clause-advanced : goal.returns-clause-advanced
returns-clause-advanced c = λ core roles parent states clocks h.
    let v : RolesView = roles_view c.self.inside.generations c.self.inside.stamps.items c.self.inside.seats in
    let new : RolesView = roles_view c.go_on.new.generations c.go_on.new.stamps.items c.go_on.new.seats in
    let news : List (Option Edge) = c.place_edges.new.next.items in
    let before : RolesRepresent v roles = subst (λ (w : RolesView). RolesRepresent w roles) (sym c.self.view_is) h in
    let is : news ≡ edges_now core roles = c.place_edges.ensures.edges
    ∙ edges-same core roles (length c.self.inside.next.items) v.generation.edges c.args.parent c.args.states.now c.args.map.now
    (c.self.invariant.edges ∙ sym c.self.invariant.places) before.edges parent states clocks in
    let goes : GenerationYields v news new c.go_on.result =
    subst (λ (es : List (Option Edge)). GenerationYields v es new c.go_on.result) c.deref-2.ensures.value c.go_on.ensures.goes in
    GoesOn-advanced core roles v new news c.go_on.result goes before is

pub returns-clause-logs : goal.returns-clause-logs
returns-clause-logs c =
    let v : RolesView = roles_view c.self.inside.generations c.self.inside.stamps.items c.self.inside.seats in
    let new : RolesView = roles_view c.go_on.new.generations c.go_on.new.stamps.items c.go_on.new.seats in
    subst (λ (w : RolesView). new.seats.logs ≡ with_orders w.seats.logs c.go_on.result) c.self.view_is
    (GoesOn-logs v new c.deref-2.result.now c.go_on.result c.go_on.ensures.goes)

pub returns-clause-same : goal.returns-clause-same
returns-clause-same c =
    let v : RolesView = roles_view c.self.inside.generations c.self.inside.stamps.items c.self.inside.seats in
    let new : RolesView = roles_view c.go_on.new.generations c.go_on.new.stamps.items c.go_on.new.seats in
    subst (λ (w : RolesView). IsSameTable w new) c.self.view_is
    (GoesOn-same v new c.deref-2.result.now c.go_on.result c.go_on.ensures.goes)
