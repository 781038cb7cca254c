use Rattle.std.proofs.Common.{◌≡◌, ◌≢◌, ◌<◌, length, refl, sym, ap, ◌∙◌, subst}
use Rattle.std.proofs.lemmas.List.{get_or_read_under}
use Rattle.ptp_profile.specs.declared.roles.Stamp.{Stamp}
use Rattle.ptp_profile.specs.declared.seats.Held.{Held}
use Rattle.ptp_profile.specs.Roles.SeatLogs.{HasOrder}
use Rattle.ptp_profile.specs.Roles.Edges.{no_stamp}
use Rattle.discipline_seat.specs.SeatsView.{log_of}
use Rattle.bc_roles.specs.RolesView.{roles_view, RolesRepresent, RolesView}
use Rattle.bc_roles.specs.Stamps.{stamp_at}
use Rattle.bc_roles.proofs.lemmas.SeatsAgreeLemmas.{held-ordered}
use Rattle.bc_roles.proofs.lemmas.RolesViewLemmas.{held-history}
use Rattle.bc_roles.proofs.roles.Roles.held.Goals as goal

pub returns-clause-history : goal.returns-clause-history
returns-clause-history c = λ r h.
    let v : RolesView = roles_view c.self.inside.generations c.self.inside.stamps.items c.self.inside.seats in
    let there : c.args.clock < length v.stamps =
    subst (λ (w : RolesView). c.args.clock < length w.stamps) (sym c.self.view_is) c.requires.there in
    let read : c.index-stamp.result.now ≡ stamp_at v.stamps c.args.clock =
    get_or_read_under v.stamps c.args.clock (length v.stamps) c.index-stamp.result.now no_stamp
    c.index-stamp.ensures there refl in
    let before : RolesRepresent v r = subst (λ (w : RolesView). RolesRepresent w r) (sym c.self.view_is) h in
    let held : Stamp → Held = λ stamp. record { clock = c.args.clock; gener = stamp.gener; ctrl = stamp.ctrl } in
    ap held read ∙ held-history v r c.args.clock before there

pub returns-clause-ordered : goal.returns-clause-ordered
returns-clause-ordered c =
    let v : RolesView = roles_view c.self.inside.generations c.self.inside.stamps.items c.self.inside.seats in
    let there : c.args.clock < length v.stamps =
    subst (λ (w : RolesView). c.args.clock < length w.stamps) (sym c.self.view_is) c.requires.there in
    let read : c.index-stamp.result.now ≡ stamp_at v.stamps c.args.clock =
    get_or_read_under v.stamps c.args.clock (length v.stamps) c.index-stamp.result.now no_stamp
    c.index-stamp.ensures there refl in
    subst (λ (stamp : Stamp). stamp.ctrl ≢ 0
    → HasOrder (log_of c.args.self.now.seats c.args.clock) stamp.gener stamp.ctrl) (sym read)
    (subst (λ (w : RolesView). (stamp_at v.stamps c.args.clock).ctrl ≢ 0
    → HasOrder (log_of w.seats c.args.clock) (stamp_at v.stamps c.args.clock).gener (stamp_at v.stamps c.args.clock).ctrl)
    c.self.view_is (held-ordered v.stamps v.seats c.args.clock c.self.invariant.agree))
