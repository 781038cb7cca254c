use Rattle.std.proofs.Common.{◌≡◌, ◌<◌, ◌∙◌, ℕ, List, Option, length, ap, refl}
use Rattle.ptp_profile.specs.declared.roles.Edge.{Edge}
use Rattle.ptp_profile.specs.declared.roles.Notice.{Notice}
use Rattle.ptp_profile.specs.declared.seats.Held.{Held}
use Rattle.ptp_profile.specs.Roles.Edges.{edge_at, lead_by, slave_port}
use Rattle.bc_roles.specs.RolesView.{RolesView}
use Rattle.bc_roles.specs.Stamps.{stamp_at}
use Rattle.ptp_profile.specs.declared.roles.Lead.{Lead}
use Rattle.bc_roles.proofs.lemmas.RolesViewLemmas.{held-history}
use Rattle.bc_roles.proofs.roles.Roles.notice.Goals as goal

-- a notice by its generation, its port, the generation of its lead, and the edges
abbrev notice_with : ℕ → ℕ → ℕ → ℕ → List (Option Edge) → Notice
notice_with clock gener slave last edges = record { gener = gener; slave = slave; lead = lead_by last (edge_at edges clock) }

same-notice : (clock gener gener' slave slave' last last' : ℕ) (edges edges' : List (Option Edge)) → gener ≡ gener' → slave ≡ slave' → last ≡ last' → edges ≡ edges'
    → notice_with clock gener slave last edges ≡ notice_with clock gener' slave' last' edges'
same-notice clock gener gener' slave slave' last last' edges edges' a b d e = rw (a, b, d, e) refl

pub returns-clause-history : goal.returns-clause-history
returns-clause-history c = λ core r is slave.
    let v : RolesView = c.args.self.now in
    let last = ap (λ (h : Held). h.gener) (held-history v r c.args.clock is c.requires.there) in
    let gener = c.generation.ensures ∙ ap (λ (x : RolesView). x.generation.gener) c.self.view_is ∙ is.gener in
    let with : Option Lead → Notice = λ lead. record { gener = c.generation.result; slave = c.args.slave; lead = lead } in
    ap with c.lead.ensures ∙ same-notice c.args.clock _ _ _ _ _ _ _ _ gener slave last is.edges
