-- When edges are the same.
use Rattle.std.proofs.Common.{◌≡◌, ℕ, true, eqb, List, [], ◌∷◌, Option, Some, None, refl, ap, ◌∙◌, subst, eq-eqb}
use Rattle.std.specs.Prelude.{IsTrue, ◌↔◌}
use Rattle.std.proofs.lemmas.Bool.{eqb-true, and_parts, and_from}
use Rattle.ptp_base.specs.declared.identity.PortId.{PortId}
use Rattle.ptp_profile.specs.declared.roles.Edge.{Edge}
use Rattle.ptp_profile.specs.declared.roles.Edge.TheVariants.{Port, Follow}
use Rattle.ptp_profile.specs.Best.PortIdentity.{is_same_port}
use Rattle.ptp_profile.specs.Roles.Edges.{is_same_edge, are_same_edges}

abbrev port_of : ℕ → ℕ → PortId
port_of id port = record { clock = record { id = id }; port = port }

same_port : (p q : PortId) → is_same_port p q ≡ true → p ≡ q
same_port p q h =
    let parts = and_parts (eqb p.clock.id q.clock.id) (eqb p.port q.port) h in
    ap (λ (id : ℕ). port_of id p.port) (eqb-true p.clock.id q.clock.id parts.0) ∙ ap (λ (port : ℕ). port_of q.clock.id port)
    (eqb-true p.port q.port parts.1)

is_same_port-itself : (p : PortId) → is_same_port p p ≡ true
is_same_port-itself p = and_from (eqb p.clock.id p.clock.id) (eqb p.port p.port) (eq-eqb p.clock.id p.clock.id refl) (eq-eqb p.port p.port refl)

pub same_edge : (a b : Option Edge) → is_same_edge a b ≡ true → a ≡ b
same_edge None None h = refl
same_edge None (Some b) h = absurd (cc)
same_edge (Some a) None h = absurd (cc)
same_edge (Some (Port p parent)) (Some (Port q other)) h =
    let parts = and_parts (eqb p q) (is_same_port parent other) h in
    ap (λ (n : ℕ). Some (Port n parent)) (eqb-true p q parts.0) ∙ ap (λ (x : PortId). Some (Port q x)) (same_port parent other parts.1)
same_edge (Some (Port p parent)) (Some (Follow d)) h = absurd (cc)
same_edge (Some (Follow c)) (Some (Port q other)) h = absurd (cc)
same_edge (Some (Follow c)) (Some (Follow d)) h = ap (λ (n : ℕ). Some (Follow n)) (eqb-true c d h)

is_same_edge-itself : (a : Option Edge) → is_same_edge a a ≡ true
is_same_edge-itself None = refl
is_same_edge-itself (Some (Port p parent)) = and_from (eqb p p) (is_same_port parent parent) (eq-eqb p p refl) (is_same_port-itself parent)
is_same_edge-itself (Some (Follow c)) = eq-eqb c c refl

same_edges : (olds news : List (Option Edge)) → are_same_edges olds news ≡ true → olds ≡ news
same_edges [] [] h = refl
same_edges [] (new ∷ news) h = absurd (cc)
same_edges (old ∷ olds) [] h = absurd (cc)
same_edges (old ∷ olds) (new ∷ news) h =
    let parts = and_parts (is_same_edge old new) (are_same_edges olds news) h in
    ap (λ (e : Option Edge). e ∷ olds) (same_edge old new parts.0) ∙ ap (λ (es : List (Option Edge)). new ∷ es) (same_edges olds news parts.1)

are_same_edges-itself : (edges : List (Option Edge)) → are_same_edges edges edges ≡ true
are_same_edges-itself [] = refl
are_same_edges-itself (edge ∷ edges) = and_from (is_same_edge edge edge) (are_same_edges edges edges) (is_same_edge-itself edge)
    (are_same_edges-itself edges)

pub are_same_edges-iff : (olds news : List (Option Edge)) → IsTrue (are_same_edges olds news) ↔ (olds ≡ news)
are_same_edges-iff olds news = (
  same_edges olds news,
  λ same. subst (λ (es : List (Option Edge)). are_same_edges olds es ≡ true) same
      (are_same_edges-itself olds),
)
