-- The order of ports.
use Rattle.std.proofs.Common.{◌≡◌, ℕ, Bool, true, ◌&&◌, eqb, List, [], ◌∷◌, refl, sym, ap, ◌∙◌, arith}
use Rattle.std.specs.Cmp.{IsTotalOrder}
use Rattle.std.specs.Ordering.{nat_cmp, eq_by_cmp, is_eq, is_lt, ordering_then}
use Rattle.std.specs.declared.cmp.Ordering.{Ordering}
use Rattle.std.specs.declared.cmp.Ordering.TheVariants.{Less, Equal, Greater}
use Rattle.std.specs.List.{AllByRecursion}
use Rattle.std.proofs.lemmas.Cmp.{on_total, then_total, nat_cmp_total}
use Rattle.std.proofs.lemmas.Bool.{and_parts, eqb-true, both_ways}
use Rattle.std.proofs.lemmas.Bool.Decides.{nat_tests}
use Rattle.ptp_base.specs.declared.identity.PortId.{PortId}
use Rattle.ptp_profile.specs.Best.PortIdentity.{is_same_port, port_cmp}

-- equal identities are one
pub same_from_is_same_port : (p q : PortId) → is_same_port p q ≡ true → p ≡ q
same_from_is_same_port p q h =
    let both = and_parts _ _ h in
    let clock = eqb-true _ _ both.0 in
    let port = eqb-true _ _ both.1 in
    λ i. record { clock = record { id = clock i }; port = port i }

pub is_same_port-refl : (p : PortId) → is_same_port p p ≡ true
is_same_port-refl p = grind (arith, nat_tests)

pub is_same_port-symm : (p q : PortId) → is_same_port p q ≡ is_same_port q p
is_same_port-symm p q = grind (arith, nat_tests)

pub port_cmp_total : IsTotalOrder port_cmp
port_cmp_total = then_total (on_total (λ (p : PortId). p.clock.id) nat_cmp_total) (on_total (λ (p : PortId). p.port) nat_cmp_total)

abbrev pub ties : PortId → PortId → Bool
ties = eq_by_cmp port_cmp

cmp_is_eq : (a b : ℕ) → is_eq (nat_cmp a b) ≡ eqb a b
cmp_is_eq a b = grind (arith, nat_tests)

then_is_eq : (x y : Ordering) → is_eq (ordering_then x y) ≡ (is_eq x && is_eq y)
then_is_eq Less y = refl
then_is_eq Equal y = refl
then_is_eq Greater y = refl

pub ties_is : (p q : PortId) → ties p q ≡ is_same_port p q
ties_is p q = then_is_eq (nat_cmp p.clock.id q.clock.id) (nat_cmp p.port q.port) ∙ ap (λ x. x && is_eq (nat_cmp p.port q.port)) (cmp_is_eq p.clock.id q.clock.id) ∙ ap (λ x. (eqb p.clock.id q.clock.id) && x) (cmp_is_eq p.port q.port)

pub same_from_equal : (p q : PortId) → port_cmp p q ≡ Equal → p ≡ q
same_from_equal p q e = same_from_is_same_port p q (sym (ties_is p q) ∙ ap is_eq e)

pub less_from : (o : Ordering) → is_lt o ≡ true → o ≡ Less
less_from Less e = refl
less_from Equal e = absurd (both_ways _ refl e)
less_from Greater e = absurd (both_ways _ refl e)

-- what is below the first of rising ones is below all
pub all_below : (s t : PortId) (ts : List PortId) → port_cmp s t ≡ Less → AllByRecursion (λ y. port_cmp t y ≡ Less) ts → AllByRecursion (λ y. port_cmp s y ≡ Less) ts
all_below s t [] lt all = tt
all_below s t (x ∷ ts) lt all = (port_cmp_total.trans s t x lt all.0, all_below s t ts lt all.1)
