-- The ports with the code S1.
use Rattle.std.proofs.Common.{◌≡◌, ℕ, ◌+◌, Bool, true, false, cond, ◌&&◌, List, Option, Some, None, refl, sym, ap, ◌∙◌, arith}
use Rattle.std.specs.Prelude.{IsSomeAnd}
use Rattle.std.specs.Option.{option_map}
use Rattle.std.specs.List.{slice_get, enumerate_from, filter_map}
use Rattle.std.proofs.lemmas.Bool.{eqb-true}
use Rattle.std.proofs.lemmas.Option.{same_Some, slice_get-map}
use Rattle.ptp_base.specs.declared.announcement.Announcement.{Announcement}
use Rattle.ptp_base.specs.declared.code.Code.{Code}
use Rattle.ptp_base.specs.declared.code.Code.TheVariants.{Stay, M1, M2, M3, P1, P2, S1}
use Rattle.ptp_base.specs.declared.port_state.PortState.{PortState}
use Rattle.ptp_profile.specs.declared.port_best.PortBest.{PortBest}
use Rattle.ptp_profile.specs.Best.ForeignMasters.{ebest}
use Rattle.ptp_profile.specs.Best.StateDecision.{wins_against, wins_by_topology, is_received_on, never_follows, decides_nothing, code_of, bests_of, codes_of}
use Rattle.ptp_profile.specs.Best.BestLaws.{OneFollows, FollowerIsNamed, FollowerHearsBest, AreHeardThere}
use Rattle.ptp_profile.proofs.lemmas.BestLemmas.{best_is_member}
use Rattle.ptp_profile.proofs.lemmas.MemberLemmas.{has_from_contains, has_filter_map, slice_get-enumerate_from, place_of_has}

-- the codes by the tests, the first of which that holds decides
abbrev coded : Bool → Bool → Bool → Bool → Bool → Bool → Code
coded stay low m1 m2 s1 p2 = cond stay Stay (cond (low && m1) M1 (cond low P1 (cond m2 M2 (cond s1 S1 (cond p2 P2 M3)))))

coded_follows : (stay low m1 m2 s1 p2 : Bool) → coded stay low m1 m2 s1 p2 ≡ S1 → s1 ≡ true
coded_follows true low m1 m2 s1 p2 e = absurd cc
coded_follows false true true m2 s1 p2 e = absurd cc
coded_follows false true false m2 s1 p2 e = absurd cc
coded_follows false false m1 true s1 p2 e = absurd cc
coded_follows false false m1 false true p2 e = refl
coded_follows false false m1 false false true e = absurd cc
coded_follows false false m1 false false false e = absurd cc

coded_stays : (stay low m1 m2 s1 p2 : Bool) → coded stay low m1 m2 s1 p2 ≡ Stay → stay ≡ true
coded_stays true low m1 m2 s1 p2 e = refl
coded_stays false true true m2 s1 p2 e = absurd cc
coded_stays false true false m2 s1 p2 e = absurd cc
coded_stays false false m1 true s1 p2 e = absurd cc
coded_stays false false m1 false true p2 e = absurd cc
coded_stays false false m1 false false true e = absurd cc
coded_stays false false m1 false false false e = absurd cc

-- a port with S1 is the one that Ebest was received on
pub code_of-S1 : (own : Announcement) (best : Option Announcement) (p : ℕ) (s : PortState) (erbest : Option Announcement) →
    code_of own best p s erbest ≡ S1 → is_received_on p best ≡ true
code_of-S1 own best p s erbest e =
    coded_follows (decides_nothing s erbest) (never_follows own) (wins_against own erbest) (wins_against own best) (is_received_on p best)
    (wins_by_topology best erbest) e

-- a port with Stay decides nothing
pub code_of-Stay : (own : Announcement) (best : Option Announcement) (p : ℕ) (s : PortState) (erbest : Option Announcement) →
    code_of own best p s erbest ≡ Stay → decides_nothing s erbest ≡ true
code_of-Stay own best p s erbest e =
    coded_stays (decides_nothing s erbest) (never_follows own) (wins_against own erbest) (wins_against own best) (is_received_on p best)
    (wins_by_topology best erbest) e

abbrev code_at : Announcement → List PortBest → ℕ → PortBest → Code
code_at own ports i port = code_of own (ebest (bests_of ports)) (1 + i) port.state port.best

abbrev numbered_code : Announcement → List PortBest → ℕ × PortBest → Code
numbered_code own ports port = code_of own (ebest (bests_of ports)) port.0 port.1.state port.1.best

-- the code at a place
pub slice_get-codes_of : (own : Announcement) (ports : List PortBest) (i : ℕ) →
    slice_get (codes_of own ports) i ≡ option_map (code_at own ports i) (slice_get ports i)
slice_get-codes_of own ports i =
    slice_get-map (numbered_code own ports) (enumerate_from 1 ports) i
    ∙ ap (option_map (numbered_code own ports)) (slice_get-enumerate_from 1 ports i)
    ∙ twice (slice_get ports i)
  where
    twice : (o : Option PortBest) →
        option_map (numbered_code own ports) (option_map (λ (port : PortBest). let pair : ℕ × PortBest = (1 + i, port) in pair) o)
        ≡ option_map (code_at own ports i) o
    twice None = refl
    twice (Some port) = refl

-- who has S1 is named by Ebest
received : (own : Announcement) (ports : List PortBest) (i : ℕ) (o : Option PortBest) →
    option_map (code_at own ports i) o ≡ Some S1 → is_received_on (1 + i) (ebest (bests_of ports)) ≡ true
received own ports i None e = absurd cc
received own ports i (Some port) e =
    code_of-S1 own (ebest (bests_of ports)) (1 + i) port.state port.best (same_Some (code_at own ports i port) S1 e)

named : (i : ℕ) (o : Option Announcement) → is_received_on (1 + i) o ≡ true → IsSomeAnd o (λ (best : Announcement). best.receiver.port ≡ i + 1)
named i None e = absurd cc
named i (Some best) e = let number = eqb-true best.receiver.port (1 + i) e in omega arith

pub follower_is_named : FollowerIsNamed
follower_is_named own ports i e = named i (ebest (bests_of ports)) (received own ports i (slice_get ports i) (sym (slice_get-codes_of own ports i) ∙ e))

one_named : (i j : ℕ) (o : Option Announcement) →
    IsSomeAnd o (λ (best : Announcement). best.receiver.port ≡ i + 1) → IsSomeAnd o (λ (best : Announcement). best.receiver.port ≡ j + 1) → i ≡ j
one_named i j None a b = absurd a
one_named i j (Some best) a b = omega arith

pub one_follows : OneFollows
one_follows own ports i j at_i at_j = one_named i j (ebest (bests_of ports)) (follower_is_named own ports i at_i) (follower_is_named own ports j at_j)

-- Ebest stands at the port that it names
stands : (ports : List PortBest) (i : ℕ) (o : Option Announcement) →
    AreHeardThere ports → ebest (bests_of ports) ≡ o →
    IsSomeAnd o (λ (best : Announcement). best.receiver.port ≡ i + 1) → slice_get (bests_of ports) i ≡ Some o
stands ports i None there e is = absurd is
stands ports i (Some best) there e is =
    let member = has_from_contains (filter_map (λ (x : Option Announcement). x) (bests_of ports)) best (best_is_member _ best e) in
    let found = has_filter_map (λ (x : Option Announcement). x) (bests_of ports) best member in
    let place = place_of_has (bests_of ports) found.0 found.1 in
    let here : slice_get (bests_of ports) place.0 ≡ Some (Some best) = place.1 ∙ ap (λ (x : Option Announcement). Some x) found.2 in
    let number = there place.0 best here in
    let same : i ≡ place.0 = omega arith in
    ap (slice_get (bests_of ports)) same ∙ here

pub follower_hears_best : FollowerHearsBest
follower_hears_best own ports i there e = stands ports i (ebest (bests_of ports)) there refl (follower_is_named own ports i e)
