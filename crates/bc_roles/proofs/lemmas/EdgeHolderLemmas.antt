-- The edges that the ports' states give name controllers who may hold a clock.
use Rattle.std.proofs.Common.{◌≡◌, ℕ, ◌+◌, ◌<◌, ◌≤◌, inl, inr, refl, List, [], ◌∷◌, length, map, Option, Some, None, arith, Bool, true, false, cond}
use Rattle.std.specs.Prelude.{All}
use Rattle.std.specs.List.{position_from, range_with_len, zip}
use Rattle.std.proofs.lemmas.List.FromFn.{length-map-range_with_len}
use Rattle.std.proofs.lemmas.List.Elements.{All-nil, All-cons}
use Rattle.ptp_base.specs.declared.identity.PortId.{PortId}
use Rattle.ptp_base.specs.declared.port_state.PortState.{PortState}
use Rattle.ptp_base.specs.declared.limits.TheConstants.{PORTS_MAX}
use Rattle.ptp_profile.specs.declared.roles.Edge.{Edge}
use Rattle.ptp_profile.specs.Roles.Edges.{edge_by, edges_of, port_on, slave_clock}
use Rattle.ptp_profile.proofs.lemmas.ForestLemmas.{IsForest-edges}
use Rattle.role_gen.proofs.lemmas.SlavePortLemmas.{is_on, length-zip_le, position_from-below, slave_clock-below}
use Rattle.bc_roles.specs.NextGeneration.{AreEdges, HasHolder}

from_step : (b : Bool) (n q : ℕ) (rest : Option ℕ) → (rest ≡ Some q → n + 1 ≤ q) → cond b (Some n) rest ≡ Some q → n ≤ q
from_step true n q rest later is = let same : n ≡ q = cc in omega arith
from_step false n q rest later is = let far : n + 1 ≤ q = later is in omega arith

-- places are counted from the first number on
position_from-least : {X : Type 0} (p : X → Bool) (xs : List X) (n q : ℕ) → position_from p n xs ≡ Some q → n ≤ q
position_from-least p [] n q is = absurd (cc)
position_from-least p (x ∷ xs) n q is = from_step (p x) n q (position_from p (n + 1) xs) (position_from-least p xs (n + 1) q) is

record IsPort (q : ℕ) : Type 0 where
  first : 1 ≤ q
  last : q ≤ PORTS_MAX

port_on-within : (clock : ℕ) (states : List PortState) (clocks : List ℕ) → length states ≤ PORTS_MAX → (q : ℕ)
    → port_on clock states clocks ≡ Some q → IsPort q
port_on-within clock states clocks few q is =
    let far : q < 1 + length (zip states clocks) = position_from-below (is_on clock) (zip states clocks) 1 q is in
    let short : length (zip states clocks) ≤ length states = length-zip_le states clocks in
    record { first = position_from-least (is_on clock) (zip states clocks) 1 q is; last = omega arith }

holder_by : (clocks : ℕ) (parent : PortId) (port source : Option ℕ) → ((p : ℕ) → port ≡ Some p → IsPort p)
    → ((c : ℕ) → source ≡ Some c → c < clocks)
    → HasHolder clocks (edge_by parent port source)
holder_by clocks parent (Some p) source ports sources =
    let here : IsPort p = ports p refl in
    let first : 1 ≤ p = here.first in
    let last : p ≤ PORTS_MAX = here.last in
    ((λ none. omega arith), inl (omega arith))
holder_by clocks parent None (Some c) ports sources =
    let low : c < clocks = sources c refl in ((λ none. omega arith), inr (omega arith, omega arith))
holder_by clocks parent None None ports sources = tt

all_made : (P : Option Edge → Type 0) (f : ℕ → Option Edge) → ((c : ℕ) → P (f c)) → (cs : List ℕ) → All P (map f cs)
all_made P f each [] = All-nil P
all_made P f each (c ∷ cs) = All-cons P (f c) (map f cs) (each c) (all_made P f each cs)

pub AreEdges-placed : (clocks : ℕ) (parent : PortId) (states : List PortState) (port_clocks : List ℕ)
    → length states ≤ PORTS_MAX
    → All (λ clock. clock < clocks) port_clocks → AreEdges clocks (edges_of clocks parent states port_clocks)
AreEdges-placed clocks parent states port_clocks few placed = record {
  long = length-map-range_with_len
      (λ clock. edge_by parent (port_on clock states port_clocks) (slave_clock states port_clocks)) 0 clocks;
  forest = IsForest-edges clocks parent states port_clocks (omega arith);
  holders = all_made (HasHolder clocks)
      (λ clock. edge_by parent (port_on clock states port_clocks) (slave_clock states port_clocks))
      (λ clock. holder_by clocks parent (port_on clock states port_clocks) (slave_clock states port_clocks)
      (port_on-within clock states port_clocks few) (λ c is. slave_clock-below states port_clocks clocks c placed is))
      (range_with_len 0 clocks);
}
