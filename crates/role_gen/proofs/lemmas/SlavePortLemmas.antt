-- The port that follows on a clock, the clock of the port in SLAVE, and the edges that these give.
use Rattle.std.proofs.Common.{◌≡◌, ℕ, suc, ◌+◌, ◌-◌, ◌<◌, ◌≤◌, Bool, true, false, cond, ◌&&◌, List, [], ◌∷◌, ◌++◌, map, length, take, set, Option, Some, None, refl, sym, ap, ◌∙◌, subst, arith, add-one, append_assoc}
use Rattle.std.specs.Prelude.{All}
use Rattle.std.proofs.lemmas.List.Elements.{All-nil, All-cons, All-head, All-tail}
use Rattle.std.proofs.lemmas.List.{take_more_set}
use Rattle.std.proofs.lemmas.Grind.{common_steps}
use Rattle.std.specs.Prelude.{◌==◌, option_map, find}
use Rattle.std.specs.List.{position_from, zip, range_with_len}
use Rattle.ptp_base.specs.declared.limits.TheConstants.{CLOCKS_MAX, PORTS_MAX}
use Rattle.ptp_base.specs.declared.identity.PortId.{PortId}
use Rattle.ptp_base.specs.declared.port_state.PortState.{PortState}
use Rattle.ptp_profile.specs.declared.roles.Edge.{Edge}
use Rattle.ptp_profile.specs.Port.PortStates.{is_following, is_slave}
use Rattle.ptp_profile.specs.Roles.Edges.{edge_by, edges_of, port_on, slave_clock}
use Rattle.role_gen.specs.Generation.{HasCtrlIfAny, HaveCtrls}

above_step : (b : Bool) (n q l : ℕ) (rest : Option ℕ) → (rest ≡ Some q → q < n + 1 + l) → cond b (Some n) rest ≡ Some q → q < n + suc l
above_step true n q l rest later is = let same : n ≡ q = cc in omega arith
above_step false n q l rest later is = let far : q < n + 1 + l = later is in omega arith

-- what is found has a place among the elements
pub position_from-below : {X : Type 0} (p : X → Bool) → (xs : List X) (n q : ℕ) → position_from p n xs ≡ Some q → q < n + length xs
position_from-below p [] n q is = absurd (cc)
position_from-below p (x ∷ xs) n q is = above_step (p x) n q (length xs) (position_from p (n + 1) xs) (position_from-below p xs (n + 1) q) is

suc_step : (b : Bool) (n m : ℕ) (rest more : Option ℕ) → suc n ≡ m → option_map suc rest ≡ more → option_map suc (cond b (Some n) rest) ≡ cond b (Some m) more
suc_step true n m rest more same later = ap (λ (q : ℕ). Some q) same
suc_step false n m rest more same later = later

-- counted from 1, the number is one more than the place
pub position_from-suc : {X : Type 0} (p : X → Bool) → (xs : List X) (n m : ℕ) → suc n ≡ m → option_map suc (position_from p n xs) ≡ position_from p m xs
position_from-suc p [] n m same = refl
position_from-suc p (x ∷ xs) n m same = suc_step (p x) n m (position_from p (n + 1) xs) (position_from p (m + 1) xs) same (position_from-suc p xs (n + 1) (m + 1) (omega arith))

pub length-zip_le : {X Y : Type 0} → (xs : List X) (ys : List Y) → length (zip xs ys) ≤ length xs
length-zip_le [] ys = omega arith
length-zip_le (x ∷ xs) [] = omega arith
length-zip_le (x ∷ xs) (y ∷ ys) = let rest : length (zip xs ys) ≤ length xs = length-zip_le xs ys in omega arith

within_step : (slave : Bool) (state : PortState) (bound d c : ℕ) (rest : Option (PortState × ℕ)) → d < bound
    → (option_map (λ (p : PortState × ℕ). p.1) rest ≡ Some c → c < bound)
    → option_map (λ (p : PortState × ℕ). p.1) (cond slave (Some (state, d)) rest) ≡ Some c → c < bound
within_step true state bound d c rest low later is = let same : d ≡ c = cc in omega arith
within_step false state bound d c rest low later is = later is

-- the clock of the port in SLAVE is one of the ports' clocks
pub slave_clock-below : (states : List PortState) (clocks : List ℕ) (bound c : ℕ) → All (λ clock. clock < bound) clocks → slave_clock states clocks ≡ Some c → c < bound
slave_clock-below [] clocks bound c all is = absurd (cc)
slave_clock-below (s ∷ states) [] bound c all is = absurd (cc)
slave_clock-below (s ∷ states) (d ∷ clocks) bound c all is =
    within_step (is_slave s) s bound d c (find (λ (p : PortState × ℕ). is_slave p.0) (zip states clocks)) (All-head (λ clock. clock < bound) d clocks all) (slave_clock-below states clocks bound c (All-tail (λ clock. clock < bound) d clocks all)) is

ctrl_by : (parent : PortId) (port source : Option ℕ) → ((p : ℕ) → port ≡ Some p → p ≤ 127) → ((c : ℕ) → source ≡ Some c → c ≤ 127) → HasCtrlIfAny (edge_by parent port source)
ctrl_by parent (Some p) source ports sources = ports p refl
ctrl_by parent None (Some c) ports sources = sources c refl
ctrl_by parent None None ports sources = tt

port_on-below : (clock : ℕ) (states : List PortState) (clocks : List ℕ) → length states ≤ PORTS_MAX → (q : ℕ) → port_on clock states clocks ≡ Some q → q ≤ 127
port_on-below clock states clocks few q is =
    let far : q < 1 + length (zip states clocks) = position_from-below (λ (p : PortState × ℕ). is_following p.0 && (p.1 == clock)) (zip states clocks) 1 q is in
    let short : length (zip states clocks) ≤ length states = length-zip_le states clocks in
    omega arith

all_made : (f : ℕ → Option Edge) → ((c : ℕ) → HasCtrlIfAny (f c)) → (cs : List ℕ) → HaveCtrls (map f cs)
all_made f each [] = All-nil HasCtrlIfAny
all_made f each (c ∷ cs) = All-cons HasCtrlIfAny (f c) (map f cs) (each c) (all_made f each cs)

-- the controllers of edges fit into octets
pub HaveCtrls-edges : (clocks bound : ℕ) (parent : PortId) (states : List PortState) (port_clocks : List ℕ) → length states ≤ PORTS_MAX → bound ≤ CLOCKS_MAX
    → All (λ clock. clock < bound) port_clocks → HaveCtrls (edges_of clocks parent states port_clocks)
HaveCtrls-edges clocks bound parent states port_clocks few small all =
    all_made (λ clock. edge_by parent (port_on clock states port_clocks) (slave_clock states port_clocks))
    (λ clock. ctrl_by parent (port_on clock states port_clocks) (slave_clock states port_clocks) (port_on-below clock states port_clocks few)
    (λ c is. let low : c < bound = slave_clock-below states port_clocks bound c all is in omega arith))
    (range_with_len 0 clocks)

abbrev pub is_on : ℕ → PortState × ℕ → Bool
is_on clock p = is_following p.0 && (p.1 == clock)

pub place-small : (clock : ℕ) (states : List PortState) (clocks : List ℕ) (place : ℕ) → length states ≤ PORTS_MAX
    → Some place ≡ position_from (is_on clock) 0 (zip states clocks) → place < PORTS_MAX
place-small clock states clocks place few is =
    let far : place < 0 + length (zip states clocks) = position_from-below (is_on clock) (zip states clocks) 0 place (sym is) in
    let short : length (zip states clocks) ≤ length states = length-zip_le states clocks in
    omega arith

pub port-from_place : (clock : ℕ) (states : List PortState) (clocks : List ℕ) (place : ℕ)
    → Some place ≡ position_from (is_on clock) 0 (zip states clocks) → Some (place + 1) ≡ port_on clock states clocks
port-from_place clock states clocks place is =
    ap (λ (n : ℕ). Some n) (add-one place) ∙ ap (option_map suc) is ∙ position_from-suc (is_on clock) (zip states clocks) 0 1 refl

pub no_port-from_place : (clock : ℕ) (states : List PortState) (clocks : List ℕ)
    → None ≡ position_from (is_on clock) 0 (zip states clocks) → None ≡ port_on clock states clocks
no_port-from_place clock states clocks is = ap (option_map suc) is ∙ position_from-suc (is_on clock) (zip states clocks) 0 1 refl

made_more : (f : ℕ → Option Edge) (i m : ℕ) → map f (range_with_len i (suc m)) ≡ f i ∷ map f (range_with_len (i + 1) m)
made_more f i m = refl

-- one more edge is written
pub edges-more : (f : ℕ → Option Edge) (i n : ℕ) (out all : List (Option Edge)) (edge : Option Edge) → i < length out → i < n → edge ≡ f i
    → take i out ++ map f (range_with_len i (n - i)) ≡ all
    → take (i + 1) (set out i edge) ++ map f (range_with_len (i + 1) (n - (i + 1))) ≡ all
edges-more f i n out all edge lt below is before =
    let left : n - i ≡ suc (n - (i + 1)) = omega arith in
    let opened : take i out ++ (f i ∷ map f (range_with_len (i + 1) (n - (i + 1)))) ≡ all =
    subst (λ (m : ℕ). take i out ++ map f (range_with_len i m) ≡ all) left before in
    rw (take_more_set out i edge) (rw append_assoc (subst (λ (e : Option Edge). take i out ++ (e ∷ map f (range_with_len (i + 1) (n - (i + 1)))) ≡ all) (sym is) opened))

-- all edges are written
pub edges-done : (f : ℕ → Option Edge) (i n : ℕ) (out all : List (Option Edge)) → length out ≡ n → n ≤ i
    → take i out ++ map f (range_with_len i (n - i)) ≡ all → out ≡ all
edges-done f i n out all same le before =
    let none : n - i ≡ 0 = omega arith in
    let opened : take i out ++ [] ≡ all = subst (λ (m : ℕ). take i out ++ map f (range_with_len i m) ≡ all) none before in
    grind (arith, common_steps)
