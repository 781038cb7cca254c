-- Where at most one port follows a master, it is the one that drives.
use Rattle.std.proofs.Common.{◌≡◌, ◌≢◌, ℕ, zero, suc, ◌+◌, ◌<◌, ◌≤◌, Bool, true, false, cond, eqb, List, [], ◌∷◌, length, map, replicate, Option, Some, None, refl, sym, ap, ◌∙◌, inl, inr, arith, eq-eqb, ne_eqb}
use Rattle.std.specs.Prelude.{count_by, slice_get}
use Rattle.std.specs.List.{zip, position_from, range_with_len}
use Rattle.std.proofs.lemmas.Bool.{cases_lt, and_from, and_right, and_left}
use Rattle.std.proofs.lemmas.List.{get_or_past}
use Rattle.std.proofs.lemmas.List.Sums.{sum_by-cons}
use Rattle.std.proofs.lemmas.List.FromFn.{length-range_with_len, length-map-range_with_len, get_or-map-range_with_len}
use Rattle.ptp_base.specs.declared.identity.PortId.{PortId}
use Rattle.ptp_base.specs.declared.port_state.PortState.{PortState}
use Rattle.ptp_base.specs.declared.port_state.PortState.TheVariants.{Uncalibrated, Slave}
use Rattle.ptp_profile.specs.declared.roles.Edge.{Edge}
use Rattle.ptp_profile.specs.declared.roles.Edge.TheVariants.{Port, Follow}
use Rattle.ptp_profile.specs.Port.PortStates.{is_slave, is_following}
use Rattle.ptp_profile.specs.Roles.Edges.{AtMostOneFollows, port_on, slave_clock, edge_by, edge_at, edges_of}
use Rattle.ptp_profile.proofs.lemmas.ForestLemmas.{place_on, is_following-from_slave}

-- ---- counts
count-cons : (t : PortState) (states : List PortState) → count_by is_following (t ∷ states) ≡ cond (is_following t) 1 0 + count_by is_following states
count-cons t states = sum_by-cons (λ (s : PortState). cond (is_following s) 1 0) t states

head_idle : (b : Bool) (rest : ℕ) → cond b 1 0 + rest ≤ 1 → 1 ≤ rest → b ≡ false
head_idle true rest few some = absurd (omega (arith, few, some))
head_idle false rest few some = refl

rest_idle : (b : Bool) (rest : ℕ) → b ≡ true → cond b 1 0 + rest ≤ 1 → rest ≡ 0
rest_idle true rest follows few = omega (arith, few)
rest_idle false rest follows few = absurd (cc)

few_at : (t : PortState) (states : List PortState) → AtMostOneFollows (t ∷ states) → cond (is_following t) 1 0 + count_by is_following states ≤ 1
few_at t states few = omega (arith, few, count-cons t states)

rest_none : (t : PortState) (states : List PortState) → is_following t ≡ true → AtMostOneFollows (t ∷ states) → count_by is_following states ≡ 0
rest_none t states follows few = rest_idle (is_following t) (count_by is_following states) follows (few_at t states few)

both_idle : (b : Bool) (rest : ℕ) → cond b 1 0 + rest ≡ 0 → (b ≡ false) × (rest ≡ 0)
both_idle true rest none = absurd (omega (arith, none))
both_idle false rest none = (refl, omega (arith, none))

rest_few : (t : PortState) (states : List PortState) → AtMostOneFollows (t ∷ states) → AtMostOneFollows states
rest_few t states few = omega (arith, few, count-cons t states)

counts_one : (b : Bool) (rest : ℕ) → b ≡ true → 1 ≤ cond b 1 0 + rest
counts_one true rest h = omega arith
counts_one false rest h = absurd (cc)

count-some : (states : List PortState) (i : ℕ) (s : PortState) → slice_get states i ≡ Some s → is_following s ≡ true
    → 1 ≤ count_by is_following states
count-some [] i s is follows = absurd (cc)
count-some (t ∷ states) zero s is follows = let same : t ≡ s = cc in rw (count-cons t states)
    (counts_one (is_following t) (count_by is_following states) (ap is_following same ∙ follows))
count-some (t ∷ states) (suc i) s is follows = let rest = count-some states i s is follows in omega (arith, rest, count-cons t states)

idle_before : (t : PortState) (states : List PortState) (i : ℕ) (s : PortState) → AtMostOneFollows (t ∷ states) → slice_get states i ≡ Some s
    → is_following s ≡ true → is_following t ≡ false
idle_before t states i s few is follows = head_idle (is_following t) (count_by is_following states) (few_at t states few)
    (count-some states i s is follows)

not_true : (b : Bool) → (b ≡ true → ⊥) → b ≡ false
not_true true h = absurd (h refl)
not_true false h = refl

not_slave : (s : PortState) → is_following s ≡ false → is_slave s ≡ false
not_slave s idle = not_true (is_slave s) (λ yes. let follows = is_following-from_slave s yes in cc)

-- ---- places where nobody follows
none_on : (states : List PortState) (clocks : List ℕ) (d n : ℕ) → count_by is_following states ≡ 0
    → position_from (place_on d) n (zip states clocks) ≡ None
none_on [] clocks d n none = refl
none_on (t ∷ states) [] d n none = refl
none_on (t ∷ states) (e ∷ clocks) d n none =
    let idle = both_idle (is_following t) (count_by is_following states) (sym (count-cons t states) ∙ none) in
    rw (and_left (is_following t) (eqb e d) idle.0) (none_on states clocks d (n + 1) idle.1)

none_slave : (states : List PortState) (clocks : List ℕ) → count_by is_following states ≡ 0 → slave_clock states clocks ≡ None
none_slave [] clocks none = refl
none_slave (t ∷ states) [] none = refl
none_slave (t ∷ states) (e ∷ clocks) none =
    let idle = both_idle (is_following t) (count_by is_following states) (sym (count-cons t states) ∙ none) in
    rw (not_slave t idle.0) (none_slave states clocks idle.1)

-- ---- the place where one follows
found_on : (states : List PortState) (clocks : List ℕ) (n i : ℕ) (s : PortState) (c : ℕ) → AtMostOneFollows states → slice_get states i ≡ Some s
    → is_following s ≡ true → slice_get clocks i ≡ Some c
    → position_from (place_on c) n (zip states clocks) ≡ Some (n + i)
found_on [] clocks n i s c few is follows at = absurd (cc)
found_on (t ∷ states) [] n i s c few is follows at = absurd (cc)
found_on (t ∷ states) (e ∷ clocks) n zero s c few is follows at =
    let same : t ≡ s = cc in
    let there : e ≡ c = cc in
    rw (and_from (is_following t) (eqb e c) (ap is_following same ∙ follows) (eq-eqb e c there)) (ap Some (omega arith))
found_on (t ∷ states) (e ∷ clocks) n (suc i) s c few is follows at =
    let idle = idle_before t states i s few is follows in
    rw (and_left (is_following t) (eqb e c) idle) (found_on states clocks (n + 1) i s c (rest_few t states few) is follows at ∙ ap Some (omega arith))

none_elsewhere : (states : List PortState) (clocks : List ℕ) (n i : ℕ) (s : PortState) (c d : ℕ) → AtMostOneFollows states
    → slice_get states i ≡ Some s → is_following s ≡ true → slice_get clocks i ≡ Some c → d ≢ c
    → position_from (place_on d) n (zip states clocks) ≡ None
none_elsewhere [] clocks n i s c d few is follows at other = refl
none_elsewhere (t ∷ states) [] n i s c d few is follows at other = refl
none_elsewhere (t ∷ states) (e ∷ clocks) n zero s c d few is follows at other =
    let same : t ≡ s = cc in
    let there : e ≡ c = cc in
    let away : e ≢ d = λ h. other (sym h ∙ there) in
    rw (and_right (is_following t) (eqb e d) (ne_eqb e d away))
    (none_on states clocks d (n + 1) (rest_none t states (ap is_following same ∙ follows) few))
none_elsewhere (t ∷ states) (e ∷ clocks) n (suc i) s c d few is follows at other =
    let idle = idle_before t states i s few is follows in
    rw (and_left (is_following t) (eqb e d) idle) (none_elsewhere states clocks (n + 1) i s c d (rest_few t states few) is follows at other)

found_slave : (states : List PortState) (clocks : List ℕ) (i c : ℕ) → AtMostOneFollows states → slice_get states i ≡ Some Slave
    → slice_get clocks i ≡ Some c → slave_clock states clocks ≡ Some c
found_slave [] clocks i c few is at = absurd (cc)
found_slave (t ∷ states) [] i c few is at = absurd (cc)
found_slave (t ∷ states) (e ∷ clocks) zero c few is at =
    let same : t ≡ Slave = cc in
    let there : e ≡ c = cc in
    rw (ap is_slave same) (ap Some there)
found_slave (t ∷ states) (e ∷ clocks) (suc i) c few is at =
    let idle = idle_before t states i Slave few is refl in
    rw (not_slave t idle) (found_slave states clocks i c (rest_few t states few) is at)

none_is_slave : (states : List PortState) (clocks : List ℕ) (i : ℕ) → AtMostOneFollows states → slice_get states i ≡ Some Uncalibrated
    → slave_clock states clocks ≡ None
none_is_slave [] clocks i few is = refl
none_is_slave (t ∷ states) [] i few is = refl
none_is_slave (t ∷ states) (e ∷ clocks) zero few is =
    let same : t ≡ Uncalibrated = cc in
    rw (ap is_slave same) (none_slave states clocks (rest_none t states (ap is_following same) few))
none_is_slave (t ∷ states) (e ∷ clocks) (suc i) few is =
    let idle = idle_before t states i Uncalibrated few is refl in
    rw (not_slave t idle) (none_is_slave states clocks i (rest_few t states few) is)

-- ---- the edges
edge_at-edges : (clocks c : ℕ) (parent : PortId) (states : List PortState) (port_clocks : List ℕ) → c < clocks
    → edge_at (edges_of clocks parent states port_clocks) c ≡ edge_by parent (port_on c states port_clocks) (slave_clock states port_clocks)
edge_at-edges clocks c parent states port_clocks within =
    get_or-map-range_with_len (λ (clock : ℕ). edge_by parent (port_on clock states port_clocks) (slave_clock states port_clocks)) 0 clocks c c None
    within (omega arith)

edge_at-none : (clocks c : ℕ) (parent : PortId) (states : List PortState) (port_clocks : List ℕ) → port_on c states port_clocks ≡ None
    → slave_clock states port_clocks ≡ None
    → edge_at (edges_of clocks parent states port_clocks) c ≡ None
edge_at-none clocks c parent states port_clocks no_port no_slave =
    elim (cases_lt c clocks) [
      | inl within ↦ edge_at-edges clocks c parent states port_clocks within ∙ (rw no_port (rw no_slave refl))
      | inr past ↦ get_or_past (edges_of clocks parent states port_clocks) c None
          (rw (length-map-range_with_len (λ (clock : ℕ). edge_by parent (port_on clock states port_clocks) (slave_clock states port_clocks)) 0 clocks)
          past)
    ]

pub edge_at-port : (clocks c i : ℕ) (parent : PortId) (states : List PortState) (port_clocks : List ℕ) (s : PortState)
    → AtMostOneFollows states → slice_get states i ≡ Some s → is_following s ≡ true → slice_get port_clocks i ≡ Some c → c < clocks
    → edge_at (edges_of clocks parent states port_clocks) c ≡ Some (Port (suc i) parent)
edge_at-port clocks c i parent states port_clocks s few is follows at within =
    let found : port_on c states port_clocks ≡ Some (suc i) = found_on states port_clocks 1 i s c few is follows at ∙ ap Some (omega arith) in
    edge_at-edges clocks c parent states port_clocks within ∙ (rw found refl)

pub edge_at-others : (clocks c d i : ℕ) (parent : PortId) (states : List PortState) (port_clocks : List ℕ)
    → AtMostOneFollows states → slice_get states i ≡ Some Slave → slice_get port_clocks i ≡ Some c → d < clocks → d ≢ c
    → edge_at (edges_of clocks parent states port_clocks) d ≡ Some (Follow c)
edge_at-others clocks c d i parent states port_clocks few is at within other =
    let no_port : port_on d states port_clocks ≡ None = none_elsewhere states port_clocks 1 i Slave c d few is refl at other in
    let slave : slave_clock states port_clocks ≡ Some c = found_slave states port_clocks i c few is at in
    edge_at-edges clocks d parent states port_clocks within ∙ (rw no_port (rw slave refl))

pub edge_at-waiting : (clocks c d i : ℕ) (parent : PortId) (states : List PortState) (port_clocks : List ℕ)
    → AtMostOneFollows states → slice_get states i ≡ Some Uncalibrated → slice_get port_clocks i ≡ Some c → d ≢ c
    → edge_at (edges_of clocks parent states port_clocks) d ≡ None
edge_at-waiting clocks c d i parent states port_clocks few is at other =
    edge_at-none clocks d parent states port_clocks (none_elsewhere states port_clocks 1 i Uncalibrated c d few is refl at other)
    (none_is_slave states port_clocks i few is)

pub edge_at-nobody : (clocks d : ℕ) (parent : PortId) (states : List PortState) (port_clocks : List ℕ)
    → count_by is_following states ≡ 0 → edge_at (edges_of clocks parent states port_clocks) d ≡ None
edge_at-nobody clocks d parent states port_clocks none = edge_at-none clocks d parent states port_clocks (none_on states port_clocks d 1 none)
    (none_slave states port_clocks none)

map-none : (f : ℕ → Option Edge) → ((c : ℕ) → f c ≡ None) → (clocks : List ℕ) → map f clocks ≡ replicate (length clocks) None
map-none f none [] = refl
map-none f none (c ∷ clocks) = rw (none c, map-none f none clocks) refl

-- where nobody follows, no clock has an edge
pub edges_of-nobody : (clocks : ℕ) (parent : PortId) (states : List PortState) (port_clocks : List ℕ)
    → count_by is_following states ≡ 0 → edges_of clocks parent states port_clocks ≡ replicate clocks None
edges_of-nobody clocks parent states port_clocks none =
    let edge = λ (c : ℕ). edge_by parent (port_on c states port_clocks) (slave_clock states port_clocks) in
    map-none edge (λ c. rw (none_on states port_clocks c 1 none, none_slave states port_clocks none) refl) (range_with_len 0 clocks)
    ∙ ap (λ n. replicate n None) (length-range_with_len 0 clocks)
