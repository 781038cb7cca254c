-- Walks along controllers, and what drives a clock that is copied.
use Rattle.std.proofs.Common.{◌≡◌, ℕ, zero, suc, ◌+◌, ◌<◌, ◌≤◌, ◌⊎◌, Bool, true, false, cond, eqb, ◌&&◌, List, [], ◌∷◌, length, map, Option, Some, None, refl, sym, ap, ◌∙◌, inl, inr, arith, eq-eqb, lit<}
use Rattle.std.proofs.lemmas.Bool.{cases_lt}
use Rattle.std.proofs.lemmas.List.{length-map, get_or-map, get_or_past}
use Rattle.std.proofs.lemmas.List.FromFn.{length-map-range_with_len, get_or-map-range_with_len}
use Rattle.std.specs.Prelude.{find, option_map, slice_index}
use Rattle.std.specs.List.{zip, position_from, range_with_len}
use Rattle.ptp_base.specs.declared.identity.PortId.{PortId}
use Rattle.ptp_base.specs.declared.port_state.PortState.{PortState}
use Rattle.ptp_base.specs.declared.port_state.PortState.TheVariants.{Initializing, Faulty, Disabled, Listening, PreMaster, Master, Passive, Uncalibrated, Slave}
use Rattle.ptp_profile.specs.declared.roles.Edge.{Edge}
use Rattle.ptp_profile.specs.Port.PortStates.{is_slave, is_following}
use Rattle.ptp_profile.specs.Roles.Edges.{port_on, slave_clock, edge_by, edges_of, ctrl_by, ctrls_of}
use Rattle.ptp_profile.specs.Roles.Forest.{Copies, IsWalk, IsForest, IsPart}

-- who copies in a part copies in the whole
copies-from_part : (part whole : List ℕ) → IsPart part whole → (c d : ℕ) → Copies part c d → Copies whole c d
copies-from_part part whole h c d copies = elim (h.each c) [ inl none ↦ absurd (omega (arith, none, copies)) | inr same ↦ sym same ∙ copies ]

IsWalk-from_part : (part whole : List ℕ) → IsPart part whole → (c : ℕ) (walk : List ℕ) → IsWalk part c walk → IsWalk whole c walk
IsWalk-from_part part whole h c [] walks = tt
IsWalk-from_part part whole h c (d ∷ walk) (copies, walks) = (copies-from_part part whole h c d copies, IsWalk-from_part part whole h d walk walks)

pub IsForest-from_part : (part whole : List ℕ) → IsPart part whole → IsForest whole → IsForest part
IsForest-from_part part whole h forest c walk walks back = forest c walk (IsWalk-from_part part whole h c walk walks) back

-- where no clock that is copied copies another, a walk has one step at most
pub IsForest-from_driven : (ctrls : List ℕ) → ((c d : ℕ) → Copies ctrls c d → slice_index ctrls d < 128) → IsForest ctrls
IsForest-from_driven ctrls driven c [] walks (k, within, is) = absurd (omega (arith, within))
IsForest-from_driven ctrls driven c (d ∷ []) (copies, walks) (zero, within, is) =
    let here : slice_index ctrls d < 128 = driven c d copies in
    let same : slice_index ctrls d ≡ slice_index ctrls c = ap (λ x. slice_index ctrls x) is in
    absurd (omega (arith, here, same, copies))
IsForest-from_driven ctrls driven c (d ∷ []) (copies, walks) (suc k, within, is) = absurd (omega (arith, within))
IsForest-from_driven ctrls driven c (d ∷ e ∷ walk) (copies, (next, walks)) back =
    let here : slice_index ctrls d < 128 = driven c d copies in
    absurd (omega (arith, here, next))

-- ---- places of a list
below_step : (b : Bool) (n q l : ℕ) (rest : Option ℕ) → (rest ≡ Some q → q < n + 1 + l) → cond b (Some n) rest ≡ Some q → q < n + suc l
below_step true n q l rest later is = let same : n ≡ q = cc in omega arith
below_step false n q l rest later is = let far : q < n + 1 + l = later is in omega arith

position_from-below : {X : Type 0} (p : X → Bool) → (xs : List X) (n q : ℕ) → position_from p n xs ≡ Some q → q < n + length xs
position_from-below p [] n q is = absurd (cc)
position_from-below p (x ∷ xs) n q is = below_step (p x) n q (length xs) (position_from p (n + 1) xs) (position_from-below p xs (n + 1) q) is

-- a slave follows
pub is_following-from_slave : (s : PortState) → is_slave s ≡ true → is_following s ≡ true
is_following-from_slave Initializing h = absurd (cc)
is_following-from_slave Faulty h = absurd (cc)
is_following-from_slave Disabled h = absurd (cc)
is_following-from_slave Listening h = absurd (cc)
is_following-from_slave PreMaster h = absurd (cc)
is_following-from_slave Master h = absurd (cc)
is_following-from_slave Passive h = absurd (cc)
is_following-from_slave Uncalibrated h = absurd (cc)
is_following-from_slave Slave h = refl

abbrev Places : Type 0
Places = List (PortState × ℕ)

abbrev pub place_on : ℕ → PortState × ℕ → Bool
place_on clock p = is_following p.0 && eqb p.1 clock

abbrev IsFound : Option ℕ → Type 0
IsFound o = (q : ℕ) × (o ≡ Some q)

found_step : (b : Bool) (n : ℕ) (rest : Option ℕ) → IsFound rest → IsFound (cond b (Some n) rest)
found_step true n rest found = (n, refl)
found_step false n rest found = found

slave_step : (slave : Bool) (s : PortState) (c d n : ℕ) (next : Option (PortState × ℕ)) (rest : Option ℕ)
    → is_slave s ≡ slave
    → (option_map (λ (p : PortState × ℕ). p.1) next ≡ Some d → IsFound rest)
    → option_map (λ (p : PortState × ℕ). p.1) (cond slave (Some (s, c)) next) ≡ Some d
    → IsFound (cond (place_on d (s, c)) (Some n) rest)
slave_step true s c d n next rest there later is =
    let same : c ≡ d = cc in
    let follows : is_following s ≡ true = is_following-from_slave s there in
    let here : eqb c d ≡ true = eq-eqb c d same in
    (n, rw follows (rw here refl))
slave_step false s c d n next rest other later is = found_step (place_on d (s, c)) n rest (later is)

-- a port follows on the clock of the port in SLAVE
place-of_slave : (places : Places) (n d : ℕ) → option_map (λ (p : PortState × ℕ). p.1) (find (λ (p : PortState × ℕ). is_slave p.0) places) ≡ Some d
    → IsFound (position_from (place_on d) n places)
place-of_slave [] n d is = absurd (cc)
place-of_slave ((s, c) ∷ places) n d is =
    slave_step (is_slave s) s c d n (find (λ (p : PortState × ℕ). is_slave p.0) places) (position_from (place_on d) (n + 1) places) refl
    (place-of_slave places (n + 1) d) is

length-zip_le : (states : List PortState) (clocks : List ℕ) → length (zip states clocks) ≤ length states
length-zip_le [] clocks = omega arith
length-zip_le (s ∷ states) [] = omega arith
length-zip_le (s ∷ states) (c ∷ clocks) = let rest : length (zip states clocks) ≤ length states = length-zip_le states clocks in omega arith

-- the controller of a clock whose port follows is the port
driven : (port source : Option ℕ) (parent : PortId) (q : ℕ) → port ≡ Some q → ctrl_by (edge_by parent port source) ≡ q
driven None source parent q is = absurd (cc)
driven (Some p) source parent q is = cc

-- a clock that copies one has no port that follows
copied : (port source : Option ℕ) (parent : PortId) (d : ℕ) → ((q : ℕ) → port ≡ Some q → q < 128) → ctrl_by (edge_by parent port source) ≡ 128 + d
    → source ≡ Some d
copied (Some p) source parent d small is = let low : p < 128 = small p refl in absurd (omega (arith, low, is))
copied None (Some s) parent d small is = let same : s ≡ d = omega (arith, is) in ap Some same
copied None None parent d small is = absurd (omega (arith, is))

port_on-below : (clock : ℕ) (states : List PortState) (port_clocks : List ℕ) → length states < 128 → (q : ℕ)
    → port_on clock states port_clocks ≡ Some q → q < 128
port_on-below clock states port_clocks few q is =
    let low = position_from-below (place_on clock) (zip states port_clocks) 1 q is in
    let short = length-zip_le states port_clocks in
    omega (arith, low, short)

-- the controller of a clock is that of its edge, or none
ctrl_at : (f : ℕ → Option Edge) (clocks c : ℕ)
    → (slice_index (map ctrl_by (map f (range_with_len 0 clocks))) c ≡ ctrl_by (f c))
    ⊎ (slice_index (map ctrl_by (map f (range_with_len 0 clocks))) c ≡ 0)
ctrl_at f clocks c =
    elim (cases_lt c clocks) [
      | inl within ↦
          let wide : c < length (map f (range_with_len 0 clocks)) = rw (length-map-range_with_len f 0 clocks) within in
          let outer = get_or-map ctrl_by (map f (range_with_len 0 clocks)) c None 0 wide in
          let inner = get_or-map-range_with_len f 0 clocks c c None within (omega arith) in
          inl (outer ∙ ap ctrl_by inner)
      | inr beyond ↦
          let wide : length (map ctrl_by (map f (range_with_len 0 clocks))) ≤ c = rw (length-map (map f (range_with_len 0 clocks)) ctrl_by)
          (rw (length-map-range_with_len f 0 clocks) beyond) in
          inr (get_or_past (map ctrl_by (map f (range_with_len 0 clocks))) c 0 wide)
    ]

-- a clock that another copies has a port that follows, or is no clock
copied-driven : (parent : PortId) (states : List PortState) (port_clocks : List ℕ) (c d : ℕ) → length states < 128
    → ctrl_by (edge_by parent (port_on c states port_clocks) (slave_clock states port_clocks)) ≡ 128 + d
    → ctrl_by (edge_by parent (port_on d states port_clocks) (slave_clock states port_clocks)) < 128
copied-driven parent states port_clocks c d few copies =
    let source = slave_clock states port_clocks in
    let is : source ≡ Some d = copied (port_on c states port_clocks) source parent d (port_on-below c states port_clocks few) copies in
    let found : IsFound (port_on d states port_clocks) = place-of_slave (zip states port_clocks) 1 d is in
    let low : found.0 < 128 = port_on-below d states port_clocks few found.0 found.1 in
    let names = driven (port_on d states port_clocks) source parent found.0 found.1 in
    omega (arith, low, names)

copies-low : (clocks : ℕ) (parent : PortId) (states : List PortState) (port_clocks : List ℕ) → length states < 128
    → (c d : ℕ) → Copies (ctrls_of (edges_of clocks parent states port_clocks)) c d
    → slice_index (ctrls_of (edges_of clocks parent states port_clocks)) d < 128
copies-low clocks parent states port_clocks few c d copies =
    let f : ℕ → Option Edge = λ c. edge_by parent (port_on c states port_clocks) (slave_clock states port_clocks) in
    elim (ctrl_at f clocks d) [
      | inr none ↦ omega (arith, none)
      | inl there ↦
          elim (ctrl_at f clocks c) [
            | inr none ↦ absurd (omega (arith, none, copies))
            | inl here ↦ let low = copied-driven parent states port_clocks c d few (sym here ∙ copies) in rw there low
          ]
    ]

pub IsForest-edges : (clocks : ℕ) (parent : PortId) (states : List PortState) (port_clocks : List ℕ) → length states < 128
    → IsForest (ctrls_of (edges_of clocks parent states port_clocks))
IsForest-edges clocks parent states port_clocks few = IsForest-from_driven (ctrls_of (edges_of clocks parent states port_clocks))
    (copies-low clocks parent states port_clocks few)

-- ---- circles
pub copies_itself : ¬ IsForest (128 ∷ [])
copies_itself forest = forest 0 (0 ∷ []) (refl, tt) (0, lit< tt, refl)

pub copy_each_other : ¬ IsForest (129 ∷ 128 ∷ [])
copy_each_other forest = forest 0 (1 ∷ 0 ∷ []) (refl, (refl, tt)) (1, lit< tt, refl)
