-- Who acts, where they are at first, and where they are once one is at another place.
use Rattle.std.proofs.Common.{◌≡◌, ◌≢◌, ℕ, zero, suc, ◌+◌, ◌<◌, ◌≤◌, Bool, true, false, eqb, leb, le-leb, length-append, ◌⊎◌, refl, sym, ap, subst, ◌∙◌, arith, inl, inr, List, [], ◌∷◌, ◌++◌, length, map, Option, Some, None}
use Rattle.std.specs.Prelude.{Contains, option_map, slice_get}
use Rattle.std.specs.List.{range_with_len}
use Rattle.std.proofs.lemmas.Bool.Decides.{eqb_tells}
use Rattle.std.proofs.lemmas.List.Elements.{Contains-append_left, Contains-append_right}
use Rattle.std.proofs.lemmas.List.FromFn.{get_or-map-range_with_len, length-map-range_with_len, map-range_with_len_more}
use Rattle.std.proofs.lemmas.List.{append_assoc, map-append}
use Rattle.bc_history.specs.declared.entry.Entry.{Entry}
use Rattle.bc_history.specs.declared.entry.Who.{Who}
use Rattle.bc_history.specs.declared.entry.Who.TheVariants.{Port, Follower, Queries}
use Rattle.bc_history.specs.declared.place.PortPlace.{PortPlace}
use Rattle.bc_history.specs.declared.place.FollowerPlace.{FollowerPlace}
use Rattle.bc_history.specs.Phases.Inputs.{port_at}
use Rattle.bc_history.specs.Phases.OpeningState.{follower_count}
use Rattle.bc_history.specs.Run.Actors.{actor_of, actors_of, entries_of, is_by, is_same_actor}
use Rattle.bc_history.specs.Run.World.{Of_follower, Of_port, Of_queries, Place, World, place_of, with_place}
use Rattle.bc_history.proofs.lemmas.CoreInvariantLemmas.{port_at-at_port, port_at-elsewhere, slice_get-changed_at, slice_get-changed_elsewhere}
use Rattle.bc_history.specs.declared.scenario.Scenario.{Scenario}
use Rattle.bc_steps.specs.ActorView.{ActorState, IsPlaceOf}
use Rattle.bc_replay.specs.ActorLoop.{actor_at_opening}

-- ---- two actors

eqb-is : (a b : ℕ) → eqb a b ≡ true → a ≡ b
eqb-is a b is = elim (eqb_tells a b) [
  | inl same ↦ same.1
  | inr differ ↦ let both : true ≡ false = sym is ∙ differ.0 in cc
]

eqb-same : (a b c : ℕ) → eqb a c ≡ true → eqb b c ≡ true → eqb a b ≡ true
eqb-same a b c first second = elim (eqb_tells a b) [
  | inl same ↦ same.0
  | inr differ ↦ absurd (differ.1 (eqb-is a c first ∙ sym (eqb-is b c second)))
]

-- two who are the same as a third are the same
pub same-actor : (a b c : Who) → is_same_actor a c ≡ true → is_same_actor b c ≡ true → is_same_actor a b ≡ true
same-actor (Port p) (Port q) (Port r) first second = eqb-same p q r first second
same-actor (Port p) (Port q) (Follower d) first second = cc
same-actor (Port p) (Port q) Queries first second = cc
same-actor (Port p) (Follower c) (Port r) first second = cc
same-actor (Port p) (Follower c) (Follower d) first second = cc
same-actor (Port p) (Follower c) Queries first second = cc
same-actor (Port p) Queries (Port r) first second = cc
same-actor (Port p) Queries (Follower d) first second = cc
same-actor (Port p) Queries Queries first second = cc
same-actor (Follower c) (Port q) (Port r) first second = cc
same-actor (Follower c) (Port q) (Follower d) first second = cc
same-actor (Follower c) (Port q) Queries first second = cc
same-actor (Follower c) (Follower e) (Port r) first second = cc
same-actor (Follower c) (Follower e) (Follower d) first second = eqb-same c e d first second
same-actor (Follower c) (Follower e) Queries first second = cc
same-actor (Follower c) Queries (Port r) first second = cc
same-actor (Follower c) Queries (Follower d) first second = cc
same-actor (Follower c) Queries Queries first second = cc
same-actor Queries (Port q) (Port r) first second = cc
same-actor Queries (Port q) (Follower d) first second = cc
same-actor Queries (Port q) Queries first second = cc
same-actor Queries (Follower e) (Port r) first second = cc
same-actor Queries (Follower e) (Follower d) first second = cc
same-actor Queries (Follower e) Queries first second = cc
same-actor Queries Queries c first second = refl

-- an entry of another is none of an actor's own
pub entries-other : (who other : Who) (e : Entry) (before : List Entry) → is_by who e ≡ true → is_same_actor other who ≡ false → entries_of other (e ∷ before) ≡ entries_of other before
entries-other who other e before own differ = by_test (is_by other e) refl
  where
    by_test : (b : Bool) → is_by other e ≡ b → entries_of other (e ∷ before) ≡ entries_of other before
    by_test true is = let both : true ≡ false = sym (same-actor other who (actor_of e.input) is own) ∙ differ in cc
    by_test false is = rw is refl

-- ---- who acts

-- an element of a list of images of numbers in a row
at-range : (f : ℕ → Who) (a n i : ℕ) (who : Who) → slice_get (map f (range_with_len a n)) i ≡ Some who → (who ≡ f (a + i)) × (i < n)
at-range f a zero i who there = cc
at-range f a (suc n) zero who there =
    let first : a ≡ a + 0 = omega arith in
    let same : f a ≡ who = cc in
    (sym same ∙ ap f first, omega arith)
at-range f a (suc n) (suc i) who there =
    let rest = at-range f (a + 1) n i who there in
    let more : a + 1 + i ≡ a + suc i = omega arith in
    (rest.0 ∙ ap f more, omega (arith, rest.1))

-- an element of two lists is one of the first, or one of the second
split-at : (xs ys : List Who) (i : ℕ) (who : Who) → slice_get (xs ++ ys) i ≡ Some who
    → (slice_get xs i ≡ Some who) ⊎ ((j : ℕ) × (i ≡ length xs + j) × (slice_get ys j ≡ Some who))
split-at [] ys i who there = inr (i, omega arith, there)
split-at (x ∷ xs) ys zero who there = inl there
split-at (x ∷ xs) ys (suc i) who there = elim (split-at xs ys i who there) [
  | inl first ↦ inl first
  | inr (j, at, second) ↦ inr (j, omega (arith, at), second)
]

ports-long : (s : Scenario) → length (map (λ p. Port p) (range_with_len 1 (length s.ports))) ≡ length s.ports
ports-long s = length-map-range_with_len (λ p. Port p) 1 (length s.ports)

-- who acts by index i is port i + 1
pub record IsPortAt (s : Scenario) (i : ℕ) (who : Who) : Type 0 where
  pub is : who ≡ Port (1 + i)
  pub there : i < length s.ports

-- or the follower of a clock, behind all ports
pub record IsFollowerAt (s : Scenario) (i : ℕ) (who : Who) : Type 0 where
  pub clock : ℕ
  pub is : who ≡ Follower clock
  pub at : i ≡ length s.ports + clock
  pub there : clock < follower_count s

-- or the queries, behind all of them
pub record IsQueriesAt (s : Scenario) (i : ℕ) (who : Who) : Type 0 where
  pub is : who ≡ Queries
  pub at : i ≡ length s.ports + follower_count s

-- who acts by index i
abbrev pub ActsAt : Scenario → ℕ → Who → Type 0
ActsAt s i who = (IsPortAt s i who ⊎ IsFollowerAt s i who) ⊎ IsQueriesAt s i who

-- ports and followers
abbrev steerers_of : Scenario → List Who
steerers_of s = map (λ p. Port p) (range_with_len 1 (length s.ports)) ++ map (λ c. Follower c) (range_with_len 0 (follower_count s))

steerers-length : (s : Scenario) → length (steerers_of s) ≡ length s.ports + follower_count s
steerers-length s =
    length-append (map (λ p. Port p) (range_with_len 1 (length s.ports))) (map (λ c. Follower c) (range_with_len 0 (follower_count s)))
    ∙ (ap (λ n. n + length (map (λ c. Follower c) (range_with_len 0 (follower_count s)))) (ports-long s)
    ∙ ap (λ n. length s.ports + n) (length-map-range_with_len (λ c. Follower c) 0 (follower_count s)))

steerer-at : (s : Scenario) (i : ℕ) (who : Who) → slice_get (steerers_of s) i ≡ Some who → IsPortAt s i who ⊎ IsFollowerAt s i who
steerer-at s i who there = elim (split-at (map (λ p. Port p) (range_with_len 1 (length s.ports))) (map (λ c. Follower c) (range_with_len 0 (follower_count s))) i who there) [
  | inl first ↦ let at = at-range (λ p. Port p) 1 (length s.ports) i who first in inl (record { is = at.0; there = at.1 })
  | inr (j, at, second) ↦
      let found = at-range (λ c. Follower c) 0 (follower_count s) j who second in
      let none : 0 + j ≡ j = omega arith in
      let long = ports-long s in
      inr (record { clock = j; is = found.0 ∙ ap (λ c. Follower c) none; at = omega (arith, at, long); there = found.1 })
]

alone-at : (j : ℕ) (who : Who) → slice_get (Queries ∷ []) j ≡ Some who → (who ≡ Queries) × (j ≡ 0)
alone-at zero who there = let same : Queries ≡ who = cc in (sym same, refl)
alone-at (suc j) who there = cc

pub acting-at : (s : Scenario) (i : ℕ) (who : Who) → slice_get (actors_of s) i ≡ Some who → ActsAt s i who
acting-at s i who there = elim (split-at (steerers_of s) (Queries ∷ []) i who there) [
  | inl first ↦ inl (steerer-at s i who first)
  | inr (j, at, second) ↦
      let last = alone-at j who second in
      let none = last.1 in
      let long = steerers-length s in
      inr (record { is = last.0; at = omega (arith, at, long, none) })
]

-- an image of a number in a row
in-range : (f : ℕ → Who) (a n i : ℕ) → i < n → slice_get (map f (range_with_len a n)) i ≡ Some (f (a + i))
in-range f a zero i lt = absurd (omega (arith, lt))
in-range f a (suc n) zero lt = let first : a ≡ a + 0 = omega arith in ap (λ k. Some (f k)) first
in-range f a (suc n) (suc i) lt =
    let more : a + 1 + i ≡ a + suc i = omega arith in
    in-range f (a + 1) n i (omega (arith, lt)) ∙ ap (λ k. Some (f k)) more

-- an element of the first of two lists, and of the second
in-first : (xs ys : List Who) (i : ℕ) (who : Who) → slice_get xs i ≡ Some who → slice_get (xs ++ ys) i ≡ Some who
in-first [] ys i who there = cc
in-first (x ∷ xs) ys zero who there = there
in-first (x ∷ xs) ys (suc i) who there = in-first xs ys i who there

in-second : (xs ys : List Who) (i j : ℕ) (who : Who) → i ≡ length xs + j → slice_get ys j ≡ Some who → slice_get (xs ++ ys) i ≡ Some who
in-second [] ys i j who at there = let same : i ≡ j = omega (arith, at) in ap (slice_get ys) same ∙ there
in-second (x ∷ xs) ys zero j who at there = absurd (omega (arith, at))
in-second (x ∷ xs) ys (suc i) j who at there = in-second xs ys i j who (omega (arith, at)) there

-- where each port is among those who act
pub acting-port : (s : Scenario) (i : ℕ) → i < length s.ports → slice_get (actors_of s) i ≡ Some (Port (suc i))
acting-port s i lt =
    let next : 1 + i ≡ suc i = omega arith in
    in-first (steerers_of s) (Queries ∷ []) i (Port (suc i))
    (in-first (map (λ p. Port p) (range_with_len 1 (length s.ports))) (map (λ c. Follower c) (range_with_len 0 (follower_count s))) i (Port (suc i))
    (in-range (λ p. Port p) 1 (length s.ports) i lt ∙ ap (λ p. Some (Port p)) next))

-- where there are two clocks or more each has a follower
pub follower-many : (s : Scenario) → 2 ≤ length s.clocks → follower_count s ≡ length s.clocks
follower-many s many = let enough : leb 2 (length s.clocks) ≡ true = le-leb 2 (length s.clocks) many in rw enough refl

-- and each follower
pub acting-follower : (s : Scenario) (c : ℕ) → (2 ≤ length s.clocks) × (c < length s.clocks) → slice_get (actors_of s) (length s.ports + c) ≡ Some (Follower c)
acting-follower s c there =
    let all = follower-many s there.0 in
    let lt : c < follower_count s = subst (λ n. c < n) (sym all) there.1 in
    let none : 0 + c ≡ c = omega arith in
    let ports = map (λ p. Port p) (range_with_len 1 (length s.ports)) in
    let at : length s.ports + c ≡ length ports + c = ap (λ n. n + c) (sym (ports-long s)) in
    in-first (steerers_of s) (Queries ∷ []) (length s.ports + c) (Follower c)
    (in-second ports (map (λ d. Follower d) (range_with_len 0 (follower_count s))) (length s.ports + c) c (Follower c) at
    (in-range (λ d. Follower d) 0 (follower_count s) c lt ∙ ap (λ d. Some (Follower d)) none))

-- and the queries
pub acting-queries : (s : Scenario) → slice_get (actors_of s) (length s.ports + follower_count s) ≡ Some Queries
acting-queries s =
    let long = steerers-length s in
    in-second (steerers_of s) (Queries ∷ []) (length s.ports + follower_count s) 0 Queries (omega (arith, long)) refl

-- how many act
pub acting-length : (s : Scenario) → length (actors_of s) ≡ length s.ports + follower_count s + 1
acting-length s = length-append (steerers_of s) (Queries ∷ []) ∙ ap (λ n. n + 1) (steerers-length s)

-- a port acts
pub port-acts : (s : Scenario) (i : ℕ) → i < length s.ports → Contains (actors_of s) (Port (i + 1))
port-acts s i lt =
    let ports = map (λ p. Port p) (range_with_len 1 (length s.ports)) in
    let followers = map (λ c. Follower c) (range_with_len 0 (follower_count s)) in
    let long : length ports ≡ length s.ports = ports-long s in
    let next : 1 + i ≡ i + 1 = omega arith in
    let here : Contains ports (Port (i + 1)) = (i, omega (arith, long, lt), get_or-map-range_with_len (λ p. Port p) 1 (length s.ports) i (i + 1) (Port (i + 1)) lt next) in
    Contains-append_left (ports ++ followers) (Queries ∷ []) (Port (i + 1)) (Contains-append_left ports followers (Port (i + 1)) here)

-- and so does a follower
pub follower-acts : (s : Scenario) (c : ℕ) → c < follower_count s → Contains (actors_of s) (Follower c)
follower-acts s c lt =
    let ports = map (λ p. Port p) (range_with_len 1 (length s.ports)) in
    let followers = map (λ d. Follower d) (range_with_len 0 (follower_count s)) in
    let long : length followers ≡ follower_count s = length-map-range_with_len (λ d. Follower d) 0 (follower_count s) in
    let none : 0 + c ≡ c = omega arith in
    let here : Contains followers (Follower c) = (c, omega (arith, long, lt), get_or-map-range_with_len (λ d. Follower d) 0 (follower_count s) c c (Follower c) lt none) in
    Contains-append_left (ports ++ followers) (Queries ∷ []) (Follower c) (Contains-append_right ports followers (Follower c) here)

-- and so do the queries
pub queries-act : (s : Scenario) → Contains (actors_of s) Queries
queries-act s = Contains-append_right (steerers_of s) (Queries ∷ []) Queries (0, omega arith, refl)

numbers-apart : (a b : ℕ) → a ≢ b → eqb a b ≡ false
numbers-apart a b other = elim (eqb_tells a b) [
  | inl same ↦ absurd (other same.1)
  | inr differ ↦ differ.0
]

apart : (s : Scenario) (i j : ℕ) (one other : Who) → ActsAt s i one → ActsAt s j other → i ≢ j → is_same_actor one other ≡ false
apart s i j one other (inl (inl first)) (inl (inl second)) differ = rw (first.is, second.is) (numbers-apart (1 + i) (1 + j) (λ same. differ (omega (arith, same))))
apart s i j one other (inl (inl first)) (inl (inr second)) differ = rw (first.is, second.is) refl
apart s i j one other (inl (inl first)) (inr second) differ = rw (first.is, second.is) refl
apart s i j one other (inl (inr first)) (inl (inl second)) differ = rw (first.is, second.is) refl
apart s i j one other (inl (inr first)) (inl (inr second)) differ =
    let at = first.at in
    let behind = second.at in
    rw (first.is, second.is) (numbers-apart first.clock second.clock (λ same. differ (omega (arith, same, at, behind))))
apart s i j one other (inl (inr first)) (inr second) differ = rw (first.is, second.is) refl
apart s i j one other (inr first) (inl (inl second)) differ = rw (first.is, second.is) refl
apart s i j one other (inr first) (inl (inr second)) differ = rw (first.is, second.is) refl
apart s i j one other (inr first) (inr second) differ = absurd (differ (first.at ∙ sym second.at))

-- who acts by two indices are two
pub acting-apart : (s : Scenario) (i j : ℕ) (one other : Who) → slice_get (actors_of s) i ≡ Some one → slice_get (actors_of s) j ≡ Some other → i ≢ j → is_same_actor one other ≡ false
acting-apart s i j one other first second differ = apart s i j one other (acting-at s i one first) (acting-at s j other second) differ

-- a port acts by one index alone
pub port-index : (s : Scenario) (i p : ℕ) (who : Who) → ActsAt s i who → who ≡ Port p → 1 + i ≡ p
port-index s i p who (inl (inl at)) is = let same : Port (1 + i) ≡ Port p = sym at.is ∙ is in cc
port-index s i p who (inl (inr at)) is = let same : Follower at.clock ≡ Port p = sym at.is ∙ is in cc
port-index s i p who (inr at) is = let same : Queries ≡ Port p = sym at.is ∙ is in cc

-- and so does a follower
pub follower-index : (s : Scenario) (i c : ℕ) (who : Who) → ActsAt s i who → who ≡ Follower c → i ≡ length s.ports + c
follower-index s i c who (inl (inl at)) is = let same : Port (1 + i) ≡ Follower c = sym at.is ∙ is in cc
follower-index s i c who (inl (inr at)) is = let same : at.clock ≡ c = follower-same at.clock c (sym at.is ∙ is) in at.at ∙ ap (λ d. length s.ports + d) same
  where
    follower-same : (a b : ℕ) → Follower a ≡ Follower b → a ≡ b
    follower-same a b same = cc
follower-index s i c who (inr at) is = let same : Queries ≡ Follower c = sym at.is ∙ is in cc

-- and so do the queries
pub queries-index : (s : Scenario) (i : ℕ) (who : Who) → ActsAt s i who → who ≡ Queries → i ≡ length s.ports + follower_count s
queries-index s i who (inl (inl at)) is = let same : Port (1 + i) ≡ Queries = sym at.is ∙ is in cc
queries-index s i who (inl (inr at)) is = let same : Follower at.clock ≡ Queries = sym at.is ∙ is in cc
queries-index s i who (inr at) is = at.at

-- the last one is that of the queries
pub made-last : (s : Scenario) (n : ℕ) (actors more : List ActorState) (a : ActorState) → n ≡ follower_count s
    → actors ≡ map (actor_at_opening s) (map (λ p. Port p) (range_with_len 1 (length s.ports))) ++ map (actor_at_opening s) (map (λ c. Follower c) (range_with_len 0 n))
    → more ≡ actors ++ a ∷ [] → a ≡ actor_at_opening s Queries → more ≡ map (actor_at_opening s) (actors_of s)
made-last s n actors more a count made_so more_is a_is =
    let actors_are : actors ≡ map (actor_at_opening s) (map (λ p. Port p) (range_with_len 1 (length s.ports))) ++ map (actor_at_opening s) (map (λ c. Follower c) (range_with_len 0 (follower_count s))) =
    subst (λ (k : ℕ). actors ≡ map (actor_at_opening s) (map (λ p. Port p) (range_with_len 1 (length s.ports))) ++ map (actor_at_opening s) (map (λ c. Follower c) (range_with_len 0 k))) count made_so in
    let made = actor_at_opening s in
    let last : ActorState = made Queries in
    more_is
    ∙ ap (λ (x : ActorState). actors ++ x ∷ []) a_is
    ∙ ap (λ (xs : List ActorState). xs ++ last ∷ []) (actors_are ∙ sym (map-append made (map (λ p. Port p) (range_with_len 1 (length s.ports))) (map (λ c. Follower c) (range_with_len 0 (follower_count s)))))
    ∙ sym (map-append made (steerers_of s) (Queries ∷ []))

-- one actor more was made
pub made-more : (s : Scenario) (f : ℕ → Who) (first i next : ℕ) (before actors more : List ActorState) (a : ActorState) → actors ≡ before ++ map (actor_at_opening s) (map f (range_with_len first i)) → more ≡ actors ++ a ∷ []
    → a ≡ actor_at_opening s (f next) → first + i ≡ next → more ≡ before ++ map (actor_at_opening s) (map f (range_with_len first (i + 1)))
made-more s f first i next before actors more a actors_are more_is a_is at =
    let made = map (actor_at_opening s) (map f (range_with_len first i)) in
    let last = actor_at_opening s (f next) in
    let longer : map (actor_at_opening s) (map f (range_with_len first (i + 1))) ≡ made ++ last ∷ [] =
    ap (map (actor_at_opening s)) (map-range_with_len_more f first i next at) ∙ map-append (actor_at_opening s) (map f (range_with_len first i)) (f next ∷ []) in
    rw (more_is, actors_are, a_is) (append_assoc before made (last ∷ []) ∙ ap (λ (xs : List ActorState). before ++ xs) (sym longer))

-- ---- one actor at another place

put-option : {X : Type 0} (made : X → Place) (x : X) (former : Option X) (old : Place) → option_map made former ≡ Some old → option_map made (option_map (λ (y : X). x) former) ≡ Some (made x)
put-option made x None old there = cc
put-option made x (Some y) old there = refl

-- it is there
pub placed-own : (w : World) (who : Who) (place old : Place) → IsPlaceOf who place → place_of w who ≡ Some old → place_of (with_place who place w) who ≡ Some place
placed-own w (Port p) (Of_port place) old kind there =
    ap (λ (o : Option PortPlace). option_map (λ (x : PortPlace). Of_port x) o) (port_at-at_port (λ (former : PortPlace). place) p w.ports)
    ∙ put-option (λ (x : PortPlace). Of_port x) place (port_at w.ports p) old there
placed-own w (Port p) (Of_follower place) old kind there = absurd kind
placed-own w (Port p) Of_queries old kind there = absurd kind
placed-own w (Follower c) (Of_port place) old kind there = absurd kind
placed-own w (Follower c) (Of_follower place) old kind there =
    ap (λ (o : Option FollowerPlace). option_map (λ (x : FollowerPlace). Of_follower x) o) (slice_get-changed_at (λ (former : FollowerPlace). place) c w.followers)
    ∙ put-option (λ (x : FollowerPlace). Of_follower x) place (slice_get w.followers c) old there
placed-own w (Follower c) Of_queries old kind there = absurd kind
placed-own w Queries (Of_port place) old kind there = absurd kind
placed-own w Queries (Of_follower place) old kind there = absurd kind
placed-own w Queries Of_queries old kind there = refl

eqb-differ : (a b : ℕ) → eqb a b ≡ false → b ≢ a
eqb-differ a b differ = elim (eqb_tells a b) [
  | inl same ↦ let both : true ≡ false = sym same.0 ∙ differ in cc
  | inr other ↦ λ e. other.1 (sym e)
]

-- each other actor stays
pub placed-other : (w : World) (who other : Who) (place : Place) → is_same_actor other who ≡ false → place_of (with_place who place w) other ≡ place_of w other
placed-other w (Port p) (Port q) (Of_port place) differ =
    ap (λ (o : Option PortPlace). option_map (λ (x : PortPlace). Of_port x) o) (port_at-elsewhere (λ (former : PortPlace). place) p q w.ports (eqb-differ q p differ))
placed-other w (Port p) (Follower c) (Of_port place) differ = refl
placed-other w (Port p) Queries (Of_port place) differ = refl
placed-other w (Port p) other (Of_follower place) differ = refl
placed-other w (Port p) other Of_queries differ = refl
placed-other w (Follower d) other (Of_port place) differ = refl
placed-other w (Follower d) (Port q) (Of_follower place) differ = refl
placed-other w (Follower d) (Follower c) (Of_follower place) differ =
    ap (λ (o : Option FollowerPlace). option_map (λ (x : FollowerPlace). Of_follower x) o) (slice_get-changed_elsewhere (λ (former : FollowerPlace). place) d c w.followers (eqb-differ c d differ))
placed-other w (Follower d) Queries (Of_follower place) differ = refl
placed-other w (Follower d) other Of_queries differ = refl
placed-other w Queries other (Of_port place) differ = refl
placed-other w Queries other (Of_follower place) differ = refl
placed-other w Queries other Of_queries differ = refl

-- what else is in the World stays
pub placed-entries : (w : World) (who : Who) (place : Place) → (with_place who place w).entries ≡ w.entries
placed-entries w (Port p) (Of_port place) = refl
placed-entries w (Port p) (Of_follower place) = refl
placed-entries w (Port p) Of_queries = refl
placed-entries w (Follower d) (Of_port place) = refl
placed-entries w (Follower d) (Of_follower place) = refl
placed-entries w (Follower d) Of_queries = refl
placed-entries w Queries (Of_port place) = refl
placed-entries w Queries (Of_follower place) = refl
placed-entries w Queries Of_queries = refl

pub placed-logs : (w : World) (who : Who) (place : Place) → (with_place who place w).logs ≡ w.logs
placed-logs w (Port p) (Of_port place) = refl
placed-logs w (Port p) (Of_follower place) = refl
placed-logs w (Port p) Of_queries = refl
placed-logs w (Follower d) (Of_port place) = refl
placed-logs w (Follower d) (Of_follower place) = refl
placed-logs w (Follower d) Of_queries = refl
placed-logs w Queries (Of_port place) = refl
placed-logs w Queries (Of_follower place) = refl
placed-logs w Queries Of_queries = refl
