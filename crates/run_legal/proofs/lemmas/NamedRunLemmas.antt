-- Where the run of a scenario ends, nobody has a step: so nothing is due, and nobody is to name a change.
use Rattle.std.proofs.Common.{◌≡◌, ◌≢◌, ◌<◌, ℕ, zero, suc, ◌+◌, Bool, true, false, cond, ltb, refl, sym, ap, ◌∙◌, subst, arith, List, [], ◌∷◌, ◌++◌, length, map, filter, Option, Some, None}
use Rattle.std.specs.Prelude.{All, Contains, IfSome, fold, option_and_then, option_map, slice_get}
use Rattle.std.specs.List.{cons_option, filter_map, range_with_len}
use Rattle.std.specs.Option.{option_or}
use Rattle.std.proofs.lemmas.List.Elements.{All-cons, All-filter, All-head, All-nil, All-tail, Contains-append_left, Contains-append_right}
use Rattle.ptp_base.specs.Least.{first_least, lesser}
use Rattle.bc_history.specs.declared.entry.Input.{Input}
use Rattle.bc_history.specs.declared.entry.Run.{Run}
use Rattle.bc_history.specs.declared.entry.Who.{Who}
use Rattle.bc_history.specs.declared.entry.Who.TheVariants.{Port as A_port, Follower as A_follower, Queries as The_queries}
use Rattle.bc_history.specs.declared.place.FollowerPlace.{FollowerPlace}
use Rattle.bc_history.specs.declared.place.FollowerPlace.TheVariants.{Turns as Turns_next, ReadsTheirs as Reads_theirs, ReadsOwn as Reads_own, Exchanges as Exchanges_own, Samples}
use Rattle.bc_history.specs.declared.place.PortPlace.{PortPlace}
use Rattle.bc_history.specs.declared.place.PortPlace.TheVariants.{Waits, Exchanges, Reports}
use Rattle.bc_history.specs.declared.scenario.Asked.{Asked}
use Rattle.bc_history.specs.declared.scenario.Scenario.{Scenario}
use Rattle.bc_history.specs.declared.scenario.Turner.{Turner}
use Rattle.bc_history.specs.Phases.HubPort.{HubPort}
use Rattle.bc_history.specs.Phases.Inputs.{port_at, tick_of}
use Rattle.bc_history.specs.Phases.OpeningState.{follower_count}
use Rattle.bc_history.specs.Phases.State.{Follower}
use Rattle.bc_history.specs.Phases.Step.{state_of}
use Rattle.bc_history.specs.Run.Actors.{actors_of}
use Rattle.bc_history.specs.Run.NextInputs.{next_input, query_input, turn_tick}
use Rattle.bc_history.specs.Run.World.{Candidate, Ended, Event, Events, Finished, Free, Going, Not_due, Of_follower, Of_port, Of_queries, Place, Status, Step, World, candidate_at, candidate_of, candidates, default_turn, due_by_end, first_of, follower_due, follower_step, is_due, next_status, place_due, place_of, port_due, port_event, port_reading, port_step, query_step, run_of, status_after, status_after_turn, step_from, step_of, take_step, turn_of, turner_at}
use Rattle.bc_history.proofs.lemmas.CoreInvariantLemmas.{option_map-some}

-- ---- where a run ends

-- the run is that of a World in which the default rule names nobody who has a step
pub record IsEndingWith (s : Scenario) (run : Run) : Type 0 where
  pub turn : ℕ
  pub w : World
  pub going : status_after s turn ≡ Going w
  pub is : run_of s w ≡ run
  pub nobody : option_and_then (step_of s w) (default_turn s w) ≡ None

-- a run that ends is the run of such a World
pub finished-at : (s : Scenario) (run : Run) (n : ℕ) → status_after s n ≡ Ended (Finished run) → IsEndingWith s run
unfolding status_after
finished-at s run zero at = absurd (cc)
finished-at s run (suc n) at = turned_by (λ is. finished-at s run n is) (status_after s n) refl at
  where
    stepped : (v : World) (o : Option Step) → status_after s n ≡ Going v → option_and_then (step_of s v) (default_turn s v) ≡ o
        → take_step v (Finished (run_of s v)) o ≡ Ended (Finished run) → IsEndingWith s run
    stepped v None going is end = record { turn = n; w = v; going = going; is = cc; nobody = is }
    stepped v (Some (Free next)) going is end = absurd (cc)
    stepped v (Some (Event next)) going is end = room _ end
      where
        room : (b : Bool) → cond b (Ended Events) (Going next) ≡ Ended (Finished run) → IsEndingWith s run
        room true end = absurd (cc)
        room false end = absurd (cc)

    scheduled : (v : World) (o : Option Step) → take_step v (Not_due (n + 1)) o ≡ Ended (Finished run) → ⊥
    scheduled v None end = cc
    scheduled v (Some (Free next)) end = cc
    scheduled v (Some (Event next)) end = room _ end
      where
        room : (b : Bool) → cond b (Ended Events) (Going next) ≡ Ended (Finished run) → ⊥
        room true end = cc
        room false end = cc

    line_by : (v : World) (o : Option Turner) → status_after s n ≡ Going v → next_status s n v o ≡ Ended (Finished run) → IsEndingWith s run
    line_by v None going end = stepped v (option_and_then (step_of s v) (default_turn s v)) going refl end
    line_by v (Some turner) going end = absurd (scheduled v (option_and_then (step_of s v) (turn_of s v turner)) end)

    turned_by : (status_after s n ≡ Ended (Finished run) → IsEndingWith s run) → (x : Status) → status_after s n ≡ x
        → status_after_turn s n x ≡ Ended (Finished run) → IsEndingWith s run
    turned_by before (Going v) is end = line_by v (turner_at s.turns n) is end
    turned_by before (Ended former) is end = before (is ∙ end)

-- ---- a candidate has a step

-- a step that is taken where a test passes
step-if : (b : Bool) (step : Step) → b ≡ true → cond b (Some step) None ≢ None
step-if true step is = λ none. cc
step-if false step is = absurd (cc)

-- what is due by the end is due, and a next step's tick
due-parts : (s : Scenario) (o : Option ℕ) (tick : ℕ) → option_and_then (λ (t : ℕ). cond (is_due s t) (Some t) None) o ≡ Some tick → (o ≡ Some tick) × (is_due s tick ≡ true)
due-parts s None tick is = absurd (cc)
due-parts s (Some t) tick is = by (is_due s t) refl is
  where
    by : (b : Bool) → is_due s t ≡ b → cond b (Some t) None ≡ Some tick → (Some t ≡ Some tick) × (is_due s tick ≡ true)
    by true test at = let same : t ≡ tick = cc in (at, subst (λ (n : ℕ). is_due s n ≡ true) same test)
    by false test at = absurd (cc)

module _ (s : Scenario) (w : World) where
  -- a port that is due has a step
  port-has_step : (p : ℕ) (h : HubPort) (place : PortPlace) (tick : ℕ) → port_due s h place ≡ Some tick → is_due s tick ≡ true → port_step s w p h place ≢ None
  port-has_step p h Waits tick at due = by (next_input s h) at
    where
      by : (o : Option Input) → option_map tick_of o ≡ Some tick
          → option_and_then (λ (input : Input). cond (is_due s (tick_of input)) (Some (Event (port_event s w p input (port_reading s w h input)))) None) o ≢ None
      by None is = absurd (cc)
      by (Some input) is =
          let same : tick ≡ tick_of input = cc in
          step-if (is_due s (tick_of input)) (Event (port_event s w p input (port_reading s w h input))) (subst (λ (t : ℕ). is_due s t ≡ true) same due)
  port-has_step p h (Exchanges t held action) tick at due = λ none. cc
  port-has_step p h (Reports t gener action outcome) tick at due = λ none. cc

  -- so has a follower
  follower-has_step : (c : ℕ) (f : Follower) (place : FollowerPlace) (tick : ℕ) → follower_due s f place ≡ tick → is_due s tick ≡ true → follower_step s w c f place ≢ None
  follower-has_step c f Turns_next tick at due = step-if (is_due s (turn_tick s f)) _ (subst (λ (t : ℕ). is_due s t ≡ true) (sym at) due)
  follower-has_step c f (Reads_theirs t lead) tick at due = λ none. cc
  follower-has_step c f (Reads_own t lead theirs) tick at due = λ none. cc
  follower-has_step c f (Exchanges_own t lead theirs own action) tick at due = λ none. cc
  follower-has_step c f (Samples t lead theirs own action outcome) tick at due = λ none. cc

  -- and a query
  query-has_step : (o : Option Asked) (tick : ℕ) → option_map (λ (asked : Asked). asked.tick) o ≡ Some tick → is_due s tick ≡ true → query_step s w o ≢ None
  query-has_step None tick at due = absurd (cc)
  query-has_step (Some asked) tick at due =
      let same : tick ≡ asked.tick = cc in step-if (is_due s asked.tick) _ (subst (λ (t : ℕ). is_due s t ≡ true) same due)

  -- so has whoever is due at a place
  place-has_step : (who : Who) (place : Place) (tick : ℕ) → place_due s (state_of s w.entries) who place ≡ Some tick → is_due s tick ≡ true → step_from s w who place ≢ None
  place-has_step (A_port p) (Of_port place) tick at due = by (port_at (state_of s w.entries).core.ports p) at
    where
      by : (o : Option HubPort) → option_and_then (λ port. port_due s port place) o ≡ Some tick → option_and_then (λ h. port_step s w p h place) o ≢ None
      by None is = absurd (cc)
      by (Some h) is = port-has_step p h place tick is due
  place-has_step (A_port p) (Of_follower place) tick at due = absurd (cc)
  place-has_step (A_port p) Of_queries tick at due = absurd (cc)
  place-has_step (A_follower c) (Of_port place) tick at due = absurd (cc)
  place-has_step (A_follower c) (Of_follower place) tick at due = by (slice_get (state_of s w.entries).followers c) at
    where
      by : (o : Option Follower) → option_map (λ f. follower_due s f place) o ≡ Some tick → option_and_then (λ f. follower_step s w c f place) o ≢ None
      by None is = absurd (cc)
      by (Some f) is = follower-has_step c f place tick (cc) due
  place-has_step (A_follower c) Of_queries tick at due = absurd (cc)
  place-has_step The_queries (Of_port place) tick at due = absurd (cc)
  place-has_step The_queries (Of_follower place) tick at due = absurd (cc)
  place-has_step The_queries Of_queries tick at due = query-has_step (query_input s (state_of s w.entries)) tick at due

  -- so has each candidate
  candidate-has_step : (who : Who) (candidate : Candidate) → candidate_of s (state_of s w.entries) w who ≡ Some candidate → step_of s w candidate.who ≢ None
  candidate-has_step who candidate is = by (place_of w who) refl is
    where
      by : (o : Option Place) → place_of w who ≡ o → option_and_then (λ place. candidate_at s (state_of s w.entries) who place) o ≡ Some candidate → step_of s w candidate.who ≢ None
      by None there at = absurd (cc)
      by (Some place) there at =
          let made = option_map-some (λ (tick : ℕ). record { tick = tick; busy = _; who = who }) (due_by_end s (state_of s w.entries) who place) candidate at in
          let parts = due-parts s (place_due s (state_of s w.entries) who place) made.0 made.1 in
          let same : who ≡ candidate.who = ap (λ (c : Candidate). c.who) made.2 in
          subst (λ (x : Who). step_of s w x ≢ None) same
          (subst (λ (o : Option Place). option_and_then (λ place. step_from s w who place) o ≢ None) (sym there) (place-has_step who place made.0 parts.0 parts.1))

-- ---- nobody is a candidate

-- the first of the least of elements that all are so is so, and is there where there is one
first-so : {X : Type 0} (P : X → Type 0) (key : X → ℕ) (o : Option X) (xs : List X) → IfSome o P → All P xs → IfSome (fold (lesser key) o xs) P
first-so P key o [] so all = so
first-so {X} P key o (x ∷ xs) so all = first-so P key (lesser key o x) xs (by o so) (All-tail P x xs all)
  where
    chosen : (b : Bool) (first : X) → P first → IfSome (cond b (Some x) (Some first)) P
    chosen true first so = All-head P x xs all
    chosen false first so = so

    by : (o : Option X) → IfSome o P → IfSome (lesser key o x) P
    by None so = All-head P x xs all
    by (Some first) so = chosen (ltb (key x) (key first)) first so

-- the first of the least is there where one was
first-there : {X : Type 0} (key : X → ℕ) (first : X) (xs : List X) → fold (lesser key) (Some first) xs ≢ None
first-there key first [] = λ none. cc
first-there {X} key first (x ∷ xs) = by (ltb (key x) (key first)) (first-there key x xs) (first-there key first xs)
  where
    by : (b : Bool) → fold (lesser key) (Some x) xs ≢ None → fold (lesser key) (Some first) xs ≢ None → fold (lesser key) (cond b (Some x) (Some first)) xs ≢ None
    by true new former = new
    by false new former = former

-- whoever is first has a step, where all have
abbrev IsStepping : Scenario → World → Candidate → Type 0
IsStepping s w candidate = step_of s w candidate.who ≢ None

-- so has the first of candidates who all have one
first-stepping : (s : Scenario) (w : World) (o : Option Candidate) → IfSome o (IsStepping s w) → IfSome (option_map (λ (c : Candidate). c.who) o) (λ who. step_of s w who ≢ None)
first-stepping s w None so = so
first-stepping s w (Some candidate) so = so

-- where the one who is named has no step nobody is named
turn-stepping : (s : Scenario) (w : World) (busy first : Option Who) → IfSome busy (λ who. step_of s w who ≢ None) → IfSome first (λ who. step_of s w who ≢ None)
    → option_and_then (step_of s w) (option_or busy first) ≡ None → first ≡ None
turn-stepping s w (Some who) first busy_steps steps nobody = absurd (busy_steps nobody)
turn-stepping s w None (Some who) busy_steps steps nobody = absurd (steps nobody)
turn-stepping s w None None busy_steps steps nobody = refl

-- where none is first there is none
none-first : (all : List Candidate) → first_of all ≡ None → all ≡ []
none-first [] none = refl
none-first (candidate ∷ all) none = by (fold (lesser (λ (c : Candidate). c.tick)) (Some candidate) all) refl none
  where
    by : (o : Option Candidate) → fold (lesser (λ (c : Candidate). c.tick)) (Some candidate) all ≡ o → option_map (λ (c : Candidate). c.who) o ≡ None → candidate ∷ all ≡ []
    by None is at = absurd (first-there (λ (c : Candidate). c.tick) candidate all is)
    by (Some c) is at = absurd (cc)

-- what is so of all that may be made is so of all that are made
All-filter_map : {X Y : Type 0} (P : Y → Type 0) (make : X → Option Y) (xs : List X) → ((x : X) (y : Y) → make x ≡ Some y → P y) → All P (filter_map make xs)
All-filter_map P make [] so = All-nil P
All-filter_map {X} {Y} P make (x ∷ xs) so = by (make x) refl (All-filter_map P make xs so)
  where
    by : (o : Option Y) → make x ≡ o → All P (filter_map make xs) → All P (cons_option o (filter_map make xs))
    by None is rest = rest
    by (Some y) is rest = All-cons P y (filter_map make xs) (so x y is) rest

-- so nobody is a candidate
pub no-candidates : (s : Scenario) (w : World) → option_and_then (step_of s w) (default_turn s w) ≡ None → candidates s w ≡ []
no-candidates s w nobody =
    let all = candidates s w in
    let steps = All-filter_map (IsStepping s w) (candidate_of s (state_of s w.entries) w) (actors_of s) (λ who c is. candidate-has_step s w who c is) in
    let busy = filter (λ (c : Candidate). c.busy) all in
    let busy_steps = All-filter (λ (c : Candidate). c.busy) (IsStepping s w) all steps in
    none-first all
    (turn-stepping s w (first_of busy) (first_of all)
    (first-stepping s w (first_least (λ (c : Candidate). c.tick) busy) (first-so (IsStepping s w) (λ (c : Candidate). c.tick) None busy tt busy_steps))
    (first-stepping s w (first_least (λ (c : Candidate). c.tick) all) (first-so (IsStepping s w) (λ (c : Candidate). c.tick) None all tt steps)) nobody)

-- where nothing is made of a list, nothing is made of each element
pub none-made : {X Y : Type 0} (make : X → Option Y) (xs : List X) → filter_map make xs ≡ [] → All (λ (x : X). make x ≡ None) xs
none-made make [] none = All-nil (λ x. make x ≡ None)
none-made {X} {Y} make (x ∷ xs) none = by (make x) refl none (λ rest. none-made make xs rest)
  where
    by : (o : Option Y) → make x ≡ o → cons_option o (filter_map make xs) ≡ [] → (filter_map make xs ≡ [] → All (λ (y : X). make y ≡ None) xs) → All (λ (y : X). make y ≡ None) (x ∷ xs)
    by None is none more = All-cons (λ (y : X). make y ≡ None) x xs is (more none)
    by (Some y) is none more = absurd (cc)

-- ---- who acts

-- whoever is made of a number in a range is among those that are made
contains-range : (make : ℕ → Who) (a n i : ℕ) → i < n → Contains (map make (range_with_len a n)) (make (a + i))
contains-range make a zero i lt = absurd (omega arith)
contains-range make a (suc n) zero lt = let same : a + 0 ≡ a = omega arith in rw same (0, omega arith, refl)
contains-range make a (suc n) (suc i) lt =
    let less : i < n = omega (arith, lt) in
    let same : (a + 1) + i ≡ a + suc i = omega arith in
    let rest = subst (λ (k : ℕ). Contains (map make (range_with_len (a + 1) n)) (make k)) same (contains-range make (a + 1) n i less) in
    Contains-append_right (make a ∷ []) (map make (range_with_len (a + 1) n)) (make (a + suc i)) rest

-- the ports of a scenario
abbrev port_actors : Scenario → List Who
port_actors s = map (λ p. A_port p) (range_with_len 1 (length s.ports))

-- its followers
abbrev follower_actors : Scenario → List Who
follower_actors s = map (λ c. A_follower c) (range_with_len 0 (follower_count s))

-- a port acts
pub port-acting : (s : Scenario) (i : ℕ) → i < length s.ports → Contains (actors_of s) (A_port (suc i))
port-acting s i lt =
    let same : 1 + i ≡ suc i = omega arith in
    let there = subst (λ (k : ℕ). Contains (port_actors s) (A_port k)) same (contains-range (λ p. A_port p) 1 (length s.ports) i lt) in
    Contains-append_left (port_actors s ++ follower_actors s) (The_queries ∷ []) (A_port (suc i)) (Contains-append_left (port_actors s) (follower_actors s) (A_port (suc i)) there)

-- so does a follower
pub follower-acting : (s : Scenario) (c : ℕ) → c < follower_count s → Contains (actors_of s) (A_follower c)
follower-acting s c lt =
    let same : 0 + c ≡ c = omega arith in
    let there = subst (λ (k : ℕ). Contains (follower_actors s) (A_follower k)) same (contains-range (λ c. A_follower c) 0 (follower_count s) c lt) in
    Contains-append_left (port_actors s ++ follower_actors s) (The_queries ∷ []) (A_follower c) (Contains-append_right (port_actors s) (follower_actors s) (A_follower c) there)

-- and the queries
pub queries-acting : (s : Scenario) → Contains (actors_of s) The_queries
queries-acting s = Contains-append_right (port_actors s ++ follower_actors s) (The_queries ∷ []) The_queries (0, omega arith, refl)
