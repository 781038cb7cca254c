-- The loop over the actors is the World.
use Rattle.std.proofs.Common.{◌≡◌, ◌≢◌, ◌⊎◌, ℕ, zero, suc, ◌+◌, ◌-◌, ◌*◌, ◌<◌, true, false, refl, sym, ap, subst, ◌∙◌, arith, inl, inr, List, [], ◌∷◌, length, map, reverse, get_or, Option, Some, None, option_and_then}
use Rattle.std.specs.Prelude.{IfErr, IsErrAnd, Result, Ok, Err, MatchOption, option_map, replicate, slice_get, slice_set}
use Rattle.std.proofs.lemmas.List.Sums.{sum_by-cons, sum_by-set}
use Rattle.std.proofs.lemmas.Option.{get_or_from_slice_get, same_Some, slice_get_within, slice_get-map}
use Rattle.ptp_base.specs.declared.limits.TheConstants.{ENTRIES_MAX}
use Rattle.ptp_base.specs.declared.port_conf.PortConf.{PortConf}
use Rattle.ptp_profile.specs.declared.seats.Log.{Log}
use Rattle.ptp_profile.specs.Roles.SeatLogs.{logs_from}
use Rattle.bc_history.specs.declared.entry.Entry.{Entry}
use Rattle.bc_history.specs.declared.entry.Run.{Run}
use Rattle.bc_history.specs.declared.entry.Who.{Who}
use Rattle.bc_history.specs.declared.entry.Who.TheVariants.{Port, Follower, Queries}
use Rattle.bc_history.specs.declared.scenario.Turner.{Turner}
use Rattle.bc_history.specs.declared.scenario.Turner.TheVariants.{Default, Port as Port_turn, Clock as Clock_turn, Queries as Queries_turn}
use Rattle.bc_history.specs.declared.place.FollowerPlace.{FollowerPlace}
use Rattle.bc_history.specs.declared.place.FollowerPlace.TheVariants.{Turns as Turns_next}
use Rattle.bc_history.specs.Phases.OpeningState.{follower_count}
use Rattle.bc_history.specs.Scenario.ScenarioRules.{IsScenario, IsTurnerOf}
use Rattle.bc_history.specs.declared.place.PortPlace.{PortPlace}
use Rattle.bc_history.specs.declared.place.PortPlace.TheVariants.{Waits}
use Rattle.bc_history.specs.declared.scenario.Scenario.{Scenario}
use Rattle.bc_history.specs.Run.Actors.{actors_of, entries_of, is_same_actor}
use Rattle.bc_history.specs.Run.World.{End, Ended, Events, Finished, Going, IsEnd, IsWorld, Not_due, Of_follower, Of_port, Status, Step, World, free_steps, next_status, place_of, run_of, status_after, status_after_turn, step_of, take_step, turn_of, turner_at, world_opening}
use Rattle.hub_core.specs.HubView.{HubState, hub_at_opening}
use Rattle.bc_steps.specs.ActorView.{ActorState, AddsOwn, IsIn, IsJobDue, IsLevel, IsPlaceOf, IsSameActor, IsSameHistory, due_tick, is_ready, place_at_opening, world_with}
use Rattle.run_legal.specs.Runs.LegalRuns.{IsLegal}
use Rattle.run_legal.proofs.lemmas.NamedEndLemmas.{run-legal}
use Rattle.run_legal.proofs.lemmas.StepLemmas.{stays-right}
use Rattle.bc_replay.specs.declared.run.ReplayError.{ReplayError}
use Rattle.hub_core.specs.declared.hub.HubError.{HubError}
use Rattle.hub_core.specs.declared.hub.HubError.TheVariants.{NoMemory as Lacks, Events as Too_many}
use Rattle.bc_replay.specs.ActorLoop.{AllStandIn, AreIn, AreJobsDue, AreLevel, IsUnscheduledLoop, LoopRepresents, actor_at_opening, free_steps_of, steps_left}
use Rattle.bc_replay.specs.ActorSteps.{IsStepError, IsTurnError, StepLeadsTo, StepYields, TurnYields}
use Rattle.bc_replay.specs.ActorTurns.{HasNoTurn, IsDueAt, IsIdle, IsNamed, IsTurnOf, IsTurnerAt, turner_or_default}
use Rattle.bc_replay.specs.ReplayError.{IsReplayError, by_hub}
use Rattle.bc_replay.proofs.lemmas.ActorListLemmas.{each-set, map-set}
use Rattle.bc_replay.proofs.lemmas.ActorPlaceLemmas.{ActsAt, acting-apart, acting-at, acting-follower, acting-port, acting-queries, entries-other, placed-entries, placed-logs, placed-other, placed-own}
use Rattle.bc_replay.proofs.lemmas.ActorsAfterLemmas.{all-stand-after, who-at, windows-after}
use Rattle.bc_replay.proofs.lemmas.ActorStepLemmas.{due-ready, step-none}
use Rattle.bc_replay.proofs.lemmas.DefaultTurnLemmas.{turn-all}
use Rattle.bc_history.proofs.lemmas.CoreInvariantLemmas.{option_map-some}

-- ---- the opening

abbrev who_of : ActorState → Who
who_of a = a.who

-- the actors are who they were made for
whos-opening : (s : Scenario) (whos : List Who) → map who_of (map (actor_at_opening s) whos) ≡ whos
whos-opening s [] = refl
whos-opening s (who ∷ whos) = ap (λ (ws : List Who). who ∷ ws) (whos-opening s whos)

-- an actor that was made
made-for : (s : Scenario) (whos : List Who) (i : ℕ) (a : ActorState) → slice_get (map (actor_at_opening s) whos) i ≡ Some a → (who : Who) × (slice_get whos i ≡ Some who) × (actor_at_opening s who ≡ a)
made-for s whos i a there = option_map-some (actor_at_opening s) (slice_get whos i) a (sym (slice_get-map (actor_at_opening s) whos i) ∙ there)

level-opening : (s : Scenario) (whos : List Who) → AreLevel (hub_at_opening s) (map (actor_at_opening s) whos)
level-opening s whos i a there =
    let (who, at, is) = made-for s whos i a there in
    subst (λ (b : ActorState). IsLevel (hub_at_opening s) b) is (record { scenario = refl; entries = refl })

-- nobody has begun a job
job-opening : (s : Scenario) (who : Who) → IsJobDue s (place_at_opening who)
job-opening s (Port p) = tt
job-opening s (Follower c) = tt
job-opening s Queries = tt

jobs-opening : (s : Scenario) (whos : List Who) → AreJobsDue s (map (actor_at_opening s) whos)
jobs-opening s whos i a there =
    let (who, at, is) = made-for s whos i a there in
    subst (λ (b : ActorState). IsJobDue s b.place) is (job-opening s who)

no-free : (who : Who) → free_steps (place_at_opening who) ≡ 0
no-free (Port p) = refl
no-free (Follower c) = refl
no-free Queries = refl

free-opening : (s : Scenario) (whos : List Who) → free_steps_of (map (actor_at_opening s) whos) ≡ 0
free-opening s [] = refl
free-opening s (who ∷ whos) =
    let sum = sum_by-cons (λ (a : ActorState). free_steps a.place) (actor_at_opening s who) (map (actor_at_opening s) whos) in
    let one = no-free who in
    let others = free-opening s whos in
    omega (arith, sum, one, others)

waits-at : (confs : List PortConf) (i : ℕ) → i < length confs → slice_get (map (λ (c : PortConf). Waits) confs) i ≡ Some Waits
waits-at [] i lt = absurd (omega (arith, lt))
waits-at (conf ∷ confs) zero lt = refl
waits-at (conf ∷ confs) (suc i) lt = waits-at confs i (omega (arith, lt))

port-opening : (s : Scenario) (i : ℕ) → i < length s.ports → place_of (world_opening s) (Port (suc i)) ≡ Some (Of_port Waits)
port-opening s i lt = ap (λ (o : Option PortPlace). option_map (λ (p : PortPlace). Of_port p) o) (waits-at s.ports i lt)

turns-at : (n c : ℕ) → c < n → slice_get (replicate n Turns_next) c ≡ Some Turns_next
turns-at zero c lt = absurd (omega (arith, lt))
turns-at (suc n) zero lt = refl
turns-at (suc n) (suc c) lt = turns-at n c (omega (arith, lt))

follower-opening : (s : Scenario) (c : ℕ) → c < follower_count s → place_of (world_opening s) (Follower c) ≡ Some (Of_follower Turns_next)
follower-opening s c lt = ap (λ (o : Option FollowerPlace). option_map (λ (p : FollowerPlace). Of_follower p) o) (turns-at (follower_count s) c lt)

acting-opening : (s : Scenario) (i : ℕ) (who : Who) → ActsAt s i who → place_of (world_opening s) (actor_at_opening s who).who ≡ Some (actor_at_opening s who).place
acting-opening s i who (inl (inl at)) =
    let next : 1 + i ≡ suc i = omega arith in
    rw (at.is, next) (port-opening s i at.there)
acting-opening s i who (inl (inr at)) = rw at.is (follower-opening s at.clock at.there)
acting-opening s i who (inr at) = rw at.is refl

places-opening : (s : Scenario) (i : ℕ) (a : ActorState) → slice_get (map (actor_at_opening s) (actors_of s)) i ≡ Some a → place_of (world_opening s) a.who ≡ Some a.place
places-opening s i a there =
    let (who, at, is) = made-for s (actors_of s) i a there in
    subst (λ (b : ActorState). place_of (world_opening s) b.who ≡ Some b.place) is (acting-opening s i who (acting-at s i who at))

-- a hub and its actors stand where the World begins
pub all-opening : (s : Scenario) → AllStandIn s (world_opening s) (hub_at_opening s) (map (actor_at_opening s) (actors_of s))
all-opening s = record {
  scenario = refl;
  few = omega arith;
  acting = whos-opening s (actors_of s);
  level = level-opening s (actors_of s);
  jobs = jobs-opening s (actors_of s);
  stand = record { entries = refl; logs = refl; places = places-opening s };
}

-- so they begin where the World does
pub Loop-opening : (s : Scenario) → LoopRepresents s 0 (hub_at_opening s) (map (actor_at_opening s) (actors_of s))
unfolding status_after
Loop-opening s = record {
  world = world_opening s;
  all = all-opening s;
  unbounded = refl;
  bound = let none = free-opening s (actors_of s) in omega (arith, none);
  going = refl;
}

-- ---- a turn

-- a loop where the World is, by its hub's own scenario
abbrev IsAt : ℕ → HubState → List ActorState → Type 0
IsAt taken hub actors = LoopRepresents hub.scenario taken hub actors

-- an actor stands in the World
stands-in : (hub : HubState) (w : World) (actors : List ActorState) (i : ℕ) (a : ActorState) → AreIn w hub actors → slice_get actors i ≡ Some a → IsIn w hub a
stands-in hub w actors i a stand there = record { entries = stand.entries; logs = stand.logs; place = stand.places i a there }

-- who is named has the turn in the World
named-turn : (hub : HubState) (w : World) (actors : List ActorState) (turner : Turner) (who : Who) → AreIn w hub actors → map who_of actors ≡ actors_of hub.scenario
    → IsNamed hub actors turner who → turn_of hub.scenario w turner ≡ Some who
named-turn hub w actors Default who stand acting named = turn-all hub w actors stand acting ∙ named
named-turn hub w actors (Port_turn p) who stand acting named = ap Some (sym named)
named-turn hub w actors (Clock_turn c) who stand acting named = ap Some (sym named)
named-turn hub w actors Queries_turn who stand acting named = ap Some (sym named)

-- whom an index is of
pub actor-of : (actors : List ActorState) (i : ℕ) (who : Who) → slice_get (map who_of actors) i ≡ Some who → (a : ActorState) × (slice_get actors i ≡ Some a) × (who_of a ≡ who)
actor-of actors i who there = option_map-some who_of (slice_get actors i) who (sym (slice_get-map who_of actors i) ∙ there)

-- an actor that is idle has no step in the World
idle-none : (hub : HubState) (w : World) (actors : List ActorState) (i : ℕ) (who : Who) → AreIn w hub actors → map who_of actors ≡ actors_of hub.scenario → AreJobsDue hub.scenario actors
    → slice_get (actors_of hub.scenario) i ≡ Some who → IsIdle hub actors who → step_of hub.scenario w who ≡ None
idle-none hub w actors i who stand acting jobs there idle =
    let (a, at, is) = actor-of actors i who (ap (λ (whos : List Who). slice_get whos i) acting ∙ there) in
    subst (λ (x : Who). step_of hub.scenario w x ≡ None) is (step-none hub w a (stands-in hub w actors i a stand at) (jobs i a at) (idle i a at is))

-- where none has a turn that is named there is no step
no-turn : (hub : HubState) (w : World) (actors : List ActorState) (turner : Turner) → AreIn w hub actors → map who_of actors ≡ actors_of hub.scenario → AreJobsDue hub.scenario actors
    → IsTurnerOf (length hub.scenario.clocks) (length hub.scenario.ports) turner → HasNoTurn hub actors turner → option_and_then (step_of hub.scenario w) (turn_of hub.scenario w turner) ≡ None
no-turn hub w actors Default stand acting jobs there none = rw (turn-all hub w actors stand acting ∙ none) refl
no-turn hub w actors (Port_turn zero) stand acting jobs there none = let first = there.0 in absurd (omega (arith, first))
no-turn hub w actors (Port_turn (suc i)) stand acting jobs there none =
    let last = there.1 in
    idle-none hub w actors i (Port (suc i)) stand acting jobs (acting-port hub.scenario i (omega (arith, last))) none
no-turn hub w actors (Clock_turn c) stand acting jobs there none =
    idle-none hub w actors (length hub.scenario.ports + c) (Follower c) stand acting jobs (acting-follower hub.scenario c there) none
no-turn hub w actors Queries_turn stand acting jobs there none =
    idle-none hub w actors (length hub.scenario.ports + follower_count hub.scenario) Queries stand acting jobs (acting-queries hub.scenario) none

-- the World behind a turn, by whose it is
abbrev end_at : Scenario → ℕ → World → Option Turner → End
end_at s n w None = Finished (run_of s w)
end_at s n w (Some turner) = Not_due (n + 1)

by-turner : (s : Scenario) (n : ℕ) (w : World) (line : Option Turner) → next_status s n w line ≡ take_step w (end_at s n w line) (option_and_then (step_of s w) (turn_of s w (turner_or_default line)))
by-turner s n w None = refl
by-turner s n w (Some turner) = refl

turn-status : (hub : HubState) (taken : ℕ) (actors : List ActorState) (turner : Turner) (at : IsAt taken hub actors) → IsTurnerAt hub.scenario taken turner
    → status_after hub.scenario (taken + 1) ≡ take_step at.world (end_at hub.scenario taken at.world (turner_at hub.scenario.turns taken)) (option_and_then (step_of hub.scenario at.world) (turn_of hub.scenario at.world turner))
unfolding status_after
turn-status hub taken actors turner at is =
    let s = hub.scenario in
    let next : taken + 1 ≡ suc taken = omega arith in
    ap (status_after s) next
    ∙ (ap (status_after_turn s taken) at.going
    ∙ (by-turner s taken at.world (turner_at s.turns taken)
    ∙ ap (λ (t : Turner). take_step at.world (end_at s taken at.world (turner_at s.turns taken)) (option_and_then (step_of s at.world) (turn_of s at.world t))) is))

-- where the step of the actor whose turn it is leads, the World is behind the turn
turn-leads : (hub : HubState) (taken : ℕ) (actors : List ActorState) (turner : Turner) (i : ℕ) (turn : IsTurnOf hub actors turner i) (next : World → Status) → (at : IsAt taken hub actors) → IsTurnerAt hub.scenario taken turner
    → StepLeadsTo hub turn.at.actor next → status_after hub.scenario (taken + 1) ≡ next at.world
turn-leads hub taken actors turner i turn next at is leads =
    let s = hub.scenario in
    let named = named-turn hub at.world actors turner turn.at.actor.who at.all.stand at.all.acting turn.named in
    turn-status hub taken actors turner at is
    ∙ (ap (λ (o : Option Who). take_step at.world (end_at s taken at.world (turner_at s.turns taken)) (option_and_then (step_of s at.world) o)) named
    ∙ leads at.world (end_at s taken at.world (turner_at s.turns taken)) (stands-in hub at.world actors i turn.at.actor at.all.stand turn.at.there))

-- ---- a step

-- of the sum of all, the part that one has
less-of : (room room' sum sum' one one' : ℕ) → sum' + one ≡ sum + one' → room' + one' < room + one → room' + sum' < room + sum
less-of room room' sum sum' one one' same less = omega (arith, same, less)

-- a step leaves fewer steps
pub fewer-after : (hub new : HubState) (actors : List ActorState) (i : ℕ) (a b : ActorState) → slice_get actors i ≡ Some a → steps_left new (free_steps b.place) < steps_left hub (free_steps a.place)
    → steps_left new (free_steps_of (slice_set actors i b)) < steps_left hub (free_steps_of actors)
fewer-after hub new actors i a b there less =
    let f : ActorState → ℕ = λ (x : ActorState). free_steps x.place in
    let sums = sum_by-set f actors i b a (slice_get_within actors i a there) in
    let at : f (get_or actors i a) ≡ f a = ap f (get_or_from_slice_get actors i a a there) in
    less-of (4 * (ENTRIES_MAX - length hub.entries)) (4 * (ENTRIES_MAX - length new.entries)) (free_steps_of actors) (free_steps_of (slice_set actors i b)) (f a) (f b)
    (subst (λ n. free_steps_of (slice_set actors i b) + n ≡ free_steps_of actors + f b) at sums) less

step-by : (hub new : HubState) (taken : ℕ) (actors : List ActorState) (turner : Turner) (i : ℕ) (turn : IsTurnOf hub actors turner i) (b : ActorState) → IsAt taken hub actors → IsTurnerAt hub.scenario taken turner
    → StepYields hub turn.at.actor new b → LoopRepresents hub.scenario (taken + 1) new (slice_set actors i b)
step-by hub new taken actors turner i turn b at is made =
    let a = turn.at.actor in
    let less = fewer-after hub new actors i a b turn.at.there made.fewer in
    let bound = at.bound in
    record {
      world = world_with at.world new b;
      all = all-stand-after hub.scenario at.world hub new actors i a b turn.at.there at.all made;
      unbounded = windows-after a.who hub new made.history ∙ at.unbounded;
      bound = omega (arith, bound, less);
      going = turn-leads hub taken actors turner i turn (λ (w : World). Going (world_with w new b)) at is made.going;
    }

-- each step keeps to the World
pub Loop-step : (s : Scenario) (taken : ℕ) (hub new : HubState) (actors : List ActorState) (turner : Turner) (i : ℕ) (b : ActorState) (turn : IsTurnOf hub actors turner i) → LoopRepresents s taken hub actors → IsTurnerAt s taken turner
    → StepYields hub turn.at.actor new b → LoopRepresents s (taken + 1) new (slice_set actors i b)
Loop-step s taken hub new actors turner i b turn at is made =
    let P : Scenario → Type 0 = λ (t : Scenario). LoopRepresents t taken hub actors → IsTurnerAt t taken turner → LoopRepresents t (taken + 1) new (slice_set actors i b) in
    let by : P s = subst P at.all.scenario (λ l m. step-by hub new taken actors turner i turn b l m made) in
    by at is

-- ---- the ends

-- the World behind a turn that has no step
none-status : (hub : HubState) (taken : ℕ) (actors : List ActorState) (turner : Turner) → (at : IsAt taken hub actors) → IsTurnerAt hub.scenario taken turner
    → IsTurnerOf (length hub.scenario.clocks) (length hub.scenario.ports) turner → HasNoTurn hub actors turner
    → status_after hub.scenario (taken + 1) ≡ Ended (end_at hub.scenario taken at.world (turner_at hub.scenario.turns taken))
none-status hub taken actors turner at is there none =
    turn-status hub taken actors turner at is
    ∙ ap (λ (step : Option Step). take_step at.world (end_at hub.scenario taken at.world (turner_at hub.scenario.turns taken)) step)
    (no-turn hub at.world actors turner at.all.stand at.all.acting at.all.jobs there none)

none-by : (hub : HubState) (taken : ℕ) (actors : List ActorState) → IsAt taken hub actors → turner_at hub.scenario.turns taken ≡ None → HasNoTurn hub actors Default
    → (w : World) × (w.entries ≡ hub.entries) × (w.logs ≡ hub.logs) × IsWorld hub.scenario (run_of hub.scenario w)
none-by hub taken actors at past none = (
  at.world,
  at.all.stand.entries,
  at.all.stand.logs,
  (
    taken + 1,
    none-status hub taken actors Default at (ap turner_or_default past) tt none
        ∙ ap (λ (line : Option Turner). Ended (end_at hub.scenario taken at.world line)) past,
  ),
)

-- where nobody has a step behind the schedule the run is that of the World
pub Loop-done : (s : Scenario) (taken : ℕ) (hub : HubState) (actors : List ActorState) → LoopRepresents s taken hub actors → turner_at s.turns taken ≡ None → HasNoTurn hub actors Default
    → (w : World) × (w.entries ≡ hub.entries) × (w.logs ≡ hub.logs) × IsWorld s (run_of s w)
Loop-done s taken hub actors at past none =
    let P : Scenario → Type 0 = λ (t : Scenario). LoopRepresents t taken hub actors → turner_at t.turns taken ≡ None → (w : World) × (w.entries ≡ hub.entries) × (w.logs ≡ hub.logs) × IsWorld t (run_of t w) in
    let by : P s = subst P at.all.scenario (λ l m. none-by hub taken actors l m none) in
    by at past

stop-by : (hub : HubState) (taken : ℕ) (actors : List ActorState) (turner : Turner) → IsAt taken hub actors → turner_at hub.scenario.turns taken ≡ Some turner
    → IsTurnerOf (length hub.scenario.clocks) (length hub.scenario.ports) turner → HasNoTurn hub actors turner → IsEnd hub.scenario (Not_due (taken + 1))
stop-by hub taken actors turner at line there none = (
  taken + 1,
  none-status hub taken actors turner at (ap turner_or_default line) there none
      ∙ ap (λ (o : Option Turner). Ended (end_at hub.scenario taken at.world o)) line,
)

-- where the schedule names one who has no step the scenario ends at that turn
pub Loop-stops : (s : Scenario) (taken : ℕ) (hub : HubState) (actors : List ActorState) (turner : Turner) → LoopRepresents s taken hub actors → turner_at s.turns taken ≡ Some turner
    → IsTurnerOf (length s.clocks) (length s.ports) turner → HasNoTurn hub actors turner → IsEnd s (Not_due (taken + 1))
Loop-stops s taken hub actors turner at line there none =
    let P : Scenario → Type 0 = λ (t : Scenario). LoopRepresents t taken hub actors → turner_at t.turns taken ≡ Some turner → IsTurnerOf (length t.clocks) (length t.ports) turner → IsEnd t (Not_due (taken + 1)) in
    let by : P s = subst P at.all.scenario (λ l m k. stop-by hub taken actors turner l m k none) in
    by at line there

full-by : (hub : HubState) (taken : ℕ) (actors : List ActorState) (turner : Turner) (i : ℕ) (turn : IsTurnOf hub actors turner i) → IsAt taken hub actors → IsTurnerAt hub.scenario taken turner
    → IsStepError hub turn.at.actor Too_many → IsEnd hub.scenario Events
full-by hub taken actors turner i turn at is full = (taken + 1, turn-leads hub taken actors turner i turn (λ (w : World). Ended Events) at is full)

-- where the hub is full the scenario ends at one event too many
pub Loop-full : (s : Scenario) (taken : ℕ) (hub : HubState) (actors : List ActorState) (turner : Turner) (i : ℕ) (turn : IsTurnOf hub actors turner i) → LoopRepresents s taken hub actors → IsTurnerAt s taken turner
    → IsStepError hub turn.at.actor Too_many → IsEnd s Events
Loop-full s taken hub actors turner i turn at is full =
    let P : Scenario → Type 0 = λ (t : Scenario). LoopRepresents t taken hub actors → IsTurnerAt t taken turner → IsEnd t Events in
    let by : P s = subst P at.all.scenario (λ l m. full-by hub taken actors turner i turn l m full) in
    by at is

-- ---- what the code asks

-- the reason why an actor took no step is one of the scenario
turn-error : (s : Scenario) (taken : ℕ) (hub : HubState) (actors : List ActorState) (turner : Turner) (i : ℕ) (turn : IsTurnOf hub actors turner i) (error : HubError) → LoopRepresents s taken hub actors → IsTurnerAt s taken turner
    → IsStepError hub turn.at.actor error → IsReplayError s (by_hub error)
turn-error s taken hub actors turner i turn Lacks at line is = tt
turn-error s taken hub actors turner i turn Too_many at line is = Loop-full s taken hub actors turner i turn at line is

-- a turn that was taken keeps to the World
pub taken-step : (s : Scenario) (taken : ℕ) (hub new : HubState) (actors after : List ActorState) (turner : Turner) (i : ℕ) → IsTurnOf hub actors turner i → LoopRepresents s taken hub actors → IsTurnerAt s taken turner
    → TurnYields hub actors i new after → LoopRepresents s (taken + 1) new after
taken-step s taken hub new actors after turner i turn at line made =
    let same : made.actor ≡ turn.at.actor = same_Some made.actor turn.at.actor (sym made.there ∙ turn.at.there) in
    subst (λ (xs : List ActorState). LoopRepresents s (taken + 1) new xs) (sym made.others)
    (Loop-step s taken hub new actors turner i made.after turn at line (subst (λ (a : ActorState). StepYields hub a new made.after) same made.step))

-- and leaves fewer steps
pub taken-fewer : (hub new : HubState) (actors after : List ActorState) (i : ℕ) → TurnYields hub actors i new after → steps_left new (free_steps_of after) < steps_left hub (free_steps_of actors)
taken-fewer hub new actors after i made =
    subst (λ (xs : List ActorState). steps_left new (free_steps_of xs) < steps_left hub (free_steps_of actors)) (sym made.others)
    (fewer-after hub new actors i made.actor made.after made.there made.step.fewer)

-- a turn that was not taken says how the scenario ends
pub taken-error : (s : Scenario) (taken : ℕ) (hub : HubState) (actors : List ActorState) (turner : Turner) (i : ℕ) (error : HubError) → IsTurnOf hub actors turner i → LoopRepresents s taken hub actors → IsTurnerAt s taken turner
    → IsTurnError hub actors i error → IsReplayError s (by_hub error)
taken-error s taken hub actors turner i error turn at line is = turn-error s taken hub actors turner i turn error at line (is turn.at.actor turn.at.there)

-- the run that the hub parts with is that of the World
finished : (s : Scenario) (hub : HubState) (actors : List ActorState) (entries : List Entry) (logs : List Log) → IsUnscheduledLoop s hub actors → HasNoTurn hub actors Default
    → entries ≡ reverse hub.entries → logs ≡ logs_from 0 hub.scenario.clocks hub.logs → IsWorld s (record { entries = entries; logs = logs })
finished s hub actors entries logs at none entries_are logs_are =
    let (w, has, logged, world) = Loop-done s at.taken hub actors at.loop (at.past at.taken (omega arith)) none in
    let made : List Entry → List Log → Run = λ (es : List Entry) (ls : List Log). record { entries = es; logs = ls } in
    let entries_of_w : entries ≡ reverse w.entries = entries_are ∙ ap reverse (sym has) in
    let logs_of_w : logs ≡ logs_from 0 s.clocks w.logs =
    logs_are ∙ (ap (λ (t : Scenario). logs_from 0 t.clocks hub.logs) at.loop.all.scenario ∙ ap (logs_from 0 s.clocks) (sym logged)) in
    let same : made entries logs ≡ run_of s w = ap (λ (es : List Entry). made es logs) entries_of_w ∙ ap (λ (ls : List Log). made (reverse w.entries) ls) logs_of_w in
    subst (IsWorld s) (sym same) world

-- so is the run that is assembled
pub finished-run : (s : Scenario) (hub : HubState) (actors : List ActorState) (entries : List Entry) (logs : List Log) (run : Run) → IsUnscheduledLoop s hub actors → HasNoTurn hub actors Default
    → entries ≡ reverse hub.entries → logs ≡ logs_from 0 hub.scenario.clocks hub.logs → run ≡ record { entries = entries; logs = logs } → IsWorld s run
finished-run s hub actors entries logs run at none entries_are logs_are run_is = subst (IsWorld s) (sym run_is) (finished s hub actors entries logs at none entries_are logs_are)

-- and it is legal
pub finished-legal : (s : Scenario) (hub : HubState) (actors : List ActorState) (entries : List Entry) (logs : List Log) (run : Run) → IsScenario s → IsUnscheduledLoop s hub actors → HasNoTurn hub actors Default
    → entries ≡ reverse hub.entries → logs ≡ logs_from 0 hub.scenario.clocks hub.logs → run ≡ record { entries = entries; logs = logs } → IsLegal s run
finished-legal s hub actors entries logs run rules at none entries_are logs_are run_is =
    run-legal s rules (stays-right s rules) run (finished-run s hub actors entries logs run at none entries_are logs_are run_is)

-- ---- whose turn was found

-- whose turn it is, of the actors that were looked at
pub found-turn : (hub : HubState) (actors seen : List ActorState) (turner : Turner) (i : ℕ) (result : Option ℕ) → result ≡ Some i → seen ≡ actors
    → MatchOption result (HasNoTurn hub seen turner) (IsTurnOf hub seen turner) → IsTurnOf hub actors turner i
found-turn hub actors seen turner i None is same found = cc
found-turn hub actors seen turner i (Some j) is same found =
    let index : j ≡ i = same_Some j i is in
    subst (λ (k : ℕ). IsTurnOf hub actors turner k) index (subst (λ (xs : List ActorState). IsTurnOf hub xs turner j) same found)

-- and where it is nobody's
pub found-none : (hub : HubState) (actors seen : List ActorState) (turner : Turner) (result : Option ℕ) → result ≡ None → seen ≡ actors
    → MatchOption result (HasNoTurn hub seen turner) (IsTurnOf hub seen turner) → HasNoTurn hub actors turner
found-none hub actors seen turner None none same found = subst (λ (xs : List ActorState). HasNoTurn hub xs turner) same found
found-none hub actors seen turner (Some j) none same found = cc

-- an error that was handed on
pub handed-on : {T : Type 0} (P : ReplayError → Type 0) (result : Result T ReplayError) (error : ReplayError) → IsErrAnd result (λ e. e ≡ error) → P error → IfErr result P
handed-on P (Ok x) error is cause = tt
handed-on P (Err e) error is cause = subst P (sym is) cause

-- ---- what is lent of an actor

-- the actor that an index lends is the one there
indexed : (actors : List ActorState) (i : ℕ) (a x : ActorState) → slice_get actors i ≡ Some a → x ≡ get_or actors i x → a ≡ x
indexed actors i a x there is = sym (is ∙ get_or_from_slice_get actors i a x there)

pub lent-there : (hub : HubState) (actors : List ActorState) (i : ℕ) (x : ActorState) → IsDueAt hub actors i → x ≡ get_or actors i x → slice_get actors i ≡ Some x
lent-there hub actors i x at is = at.there ∙ ap Some (indexed actors i at.actor x at.there is)

pub lent-level : (hub : HubState) (actors : List ActorState) (i : ℕ) (x : ActorState) → AreLevel hub actors → IsDueAt hub actors i → x ≡ get_or actors i x → IsLevel hub x
lent-level hub actors i x level at is = level i x (lent-there hub actors i x at is)

pub lent-ready : (hub : HubState) (actors : List ActorState) (i until : ℕ) (x : ActorState) → IsDueAt hub actors i → x ≡ get_or actors i x → until ≡ hub.scenario.options.duration → hub.windows ≡ []
    → is_ready until hub x ≡ true
lent-ready hub actors i until x at is until_is unbounded =
    due-ready hub x at.tick until (ap (due_tick hub) (sym (indexed actors i at.actor x at.there is)) ∙ at.due) until_is unbounded

pub lent-step : (hub new : HubState) (actors after : List ActorState) (i : ℕ) (x b : ActorState) → IsDueAt hub actors i → x ≡ get_or actors i x → after ≡ slice_set actors i b → StepYields hub x new b → TurnYields hub actors i new after
lent-step hub new actors after i x b at is others made = record { actor = x; there = lent-there hub actors i x at is; after = b; step = made; others = others }

pub lent-error : (hub : HubState) (actors : List ActorState) (i : ℕ) (x : ActorState) (error : HubError) → IsDueAt hub actors i → x ≡ get_or actors i x → IsStepError hub x error → IsTurnError hub actors i error
lent-error hub actors i x error at is cause = λ a there.
    subst (λ (y : ActorState). IsStepError hub y error) (same_Some x a (sym (lent-there hub actors i x at is) ∙ there)) cause

-- ---- the loop

pub loop-begins : (s : Scenario) (hub : HubState) (actors : List ActorState) → hub ≡ hub_at_opening s → actors ≡ map (actor_at_opening s) (actors_of s) → LoopRepresents s 0 hub actors
loop-begins s hub actors hub_is actors_are = rw (hub_is, actors_are) (Loop-opening s)
