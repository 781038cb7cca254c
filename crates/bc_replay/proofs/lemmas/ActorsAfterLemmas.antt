-- Where hub and actors stand behind a step of one of them.
use Rattle.std.proofs.Common.{◌≡◌, ◌≢◌, ◌⊎◌, ℕ, zero, suc, ◌+◌, ◌-◌, ◌*◌, ◌<◌, true, false, refl, sym, ap, subst, ◌∙◌, arith, inl, inr, List, [], ◌∷◌, length, map, reverse, get_or, Option, Some, None, option_and_then}
use Rattle.std.specs.Prelude.{IfErr, IsErrAnd, Result, Ok, Err, MatchOption, option_map, replicate, slice_get, slice_set}
use Rattle.std.proofs.lemmas.List.Sums.{sum_by-cons, sum_by-set}
use Rattle.std.proofs.lemmas.Option.{get_or_from_slice_get, same_Some, slice_get_within, slice_get-map}
use Rattle.ptp_base.specs.declared.limits.TheConstants.{ENTRIES_MAX}
use Rattle.ptp_base.specs.declared.port_conf.PortConf.{PortConf}
use Rattle.ptp_profile.specs.declared.seats.Log.{Log}
use Rattle.ptp_profile.specs.Roles.SeatLogs.{logs_from}
use Rattle.bc_history.specs.declared.entry.Entry.{Entry}
use Rattle.bc_history.specs.declared.entry.Run.{Run}
use Rattle.bc_history.specs.declared.entry.Who.{Who}
use Rattle.bc_history.specs.declared.entry.Who.TheVariants.{Port, Follower, Queries}
use Rattle.bc_history.specs.declared.scenario.Turner.{Turner}
use Rattle.bc_history.specs.declared.scenario.Turner.TheVariants.{Default, Port as Port_turn, Clock as Clock_turn, Queries as Queries_turn}
use Rattle.bc_history.specs.declared.place.FollowerPlace.{FollowerPlace}
use Rattle.bc_history.specs.declared.place.FollowerPlace.TheVariants.{Turns as Turns_next}
use Rattle.bc_history.specs.Phases.OpeningState.{follower_count}
use Rattle.bc_history.specs.Scenario.ScenarioRules.{IsScenario, IsTurnerOf}
use Rattle.bc_history.specs.declared.place.PortPlace.{PortPlace}
use Rattle.bc_history.specs.declared.place.PortPlace.TheVariants.{Waits}
use Rattle.bc_history.specs.declared.scenario.Scenario.{Scenario}
use Rattle.bc_history.specs.Run.Actors.{actors_of, entries_of, is_same_actor}
use Rattle.bc_history.specs.Run.World.{End, Ended, Events, Finished, Going, IsEnd, IsWorld, Not_due, Of_follower, Of_port, Status, Step, World, free_steps, next_status, place_of, run_of, status_after, status_after_turn, step_of, take_step, turn_of, turner_at, world_opening}
use Rattle.hub_core.specs.HubView.{HubState, hub_at_opening}
use Rattle.bc_steps.specs.ActorView.{ActorState, AddsOwn, IsIn, IsJobDue, IsLevel, IsPlaceOf, IsSameActor, IsSameHistory, due_tick, is_ready, place_at_opening, world_with}
use Rattle.run_legal.specs.Runs.LegalRuns.{IsLegal}
use Rattle.run_legal.proofs.lemmas.NamedEndLemmas.{run-legal}
use Rattle.run_legal.proofs.lemmas.StepLemmas.{stays-right}
use Rattle.bc_replay.specs.declared.run.ReplayError.{ReplayError}
use Rattle.bc_replay.specs.ActorLoop.{AllStandIn, AreIn, AreJobsDue, AreLevel, IsUnscheduledLoop, LoopRepresents, actor_at_opening, free_steps_of, steps_left}
use Rattle.bc_replay.specs.ActorSteps.{IsStepError, IsTurnError, StepLeadsTo, StepYields, TurnYields}
use Rattle.bc_replay.specs.ActorTurns.{HasNoTurn, IsDueAt, IsIdle, IsNamed, IsTurnOf, IsTurnerAt, turner_or_default}
use Rattle.bc_replay.specs.ReplayError.{IsReplayError}
use Rattle.bc_replay.proofs.lemmas.ActorListLemmas.{each-set, map-set}
use Rattle.bc_replay.proofs.lemmas.ActorPlaceLemmas.{ActsAt, acting-apart, acting-at, acting-follower, acting-port, acting-queries, entries-other, placed-entries, placed-logs, placed-other, placed-own}
use Rattle.bc_replay.proofs.lemmas.ActorStepLemmas.{due-ready, step-none}
use Rattle.bc_replay.proofs.lemmas.DefaultTurnLemmas.{turn-all}
use Rattle.bc_history.proofs.lemmas.CoreInvariantLemmas.{option_map-some}

abbrev who_of : ActorState → Who
who_of a = a.who

-- who an actor of the loop is
pub who-at : (s : Scenario) (actors : List ActorState) (i : ℕ) (a : ActorState) → map who_of actors ≡ actors_of s → slice_get actors i ≡ Some a → slice_get (actors_of s) i ≡ Some a.who
who-at s actors i a acting there =
    ap (λ (whos : List Who). slice_get whos i) (sym acting) ∙ (slice_get-map who_of actors i ∙ ap (λ (o : Option ActorState). option_map who_of o) there)

-- the history has one entry more, of the actor, or is as before
abbrev GoesOn : Who → HubState → HubState → Type 0
GoesOn who old new = AddsOwn who old new ⊎ IsSameHistory old new

scenario-after : (who : Who) (old new : HubState) → GoesOn who old new → new.scenario ≡ old.scenario
scenario-after who old new (inl adds) = adds.scenario
scenario-after who old new (inr same) = same.scenario

-- another actor's entries are as before
level-after : (who : Who) (old new : HubState) (x : ActorState) → GoesOn who old new → is_same_actor x.who who ≡ false → IsLevel old x → IsLevel new x
level-after who old new x (inl adds) differ level = record {
  scenario = level.scenario ∙ sym adds.scenario;
  entries = ap (entries_of x.who) adds.more ∙ (entries-other who x.who adds.entry old.entries adds.own differ ∙ level.entries);
}
level-after who old new x (inr same) differ level = record {
  scenario = level.scenario ∙ sym same.scenario;
  entries = ap (entries_of x.who) same.entries ∙ level.entries;
}

-- the actor stands in the World behind its step
own-after : (w : World) (hub new : HubState) (a b : ActorState) → IsSameActor a b → IsPlaceOf b.who b.place → place_of w a.who ≡ Some a.place → place_of (world_with w new b) b.who ≡ Some b.place
own-after w hub new a b same kind there =
    placed-own (record w { entries = new.entries; logs = new.logs }) b.who b.place a.place kind (ap (place_of w) same.who ∙ there)

-- and each other one
other-after : (w : World) (new : HubState) (b x : ActorState) → is_same_actor x.who b.who ≡ false → place_of w x.who ≡ Some x.place → place_of (world_with w new b) x.who ≡ Some x.place
other-after w new b x differ there = placed-other (record w { entries = new.entries; logs = new.logs }) b.who x.who b.place differ ∙ there

-- another actor of the loop is another
who-apart : (s : Scenario) (actors : List ActorState) (i j : ℕ) (a x : ActorState) → map who_of actors ≡ actors_of s → slice_get actors i ≡ Some a → slice_get actors j ≡ Some x → j ≢ i → is_same_actor x.who a.who ≡ false
who-apart s actors i j a x acting there other differ = acting-apart s j i x.who a.who (who-at s actors j x acting other) (who-at s actors i a acting there) differ

-- where hub and actors stood in a World, they stand in the one that the step leads to
pub all-stand-after : (s : Scenario) (w : World) (hub new : HubState) (actors : List ActorState) (i : ℕ) (a b : ActorState) → slice_get actors i ≡ Some a → AllStandIn s w hub actors
    → StepYields hub a new b → AllStandIn s (world_with w new b) new (slice_set actors i b)
all-stand-after s w hub new actors i a b there all made =
    let next : World = record w { entries = new.entries; logs = new.logs } in
    let apart : (j : ℕ) (x : ActorState) → j ≢ i → slice_get actors j ≡ Some x → is_same_actor x.who a.who ≡ false =
    λ j x differ other. who-apart s actors i j a x all.acting there other differ in
    record {
      scenario = scenario-after a.who hub new made.history ∙ all.scenario;
      few = made.few;
      acting = map-set who_of actors i a b there made.actor.who ∙ all.acting;
      level = each-set (λ (j : ℕ) (x : ActorState). IsLevel new x) actors i b
          (λ j x differ other. level-after a.who hub new x made.history (apart j x differ other) (all.level j x other)) made.level;
      jobs = each-set (λ (j : ℕ) (x : ActorState). IsJobDue s x.place) actors i b
          (λ j x differ other. all.jobs j x other)
          (subst (λ (t : Scenario). IsJobDue t b.place) (made.actor.scenario ∙ ((all.level i a there).scenario ∙ all.scenario)) made.job);
      stand = record {
        entries = placed-entries next b.who b.place;
        logs = placed-logs next b.who b.place;
        places = each-set (λ (j : ℕ) (x : ActorState). place_of (world_with w new b) x.who ≡ Some x.place) actors i b
            (λ j x differ other. other-after w new b x
            (subst (λ (who : Who). is_same_actor x.who who ≡ false) (sym made.actor.who) (apart j x differ other))
            (all.stand.places j x other))
            (own-after w hub new a b made.actor made.kind (all.stand.places i a there));
      };
    }

-- the windows are as before
pub windows-after : (who : Who) (old new : HubState) → GoesOn who old new → new.windows ≡ old.windows
windows-after who old new (inl adds) = adds.windows
windows-after who old new (inr same) = same.windows
