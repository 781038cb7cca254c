-- What is so of the hub and all who act, from the first step on, and of the run that they make.
use Rattle.std.proofs.Common.{◌≡◌, ℕ, zero, suc, ◌<◌, ◌≤◌, ◌+◌, ◌*◌, ◌/◌, ◌-◌, ◌⊎◌, inl, inr, Bool, true, false, cond, leb, leb-true, le-leb, refl, sym, ap, subst, ◌∙◌, arith, List, [], ◌∷◌, length, map, reverse, Option, Some, None, min, get_or}
use Rattle.std.specs.Prelude.{All, Contains, IfSome, slice_get, slice_set}
use Rattle.std.proofs.lemmas.Bool.{cases_lt}
use Rattle.std.proofs.lemmas.List.{length-map, length-reverse, reverse-reverse}
use Rattle.std.proofs.lemmas.List.Elements.{All-cons, All-nil}
use Rattle.std.proofs.lemmas.Nat.{div-mul-add}
use Rattle.std.proofs.lemmas.Option.{same_Some}
use Rattle.std.proofs.Math.Nat.{div-mul-le_self, suc-mul}
use Rattle.ptp_base.specs.declared.limits.TheConstants.{ENTRIES_MAX}
use Rattle.ptp_profile.specs.declared.seats.Log.{Log}
use Rattle.ptp_profile.specs.Roles.SeatLogs.{logs_from}
use Rattle.bc_history.specs.declared.entry.Entry.{Entry}
use Rattle.bc_history.specs.declared.entry.Run.{Run}
use Rattle.bc_history.specs.declared.entry.Who.{Who}
use Rattle.bc_history.specs.declared.scenario.Scenario.{Scenario}
use Rattle.bc_history.specs.Phases.Step.{state_of}
use Rattle.bc_history.specs.Run.Actors.{actors_of}
use Rattle.bc_history.specs.Run.History.{Continues}
use Rattle.bc_history.specs.Run.NextInputs.{IsDue}
use Rattle.bc_history.specs.Run.World.{End, Ended, Event, Events, Free, Going, Place, Step, World, candidates, due_by_end, is_due, place_due, place_of, run_of, step_of, take_step, world_opening}
use Rattle.bc_history.specs.Scenario.ScenarioRules.{IsScenario}
use Rattle.run_legal.specs.Runs.LegalRuns.{IsLegal, IsOpen, IsWindowed, window_at}
use Rattle.run_legal.specs.Runs.NamedChanges.{AreNamedSoFar}
use Rattle.run_legal.specs.Runs.WorldInvariant.{IsRight, IsStepTo}
use Rattle.run_legal.proofs.lemmas.NamedActorLemmas.{event-keeps-named, free-keeps-named}
use Rattle.run_legal.proofs.lemmas.NamedEndLemmas.{legal-at}
use Rattle.run_legal.proofs.lemmas.NamedStepLemmas.{named-opening}
use Rattle.run_legal.proofs.lemmas.NextInputLemmas.{has-next, next-all}
use Rattle.run_legal.proofs.lemmas.StepLemmas.{stays-right}
use Rattle.run_legal.proofs.lemmas.WorldLemmas.{IsRight-open, IsRight-opening}
use Rattle.bc_windows.specs.Windows.{BeganEmpty, IsBeyond, IsMadeBy, MayBegin, Window, bound_of}
use Rattle.hub_core.specs.HubView.{HubState, hub_at_opening, with_window}
use Rattle.bc_steps.specs.ActorView.{ActorState, IsIn, due_tick, world_with}
use Rattle.bc_replay.specs.ActorLoop.{actor_at_opening}
use Rattle.bc_replay.specs.ActorSteps.{StepYields}
use Rattle.bc_replay.specs.ActorTurns.{due_actors}
use Rattle.bc_replay.proofs.lemmas.ActorLoopLemmas.{actor-of, all-opening}
use Rattle.bc_replay.proofs.lemmas.ActorStepLemmas.{due_by_end-is}
use Rattle.bc_replay.proofs.lemmas.ActorsAfterLemmas.{all-stand-after, windows-after}
use Rattle.bc_replay.proofs.lemmas.DefaultTurnLemmas.{candidates-all}
use Rattle.bc_actors.specs.ActingState.{HasOptionWindows, IsActing, IsNumberOf}
use Rattle.bc_actors.specs.LeastDue.{AreIdle, IsLeastTick, IsSomebodyDue}
use Rattle.bc_actors.specs.OptionWindows.{IsOneWindow, IsThroughBefore}
use Rattle.bc_actors.specs.RunErrors.{IsFull}
use Rattle.bc_actors.proofs.lemmas.WindowNumberLemmas.{run-windowed, tick-later, window-mono, window-some}

-- ---- the opening

-- the window of tick 0 is the first
first-number : (s : Scenario) → IsScenario s → window_at s 0 ≡ 0
first-number s rules =
    let some = window-some s rules in
    let none : 0 * s.options.window ≡ 0 = omega arith in
    ap (λ (n : ℕ). (n + (s.options.window - 1)) / s.options.window) (sym none)
    ∙ div-mul-add 0 s.options.window (s.options.window - 1) (omega (arith, some))

-- before the first step, with the first window given
pub acting-opening : (s : Scenario) (hub : HubState) (actors : List ActorState) → IsScenario s → hub ≡ with_window (hub_at_opening s) 0 → actors ≡ map (actor_at_opening s) (actors_of s)
    → IsActing s (record { hub = hub; actors = actors })
acting-opening s hub actors rules hub_is actors_are =
    let all = all-opening s in
    let at : IsActing s (record { hub = with_window (hub_at_opening s) 0; actors = map (actor_at_opening s) (actors_of s) }) = record {
      rules = rules;
      world = world_opening s;
      all = record {
        scenario = refl;
        few = all.few;
        acting = all.acting;
        level = λ i a there. let level = all.level i a there in record { scenario = level.scenario; entries = level.entries };
        jobs = all.jobs;
        stand = record { entries = refl; logs = refl; places = all.stand.places };
      };
      right = IsRight-opening s;
      named = named-opening s;
      windows = record {
        some = omega arith;
        one = All-cons (IsOneWindow s) (record { end = 0; begun = [] }) [] (subst (λ (n : ℕ). IsThroughBefore s [] n) (sym (first-number s rules)) tt) (All-nil (IsOneWindow s));
        began = refl;
      };
    } in
    rw (hub_is, actors_are) at

-- ---- a step

-- a step that goes on is an event where there is room, or a free step
going-on : (w next : World) (step : Option Step) → ((end : End) → take_step w end step ≡ Going next)
    → ((step ≡ Some (Event next)) × (length w.entries < ENTRIES_MAX)) ⊎ (step ≡ Some (Free next))
going-on w next None goes = let ends : Ended Events ≡ Going next = goes Events in absurd (cc)
going-on w next (Some (Event later)) goes = by (leb ENTRIES_MAX (length w.entries)) refl (goes Events)
  where
    by : (b : Bool) → leb ENTRIES_MAX (length w.entries) ≡ b → cond b (Ended Events) (Going later) ≡ Going next
        → ((Some (Event later) ≡ Some (Event next)) × (length w.entries < ENTRIES_MAX)) ⊎ (Some (Event later) ≡ Some (Free next))
    by true full is = absurd (cc)
    by false room is =
        elim (cases_lt (length w.entries) ENTRIES_MAX) [
          | inl less ↦ inl (let same : later ≡ next = cc in ap (λ (v : World). Some (Event v)) same, less)
          | inr more ↦ let full = le-leb ENTRIES_MAX (length w.entries) more in let both : true ≡ false = sym full ∙ room in absurd (cc)
        ]
going-on w next (Some (Free later)) goes = let goes_on : Going later ≡ Going next = goes Events in inr (let same : later ≡ next = cc in ap (λ (v : World). Some (Free v)) same)

-- the step of an actor of the World
acting-goes : (s : Scenario) (w : World) (hub new : HubState) (x b : ActorState) → hub.scenario ≡ s → IsIn w hub x → StepYields hub x new b → IsStepTo s w x.who (world_with w new b)
acting-goes s w hub new x b scenario stands made =
    subst (λ (t : Scenario). IsStepTo t w x.who (world_with w new b)) scenario
    (going-on w (world_with w new b) (step_of hub.scenario w x.who) (λ end. made.going w end stands))

named-after : (s : Scenario) (w next : World) (who : Who) → IsScenario s → IsRight s w → AreNamedSoFar s w → IsStepTo s w who next → AreNamedSoFar s next
named-after s w next who rules right named (inl event) = event-keeps-named s w next who named event.0
named-after s w next who rules right named (inr free) = free-keeps-named s rules w next who right named free

-- the windows are as before
windows-kept : (s : Scenario) (hub new : HubState) → new.windows ≡ hub.windows → HasOptionWindows s hub → HasOptionWindows s new
windows-kept s hub new same was = record {
  some = subst (λ (ws : List Window). 0 < length ws) (sym same) was.some;
  one = subst (λ (ws : List Window). All (IsOneWindow s) ws) (sym same) was.one;
  began = subst BeganEmpty (sym same) was.began;
}

-- a step of one who acts keeps all
pub acting-step : (s : Scenario) (hub new : HubState) (actors : List ActorState) (i : ℕ) (x b : ActorState) → slice_get actors i ≡ Some x → IsActing s (record { hub = hub; actors = actors }) → StepYields hub x new b
    → IsActing s (record { hub = new; actors = slice_set actors i b })
acting-step s hub new actors i x b there was made =
    let w = was.world in
    let next = world_with w new b in
    let stands : IsIn w hub x = record { entries = was.all.stand.entries; logs = was.all.stand.logs; place = was.all.stand.places i x there } in
    let step = acting-goes s w hub new x b was.all.scenario stands made in
    record {
      rules = was.rules;
      world = next;
      all = all-stand-after s w hub new actors i x b there was.all made;
      right = stays-right s was.rules w next x.who was.right step;
      named = named-after s w next x.who was.rules was.right was.named step;
      windows = windows-kept s hub new (windows-after x.who hub new made.history) was.windows;
    }

-- an element that is set anew to what it was
set-same : {X : Type 0} (xs : List X) (i : ℕ) (x : X) → slice_get xs i ≡ Some x → slice_set xs i x ≡ xs
set-same [] i x there = cc
set-same (y ∷ xs) zero x there = ap (λ (z : _). z ∷ xs) (sym (same_Some y x there))
set-same (y ∷ xs) (suc i) x there = ap (λ (zs : _). y ∷ zs) (set-same xs i x there)

-- where nothing was done all is as it was
pub acting-idle : (s : Scenario) (hub new : HubState) (actors : List ActorState) (i : ℕ) (x b : ActorState) → slice_get actors i ≡ Some x → IsActing s (record { hub = hub; actors = actors })
    → new ≡ hub → b ≡ x → IsActing s (record { hub = new; actors = slice_set actors i b })
acting-idle s hub new actors i x b there was hub_same same =
    rw (hub_same, same) (subst (λ (xs : List ActorState). IsActing s (record { hub = hub; actors = xs })) (sym (set-same actors i x there)) was)

-- an element that is there has an index
at-index : {X : Type 0} (xs : List X) (x : X) (k : ℕ) (d : X) → k < length xs → get_or xs k d ≡ x → slice_get xs k ≡ Some x
at-index [] x k d less is = absurd (omega (arith, less))
at-index (y ∷ xs) x zero d less is = ap Some is
at-index (y ∷ xs) x (suc k) d less is = at-index xs x k d (omega (arith, less)) is

-- the actor of a number is there
pub actor-there : (s : Scenario) (hub : HubState) (actors : List ActorState) (number : ℕ) (x : ActorState) → IsActing s (record { hub = hub; actors = actors }) → IsNumberOf s number
    → x ≡ get_or actors (number - 1) x → slice_get actors (number - 1) ≡ Some x
actor-there s hub actors number x is there at =
    let many : length actors ≡ length (actors_of s) = sym (length-map actors (λ (a : ActorState). a.who)) ∙ ap length is.all.acting in
    let first = there.0 in
    let last = there.1 in
    at-index actors x (number - 1) x (omega (arith, many, first, last)) (sym at)

-- an actor that a step was taken of, or not
pub acting-taken : (s : Scenario) (hub new : HubState) (actors : List ActorState) (i : ℕ) (x b : ActorState) (taken : Bool) → slice_get actors i ≡ Some x → IsActing s (record { hub = hub; actors = actors })
    → (taken ≡ true → StepYields hub x new b) → (taken ≡ false → (new ≡ hub) × (b ≡ x)) → IsActing s (record { hub = new; actors = slice_set actors i b })
acting-taken s hub new actors i x b true there was step idle = acting-step s hub new actors i x b there was (step refl)
acting-taken s hub new actors i x b false there was step idle = acting-idle s hub new actors i x b there was (idle refl).0 (idle refl).1

-- ---- what is due

-- a tick that is due comes before the run ends
due-in_time : (hub : HubState) (a : ActorState) (tick : ℕ) → due_tick hub a ≡ Some tick → tick ≤ hub.scenario.options.duration
due-in_time hub a tick due =
    let at = (due_by_end-is hub.scenario (state_of hub.scenario hub.entries) a.who a.place tick due).1 in
    leb-true tick hub.scenario.options.duration at

-- what is due of an actor at a tick that comes before the run ends
due-at : (s : Scenario) (hub : HubState) (x : ActorState) (tick : ℕ) → hub.scenario ≡ s → place_due s (state_of s hub.entries) x.who x.place ≡ Some tick → tick ≤ s.options.duration → due_tick hub x ≡ Some tick
due-at s hub x tick scenario at le =
    subst (λ (t : Scenario). due_by_end t (state_of t hub.entries) x.who x.place ≡ Some tick) (sym scenario)
    (let now : is_due s tick ≡ true = le-leb tick s.options.duration le in rw (at, now) refl)

module _ (s : Scenario) (hub : HubState) (actors : List ActorState) (is : IsActing s (record { hub = hub; actors = actors })) where
  -- whoever acts has an index
  who-index : (who : Who) (place : Place) → Contains (actors_of s) who → place_of is.world who ≡ Some place
      → (i : ℕ) × (x : ActorState) × (slice_get actors i ≡ Some x) × (x.who ≡ who) × (x.place ≡ place)
  who-index who place (k, less, at) there =
      let named = at-index (actors_of s) who k who less at in
      let (x, found, same) = actor-of actors k who (ap (λ (whos : List Who). slice_get whos k) is.all.acting ∙ named) in
      let stands = is.all.stand.places k x found in
      let placed : x.place ≡ place = same_Some x.place place (sym stands ∙ (ap (place_of is.world) same ∙ there)) in
      (k, x, found, same, placed)

  -- whatever is due is no earlier than the least tick
  pub least-all : (tick end : ℕ) → IsLeastTick hub actors tick → end < tick → IsBeyond s hub.entries end
  least-all tick end least before =
      subst (λ (es : List Entry). IsBeyond s es end) is.all.stand.entries
      (next-all s is.world (λ (t : ℕ). end < t) is.right each)
    where
      each : (who : Who) (place : Place) (t : ℕ) → Contains (actors_of s) who → place_of is.world who ≡ Some place
          → place_due s (state_of s is.world.entries) who place ≡ Some t → end < t
      each who place t acts there at =
          let (i, x, found, same, placed) = who-index who place acts there in
          let in_time = due-in_time hub least.actor tick least.due in
          let duration = ap (λ (r : Scenario). r.options.duration) is.all.scenario in
          elim (cases_lt s.options.duration t) [
            | inl late ↦ omega (arith, late, in_time, duration, before)
            | inr within ↦
                let here : place_due s (state_of s hub.entries) x.who x.place ≡ Some t =
                rw (same, placed) (subst (λ (es : List Entry). place_due s (state_of s es) who place ≡ Some t) is.all.stand.entries at) in
                let later = least.least i x t found (due-at s hub x t is.all.scenario here within) in
                omega (arith, later, before)
          ]

  -- the next window may begin
  pub may-begin : (tick : ℕ) → IsLeastTick hub actors tick → IfSome (bound_of hub.windows) (λ end. end < tick) → MayBegin s hub.windows hub.entries
  may-begin tick least before = by (bound_of hub.windows) before
    where
      by : (bound : Option ℕ) → IfSome bound (λ end. end < tick) → IfSome bound (IsBeyond s hub.entries)
      by None none = tt
      by (Some end) less = least-all tick end least less

  -- a window that begins with the least tick is one of the option's
  one-window : (tick end : ℕ) → IsLeastTick hub actors tick → end ≡ min (window_at s tick * s.options.window) s.options.duration
      → IsOneWindow s (record { end = end; begun = hub.entries })
  one-window tick end least end_is =
      subst (λ (n : ℕ). IsThroughBefore s hub.entries n) (sym same) (by (window_at s tick) refl)
    where
      some : 0 < s.options.window
      some = window-some s is.rules

      in_time : tick ≤ s.options.duration
      in_time =
          let due = due-in_time hub least.actor tick least.due in
          let duration = ap (λ (r : Scenario). r.options.duration) is.all.scenario in
          omega (arith, due, duration)

      -- the tick is no later than the end of its window
      within : tick ≤ window_at s tick * s.options.window
      within = elim (cases_lt (window_at s tick * s.options.window) tick) [
        | inl above ↦ let later = tick-later s (window_at s tick) tick some above in absurd (omega (arith, later))
        | inr le ↦ le
      ]

      -- the end is in the window of the tick
      below : window_at s end ≤ window_at s tick
      below =
          let le : end ≤ window_at s tick * s.options.window = omega (arith, end_is) in
          let mono = window-mono s end (window_at s tick * s.options.window) some le in
          let whole = div-mul-add (window_at s tick) s.options.window (s.options.window - 1) (omega (arith, some)) in
          omega (arith, mono, whole)

      same : window_at s end ≡ window_at s tick
      same =
          let mono = window-mono s tick end some (omega (arith, end_is, within, in_time)) in
          omega (arith, below, mono)

      by : (number : ℕ) → window_at s tick ≡ number → IsThroughBefore s hub.entries number
      by zero at = tt
      by (suc number) at =
          let most = div-mul-le_self (tick + (s.options.window - 1)) s.options.window in
          let times : window_at s tick * s.options.window ≡ suc number * s.options.window = ap (λ (n : ℕ). n * s.options.window) at in
          let more = suc-mul number s.options.window in
          least-all tick (number * s.options.window) least (omega (arith, most, times, more, some))

  -- the next window keeps all
  pub acting-window : (tick end : ℕ) → IsLeastTick hub actors tick → end ≡ min (window_at s tick * s.options.window) s.options.duration
      → IsActing s (record { hub = with_window hub end; actors = actors })
  acting-window tick end least end_is = record {
    rules = is.rules;
    world = is.world;
    all = record {
      scenario = is.all.scenario;
      few = is.all.few;
      acting = is.all.acting;
      level = λ i a there. let level = is.all.level i a there in record { scenario = level.scenario; entries = level.entries };
      jobs = is.all.jobs;
      stand = record { entries = is.all.stand.entries; logs = is.all.stand.logs; places = is.all.stand.places };
    };
    right = is.right;
    named = is.named;
    windows = record {
      some = omega arith;
      one = All-cons (IsOneWindow s) (record { end = end; begun = hub.entries }) hub.windows (one-window tick end least end_is) is.windows.one;
      began = began hub.windows is.windows.some is.windows.began;
    };
  }
    where
      began : (windows : List Window) → 0 < length windows → BeganEmpty windows → BeganEmpty (record { end = end; begun = hub.entries } ∷ windows)
      began [] some empty = absurd (omega (arith, some))
      began (v ∷ former) some empty = empty

  -- ---- the run so far

  -- nobody is a candidate where nobody has a step that is due
  no-candidate : AreIdle hub actors → candidates s is.world ≡ []
  no-candidate idle =
      subst (λ (t : Scenario). candidates t is.world ≡ []) is.all.scenario
      (candidates-all hub is.world actors is.all.stand (is.all.acting ∙ ap actors_of (sym is.all.scenario)) ∙ none-due actors idle)
    where
      none-due : (xs : List ActorState) → ((i : ℕ) (a : ActorState) → slice_get xs i ≡ Some a → due_tick hub a ≡ None) → due_actors hub xs ≡ []
      none-due [] none = refl
      none-due (a ∷ xs) none = rw (none 0 a refl) (none-due xs (λ i b there. none (suc i) b there))

  module _ (run : Run) (entries : run.entries ≡ reverse hub.entries) (logs : run.logs ≡ logs_from 0 hub.scenario.clocks hub.logs) where
    -- it is that of the World
    run-is : run ≡ run_of s is.world
    run-is =
        let made : List Entry → List Log → Run = λ (es : List Entry) (ls : List Log). record { entries = es; logs = ls } in
        let entries_are : run.entries ≡ reverse is.world.entries = entries ∙ ap reverse (sym is.all.stand.entries) in
        let logs_are : run.logs ≡ logs_from 0 s.clocks is.world.logs =
        logs ∙ (ap (λ (t : Scenario). logs_from 0 t.clocks hub.logs) is.all.scenario ∙ ap (logs_from 0 s.clocks) (sym is.all.stand.logs)) in
        ap (λ (es : List Entry). made es run.logs) entries_are ∙ ap (λ (ls : List Log). made (reverse is.world.entries) ls) logs_are

    -- it is legal where nobody has a step that is due
    pub run-legal : AreIdle hub actors → IsLegal s run
    run-legal idle = subst (IsLegal s) (sym run-is) (legal-at s is.world (record { is_right = is.right; are_named = is.named }) (no-candidate idle))

    -- it lies in windows
    pub run-in_windows : Continues s hub.entries → IsMadeBy s hub.windows hub.entries → IsWindowed s run
    run-in_windows continues made =
        let back : hub.entries ≡ reverse run.entries = sym (ap reverse entries ∙ reverse-reverse hub.entries) in
        by hub.windows is.windows.some (subst (λ (es : List Entry). IsMadeBy s hub.windows es) back made) is.windows.began is.windows.one
        (subst (Continues s) back continues)
      where
        by : (windows : List Window) → 0 < length windows → IsMadeBy s windows (reverse run.entries) → BeganEmpty windows → All (IsOneWindow s) windows → Continues s (reverse run.entries) → IsWindowed s run
        by [] some made began one continues = absurd (omega (arith, some))
        by (w ∷ former) some made began one continues = run-windowed s w former run is.rules continues made began one

    -- it is full where it has all entries and somebody has a step that is due
    pub run-full : Continues s hub.entries → IsMadeBy s hub.windows hub.entries → length hub.entries ≡ ENTRIES_MAX → IsSomebodyDue hub actors → IsFull s run
    run-full continues made full somebody =
        let least = somebody.least in
        let x = least.actor in
        let at = due_by_end-is hub.scenario (state_of hub.scenario hub.entries) x.who x.place somebody.tick least.due in
        let place : place_due s (state_of s is.world.entries) x.who x.place ≡ Some somebody.tick =
        subst (λ (es : List Entry). place_due s (state_of s es) x.who x.place ≡ Some somebody.tick) (sym is.all.stand.entries)
        (subst (λ (t : Scenario). place_due t (state_of t hub.entries) x.who x.place ≡ Some somebody.tick) is.all.scenario at.0) in
        let next = has-next s is.world is.right x.who x.place somebody.tick (is.all.stand.places least.index x least.there) place in
        let in_time = due-in_time hub x somebody.tick least.due in
        let duration = ap (λ (r : Scenario). r.options.duration) is.all.scenario in
        let tick = next.2 in
        let long = length-reverse hub.entries in
        let many = ap length entries in
        let back : is.world.entries ≡ reverse run.entries = is.all.stand.entries ∙ sym (ap reverse entries ∙ reverse-reverse hub.entries) in
        record {
          is_open = subst (IsOpen s) (sym run-is) (IsRight-open s is.world is.right);
          windowed = run-in_windows continues made;
          full = omega (arith, many, long, full);
          next = next.0;
          due = subst (λ (es : List Entry). IsDue s (state_of s es) next.0) back (next.1, omega (arith, tick, in_time, duration));
        }
