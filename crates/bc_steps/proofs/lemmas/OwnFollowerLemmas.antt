-- A follower that acts and the follower of the history that it is.
use Rattle.std.proofs.Common.{◌≡◌, ◌≢◌, ◌<◌, ◌≤◌, ℕ, ◌+◌, ◌*◌, Bool, true, false, cond, refl, sym, ap, subst, ◌∙◌, arith, List, [], ◌∷◌, length, filter, Option, Some, None, slice_get, option_map}
use Rattle.std.proofs.lemmas.Int.{ints}
use Rattle.ptp_base.specs.declared.limits.TheConstants.{CLOCKS_MAX, ENTRIES_MAX}
use Rattle.ptp_base.specs.declared.time.TheConstants.{TICK_MAX}
use Rattle.ptp_profile.specs.declared.roles.Lead.{Lead}
use Rattle.ptp_profile.specs.declared.timing.Action.{Action}
use Rattle.ptp_profile.specs.declared.timing.Action.TheVariants.{Unlocked as Unlocked_action, Jump, Locked}
use Rattle.ptp_profile.specs.Timing.Servo.{Sample, newest_action}
use Rattle.bc_history.specs.declared.entry.Entry.{Entry}
use Rattle.bc_history.specs.declared.entry.Outcome.{Outcome}
use Rattle.bc_history.specs.declared.entry.Seen.{Seen}
use Rattle.bc_history.specs.declared.entry.Who.TheVariants.{Follower as A_follower}
use Rattle.bc_history.specs.declared.place.FollowerPlace.{FollowerPlace}
use Rattle.bc_history.specs.declared.place.FollowerPlace.TheVariants.{Turns, ReadsTheirs, ReadsOwn, Exchanges, Samples}
use Rattle.bc_history.specs.declared.scenario.Options.{Options}
use Rattle.bc_history.specs.declared.scenario.Scenario.{Scenario}
use Rattle.bc_history.specs.Phases.OpeningState.{follower_count, servo_of}
use Rattle.bc_history.specs.Phases.State.{Follower, TickLead}
use Rattle.bc_history.specs.Phases.Step.{state_of}
use Rattle.bc_history.specs.Run.Actors.{entries_of}
use Rattle.bc_history.specs.Run.FollowerEntries.{is_turn_of, leading_by, turns_by}
use Rattle.bc_history.specs.Run.FollowerPlace.{FollowerStep, Read, Exchanged, after_follower_exchange, after_follower_reading, after_follower_step, follower_job, follower_place, follower_place_by_entries}
use Rattle.bc_history.specs.Run.History.{Continues}
use Rattle.bc_history.specs.Run.NextInputs.{turn_tick}
use Rattle.bc_history.specs.Run.Samples.{follower_samples, sample_of}
use Rattle.bc_history.specs.Run.World.{Of_follower, due_by_end, follower_due}
use Rattle.bc_history.specs.Scenario.OptionTable.{OptionIsFrom, option_table}
use Rattle.bc_history.specs.Scenario.ScenarioRules.{IsScenario}
use Rattle.bc_history.proofs.lemmas.FollowerEntriesLemmas.{follower_samples-own, leading_by-due, leading_by-own, place-by_lead, place-unled, turns_by-own}
use Rattle.bc_history.proofs.lemmas.FollowerPhaseLemmas.{followers-length, turns-state_of}
use Rattle.bc_history.proofs.lemmas.LeadLemmas.{follower_count-clocks, leading-ordered}
use Rattle.bc_history.proofs.lemmas.OptionRuleLemmas.{row_at}
use Rattle.hub_core.specs.HubView.{HubState}
use Rattle.bc_steps.specs.ActorView.{due_tick, IsLevel}
use Rattle.bc_steps.specs.FollowerActors.{IsFollowerActor, follower_actor_view, follower_history}
use Rattle.bc_steps.specs.FollowerJob.{follower_tick, turn_after}
use Rattle.bc_steps.specs.declared.follower.actor.FollowerActor.TheInside.{Inside}
use Rattle.bc_steps.proofs.lemmas.OwnPortLemmas.{by_end, there-at}

-- ---- the follower

-- the follower of a clock after a history
pub record OwnFollower (s : Scenario) (c : ℕ) (entries : List Entry) : Type 0 where
  pub follower : Follower
  pub there : slice_get (state_of s entries).followers c ≡ Some follower
  pub turns : follower.turns ≡ turns_by c entries

-- a clock with a follower has it
pub own-follower : (s : Scenario) (c : ℕ) (entries : List Entry) → c < follower_count s → OwnFollower s c entries
own-follower s c entries count =
    let many = followers-length s entries in
    let found = there-at (state_of s entries).followers c (omega (arith, many, count)) in
    record { follower = found.0; there = found.1; turns = turns-state_of s entries c found.0 found.1 }

-- the histories have the same entries of the follower
abbrev pub AreSameEntries : Inside → List Entry → Type 0
AreSameEntries i entries = entries_of (A_follower i.clock) entries ≡ entries_of (A_follower i.clock) (follower_history i)

-- so many turns were taken
pub turns-same : (i : Inside) (entries : List Entry) → IsFollowerActor i → AreSameEntries i entries → i.turns ≡ turns_by i.clock entries
turns-same i entries is same =
    is.turns_are ∙ (turns_by-own i.clock (follower_history i) ∙ (ap (λ (es : List Entry). turns_by i.clock es) (sym same)
    ∙ sym (turns_by-own i.clock entries)))

-- the samples are those of the follower's own entries
pub samples-alike : (i : Inside) (entries : List Entry) → AreSameEntries i entries
    → follower_samples i.clock (follower_history i) ≡ follower_samples i.clock entries
samples-alike i entries same =
    follower_samples-own i.clock (follower_history i) ∙ (ap (λ (es : List Entry). follower_samples i.clock es) (sym same)
    ∙ sym (follower_samples-own i.clock entries))

-- of a list at most all pass a test
filter-length : {X : Type 0} (test : X → Bool) (xs : List X) → length (filter test xs) ≤ length xs
filter-length test [] = omega arith
filter-length {X} test (x ∷ xs) = by (test x) (filter-length test xs)
  where
    by : (b : Bool) → length (filter test xs) ≤ length xs → length (cond b (x ∷ filter test xs) (filter test xs)) ≤ length (x ∷ xs)
    by true le = omega (arith, le)
    by false le = omega (arith, le)

-- no more turns than entries were taken
pub turns-few : (c : ℕ) (entries : List Entry) → turns_by c entries ≤ length entries
turns-few c entries = filter-length (λ (e : Entry). is_turn_of c e.input) entries

-- the turns of a follower that acts are few, and its interval is short
pub turns-within : (i : Inside) → IsFollowerActor i → i.turns ≤ ENTRIES_MAX
turns-within i is =
    let taken = is.turns_are in
    let few = turns-few i.clock (follower_history i) in
    let all = is.history.few in
    omega (arith, taken, few, all)

pub interval-within : (i : Inside) → IsFollowerActor i → i.interval ≤ 1000000000000
interval-within i is =
    let s = i.scenario.value in
    let most = row_at (OptionIsFrom s.options) option_table 19 _ is.rules.options refl in
    let of = is.interval_is in
    omega (arith, ints, of, most.1)

-- ---- when the next step is due

-- the tick of the next turn
pub turn-own : (i : Inside) (entries : List Entry) → IsFollowerActor i → AreSameEntries i entries
    → (own : OwnFollower i.scenario.value i.clock entries) → turn_tick i.scenario.value own.follower ≡ turn_after i.turns i.interval
turn-own i entries is same own =
    ap (λ n. (n + 1) * i.scenario.value.options.follow_interval) (own.turns ∙ sym (turns-same i entries is same))
    ∙ ap (λ n. (i.turns + 1) * n) (sym is.interval_is)

-- by the place
follower_due-at : (s : Scenario) (f : Follower) (place : FollowerPlace) → follower_due s f place ≡ follower_tick (turn_tick s f) place
follower_due-at s f Turns = refl
follower_due-at s f (ReadsTheirs tick lead) = refl
follower_due-at s f (ReadsOwn tick lead theirs) = refl
follower_due-at s f (Exchanges tick lead theirs own action) = refl
follower_due-at s f (Samples tick lead theirs own action outcome) = refl

-- the tick of the follower's next step
pub due-follower : (i : Inside) (entries : List Entry) → IsFollowerActor i → AreSameEntries i entries
    → due_by_end i.scenario.value (state_of i.scenario.value entries) (A_follower i.clock) (Of_follower i.place)
    ≡ by_end i.duration (Some (follower_tick (turn_after i.turns i.interval) i.place))
due-follower i entries is same =
    let s = i.scenario.value in
    let own = own-follower s i.clock entries is.there in
    ap (λ (o : Option Follower). by_end s.options.duration (option_map (λ (f : Follower). follower_due s f i.place) o)) own.there
    ∙ (ap (λ n. by_end s.options.duration (Some n)) (follower_due-at s own.follower i.place)
    ∙ (ap (λ n. by_end s.options.duration (Some (follower_tick n i.place))) (turn-own i entries is same own)
    ∙ ap (λ d. by_end d (Some (follower_tick (turn_after i.turns i.interval) i.place))) (sym is.duration_is)))

-- beside a hub
pub due-beside : (i : Inside) (hub : HubState) → IsFollowerActor i → IsLevel hub (follower_actor_view i)
    → by_end i.duration (Some (follower_tick (turn_after i.turns i.interval) i.place)) ≡ due_tick hub (follower_actor_view i)
due-beside i hub is level =
    sym (due-follower i hub.entries is level.entries)
    ∙ ap (λ (s : Scenario). due_by_end s (state_of s hub.entries) (A_follower i.clock) (Of_follower i.place)) level.scenario

-- ---- what it was told

-- a follower at a place was told this last, and exchanges what asks for something
abbrev pub IsAtLead : Option TickLead → FollowerPlace → Type 0
IsAtLead l Turns = l ≡ None
IsAtLead l (ReadsTheirs tick lead) = l ≡ Some (record { tick = tick; lead = lead })
IsAtLead l (ReadsOwn tick lead theirs) = l ≡ Some (record { tick = tick; lead = lead })
IsAtLead l (Exchanges tick lead theirs own action) = (l ≡ Some (record { tick = tick; lead = lead })) × (action ≢ Unlocked_action)
IsAtLead l (Samples tick lead theirs own action outcome) = l ≡ Some (record { tick = tick; lead = lead })

-- by its entries
lead-entries : (c : ℕ) (entries : List Entry) → IsAtLead (leading_by c entries) (follower_place_by_entries c entries)
lead-entries c entries = by (leading_by c entries) refl
  where
    by : (l : Option TickLead) → leading_by c entries ≡ l → IsAtLead l (follower_place_by_entries c entries)
    by None is = subst (IsAtLead None) (sym (place-unled c entries is)) refl
    by (Some l) is = subst (IsAtLead (Some l)) (sym (place-by_lead c entries l is)) refl

-- with its servo's action
lead-job : (l : Option TickLead) (tick : ℕ) (lead : Lead) (theirs own : Seen) (action : Action)
    → l ≡ Some (record { tick = tick; lead = lead }) → IsAtLead l (follower_job tick lead theirs own action)
lead-job l tick lead theirs own Unlocked_action is = is
lead-job l tick lead theirs own (Jump step freq) is = (is, λ same. cc)
lead-job l tick lead theirs own (Locked freq) is = (is, λ same. cc)

-- after a reading
lead-reading : (o : Options) (samples : List Sample) (l : Option TickLead) (seen : Seen) (place : FollowerPlace) → IsAtLead l place
    → IsAtLead l (after_follower_reading o samples seen place)
lead-reading o samples l seen Turns is = is
lead-reading o samples l seen (ReadsTheirs tick lead) is = is
lead-reading o samples l seen (ReadsOwn tick lead theirs) is =
    lead-job l tick lead theirs seen (newest_action (servo_of o) (sample_of lead theirs seen ∷ samples)) is
lead-reading o samples l seen (Exchanges tick lead theirs own action) is = is
lead-reading o samples l seen (Samples tick lead theirs own action outcome) is = is

-- after an exchange
lead-exchange : (l : Option TickLead) (outcome : Outcome) (place : FollowerPlace) → IsAtLead l place
    → IsAtLead l (after_follower_exchange outcome place)
lead-exchange l outcome Turns is = is
lead-exchange l outcome (ReadsTheirs tick lead) is = is
lead-exchange l outcome (ReadsOwn tick lead theirs) is = is
lead-exchange l outcome (Exchanges tick lead theirs own action) is = is.0
lead-exchange l outcome (Samples tick lead theirs own action former) is = is

-- after a step of its own
lead-step : (o : Options) (samples : List Sample) (l : Option TickLead) (step : FollowerStep) (place : FollowerPlace) → IsAtLead l place
    → IsAtLead l (after_follower_step o samples step place)
lead-step o samples l (Read seen) place is = lead-reading o samples l seen place is
lead-step o samples l (Exchanged outcome) place is = lead-exchange l outcome place is

-- and by its own steps since
lead-place : (o : Options) (c : ℕ) (entries : List Entry) (steps : List FollowerStep)
    → IsAtLead (leading_by c entries) (follower_place o c entries steps)
lead-place o c entries [] = lead-entries c entries
lead-place o c entries (step ∷ steps) =
    lead-step o (follower_samples c entries) (leading_by c entries) step (follower_place o c entries steps) (lead-place o c entries steps)

-- a follower that acts is at what it was told last
pub lead-history : (i : Inside) → IsFollowerActor i → IsAtLead (leading_by i.clock (follower_history i)) i.place
lead-history i is =
    subst (IsAtLead (leading_by i.clock (follower_history i))) (sym is.place_is)
    (lead-place i.scenario.value.options i.clock (follower_history i) is.steps)

-- so it is by other entries of which the same are its own
pub lead-own : (i : Inside) (entries : List Entry) → IsFollowerActor i → AreSameEntries i entries → IsAtLead (leading_by i.clock entries) i.place
lead-own i entries is same =
    let led : leading_by i.clock (follower_history i) ≡ leading_by i.clock entries =
    leading_by-own i.clock (follower_history i) ∙ (ap (λ (es : List Entry). leading_by i.clock es) (sym same) ∙ sym (leading_by-own i.clock entries)) in
    subst (λ (l : Option TickLead). IsAtLead l i.place) led (lead-history i is)

-- ---- what it may read

-- its lead's clock and its own are there, and the tick is one of the run
pub record CanRead (s : Scenario) (c tick : ℕ) (lead : Lead) : Type 0 where
  pub source : lead.source < length s.clocks
  pub small : lead.source < 128
  pub own : c < length s.clocks
  pub tick_is : tick ≤ TICK_MAX

-- where it was told a lead
can-read-told : (s : Scenario) → IsScenario s → (entries : List Entry) (c tick : ℕ) (lead : Lead) → Continues s entries → c < follower_count s
    → leading_by c entries ≡ Some (record { tick = tick; lead = lead }) → CanRead s c tick lead
can-read-told s is entries c tick lead continues count told =
    let l : TickLead = record { tick = tick; lead = lead } in
    let ordered = leading-ordered s is entries c l continues told in
    let due = leading_by-due s c entries l continues told in
    let most = row_at (OptionIsFrom s.options) option_table 17 _ is.options refl in
    let many = follower_count-clocks s in
    let few : length s.clocks ≤ CLOCKS_MAX = is.clock_count.1 in
    let source = ordered.source in
    record {
      source = source;
      small = omega (arith, source, few);
      own = omega (arith, count, many);
      tick_is = omega (arith, ints, due, most.1);
    }

-- a follower that acts
pub can-read : (i : Inside) (tick : ℕ) (lead : Lead) → IsFollowerActor i
    → leading_by i.clock (follower_history i) ≡ Some (record { tick = tick; lead = lead }) → CanRead i.scenario.value i.clock tick lead
can-read i tick lead is told =
    can-read-told i.scenario.value is.rules (follower_history i) i.clock tick lead is.history.continues is.there told

-- in the scenario of a hub
pub can-read-beside : (i : Inside) (hub : HubState) (tick : ℕ) (lead : Lead) → IsFollowerActor i → IsLevel hub (follower_actor_view i)
    → leading_by i.clock (follower_history i) ≡ Some (record { tick = tick; lead = lead }) → CanRead hub.scenario i.clock tick lead
can-read-beside i hub tick lead is level told =
    subst (λ (s : Scenario). CanRead s i.clock tick lead) level.scenario (can-read i tick lead is told)
