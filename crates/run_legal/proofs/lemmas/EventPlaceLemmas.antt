-- An actor that made an entry is where its entries put it, and may be there.
use Rattle.std.proofs.Common.{◌≡◌, ◌≤◌, ◌<◌, ◌+◌, ℕ, zero, suc, Bool, true, false, cond, eqb, eq-eqb, inl, inr, refl, sym, ap, ◌∙◌, subst, arith, List, [], ◌∷◌, length, map, Option, Some, None}
use Rattle.std.specs.Prelude.{◌⊎◌, ◌==◌, Contains, filter, nat_le, slice_get}
use Rattle.std.proofs.lemmas.Bool.{false≢true}
use Rattle.std.proofs.lemmas.List.Elements.{All-nil, Contains-append_right}
use Rattle.std.proofs.lemmas.Option.{slice_get_within}
use Rattle.ptp_profile.specs.declared.roles.RoleOrder.{RoleOrder}
use Rattle.ptp_profile.specs.declared.seats.Held.{Held}
use Rattle.ptp_profile.specs.declared.seats.LogEntry.{LogEntry}
use Rattle.ptp_profile.specs.declared.seats.LogEntry.TheVariants.{Order}
use Rattle.ptp_profile.specs.declared.timing.Action.{Action}
use Rattle.ptp_profile.specs.declared.timing.Action.TheVariants.{Unlocked as Unlocked_action, Jump, Locked}
use Rattle.ptp_profile.specs.Roles.SeatLogs.{HasOrder, is_order, log_at, order_entry, orders_for}
use Rattle.ptp_profile.specs.Timing.Servo.{newest_action}
use Rattle.bc_history.specs.declared.entry.Entry.{Entry}
use Rattle.bc_history.specs.declared.entry.Input.TheVariants.{Report}
use Rattle.bc_history.specs.declared.entry.Outcome.{Outcome}
use Rattle.bc_history.specs.declared.entry.Outcome.TheVariants.{Unlocked}
use Rattle.bc_history.specs.declared.entry.Who.TheVariants.{Port as A_port}
use Rattle.bc_history.specs.declared.place.FollowerPlace.{FollowerPlace}
use Rattle.bc_history.specs.declared.place.PortPlace.{PortPlace}
use Rattle.bc_history.specs.declared.place.PortPlace.TheVariants.{Waits, Exchanges, Reports}
use Rattle.bc_history.specs.declared.scenario.Options.{Options}
use Rattle.bc_history.specs.declared.scenario.Scenario.{Scenario}
use Rattle.bc_history.specs.Phases.HubPort.{TickMeasure}
use Rattle.bc_history.specs.Phases.OpeningState.{follower_count, servo_of}
use Rattle.bc_history.specs.Phases.State.{Follower, TickLead}
use Rattle.bc_history.specs.Phases.Step.{state_of}
use Rattle.bc_history.specs.Run.FollowerEntries.{leading_by}
use Rattle.bc_history.specs.Run.FollowerPlace.{follower_place_by_entries}
use Rattle.bc_history.specs.Run.PortEntries.{measured_by}
use Rattle.bc_history.specs.Run.PortPlace.{after_port_exchange, place_by_entries, port_job, port_place}
use Rattle.bc_history.specs.Run.Samples.{port_samples}
use Rattle.bc_history.specs.Run.World.{World}
use Rattle.bc_history.specs.Scenario.ScenarioRules.{IsScenario}
use Rattle.bc_history.proofs.lemmas.FollowerEntriesLemmas.{place-by_lead, place-unled}
use Rattle.bc_history.proofs.lemmas.FollowerPhaseLemmas.{followers-length, leading-state_of}
use Rattle.bc_history.proofs.lemmas.LeadLemmas.{leading-ordered}
use Rattle.bc_history.proofs.lemmas.MeasureLemmas.{place-by_measure, place-unmeasured}
use Rattle.run_legal.specs.Runs.Courses.{AreLogs, IsCourse}
use Rattle.run_legal.specs.Runs.WorldInvariant.{IsFollowerPlaced, IsPortPlaced}
use Rattle.run_legal.proofs.lemmas.CourseLemmas.{actors_rise}
use Rattle.run_legal.proofs.lemmas.EnteredPlaceLemmas.{unread-known}
use Rattle.run_legal.proofs.lemmas.PortExchangeLemmas.{log-there}

-- ---- a port's place and its last measure

-- what a place says of the measure whose job a port is in
abbrev pub IsAtJob : Action → Option TickMeasure → PortPlace → Type 0
IsAtJob asked m Waits = m ≡ None
IsAtJob asked m (Exchanges tick held action) =
    (x : TickMeasure) × (m ≡ Some x) × (tick ≡ x.tick) × (held ≡ x.held) × (action ≡ asked)
IsAtJob asked m (Reports tick gener action outcome) =
    (x : TickMeasure) × (m ≡ Some x) × (tick ≡ x.tick) × (gener ≡ x.held.gener) × (action ≡ asked)

-- the job that its servo's action leads to
job-by : (x : TickMeasure) (asked action : Action) → action ≡ asked → IsAtJob asked (Some x) (port_job x.tick x.held action)
job-by x asked Unlocked_action is = (x, refl, refl, refl, is)
job-by x asked (Jump step freq) is = (x, refl, refl, refl, is)
job-by x asked (Locked freq) is = (x, refl, refl, refl, is)

-- the action that the servo asks for after a port's samples
abbrev pub asked_of : Options → ℕ → List Entry → Action
asked_of o p entries = newest_action (servo_of o) (port_samples p entries)

-- by the port's own entries
pub job-entries : (o : Options) (p : ℕ) (entries : List Entry) → IsAtJob (asked_of o p entries) (measured_by p entries) (place_by_entries o p entries)
job-entries o p entries = by (measured_by p entries) refl
  where
    by : (m : Option TickMeasure) → measured_by p entries ≡ m → IsAtJob (asked_of o p entries) m (place_by_entries o p entries)
    by None is = subst (IsAtJob (asked_of o p entries) None) (sym (place-unmeasured o p entries is)) refl
    by (Some x) is =
        subst (IsAtJob (asked_of o p entries) (Some x)) (sym (place-by_measure o p entries x is)) (job-by x (asked_of o p entries) (asked_of o p entries) refl)

-- an exchange stays in the job
job-exchanged : (asked : Action) (m : Option TickMeasure) (place : PortPlace) (outcome : Outcome) → IsAtJob asked m place → IsAtJob asked m (after_port_exchange outcome place)
job-exchanged asked m Waits outcome job = job
job-exchanged asked m (Exchanges tick held action) outcome (x, is, at, holds, asks) = (x, is, at, ap (λ (h : Held). h.gener) holds, asks)
job-exchanged asked m (Reports tick gener action former) outcome job = job

-- and by its own exchanges since
pub job-place : (o : Options) (p : ℕ) (entries : List Entry) (exchanges : List Outcome)
    → IsAtJob (asked_of o p entries) (measured_by p entries) (port_place o p entries exchanges)
job-place o p entries [] = job-entries o p entries
job-place o p entries (outcome ∷ exchanges) =
    job-exchanged (asked_of o p entries) (measured_by p entries) (port_place o p entries exchanges) outcome (job-place o p entries exchanges)

-- ---- a port that made an entry

-- without an exchange a port reports that its servo asked for nothing
abbrev IsUnasked : PortPlace → Type 0
IsUnasked Waits = Unit {0}
IsUnasked (Exchanges tick held action) = Unit {0}
IsUnasked (Reports tick gener action outcome) = (action ≡ Unlocked_action) × (outcome ≡ Unlocked)

-- so it does after a measure
unasked-job : (tick : ℕ) (held : Held) (action : Action) → IsUnasked (port_job tick held action)
unasked-job tick held Unlocked_action = (refl, refl)
unasked-job tick held (Jump step freq) = tt
unasked-job tick held (Locked freq) = tt

-- and by its entries
unasked-entries : (o : Options) (p : ℕ) (entries : List Entry) → IsUnasked (place_by_entries o p entries)
unasked-entries o p entries = by (measured_by p entries) refl
  where
    by : (m : Option TickMeasure) → measured_by p entries ≡ m → IsUnasked (place_by_entries o p entries)
    by None is = subst IsUnasked (sym (place-unmeasured o p entries is)) tt
    by (Some x) is = subst IsUnasked (sym (place-by_measure o p entries x is)) (unasked-job x.tick x.held (asked_of o p entries))

-- a port may be where its entries put it
pub port-by_entries : (s : Scenario) (w : World) → IsCourse s w.entries w.logs → (p : ℕ) (place : PortPlace) → place_by_entries s.options p w.entries ≡ place → IsPortPlaced s w p place
port-by_entries s w course p Waits is = is
port-by_entries s w course p (Exchanges tick held action) is = is
port-by_entries s w course p (Reports tick gener action outcome) is =
    by action outcome is (subst IsUnasked is (unasked-entries s.options p w.entries))
  where
    by : (action : Action) (outcome : Outcome) → place_by_entries s.options p w.entries ≡ Reports tick gener action outcome → (action ≡ Unlocked_action) × (outcome ≡ Unlocked)
        → IsPortPlaced s w p (Reports tick gener action outcome)
    by Unlocked_action Unlocked is none = record {
      exchanges = [];
      place = is;
      agreed = refl;
      abreast = record {
        rising = actors_rise s w.logs (A_port p) w.entries course.numbers;
        within = All-nil _;
        told = All-nil _;
        read = unread-known s w.logs (Report p tick gener Unlocked_action Unlocked) w.entries;
      };
    }
    by Unlocked_action outcome is none = let no = none.1 in absurd (cc)
    by action outcome is none = let no = none.0 in absurd (cc)

-- ---- an order in its log

-- what a list has is its first or is behind it
contains-after : {X : Type 0} (x y : X) (xs : List X) → Contains (x ∷ xs) y → (x ≡ y) ⊎ Contains xs y
contains-after x y xs (zero, lt, is) = inl is
contains-after x y xs (suc i, lt, is) = inr (i, omega (arith, lt), is)

-- the order of a clock is among those for it
contains-for : (clock gener ctrl : ℕ) (orders : List RoleOrder) → Contains orders (record { clock = clock; gener = gener; ctrl = ctrl }) → HasOrder (orders_for clock orders) gener ctrl
contains-for clock gener ctrl [] (i, lt, is) = absurd (omega (arith, lt))
contains-for clock gener ctrl (order ∷ orders) has =
    by (eqb order.clock clock) refl (contains-after order (record { clock = clock; gener = gener; ctrl = ctrl }) orders has) (contains-for clock gener ctrl orders)
  where
    by : (b : Bool) → eqb order.clock clock ≡ b → (order ≡ record { clock = clock; gener = gener; ctrl = ctrl }) ⊎ Contains orders (record { clock = clock; gener = gener; ctrl = ctrl })
        → (Contains orders (record { clock = clock; gener = gener; ctrl = ctrl }) → HasOrder (orders_for clock orders) gener ctrl)
        → HasOrder (map order_entry (cond b (order ∷ filter (λ (o : RoleOrder). o.clock == clock) orders) (filter (λ (o : RoleOrder). o.clock == clock) orders))) gener ctrl
    by true here (inl same) rest = (0, omega arith, ap order_entry same)
    by true here (inr more) rest = Contains-append_right (order_entry order ∷ []) (orders_for clock orders) (Order gener ctrl) (rest more)
    by false other (inl same) rest = absurd (false≢true (sym other ∙ eq-eqb order.clock clock (ap (λ (o : RoleOrder). o.clock) same)))
    by false other (inr more) rest = rest more

-- what is among those that pass a test is among all
contains-unfiltered : {X : Type 0} (test : X → Bool) (xs : List X) (y : X) → Contains (filter test xs) y → Contains xs y
contains-unfiltered test [] y has = has
contains-unfiltered {X} test (x ∷ xs) y has = by (test x) has (contains-unfiltered test xs y)
  where
    by : (b : Bool) → Contains (cond b (x ∷ filter test xs) (filter test xs)) y → (Contains (filter test xs) y → Contains xs y) → Contains (x ∷ xs) y
    by false more rest = Contains-append_right (x ∷ []) xs y (rest more)
    by true has rest = by_place (contains-after x y (filter test xs) has)
      where
        by_place : (x ≡ y) ⊎ Contains (filter test xs) y → Contains (x ∷ xs) y
        by_place (inl same) = (0, omega arith, same)
        by_place (inr more) = Contains-append_right (x ∷ []) xs y (rest more)

-- an order of the history stands in its clock's log
order-logged : (s : Scenario) (entries : List Entry) (logs : List (List LogEntry)) → AreLogs s entries logs → (clock gener ctrl : ℕ) → clock < length s.clocks
    → Contains (state_of s entries).roles.orders (record { clock = clock; gener = gener; ctrl = ctrl }) → HasOrder (log_at logs clock) gener ctrl
order-logged s entries logs are clock gener ctrl within has =
    let inside : clock < length logs = omega (arith, within, are.number) in
    let lawful = are.lawful clock (log_at logs clock) (log-there logs clock inside) in
    contains-unfiltered is_order (log_at logs clock) (Order gener ctrl)
    (subst (λ (es : List LogEntry). HasOrder es gener ctrl) (sym lawful.orders_are) (contains-for clock gener ctrl (state_of s entries).roles.orders has))

-- ---- a follower that made an entry

-- a scenario has no more followers than clocks
follower_count-few : (s : Scenario) → follower_count s ≤ length s.clocks
follower_count-few s = by (nat_le 2 (length s.clocks))
  where
    by : (b : Bool) → cond b (length s.clocks) 0 ≤ length s.clocks
    by true = omega arith
    by false = omega arith

-- a follower that is there has a clock
pub follower-within : (s : Scenario) (entries : List Entry) (c : ℕ) (f : Follower) → slice_get (state_of s entries).followers c ≡ Some f → c < length s.clocks
follower-within s entries c f there =
    let inside = slice_get_within (state_of s entries).followers c f there in
    let few = follower_count-few s in
    omega (arith, inside, followers-length s entries, few)

-- a follower may be where its entries put it
pub follower-by_entries : (s : Scenario) → IsScenario s → (w : World) → IsCourse s w.entries w.logs → (c : ℕ) (f : Follower) → slice_get (state_of s w.entries).followers c ≡ Some f
    → (place : FollowerPlace) → follower_place_by_entries c w.entries ≡ place → IsFollowerPlaced s w c f place
follower-by_entries s is w course c f there place at = by (leading_by c w.entries) refl
  where
    leads : f.leading ≡ leading_by c w.entries
    leads = leading-state_of s w.entries course.history c f there

    by : (o : Option TickLead) → leading_by c w.entries ≡ o → IsFollowerPlaced s w c f place
    by None none =
        subst (IsFollowerPlaced s w c f) (sym (place-unled c w.entries none) ∙ at) (leads ∙ none)
    by (Some l) some =
        let ordered = leading-ordered s is w.entries c l course.history some in
        subst (IsFollowerPlaced s w c f) (sym (place-by_lead c w.entries l some) ∙ at)
        (leads ∙ some, order-logged s w.entries w.logs course.lawful c l.lead.gener (128 + l.lead.source) (follower-within s w.entries c f there) ordered.ordered)
