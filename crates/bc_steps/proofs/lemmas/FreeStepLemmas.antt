-- An exchange of an actor is its step of the World.
use Rattle.std.proofs.Common.{◌≡◌, ◌≢◌, ◌≤◌, ◌<◌, ◌⊎◌, ℕ, zero, suc, Bool, true, false, cond, refl, sym, ap, subst, ◌∙◌, arith, inl, inr, List, [], ◌∷◌, length, map, filter, Option, Some, None, slice_get, option_map, option_and_then, eq-eqb, ⊎_elim}
use Rattle.std.specs.Prelude.{Contains, slice_set, ◌==◌}
use Rattle.std.proofs.lemmas.Int.{ints}
use Rattle.std.proofs.lemmas.Option.{get_or_from_slice_get, same_Some, slice_get_within}
use Rattle.ptp_base.specs.declared.port_conf.PortConf.{PortConf}
use Rattle.ptp_base.specs.declared.time.TheConstants.{TICK_MAX}
use Rattle.ptp_profile.specs.declared.roles.RoleOrder.{RoleOrder}
use Rattle.ptp_profile.specs.declared.seats.Held.{Held}
use Rattle.ptp_profile.specs.declared.seats.LogEntry.{LogEntry}
use Rattle.ptp_profile.specs.declared.seats.LogEntry.TheVariants.{Order}
use Rattle.ptp_profile.specs.declared.timing.Action.{Action}
use Rattle.ptp_profile.specs.declared.timing.Action.TheVariants.{Unlocked}
use Rattle.ptp_profile.specs.Roles.SeatLogs.{is_order, log_at, order_entry, orders_for, AreLawful, HasOrder, IsLawful}
use Rattle.ptp_profile.proofs.lemmas.MemberLemmas.{Has, contains_from_has, has_from_contains}
use Rattle.bc_history.specs.declared.entry.Entry.{Entry}
use Rattle.bc_history.specs.declared.entry.Outcome.{Outcome}
use Rattle.bc_history.specs.declared.entry.Who.TheVariants.{Port}
use Rattle.bc_history.specs.declared.place.PortPlace.{PortPlace}
use Rattle.bc_history.specs.declared.place.PortPlace.TheVariants.{Exchanges, Reports}
use Rattle.bc_history.specs.declared.scenario.Scenario.{Scenario}
use Rattle.bc_history.specs.Phases.HubPort.{HubPort}
use Rattle.bc_history.specs.Phases.Inputs.{at_port, changed_at, port_at}
use Rattle.bc_history.specs.Phases.Step.{state_of}
use Rattle.bc_history.specs.Run.ExchangeOutcomes.{exchange_result}
use Rattle.bc_history.specs.Run.History.{Continues}
use Rattle.bc_history.specs.Run.PortEntries.{measured_by, IsHeldByPort}
use Rattle.bc_history.specs.Run.PortPlace.{after_port_exchange}
use Rattle.bc_history.specs.Run.World.{Free, Of_port, Place, World, port_step, step_from, step_of}
use Rattle.bc_history.specs.Scenario.OptionTable.{OptionIsFrom, option_table}
use Rattle.bc_history.specs.Scenario.ScenarioRules.{IsScenario}
use Rattle.bc_history.proofs.lemmas.MeasureLemmas.{measured_by-due}
use Rattle.bc_history.proofs.lemmas.OptionRuleLemmas.{row_at}
use Rattle.bc_history.proofs.lemmas.StampLemmas.{IsHeldByPort-somebody, kept-stamp}
use Rattle.hub_core.specs.HubView.{HubState}
use Rattle.bc_steps.specs.PortActors.{IsPortActor, port_actor_view}
use Rattle.bc_steps.specs.ActorView.{ActorState, IsIn, IsLevel}
use Rattle.bc_steps.specs.ExchangeBounds.{outcome_at, with_exchange}
use Rattle.bc_steps.specs.declared.port.actor.PortActor.TheInside.{Inside}
use Rattle.bc_steps.proofs.lemmas.PortEventLemmas.{IsAtJob, job-own}
use Rattle.bc_steps.proofs.lemmas.OwnPortLemmas.{AreSameOwn, OwnPort, own-port, there-at}

-- ---- members

-- by whether the first passes the test
has-filter-by : {X : Type 0} (b : Bool) (y : X) (ys passed : List X) (x : X) → (Has passed x → Has ys x)
    → Has (cond b (y ∷ passed) passed) x → (y ≡ x) ⊎ Has ys x
has-filter-by true y ys passed x rest found = ⊎_elim (λ same. inl same) (λ more. inr (rest more)) found
has-filter-by false y ys passed x rest found = inr (rest found)

-- a member of what passes a test is a member
has-filter : {X : Type 0} (test : X → Bool) (xs : List X) (x : X) → Has (filter test xs) x → Has xs x
has-filter test [] x h = h
has-filter test (y ∷ ys) x h = has-filter-by (test y) y ys (filter test ys) x (has-filter test ys x) h

-- by whether the first order is for the clock
has-order-by : (b : Bool) (o wanted : RoleOrder) (os passed : List RoleOrder) → (o ≡ wanted → b ≡ true)
    → (Has os wanted → Has (map order_entry passed) (order_entry wanted)) → (o ≡ wanted) ⊎ Has os wanted
    → Has (map order_entry (cond b (o ∷ passed) passed)) (order_entry wanted)
has-order-by true o wanted os passed mine rest found = ⊎_elim (λ same. inl (ap order_entry same)) (λ more. inr (rest more)) found
has-order-by false o wanted os passed mine rest found =
    ⊎_elim (λ same. let no : false ≡ true = mine same in absurd (cc)) (λ more. rest more) found

-- the entry of an order for the clock
has-order : (wanted : RoleOrder) (orders : List RoleOrder) → Has orders wanted → Has (orders_for wanted.clock orders) (order_entry wanted)
has-order wanted [] h = h
has-order wanted (o ∷ os) h =
    has-order-by (o.clock == wanted.clock) o wanted os (filter (λ (x : RoleOrder). x.clock == wanted.clock) os)
    (λ same. eq-eqb o.clock wanted.clock (ap (λ (x : RoleOrder). x.clock) same)) (has-order wanted os) h

-- an order of the history stands in the log of its clock
pub log-has_order : (clock gener ctrl : ℕ) (orders : List RoleOrder) (logs : List (List LogEntry)) → AreLawful orders logs → clock < length logs
    → Contains orders (record { clock = clock; gener = gener; ctrl = ctrl }) → HasOrder (log_at logs clock) gener ctrl
log-has_order clock gener ctrl orders logs lawful there ordered =
    let found = there-at logs clock there in
    let log : List LogEntry = found.0 in
    let right : IsLawful clock orders log = lawful clock log found.1 in
    let wanted : RoleOrder = record { clock = clock; gener = gener; ctrl = ctrl } in
    let member = has-order wanted orders (has_from_contains orders wanted ordered) in
    let in_log = has-filter is_order log (Order gener ctrl) (subst (λ (xs : List LogEntry). Has xs (Order gener ctrl)) (sym right.orders_are) member) in
    let at : log_at logs clock ≡ log = get_or_from_slice_get logs clock log [] found.1 in
    subst (λ (xs : List LogEntry). HasOrder xs gener ctrl) (sym at) (contains_from_has log (Order gener ctrl) in_log)

-- ---- what the exchange asks

-- the clock of a port is there
placed-at : (s : Scenario) → IsScenario s → (p : ℕ) (conf : PortConf) → port_at s.ports p ≡ Some conf → conf.clock < length s.clocks
placed-at s is zero conf there = absurd (cc)
placed-at s is (suc k) conf there =
    let lt = slice_get_within s.ports k conf there in
    let at = is.placed k conf lt in
    subst (λ (c : PortConf). c.clock < length s.clocks) (get_or_from_slice_get s.ports k conf conf there) at

-- an actor at an exchange holds its clock
pub record HoldsClock (s : Scenario) (hub : HubState) (tick : ℕ) (held : Held) (action : Action) : Type 0 where
  pub asks : action ≢ Unlocked
  pub there : held.clock < length s.clocks
  pub somebody : held.ctrl ≢ 0
  pub ordered : HasOrder (log_at hub.logs held.clock) held.gener held.ctrl
  pub tick_is : tick ≤ TICK_MAX

holds-own : (i : Inside) (hub : HubState) (tick : ℕ) (held : Held) (action : Action) → IsPortActor i → AreSameOwn i hub.entries
    → Continues i.scenario.value hub.entries → AreLawful (state_of i.scenario.value hub.entries).roles.orders hub.logs
    → length hub.logs ≡ length i.scenario.value.clocks → i.place ≡ Exchanges tick held action
    → HoldsClock i.scenario.value hub tick held action
holds-own i hub tick held action is same continues lawful long place =
    let s = i.scenario.value in
    let job = subst (IsAtJob (measured_by i.number hub.entries)) place (job-own i hub.entries is same) in
    let x = job.0 in
    let stamp = subst (IsHeldByPort s (state_of s hub.entries).roles.orders i.number) (sym job.3)
    (kept-stamp s is.rules hub.entries i.number x continues job.1) in
    let there = subst (λ n. n < length s.clocks) (sym stamp.clock) (placed-at s is.rules i.number stamp.conf stamp.there) in
    let due = measured_by-due s i.number hub.entries x continues job.1 in
    let most = row_at (OptionIsFrom s.options) option_table 17 _ is.rules.options refl in
    record {
      asks = job.4;
      there = there;
      somebody = IsHeldByPort-somebody s (state_of s hub.entries).roles.orders i.number held stamp;
      ordered =
          log-has_order held.clock held.gener held.ctrl (state_of s hub.entries).roles.orders hub.logs lawful
          (subst (λ n. held.clock < n) (sym long) there) stamp.ordered;
      tick_is = omega (arith, ints, job.2, due, most.1);
    }

-- beside the hub
pub holds-clock : (i : Inside) (a : ActorState) (hub : HubState) (tick : ℕ) (held : Held) (action : Action) → IsPortActor i → port_actor_view i ≡ a
    → IsLevel hub a → Continues hub.scenario hub.entries → AreLawful (state_of hub.scenario hub.entries).roles.orders hub.logs
    → length hub.logs ≡ length hub.scenario.clocks → i.place ≡ Exchanges tick held action
    → HoldsClock hub.scenario hub tick held action
holds-clock i a hub tick held action is view level continues lawful long place =
    let level_of : IsLevel hub (port_actor_view i) = subst (IsLevel hub) (sym view) level in
    let back = λ (P : Scenario → Type 0) (x : P hub.scenario). subst P (sym level_of.scenario) x in
    subst (λ (s : Scenario). HoldsClock s hub tick held action) level_of.scenario
    (holds-own i hub tick held action is level_of.entries (back (λ s. Continues s hub.entries) continues)
    (back (λ s. AreLawful (state_of s hub.entries).roles.orders hub.logs) lawful) (back (λ s. length hub.logs ≡ length s.clocks) long) place)

-- the port of the actor beside the hub
pub own-port-beside : (i : Inside) (a : ActorState) (hub : HubState) → IsPortActor i → port_actor_view i ≡ a → IsLevel hub a
    → OwnPort hub.scenario i.number hub.entries
own-port-beside i a hub is view level =
    let level_of : IsLevel hub (port_actor_view i) = subst (IsLevel hub) (sym view) level in
    subst (λ (s : Scenario). OwnPort s i.number hub.entries) level_of.scenario
    (own-port i.scenario.value i.number hub.entries is.first is.there)

-- ---- the actor after it

-- it reports what the exchange gave
pub actor-exchanged : (i j : Inside) (tick : ℕ) (held : Held) (action : Action) (outcome : Outcome) → IsPortActor i
    → i.place ≡ Exchanges tick held action
    → j ≡ record i { place = Reports tick held.gener action outcome } → IsPortActor j
actor-exchanged i j tick held action outcome is place made =
    subst IsPortActor (sym made) (record {
      rules = is.rules;
      first = is.first;
      there = is.there;
      history = is.history;
      exchanges = outcome ∷ is.exchanges;
      place_is = ap (after_port_exchange outcome) (sym place ∙ is.place_is);
      askable = tt;
      servo = is.servo;
      records = is.records;
      duration_is = is.duration_is;
    })

-- ---- the step

-- where a port of the World is
place-within : (o : Option PortPlace) (place : PortPlace) → option_map (λ (x : PortPlace). Of_port x) o ≡ Some (Of_port place)
    → o ≡ Some place
place-within None place is = cc
place-within (Some x) place is = let same : Of_port x ≡ Of_port place = same_Some (Of_port x) (Of_port place) is in cc

-- a change of a known element
pub changed-known : {X : Type 0} (change : X → X) (k : ℕ) (xs : List X) (x : X) → slice_get xs k ≡ Some x
    → changed_at change k xs ≡ changed_at (λ former. change x) k xs
changed-known change k [] x there = refl
changed-known change zero (y ∷ ys) x there = ap (λ z. change z ∷ ys) (same_Some y x there)
changed-known change (suc k) (y ∷ ys) x there = ap (λ zs. y ∷ zs) (changed-known change k ys x there)

port-known : (change : PortPlace → PortPlace) (p : ℕ) (xs : List PortPlace) (x : PortPlace) → port_at xs p ≡ Some x
    → at_port change p xs ≡ at_port (λ former. change x) p xs
port-known change zero xs x there = refl
port-known change (suc k) xs x there = changed-known change k xs x there

-- the World after the exchange of a port
abbrev after_exchange_in : World → ℕ → List (List LogEntry) → PortPlace → World
after_exchange_in w p logs place = record {
  entries = w.entries;
  logs = logs;
  ports = at_port (λ former. place) p w.ports;
  followers = w.followers;
}

-- the exchange of the actor is its step
pub free-step : (i : Inside) (w : World) (hub new : HubState) (tick : ℕ) (held : Held) (action : Action) (outcome : Outcome)
    → OwnPort hub.scenario i.number hub.entries → IsIn w hub (port_actor_view i) → i.place ≡ Exchanges tick held action
    → new ≡ with_exchange hub held tick action → outcome ≡ outcome_at hub held tick action
    → step_of hub.scenario w (Port i.number)
    ≡ Some (Free (record (after_exchange_in w i.number new.logs (Reports tick held.gener action outcome)) { entries = new.entries }))
free-step i w hub new tick held action outcome own in_world place made gave =
    let s = hub.scenario in
    let rows = s.options.seat_rows in
    let found : port_at w.ports i.number ≡ Some (Exchanges tick held action) =
    place-within (port_at w.ports i.number) (Exchanges tick held action) (in_world.place ∙ ap (λ (x : PortPlace). Some (Of_port x)) place) in
    let reports : Outcome → PortPlace = λ x. Reports tick held.gener action x in
    let world : List (List LogEntry) → List PortPlace → World = λ ls ps. record { entries = w.entries; logs = ls; ports = ps; followers = w.followers } in
    let logs : List (List LogEntry) → List (List LogEntry) = λ ls. slice_set ls held.clock (exchange_result rows held tick action (log_at ls held.clock)).1 in
    let given : List (List LogEntry) → Outcome = λ ls. (exchange_result rows held tick action (log_at ls held.clock)).0 in
    let ports : Outcome → List PortPlace = λ x. at_port (λ former. reports x) i.number w.ports in
    ap (λ (o : Option Place). option_and_then (λ at. step_from s w (Port i.number) at) o)
    (in_world.place ∙ ap (λ (x : PortPlace). Some (Of_port x)) place)
    ∙ ap (λ (es : List Entry). option_and_then (λ (h : HubPort). port_step s w i.number h (Exchanges tick held action)) (port_at (state_of s es).core.ports i.number))
    in_world.entries
    ∙ ap (λ (o : Option HubPort). option_and_then (λ (h : HubPort). port_step s w i.number h (Exchanges tick held action)) o) own.there
    ∙ ap (λ (ps : List PortPlace). Some (Free (world (logs w.logs) ps)))
    (port-known (after_port_exchange (given w.logs)) i.number w.ports (Exchanges tick held action) found)
    ∙ ap (λ (ls : List (List LogEntry)). Some (Free (world (logs ls) (ports (given ls))))) in_world.logs
    ∙ ap (λ (x : Outcome). Some (Free (world (logs hub.logs) (ports x)))) (sym gave)
    ∙ ap (λ (ls : List (List LogEntry)). Some (Free (world ls (ports outcome)))) (sym (ap (λ (h : HubState). h.logs) made))
    ∙ ap (λ (es : List Entry). Some (Free (record (world new.logs (ports outcome)) { entries = es })))
    (in_world.entries ∙ sym (ap (λ (h : HubState). h.entries) made))
