-- An actor and the port of the history that it is.
use Rattle.std.proofs.Common.{◌≡◌, ◌<◌, ◌≤◌, ℕ, zero, suc, ◌-◌, true, false, cond, refl, sym, ap, subst, ◌∙◌, arith, List, [], ◌∷◌, ◌++◌, length, reverse, drop, Option, Some, None, slice_get, option_map, option_and_then, leb, le-leb}
use Rattle.std.proofs.lemmas.Bool.{lt-leb}
use Rattle.std.proofs.lemmas.List.{length-reverse, reverse-append}
use Rattle.ptp_profile.specs.declared.port_event.Timer.{Timer}
use Rattle.ptp_profile.specs.Port.PortTimers.{due_of}
use Rattle.bc_history.specs.declared.entry.Entry.{Entry}
use Rattle.bc_history.specs.declared.entry.Who.TheVariants.{Port}
use Rattle.bc_history.specs.declared.place.PortPlace.{PortPlace}
use Rattle.bc_history.specs.declared.place.PortPlace.TheVariants.{Waits, Exchanges, Reports}
use Rattle.bc_history.specs.declared.scenario.Record.{Record}
use Rattle.bc_history.specs.declared.scenario.Scenario.{Scenario}
use Rattle.bc_history.specs.Phases.HubPort.{HubPort}
use Rattle.bc_history.specs.Phases.Inputs.{port_at, tick_of}
use Rattle.bc_history.specs.Phases.Step.{state_of}
use Rattle.bc_history.specs.Run.Actors.{entries_of}
use Rattle.bc_history.specs.Run.NextInputs.{next_input, record_or_timer, records_of}
use Rattle.bc_history.specs.Run.PortEntries.{taken_by}
use Rattle.bc_history.specs.Run.World.{Of_port, due_by_end, port_due}
use Rattle.bc_history.proofs.lemmas.PortEntriesLemmas.{taken-state_of, taken_by-own}
use Rattle.bc_history.proofs.lemmas.PortIdentityLemmas.{port-state_of, ports-length}
use Rattle.hub_core.specs.HubView.{HubState}
use Rattle.bc_steps.specs.ActorView.{ActorState, due_tick, IsLevel}
use Rattle.bc_steps.specs.PortActors.{IsPortActor, port_actor_view, history_of}
use Rattle.bc_steps.specs.RecordQueue.{QueueRepresents, last_of, records_left, tick_at}
use Rattle.bc_steps.specs.declared.port.actor.PortActor.TheInside.{Inside}

-- ---- the end of a queue

-- the element behind others
at-end : {X : Type 0} (ys : List X) (x : X) → slice_get (ys ++ x ∷ []) (length ys) ≡ Some x
at-end [] x = refl
at-end (y ∷ ys) x = at-end ys x

-- the last of a list that is turned round is its first
last-reversed : (xs : List Record) → last_of (reverse xs) ≡ slice_get xs 0
last-reversed [] = refl
last-reversed (x ∷ xs) =
    let turned : reverse (x ∷ xs) ≡ reverse xs ++ x ∷ [] = reverse-append (x ∷ []) xs in
    let long = length-reverse (x ∷ xs) in
    let short = length-reverse xs in
    let last : length (reverse (x ∷ xs)) - 1 ≡ length (reverse xs) = omega (arith, long, short) in
    ap (λ n. slice_get (reverse (x ∷ xs)) n) last ∙ ap (λ (ys : List Record). slice_get ys (length (reverse xs))) turned
    ∙ at-end (reverse xs) x

-- the first of the rest is the next
first-dropped : {X : Type 0} (n : ℕ) (xs : List X) → slice_get (drop n xs) 0 ≡ slice_get xs n
first-dropped zero xs = refl
first-dropped (suc n) [] = refl
first-dropped (suc n) (x ∷ xs) = first-dropped n xs

-- the record at the end of an actor's queue is the next that its entries did not take
next-queued : (s : Scenario) (p : ℕ) (entries : List Entry) (queue : List Record) → QueueRepresents queue (records_left s p entries)
    → last_of queue ≡ slice_get (records_of s p) (taken_by p entries)
next-queued s p entries queue queued =
    ap last_of queued ∙ last-reversed (records_left s p entries) ∙ first-dropped (taken_by p entries) (records_of s p)

-- ---- the port

-- an index within a list has an element
pub there-at : {X : Type 0} (xs : List X) (k : ℕ) → k < length xs → (x : X) × (slice_get xs k ≡ Some x)
there-at [] k lt = absurd (omega (arith, lt))
there-at (x ∷ xs) zero lt = (x, refl)
there-at (x ∷ xs) (suc k) lt = there-at xs k (omega (arith, lt))

-- the port of a number after a history
pub record OwnPort (s : Scenario) (p : ℕ) (entries : List Entry) : Type 0 where
  pub port : HubPort
  pub there : port_at (state_of s entries).core.ports p ≡ Some port
  pub number : port.port.id.port ≡ p
  pub conf : port_at s.ports p ≡ Some port.port.conf

-- a number of the scenario's has its port
pub own-port : (s : Scenario) (p : ℕ) (entries : List Entry) → 1 ≤ p → p ≤ length s.ports → OwnPort s p entries
own-port s zero entries first last = absurd (omega (arith, first))
own-port s (suc k) entries first last =
    let long = ports-length s entries in
    let found = there-at (state_of s entries).core.ports k (omega (arith, long, last)) in
    let is = port-state_of s entries k found.0 found.1 in
    record { port = found.0; there = found.1; number = omega (arith, is.number); conf = is.conf }

-- the histories have the same entries of the actor
abbrev pub AreSameOwn : Inside → List Entry → Type 0
AreSameOwn i entries = entries_of (Port i.number) entries ≡ entries_of (Port i.number) (history_of i)

-- so many records came
pub taken-same : (i : Inside) (entries : List Entry) → AreSameOwn i entries → taken_by i.number (history_of i) ≡ taken_by i.number entries
taken-same i entries same =
    taken_by-own i.number (history_of i) ∙ ap (λ (es : List Entry). taken_by i.number es) (sym same) ∙ sym (taken_by-own i.number entries)

-- the next record of the port is at the end of the queue
next-record : (i : Inside) (entries : List Entry) → IsPortActor i → AreSameOwn i entries → (own : OwnPort i.scenario.value i.number entries)
    → last_of i.records ≡ slice_get (records_of i.scenario.value i.number) own.port.taken
next-record i entries is same own =
    let s = i.scenario.value in
    next-queued s i.number (history_of i) i.records is.records
    ∙ ap (λ n. slice_get (records_of s i.number) n)
    (taken-same i entries same ∙ sym (taken-state_of s entries i.number own.port own.there))

-- the record or timer that the port takes next
pub next-own : (i : Inside) (entries : List Entry) → IsPortActor i → AreSameOwn i entries → (own : OwnPort i.scenario.value i.number entries)
    → next_input i.scenario.value own.port ≡ record_or_timer i.number (last_of i.records) (due_of own.port.port.timers)
next-own i entries is same own =
    let s = i.scenario.value in
    ap (λ n. record_or_timer n (slice_get (records_of s n) own.port.taken) (due_of own.port.port.timers)) own.number
    ∙ ap (λ (r : Option Record). record_or_timer i.number r (due_of own.port.port.timers)) (sym (next-record i entries is same own))

-- the timer that a hub tells of the port
abbrev pub timer_of : Scenario → List Entry → ℕ → Option (ℕ × Timer)
timer_of s entries p = option_and_then (λ (h : HubPort). due_of h.port.timers) (port_at (state_of s entries).core.ports p)

-- it is the port's
pub timer-own : (s : Scenario) (p : ℕ) (entries : List Entry) (own : OwnPort s p entries) → timer_of s entries p ≡ due_of own.port.port.timers
timer-own s p entries own = ap (λ (o : Option HubPort). option_and_then (λ (h : HubPort). due_of h.port.timers) o) own.there

-- ---- when the next step is due

-- by its place
due-at : (s : Scenario) (h : HubPort) (p : ℕ) (place : PortPlace) (next : Option Record)
    → next_input s h ≡ record_or_timer p next (due_of h.port.timers) → port_due s h place ≡ tick_at p place next (due_of h.port.timers)
due-at s h p Waits next is = ap (option_map tick_of) is
due-at s h p (Exchanges tick held action) next is = refl
due-at s h p (Reports tick gener action outcome) next is = refl

-- what is due before the run ends
abbrev pub by_end : ℕ → Option ℕ → Option ℕ
by_end duration tick = option_and_then (λ t. cond (leb t duration) (Some t) None) tick

-- the tick of the actor's next step
pub due-own : (i : Inside) (entries : List Entry) → IsPortActor i → AreSameOwn i entries
    → due_by_end i.scenario.value (state_of i.scenario.value entries) (Port i.number) (Of_port i.place)
    ≡ by_end i.duration (tick_at i.number i.place (last_of i.records) (timer_of i.scenario.value entries i.number))
due-own i entries is same =
    let s = i.scenario.value in
    let own = own-port s i.number entries is.first is.there in
    ap (λ (o : Option HubPort). by_end s.options.duration (option_and_then (λ (h : HubPort). port_due s h i.place) o)) own.there
    ∙ ap (by_end s.options.duration) (due-at s own.port i.number i.place (last_of i.records) (next-own i entries is same own))
    ∙ ap (λ (t : Option (ℕ × Timer)). by_end s.options.duration (tick_at i.number i.place (last_of i.records) t))
    (sym (timer-own s i.number entries own))
    ∙ ap (λ d. by_end d (tick_at i.number i.place (last_of i.records) (timer_of s entries i.number))) (sym is.duration_is)

-- what the code finds is what the definitions say: from the queue and the timer that the hub told
pub due-told : (i : Inside) (a : ActorState) (hub : HubState) (queue : List Record) (timer : Option (ℕ × Timer)) (t : Option ℕ)
    → IsPortActor i → port_actor_view i ≡ a → IsLevel hub a → queue ≡ i.records → timer ≡ timer_of hub.scenario hub.entries i.number
    → ((p : ℕ) → t ≡ tick_at p i.place (last_of queue) timer) → by_end i.duration t ≡ due_tick hub a
due-told i a hub queue timer t is view level queued told found =
    let level_of : IsLevel hub (port_actor_view i) = subst (IsLevel hub) (sym view) level in
    let same = level_of.entries in
    let by = λ (s : Scenario). by_end i.duration (tick_at i.number i.place (last_of i.records) (timer_of s hub.entries i.number)) in
    ap (by_end i.duration) (found i.number)
    ∙ ap (λ (q : List Record). by_end i.duration (tick_at i.number i.place (last_of q) timer)) queued
    ∙ ap (λ (x : Option (ℕ × Timer)). by_end i.duration (tick_at i.number i.place (last_of i.records) x)) told
    ∙ ap by (sym level_of.scenario)
    ∙ sym (due-own i hub.entries is same)
    ∙ ap (λ (s : Scenario). due_by_end s (state_of s hub.entries) (Port i.number) (Of_port i.place)) level_of.scenario
    ∙ ap (λ (x : ActorState). due_tick hub x) view

-- a tick up to the end
pub by_end-within : (duration tick : ℕ) → tick ≤ duration → Some tick ≡ by_end duration (Some tick)
by_end-within duration tick le = let due : leb tick duration ≡ true = le-leb tick duration le in rw due refl

-- a later one
pub by_end-late : (duration tick : ℕ) → duration < tick → None ≡ by_end duration (Some tick)
by_end-late duration tick lt = let due : leb tick duration ≡ false = lt-leb tick duration lt in rw due refl
