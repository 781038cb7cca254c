-- An actor after an event of its own.
use Rattle.std.proofs.Common.{◌≡◌, ◌≤◌, ℕ, zero, suc, ◌+◌, Bool, true, false, cond, refl, sym, ap, subst, ◌∙◌, arith, List, [], ◌∷◌, length, reverse, drop, Option, Some, None, option_map}
use Rattle.std.specs.List.{cons_option}
use Rattle.std.proofs.lemmas.Int.{ints}
use Rattle.std.proofs.lemmas.List.{reverse-reverse}
use Rattle.ptp_profile.specs.declared.seats.Held.{Held}
use Rattle.ptp_profile.specs.declared.timing.Measure.{Measure}
use Rattle.ptp_profile.specs.Timing.Servo.{Sample}
use Rattle.pi_servo.specs.SteererView.{SteererRepresents}
use Rattle.bc_history.specs.declared.entry.Entry.{Entry}
use Rattle.bc_history.specs.declared.entry.Input.{Input}
use Rattle.bc_history.specs.declared.entry.Seen.{Seen}
use Rattle.bc_history.specs.declared.entry.Who.TheVariants.{Port}
use Rattle.bc_history.specs.declared.scenario.Options.{Options}
use Rattle.bc_history.specs.declared.scenario.Record.{Record}
use Rattle.bc_history.specs.declared.scenario.Scenario.{Scenario}
use Rattle.bc_history.specs.Phases.Inputs.{tick_of}
use Rattle.bc_history.specs.Phases.OpeningState.{servo_of}
use Rattle.bc_history.specs.Run.Actors.{actor_of, is_by, is_same_actor}
use Rattle.bc_history.specs.Phases.EntryEffects.{entry_after}
use Rattle.bc_history.specs.Run.History.{Continues, IsHistory}
use Rattle.hub_core.specs.HubView.{HubState, entry_by, newest_seen, with_entry}
use Rattle.bc_history.specs.Run.NextInputs.{records_of}
use Rattle.bc_history.specs.Run.PortEntries.{is_record_of, taken_by}
use Rattle.bc_history.specs.Run.PortPlace.{place_by_entries, place_by_measure}
use Rattle.bc_history.specs.Run.Samples.{measure_sample, port_samples}
use Rattle.bc_history.specs.Scenario.OptionTable.{OptionIsFrom, option_table}
use Rattle.bc_history.specs.Scenario.ScenarioRules.{IsScenario}
use Rattle.bc_history.proofs.lemmas.OptionRuleLemmas.{row_at}
use Rattle.bc_history.proofs.lemmas.PortEntriesLemmas.{port_samples-own, taken_by-more}
use Rattle.bc_steps.specs.PortActors.{IsPortActor, history_of}
use Rattle.bc_steps.specs.ExchangeBounds.{IsPlaceAskable, IsWithinClock}
use Rattle.bc_steps.specs.NewestEntry.{newest_measure}
use Rattle.bc_steps.specs.PortSamples.{with_sample}
use Rattle.bc_steps.specs.RecordQueue.{QueueRepresents, left_after, records_left}
use Rattle.bc_steps.specs.declared.port.actor.PortActor.TheInside.{Inside}
use Rattle.bc_steps.proofs.lemmas.OwnPortLemmas.{AreSameOwn, taken-same}

-- no servo of a scenario asks for a frequency beyond what a clock takes
pub within-clock : (s : Scenario) → IsScenario s → IsWithinClock (servo_of s.options)
within-clock s is =
    let most = row_at (OptionIsFrom s.options) option_table 11 _ is.options refl in
    omega (arith, ints, most.1)

-- ---- samples

-- by whether it measured
sample-by : (seen : Option Seen) (measure : Option (Measure × Held)) (before : List Sample)
    → cons_option (option_map (measure_sample seen) measure) before ≡ with_sample seen measure before
sample-by seen None before = refl
sample-by seen (Some m) before = refl

-- the samples of a port with one more entry of its own
samples-own : (p : ℕ) (e : Entry) (before : List Entry) → is_by (Port p) e ≡ true
    → port_samples p (e ∷ before) ≡ with_sample e.seen e.effects.measure (port_samples p before)
samples-own p e before own =
    ap (λ (b : Bool). cons_option (cond b (option_map (measure_sample e.seen) e.effects.measure) None) (port_samples p before)) own
    ∙ sample-by e.seen e.effects.measure (port_samples p before)

-- the samples are those of the actor's own entries
samples-same : (i : Inside) (entries : List Entry) → AreSameOwn i entries
    → port_samples i.number (history_of i) ≡ port_samples i.number entries
samples-same i entries same =
    port_samples-own i.number (history_of i) ∙ ap (λ (es : List Entry). port_samples i.number es) (sym same)
    ∙ sym (port_samples-own i.number entries)

-- ---- records

-- the rest behind one element more
drop-one : {X : Type 0} (n : ℕ) (xs : List X) → drop 1 (drop n xs) ≡ drop (suc n) xs
drop-one zero xs = refl
drop-one (suc n) [] = refl
drop-one (suc n) (x ∷ xs) = drop-one n xs

-- by whether the entry brought a record
left-by : (b : Bool) (n : ℕ) (xs : List Record) → left_after b (drop n xs) ≡ drop (cond b (n + 1) n) xs
left-by true n xs = let one : suc n ≡ n + 1 = omega arith in drop-one n xs ∙ ap (λ k. drop k xs) one
left-by false n xs = refl

-- the records that are left after one more entry
left-more : (s : Scenario) (p : ℕ) (e : Entry) (before : List Entry)
    → left_after (is_record_of p e.input) (records_left s p before) ≡ records_left s p (e ∷ before)
left-more s p e before =
    left-by (is_record_of p e.input) (taken_by p before) (records_of s p)
    ∙ ap (λ n. drop n (records_of s p)) (sym (taken_by-more p e before))

-- ---- the actor

-- an actor whose entry e was made after these entries, and what was made of it
pub record HasServed (i j : Inside) (entries : List Entry) (e : Entry) : Type 0 where
  pub scenario : j.scenario.value ≡ i.scenario.value
  pub number : j.number ≡ i.number
  pub duration : j.duration ≡ i.duration
  pub history : history_of j ≡ e ∷ entries
  pub continues : Continues i.scenario.value (e ∷ entries)
  pub own : is_by (Port i.number) e ≡ true
  pub place : (o : Options) (samples : List Sample) → SteererRepresents i.steerer (servo_of o) samples
      → j.place ≡ place_by_measure o (with_sample e.seen e.effects.measure samples) (tick_of e.input) e.effects.measure
  pub steers : (o : Options) (samples : List Sample) → SteererRepresents i.steerer (servo_of o) samples
      → SteererRepresents j.steerer (servo_of o) (with_sample e.seen e.effects.measure samples)
  pub askable : (o : Options) (samples : List Sample) → SteererRepresents i.steerer (servo_of o) samples
      → IsWithinClock (servo_of o) → IsPlaceAskable j.place
  pub records : (left : List Record) → QueueRepresents i.records left
      → QueueRepresents j.records (left_after (is_record_of i.number e.input) left)

-- the servo before the entry took the samples of all entries before it
servo-before : (i : Inside) (entries : List Entry) → IsPortActor i → AreSameOwn i entries
    → SteererRepresents i.steerer (servo_of i.scenario.value.options) (port_samples i.number entries)
servo-before i entries is same =
    subst (SteererRepresents i.steerer (servo_of i.scenario.value.options)) (samples-same i entries same) is.servo

-- it is where its entry leads
pub place-served : (i j : Inside) (entries : List Entry) (e : Entry) → IsPortActor i → AreSameOwn i entries → HasServed i j entries e
    → j.place ≡ place_by_entries i.scenario.value.options i.number (e ∷ entries)
place-served i j entries e is same by =
    let o = i.scenario.value.options in
    let samples = samples-own i.number e entries by.own in
    by.place o (port_samples i.number entries) (servo-before i entries is same)
    ∙ ap (λ (xs : List Sample). place_by_measure o xs (tick_of e.input) e.effects.measure) (sym samples)
    ∙ ap (λ (b : Bool). cond b (place_by_measure o (port_samples i.number (e ∷ entries)) (tick_of e.input) e.effects.measure)
    (place_by_entries o i.number entries)) (sym by.own)

-- and it is an actor still
pub actor-served : (i j : Inside) (entries : List Entry) (e : Entry) → IsPortActor i → AreSameOwn i entries → HasServed i j entries e
    → IsPortActor j
actor-served i j entries e is same by =
    let s = i.scenario.value in
    let of : (P : Scenario → Type 0) → P s → P j.scenario.value = λ P x. subst P (sym by.scenario) x in
    let history : e ∷ entries ≡ history_of j = sym by.history in
    let servo = servo-before i entries is same in
    let left = subst (QueueRepresents i.records)
    (ap (λ n. drop n (records_of s i.number)) (taken-same i entries same)) is.records in
    record {
      rules = of IsScenario is.rules;
      first = subst (λ n. 1 ≤ n) (sym by.number) is.first;
      there = of (λ x. j.number ≤ length x.ports) (subst (λ n. n ≤ length s.ports) (sym by.number) is.there);
      history = subst (Continues j.scenario.value) history (of (λ x. Continues x (e ∷ entries)) by.continues);
      exchanges = [];
      place_is =
          subst (λ (es : List Entry). j.place ≡ place_by_entries j.scenario.value.options j.number es) history
          (of (λ x. j.place ≡ place_by_entries x.options j.number (e ∷ entries))
          (subst (λ n. j.place ≡ place_by_entries s.options n (e ∷ entries)) (sym by.number) (place-served i j entries e is same by)));
      askable = by.askable s.options (port_samples i.number entries) servo (within-clock s is.rules);
      servo =
          subst (λ (es : List Entry). SteererRepresents j.steerer (servo_of j.scenario.value.options) (port_samples j.number es)) history
          (of (λ x. SteererRepresents j.steerer (servo_of x.options) (port_samples j.number (e ∷ entries)))
          (subst (λ n. SteererRepresents j.steerer (servo_of s.options) (port_samples n (e ∷ entries))) (sym by.number)
          (subst (SteererRepresents j.steerer (servo_of s.options)) (sym (samples-own i.number e entries by.own))
          (by.steers s.options (port_samples i.number entries) servo))));
      records =
          subst (λ (es : List Entry). QueueRepresents j.records (records_left j.scenario.value j.number es)) history
          (of (λ x. QueueRepresents j.records (records_left x j.number (e ∷ entries)))
          (subst (λ n. QueueRepresents j.records (records_left s n (e ∷ entries))) (sym by.number)
          (subst (QueueRepresents j.records) (left-more s i.number e entries)
          (by.records (records_left s i.number entries) left))));
      duration_is = of (λ x. j.duration ≡ x.options.duration) (by.duration ∙ is.duration_is);
    }

-- ---- what the code made

-- an entry has the input and the reading that it was made with
pub entry-input : (s : Scenario) (before : List Entry) (input : Input) (seen : Option Seen) → (entry_after s before input seen).input ≡ input
unfolding entry_after
entry-input s before input seen = refl

entry-seen : (s : Scenario) (before : List Entry) (input : Input) (seen : Option Seen) → (entry_after s before input seen).seen ≡ seen
unfolding entry_after
entry-seen s before input seen = refl

-- the entry of an event
abbrev pub entry_of : HubState → HubState → Input → Entry
entry_of hub new input = entry_by hub input (newest_seen new.entries)

-- an event of the hub and what the actor made of it
pub record HasMade (i j : Inside) (hub new : HubState) (input : Input) (seen : Option Seen) (measure : Option (Measure × Held)) (tick : ℕ) (is_record : Bool) : Type 0 where
  pub level : i.scenario.value ≡ hub.scenario
  pub scenario : j.scenario.value ≡ i.scenario.value
  pub number : j.number ≡ i.number
  pub duration : j.duration ≡ i.duration
  pub entry : new ≡ with_entry hub (entry_of hub new input)
  pub history : IsHistory new.scenario new.entries
  pub kept : j.history.value ≡ reverse new.entries
  pub own : is_same_actor (Port i.number) (actor_of input) ≡ true
  pub measure_is : measure ≡ newest_measure new.entries
  pub seen_is : seen ≡ newest_seen new.entries
  pub tick_is : tick ≡ tick_of input
  pub record_is : is_record ≡ is_record_of i.number input
  pub place : (o : Options) (samples : List Sample) → SteererRepresents i.steerer (servo_of o) samples
      → j.place ≡ place_by_measure o (with_sample seen measure samples) tick measure
  pub steers : (o : Options) (samples : List Sample) → SteererRepresents i.steerer (servo_of o) samples
      → SteererRepresents j.steerer (servo_of o) (with_sample seen measure samples)
  pub askable : (o : Options) (samples : List Sample) → SteererRepresents i.steerer (servo_of o) samples
      → IsWithinClock (servo_of o) → IsPlaceAskable j.place
  pub records : (left : List Record) → QueueRepresents i.records left
      → QueueRepresents j.records (left_after is_record left)

-- so it served
pub served : (i j : Inside) (hub new : HubState) (input : Input) (seen : Option Seen) (measure : Option (Measure × Held)) (tick : ℕ) (is_record : Bool)
    → HasMade i j hub new input seen measure tick is_record → HasServed i j hub.entries (entry_of hub new input)
served i j hub new input seen measure tick is_record by =
    let e = entry_of hub new input in
    let input_is : e.input ≡ input = entry-input hub.scenario hub.entries input (newest_seen new.entries) in
    let seen_is : seen ≡ e.seen = by.seen_is ∙ sym (entry-seen hub.scenario hub.entries input (newest_seen new.entries)) in
    let entries : new.entries ≡ e ∷ hub.entries = ap (λ (h : HubState). h.entries) by.entry in
    let scenario : new.scenario ≡ i.scenario.value = ap (λ (h : HubState). h.scenario) by.entry ∙ sym by.level in
    let tick_is : tick ≡ tick_of e.input = by.tick_is ∙ ap tick_of (sym input_is) in
    let measure_is : measure ≡ e.effects.measure = by.measure_is ∙ ap newest_measure entries in
    record {
      scenario = by.scenario;
      number = by.number;
      duration = by.duration;
      history = ap (λ (es : List Entry). reverse es) by.kept ∙ reverse-reverse new.entries ∙ entries;
      continues =
          subst (λ (es : List Entry). Continues i.scenario.value es) entries
          (subst (λ (s : Scenario). Continues s new.entries) scenario by.history.continues);
      own = ap (λ (x : Input). is_same_actor (Port i.number) (actor_of x)) input_is ∙ by.own;
      place = λ o samples rep.
          by.place o samples rep
          ∙ ap (λ (x : Option Seen). place_by_measure o (with_sample x measure samples) tick measure) seen_is
          ∙ ap (λ (m : Option (Measure × Held)). place_by_measure o (with_sample e.seen m samples) tick m) measure_is
          ∙ ap (λ n. place_by_measure o (with_sample e.seen e.effects.measure samples) n e.effects.measure) tick_is;
      steers = λ o samples rep.
          subst (λ (m : Option (Measure × Held)). SteererRepresents j.steerer (servo_of o) (with_sample e.seen m samples)) measure_is
          (subst (λ (x : Option Seen). SteererRepresents j.steerer (servo_of o) (with_sample x measure samples)) seen_is
          (by.steers o samples rep));
      askable = by.askable;
      records = λ left queued.
          subst (λ (b : Bool). QueueRepresents j.records (left_after b left))
          (by.record_is ∙ ap (λ (x : Input). is_record_of i.number x) (sym input_is)) (by.records left queued);
    }
