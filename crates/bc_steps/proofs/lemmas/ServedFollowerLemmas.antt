-- A follower that acts after an event of its own, and after its readings and its exchange.
use Rattle.std.proofs.Common.{◌≡◌, ℕ, ◌+◌, Bool, true, cond, eqb, refl, sym, ap, subst, ◌∙◌, List, [], ◌∷◌, reverse, Option, Some, None, option_and_then, eq-eqb}
use Rattle.std.specs.List.{cons_option}
use Rattle.std.proofs.lemmas.Bool.{eqb-true}
use Rattle.std.proofs.lemmas.List.{reverse-reverse}
use Rattle.ptp_profile.specs.declared.roles.Lead.{Lead}
use Rattle.ptp_profile.specs.declared.seats.Reading.{Reading}
use Rattle.ptp_profile.specs.declared.timing.Action.{Action}
use Rattle.ptp_profile.specs.declared.timing.Action.TheVariants.{Unlocked as Unlocked_action, Jump, Locked}
use Rattle.ptp_profile.specs.Timing.Servo.{Sample, newest_action}
use Rattle.pi_servo.specs.SteererView.{SteererRepresents}
use Rattle.bc_history.specs.declared.entry.Entry.{Entry}
use Rattle.bc_history.specs.declared.entry.Input.{Input}
use Rattle.bc_history.specs.declared.entry.Input.TheVariants.{Frame, Timed, Down, Up, Report, Turn, Sampled, Query}
use Rattle.bc_history.specs.declared.entry.Outcome.{Outcome}
use Rattle.bc_history.specs.declared.entry.Seen.{Seen}
use Rattle.bc_history.specs.declared.entry.Told.{Told}
use Rattle.bc_history.specs.declared.entry.Who.TheVariants.{Follower as A_follower}
use Rattle.bc_history.specs.declared.place.FollowerPlace.{FollowerPlace}
use Rattle.bc_history.specs.declared.place.FollowerPlace.TheVariants.{Turns, ReadsTheirs, ReadsOwn, Exchanges, Samples}
use Rattle.bc_history.specs.declared.scenario.Scenario.{Scenario}
use Rattle.bc_history.specs.Phases.Inputs.{tick_of}
use Rattle.bc_history.specs.Phases.OpeningState.{servo_of}
use Rattle.bc_history.specs.Run.Actors.{actor_of, is_by, is_same_actor}
use Rattle.bc_history.specs.Run.FollowerEntries.{is_turn_of, turns_by}
use Rattle.bc_history.specs.Run.FollowerPlace.{Read, Exchanged, after_follower_exchange, after_follower_reading, follower_job, follower_place_by_entries, place_by_lead, told_lead}
use Rattle.bc_history.specs.Run.History.{IsHistory}
use Rattle.bc_history.specs.Run.Samples.{follower_sample, follower_samples, sample_of}
use Rattle.bc_history.specs.Run.World.{Of_follower}
use Rattle.bc_history.proofs.lemmas.FollowerPhaseLemmas.{turns_by-more}
use Rattle.hub_core.specs.HubView.{HubState, newest_seen, with_entry}
use Rattle.bc_steps.specs.ActorView.{IsLevel}
use Rattle.bc_steps.specs.ExchangeBounds.{IsAskable}
use Rattle.bc_steps.specs.FollowerActors.{IsFollowerActor, follower_actor_view, follower_history}
use Rattle.bc_steps.specs.FollowerJob.{IsInputAt, IsJobAskable, IsKept, Shows, samples_taken, turns_served}
use Rattle.bc_steps.specs.NewestEntry.{newest_told}
use Rattle.bc_steps.specs.declared.follower.actor.FollowerActor.TheInside.{Inside}
use Rattle.bc_steps.proofs.lemmas.OwnFollowerLemmas.{AreSameEntries, samples-alike, turns-same}
use Rattle.bc_steps.proofs.lemmas.ServedPortLemmas.{entry-input, entry_of}

-- ---- what an entry of its own brings

-- the sample of an entry of a place is what its servo took
samples-input : (c : ℕ) (input : Input) (place : FollowerPlace) (xs : List Sample) → is_same_actor (A_follower c) (actor_of input) ≡ true
    → IsInputAt (Of_follower place) input → cons_option (follower_sample c input) xs ≡ samples_taken place xs
samples-input c (Turn clock tick) place xs own next =
    let same : place ≡ Turns = cc in subst (λ (p : FollowerPlace). xs ≡ samples_taken p xs) (sym same) refl
samples-input c (Sampled clock tick lead theirs own action outcome) place xs is next =
    let same : place ≡ Samples tick lead theirs own action outcome = cc in
    let clocks : eqb clock c ≡ true = eq-eqb clock c (sym (eqb-true c clock is)) in
    subst (λ (p : FollowerPlace). cons_option (follower_sample c (Sampled clock tick lead theirs own action outcome)) xs ≡ samples_taken p xs)
    (sym same) (ap (λ (b : Bool). cons_option (cond b (Some (sample_of lead theirs own)) None) xs) clocks)
samples-input c (Frame port tick octets) place xs own next = absurd next
samples-input c (Timed port tick timer) place xs own next = absurd next
samples-input c (Down port tick) place xs own next = absurd next
samples-input c (Up port tick) place xs own next = absurd next
samples-input c (Report port tick gener action outcome) place xs own next = absurd next
samples-input c (Query tick text) place xs own next = absurd next

-- it is a turn or none by the place
turns-input : (c : ℕ) (input : Input) (place : FollowerPlace) (n : ℕ) → is_same_actor (A_follower c) (actor_of input) ≡ true
    → IsInputAt (Of_follower place) input → cond (is_turn_of c input) (n + 1) n ≡ turns_served n place
turns-input c (Turn clock tick) place n own next =
    let same : place ≡ Turns = cc in
    subst (λ (p : FollowerPlace). cond (eqb c clock) (n + 1) n ≡ turns_served n p) (sym same) (ap (λ (b : Bool). cond b (n + 1) n) own)
turns-input c (Sampled clock tick lead theirs own action outcome) place n is next =
    let same : place ≡ Samples tick lead theirs own action outcome = cc in
    subst (λ (p : FollowerPlace). n ≡ turns_served n p) (sym same) refl
turns-input c (Frame port tick octets) place n own next = absurd next
turns-input c (Timed port tick timer) place n own next = absurd next
turns-input c (Down port tick) place n own next = absurd next
turns-input c (Up port tick) place n own next = absurd next
turns-input c (Report port tick gener action outcome) place n own next = absurd next
turns-input c (Query tick text) place n own next = absurd next

-- ---- where an entry leads

-- no reading is a sample yet
taken-told : (tick : ℕ) (lead : Option Lead) (xs : List Sample) → samples_taken (place_by_lead tick lead) xs ≡ xs
taken-told tick None xs = refl
taken-told tick (Some lead) xs = refl

-- nothing is asked yet
askable-told : (tick : ℕ) (lead : Option Lead) → IsJobAskable (place_by_lead tick lead)
askable-told tick None = tt
askable-told tick (Some lead) = tt

-- and nothing was read
kept-told : (tick : ℕ) (lead : Option Lead) (kept : Option Reading) → IsKept (place_by_lead tick lead) kept
kept-told tick None kept = tt
kept-told tick (Some lead) kept = tt

-- ---- the follower after an event

-- a follower whose entry e was made after these entries, and what was made of it
pub record HasServedFollower (i j : Inside) (entries : List Entry) (e : Entry) : Type 0 where
  pub alike : j ≡ record i { history = j.history; turns = j.turns; place = j.place }
  pub history : reverse j.history.value ≡ e ∷ entries
  pub lasting : IsHistory i.scenario.value (e ∷ entries)
  pub own : is_by (A_follower i.clock) e ≡ true
  pub next : IsInputAt (Of_follower i.place) e.input
  pub place : j.place ≡ place_by_lead (tick_of e.input) (told_lead e)
  pub turns : j.turns ≡ turns_served i.turns i.place

-- it is where its entry leads
pub place-follower : (i j : Inside) (entries : List Entry) (e : Entry) → HasServedFollower i j entries e
    → j.place ≡ follower_place_by_entries i.clock (e ∷ entries)
place-follower i j entries e by =
    by.place ∙ ap (λ (b : Bool). cond b (place_by_lead (tick_of e.input) (told_lead e)) (follower_place_by_entries i.clock entries)) (sym by.own)

-- its servo took the samples
servo-follower : (i j : Inside) (entries : List Entry) (e : Entry) → IsFollowerActor i → AreSameEntries i entries → HasServedFollower i j entries e
    → SteererRepresents i.follower.steerer (servo_of i.scenario.value.options) (samples_taken j.place (follower_samples i.clock (e ∷ entries)))
servo-follower i j entries e is same by =
    let rep = SteererRepresents i.follower.steerer (servo_of i.scenario.value.options) in
    let before = subst (λ (xs : List Sample). SteererRepresents i.follower.steerer (servo_of i.scenario.value.options) (samples_taken i.place xs))
    (samples-alike i entries same) is.servo in
    subst (λ (p : FollowerPlace). SteererRepresents i.follower.steerer (servo_of i.scenario.value.options) (samples_taken p (follower_samples i.clock (e ∷ entries))))
    (sym by.place)
    (subst (SteererRepresents i.follower.steerer (servo_of i.scenario.value.options))
    (sym (taken-told (tick_of e.input) (told_lead e) (follower_samples i.clock (e ∷ entries))
    ∙ samples-input i.clock e.input i.place (follower_samples i.clock entries) by.own by.next)) before)

-- its turns are counted
turns-follower : (i j : Inside) (entries : List Entry) (e : Entry) → IsFollowerActor i → AreSameEntries i entries → HasServedFollower i j entries e
    → j.turns ≡ turns_by i.clock (e ∷ entries)
turns-follower i j entries e is same by =
    by.turns ∙ (ap (λ n. turns_served n i.place) (turns-same i entries is same)
    ∙ (sym (turns-input i.clock e.input i.place (turns_by i.clock entries) by.own by.next) ∙ sym (turns_by-more i.clock e entries)))

-- and it is a follower that acts still
pub follower-served : (i j : Inside) (entries : List Entry) (e : Entry) → IsFollowerActor i → AreSameEntries i entries
    → HasServedFollower i j entries e → IsFollowerActor j
follower-served i j entries e is same by =
    let s = i.scenario.value in
    let back : e ∷ entries ≡ reverse j.history.value = sym by.history in
    subst IsFollowerActor (sym by.alike) (record {
      rules = is.rules;
      there = is.there;
      history = subst (λ (es : List Entry). IsHistory s es) back by.lasting;
      steps = [];
      place_is = subst (λ (es : List Entry). j.place ≡ follower_place_by_entries i.clock es) back (place-follower i j entries e by);
      askable = subst IsJobAskable (sym by.place) (askable-told (tick_of e.input) (told_lead e));
      kept = subst (λ (p : FollowerPlace). IsKept p i.theirs) (sym by.place) (kept-told (tick_of e.input) (told_lead e) i.theirs);
      servo =
          subst (λ (es : List Entry). SteererRepresents i.follower.steerer (servo_of s.options) (samples_taken j.place (follower_samples i.clock es))) back
          (servo-follower i j entries e is same by);
      turns_are = subst (λ (es : List Entry). j.turns ≡ turns_by i.clock es) back (turns-follower i j entries e is same by);
      interval_is = is.interval_is;
      duration_is = is.duration_is;
    })

-- ---- what the code made

-- an event of the hub and what the follower made of it
pub record HasMadeFollower (i j : Inside) (hub new : HubState) (input : Input) (told : Option Told) (tick : ℕ) : Type 0 where
  pub level : IsLevel hub (follower_actor_view i)
  pub alike : j ≡ record i { history = j.history; turns = j.turns; place = j.place }
  pub entry : new ≡ with_entry hub (entry_of hub new input)
  pub history : IsHistory new.scenario new.entries
  pub kept : j.history.value ≡ reverse new.entries
  pub own : is_same_actor (A_follower i.clock) (actor_of input) ≡ true
  pub next : IsInputAt (Of_follower i.place) input
  pub told_is : told ≡ newest_told new.entries
  pub tick_is : tick ≡ tick_of input
  pub place : j.place ≡ place_by_lead tick (option_and_then (λ (t : Told). t.lead) told)
  pub turns : j.turns ≡ turns_served i.turns i.place

-- so it served
pub made-follower : (i j : Inside) (hub new : HubState) (input : Input) (told : Option Told) (tick : ℕ)
    → HasMadeFollower i j hub new input told tick → HasServedFollower i j hub.entries (entry_of hub new input)
made-follower i j hub new input told tick by =
    let e = entry_of hub new input in
    let input_is : e.input ≡ input = entry-input hub.scenario hub.entries input (newest_seen new.entries) in
    let entries : new.entries ≡ e ∷ hub.entries = ap (λ (h : HubState). h.entries) by.entry in
    let scenario : new.scenario ≡ i.scenario.value = ap (λ (h : HubState). h.scenario) by.entry ∙ sym by.level.scenario in
    record {
      alike = by.alike;
      history = ap (λ (es : List Entry). reverse es) by.kept ∙ (reverse-reverse new.entries ∙ entries);
      lasting =
          subst (λ (es : List Entry). IsHistory i.scenario.value es) entries
          (subst (λ (s : Scenario). IsHistory s new.entries) scenario by.history);
      own = ap (λ (x : Input). is_same_actor (A_follower i.clock) (actor_of x)) input_is ∙ by.own;
      next = subst (IsInputAt (Of_follower i.place)) (sym input_is) by.next;
      place =
          by.place ∙ (ap (λ (x : Option Told). place_by_lead tick (option_and_then (λ (t : Told). t.lead) x)) (by.told_is ∙ ap newest_told entries)
          ∙ ap (λ n. place_by_lead n (told_lead e)) (by.tick_is ∙ ap tick_of (sym input_is)));
      turns = by.turns;
    }

-- ---- the follower after a reading or its exchange

-- once it read the clock that it copies
pub follower-read_theirs : (i j : Inside) (tick : ℕ) (lead : Lead) (seen : Seen) (read : Reading) → IsFollowerActor i
    → i.place ≡ ReadsTheirs tick lead → Shows tick seen read
    → j ≡ record i { place = ReadsOwn tick lead seen; theirs = Some read } → IsFollowerActor j
follower-read_theirs i j tick lead seen read is place shows made =
    subst IsFollowerActor (sym made) (record {
      rules = is.rules;
      there = is.there;
      history = is.history;
      steps = Read seen ∷ is.steps;
      place_is =
          ap (λ (p : FollowerPlace). after_follower_reading i.scenario.value.options (follower_samples i.clock (follower_history i)) seen p)
          (sym place ∙ is.place_is);
      askable = tt;
      kept = shows;
      servo =
          subst (λ (p : FollowerPlace). SteererRepresents i.follower.steerer (servo_of i.scenario.value.options)
          (samples_taken p (follower_samples i.clock (follower_history i)))) place is.servo;
      turns_are = is.turns_are;
      interval_is = is.interval_is;
      duration_is = is.duration_is;
    })

-- its servo took the sample, whatever it asks
taken-job : (tick : ℕ) (lead : Lead) (theirs own : Seen) (action : Action) (xs : List Sample)
    → samples_taken (follower_job tick lead theirs own action) xs ≡ sample_of lead theirs own ∷ xs
taken-job tick lead theirs own Unlocked_action xs = refl
taken-job tick lead theirs own (Jump step freq) xs = refl
taken-job tick lead theirs own (Locked freq) xs = refl

-- what it asks may be asked
askable-job : (tick : ℕ) (lead : Lead) (theirs own : Seen) (action : Action) → IsAskable action
    → IsJobAskable (follower_job tick lead theirs own action)
askable-job tick lead theirs own Unlocked_action few = tt
askable-job tick lead theirs own (Jump step freq) few = few
askable-job tick lead theirs own (Locked freq) few = few

-- nothing is kept for it
kept-job : (tick : ℕ) (lead : Lead) (theirs own : Seen) (action : Action) (kept : Option Reading)
    → IsKept (follower_job tick lead theirs own action) kept
kept-job tick lead theirs own Unlocked_action kept = tt
kept-job tick lead theirs own (Jump step freq) kept = tt
kept-job tick lead theirs own (Locked freq) kept = tt

-- once it read its own clock, and its servo took the sample of both readings
pub follower-read_own : (i j : Inside) (tick : ℕ) (lead : Lead) (theirs own : Seen) (action : Action) → IsFollowerActor i
    → i.place ≡ ReadsOwn tick lead theirs
    → action ≡ newest_action (servo_of i.scenario.value.options) (sample_of lead theirs own ∷ follower_samples i.clock (follower_history i))
    → IsAskable action
    → SteererRepresents j.follower.steerer (servo_of i.scenario.value.options) (sample_of lead theirs own ∷ follower_samples i.clock (follower_history i))
    → j ≡ record i { place = follower_job tick lead theirs own action; follower = j.follower } → IsFollowerActor j
follower-read_own i j tick lead theirs own action is place asks few steers made =
    let samples = follower_samples i.clock (follower_history i) in
    let o = i.scenario.value.options in
    subst IsFollowerActor (sym made) (record {
      rules = is.rules;
      there = is.there;
      history = is.history;
      steps = Read own ∷ is.steps;
      place_is =
          ap (λ (a : Action). follower_job tick lead theirs own a) asks
          ∙ ap (λ (p : FollowerPlace). after_follower_reading o samples own p) (sym place ∙ is.place_is);
      askable = askable-job tick lead theirs own action few;
      kept = kept-job tick lead theirs own action i.theirs;
      servo =
          subst (λ (xs : List Sample). SteererRepresents j.follower.steerer (servo_of o) xs) (sym (taken-job tick lead theirs own action samples)) steers;
      turns_are = is.turns_are;
      interval_is = is.interval_is;
      duration_is = is.duration_is;
    })

-- once its exchange gave an outcome
pub follower-exchanged : (i j : Inside) (tick : ℕ) (lead : Lead) (theirs own : Seen) (action : Action) (outcome : Outcome) → IsFollowerActor i
    → i.place ≡ Exchanges tick lead theirs own action
    → j ≡ record i { place = Samples tick lead theirs own action outcome } → IsFollowerActor j
follower-exchanged i j tick lead theirs own action outcome is place made =
    subst IsFollowerActor (sym made) (record {
      rules = is.rules;
      there = is.there;
      history = is.history;
      steps = Exchanged outcome ∷ is.steps;
      place_is = ap (after_follower_exchange outcome) (sym place ∙ is.place_is);
      askable = tt;
      kept = tt;
      servo =
          subst (λ (p : FollowerPlace). SteererRepresents i.follower.steerer (servo_of i.scenario.value.options)
          (samples_taken p (follower_samples i.clock (follower_history i)))) place is.servo;
      turns_are = is.turns_are;
      interval_is = is.interval_is;
      duration_is = is.duration_is;
    })
