-- What stays right as logs and histories grow.
use Rattle.std.proofs.Common.{◌≡◌, ◌≤◌, ℕ, suc, Bool, true, false, cond, inl, inr, refl, sym, ap, subst, List, [], ◌∷◌, ◌++◌, length, map, arith, Option, Some, None}
use Rattle.std.specs.Prelude.{All, flat_map, option_to_list, IfSome}
use Rattle.std.proofs.lemmas.List.Elements.{All-nil, All-cons, All-append, All-map, All-weaker}
use Rattle.std.proofs.lemmas.Bool.{false≢true, eqb-true}
use Rattle.std.proofs.lemmas.Bool.Decides.{eqb_tells}
use Rattle.model_clock.specs.declared.state.ClockState.{ClockState}
use Rattle.ptp_profile.specs.declared.timing.Action.{Action}
use Rattle.ptp_profile.specs.declared.timing.Action.TheVariants.{Unlocked as Unlocked_action, Jump, Locked}
use Rattle.ptp_profile.specs.declared.seats.Held.{Held}
use Rattle.ptp_profile.specs.declared.seats.LogEntry.{LogEntry}
use Rattle.ptp_profile.specs.Roles.SeatLogs.{entry_at}
use Rattle.ptp_profile.proofs.lemmas.SeatLogLemmas.{log_after-kept}
use Rattle.bc_history.specs.declared.entry.Entry.{Entry}
use Rattle.bc_history.specs.declared.entry.Outcome.{Outcome}
use Rattle.bc_history.specs.declared.entry.Outcome.TheVariants.{Unlocked, Changed, Superseded, Spent}
use Rattle.bc_history.specs.declared.entry.Seen.{Seen}
use Rattle.bc_history.specs.declared.entry.Who.{Who}
use Rattle.bc_history.specs.declared.entry.Who.TheVariants.{Port, Follower, Queries}
use Rattle.bc_history.specs.declared.scenario.Scenario.{Scenario}
use Rattle.bc_history.specs.Phases.Inputs.{event_of, tick_of}
use Rattle.bc_history.specs.Phases.State.{Event}
use Rattle.model_clock.specs.Clock.{clock_at}
use Rattle.bc_history.specs.Run.ExchangeOutcomes.{Agrees, IsChangeBy}
use Rattle.bc_history.specs.Run.Actors.{entries_of, is_by, is_same_actor, actor_of}
use Rattle.run_legal.specs.Numbers.Knowledge.{known_to, AreRising, IsNumbered}
use Rattle.run_legal.specs.Numbers.Marks.{marks_of, marks_in, Mark, Sight, Exchange, exchange_of, exchange_marks, outcome_marks, sight_mark, sights_of}
use Rattle.ptp_profile.specs.Roles.SeatLogs.{log_at}
use Rattle.run_legal.specs.Runs.Courses.{IsSeen, IsReadRight, IsAgreed, EachAfter}

-- an entry keeps its number
pub entry_at-within : (n : ℕ) (log : List LogEntry) (entry : LogEntry) → entry_at n log ≡ Some entry → n ≤ length log
entry_at-within n [] entry is = cc
entry_at-within n (x ∷ log) entry is =
    elim (eqb_tells n (suc (length log))) [
      | inl t ↦ let same = t.1 in omega arith
      | inr f ↦ let other = f.0 in let there : entry_at n log ≡ Some entry = rw other at is in let le = entry_at-within n log entry there in omega arith
    ]

-- a reading stays right
pub IsSeen-push : (opening : ClockState) (log : List LogEntry) (entry : LogEntry) (tick : ℕ) (seen : Seen) → IsSeen opening log tick seen → IsSeen opening (entry ∷ log) tick seen
IsSeen-push opening log entry tick seen is =
    let same = log_after-kept seen.number entry log is.within in
    record { within = let le = is.within in omega arith; value = rw same is.value; freq = rw same is.freq }

-- what stands to all before it, stands so by a weaker fact
pub EachAfter-weaker : (P Q : Entry → List Entry → Type 0) → ((e : Entry) (before : List Entry) → P e before → Q e before) → (entries : List Entry) → EachAfter P entries → EachAfter Q entries
EachAfter-weaker P Q says [] h = tt
EachAfter-weaker P Q says (e ∷ before) h = (says e before h.0, EachAfter-weaker P Q says before h.1)

-- another's entry tells an actor nothing
pub known_to-other : (who : Who) (e : Entry) (before : List Entry) → is_by who e ≡ false → known_to who (e ∷ before) ≡ known_to who before
known_to-other who e before other = rw other refl

entry_at-push : (n : ℕ) (x : LogEntry) (log : List LogEntry) (entry : LogEntry) → entry_at n log ≡ Some entry → entry_at n (x ∷ log) ≡ Some entry
entry_at-push n x log entry is =
    let le = entry_at-within n log entry is in
    elim (eqb_tells n (suc (length log))) [
      | inl t ↦ let same = t.1 in absurd (omega arith)
      | inr f ↦ let other = f.0 in rw other is
    ]

-- an outcome goes on agreeing
pub Agrees-push : (rows : ℕ) (x : LogEntry) (log : List LogEntry) (held : Held) (tick : ℕ) (action : Action) (outcome : Outcome) → Agrees rows log held tick action outcome → Agrees rows (x ∷ log) held tick action outcome
Agrees-push rows x log held tick action Unlocked agrees = agrees
Agrees-push rows x log held tick Unlocked_action (Changed number) agrees = agrees
Agrees-push rows x log held tick (Jump step freq) (Changed number) agrees = entry_at-push number x log _ agrees
Agrees-push rows x log held tick (Locked freq) (Changed number) agrees = entry_at-push number x log _ agrees
Agrees-push rows x log held tick action (Superseded newer at) agrees =
    let is = agrees.1 in
    let same = log_after-kept at x log is.within in
    let le = is.within in
    (agrees.0, record { is_newer = is.is_newer; within = omega arith; in_force = rw same is.in_force })
Agrees-push rows x log held tick action (Spent at) agrees =
    let is = agrees.1 in
    let same = log_after-kept at x log is.within in
    let le = is.within in
    (agrees.0, record { within = omega arith; gener = rw same is.gener; ctrl = rw same is.ctrl; full = is.full })

-- an actor's numbers rise along the whole history
pub same_actor : (a b : Who) → is_same_actor a b ≡ true → a ≡ b
same_actor (Port p) (Port q) h = ap (λ n. Port n) (eqb-true p q h)
same_actor (Port p) (Follower d) h = absurd (false≢true h)
same_actor (Port p) Queries h = absurd (false≢true h)
same_actor (Follower c) (Port q) h = absurd (false≢true h)
same_actor (Follower c) (Follower d) h = ap (λ n. Follower n) (eqb-true c d h)
same_actor (Follower c) Queries h = absurd (false≢true h)
same_actor Queries (Port q) h = absurd (false≢true h)
same_actor Queries (Follower d) h = absurd (false≢true h)
same_actor Queries Queries h = refl

rises_by : (s : Scenario) (logs : List (List LogEntry)) (who : Who) (e : Entry) (before : List Entry) (b : Bool) → is_by who e ≡ b → IsNumbered s logs e before → AreRising (marks_in s (entries_of who before))
    → AreRising (marks_in s (cond b (e ∷ entries_of who before) (entries_of who before)))
rises_by s logs who e before false by is former = former
rises_by s logs who e before true by is former =
    let same = same_actor who (actor_of e.input) by in
    subst (λ (w : Who). AreRising (marks_of s (event_of e) ++ marks_in s (entries_of w before))) (sym same) is.abreast.rising

pub actors_rise : (s : Scenario) (logs : List (List LogEntry)) (who : Who) (entries : List Entry) → EachAfter (IsNumbered s logs) entries → AreRising (marks_in s (entries_of who entries))
actors_rise s logs who [] h = tt
actors_rise s logs who (e ∷ before) h = rises_by s logs who e before (is_by who e) refl h.0 (actors_rise s logs who before h.1)

-- ---- no number is beyond its log: by what is said of readings and outcomes

abbrev IsInside : List (List LogEntry) → Mark → Type 0
IsInside logs m = m.number ≤ length (log_at logs m.clock)

change_inside : (log : List LogEntry) (held : Held) (tick number : ℕ) (action : Action) → IsChangeBy log held tick action number → number ≤ length log
change_inside log held tick number Unlocked_action is = absurd is
change_inside log held tick number (Jump step freq) is = entry_at-within number log _ is
change_inside log held tick number (Locked freq) is = entry_at-within number log _ is

outcome_inside : (rows : ℕ) (logs : List (List LogEntry)) (held : Held) (tick : ℕ) (action : Action) (outcome : Outcome)
    → Agrees rows (log_at logs held.clock) held tick action outcome → All (IsInside logs) (outcome_marks held.clock outcome)
outcome_inside rows logs held tick action Unlocked agrees = All-nil (IsInside logs)
outcome_inside rows logs held tick action (Changed number) agrees =
    All-cons (IsInside logs) (record { clock = held.clock; number = number; is_change = true }) [] (change_inside (log_at logs held.clock) held tick number action agrees) (All-nil (IsInside logs))
outcome_inside rows logs held tick action (Superseded newer at) agrees =
    All-cons (IsInside logs) (record { clock = held.clock; number = at; is_change = false }) [] agrees.1.within (All-nil (IsInside logs))
outcome_inside rows logs held tick action (Spent at) agrees =
    All-cons (IsInside logs) (record { clock = held.clock; number = at; is_change = false }) [] agrees.1.within (All-nil (IsInside logs))

exchange_inside : (rows : ℕ) (logs : List (List LogEntry)) (o : Option Exchange)
    → IfSome o (λ x. Agrees rows (log_at logs x.held.clock) x.held x.tick x.action x.outcome)
    → All (IsInside logs) (flat_map (λ (x : Exchange). outcome_marks x.held.clock x.outcome) (option_to_list o))
exchange_inside rows logs None agrees = All-nil (IsInside logs)
exchange_inside rows logs (Some x) agrees =
    All-append (IsInside logs) (outcome_marks x.held.clock x.outcome) [] (outcome_inside rows logs x.held x.tick x.action x.outcome agrees) (All-nil (IsInside logs))

pub marks_inside : (s : Scenario) (logs : List (List LogEntry)) (x : Event) → IsReadRight s logs x → IsAgreed s logs x.input → All (IsInside logs) (marks_of s x)
marks_inside s logs x readings agreed =
    All-append (IsInside logs) (exchange_marks s x.input) (map sight_mark (sights_of s x))
    (exchange_inside s.options.seat_rows logs (exchange_of s x.input) agreed)
    (All-map (IsInside logs) sight_mark (sights_of s x)
    (All-weaker (λ (sight : Sight). IsSeen (clock_at s.clocks sight.clock) (log_at logs sight.clock) (tick_of x.input) sight.seen) (λ (sight : Sight). IsInside logs (sight_mark sight)) (λ sight is. is.within) (sights_of s x) readings))
