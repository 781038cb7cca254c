-- A port that waits takes its next record or timer, with a reading of its clock, and its entry is right.
use Rattle.std.proofs.Common.{◌≡◌, ◌≤◌, ◌-◌, ℕ, zero, suc, Bool, true, false, cond, ltb, refl, sym, ap, ◌∙◌, subst, arith, List, [], ◌++◌, length, map, drop, Option, Some, None}
use Rattle.std.specs.Prelude.{All, IfSome, flat_map, is_some, option_map, option_to_list, slice_get, unwrap_or}
use Rattle.std.proofs.lemmas.List.Elements.{All-nil, All-cons, All-weaker}
use Rattle.std.proofs.lemmas.Option.{same_Some}
use Rattle.ptp_base.specs.declared.port_conf.PortConf.{PortConf}
use Rattle.model_clock.specs.declared.state.ClockState.{ClockState}
use Rattle.model_clock.specs.Clock.{clock_at, reading}
use Rattle.ptp_profile.specs.declared.port_event.Timer.{Timer}
use Rattle.ptp_profile.specs.declared.seats.LogEntry.{LogEntry}
use Rattle.ptp_profile.specs.Port.PortTimers.{due_of}
use Rattle.ptp_profile.specs.Roles.SeatLogs.{clock_after, log_after, log_at, whole_reading}
use Rattle.bc_history.specs.declared.entry.Entry.{Entry}
use Rattle.bc_history.specs.declared.entry.Input.{Input}
use Rattle.bc_history.specs.declared.entry.Input.TheVariants.{Frame, Timed, Down, Up, Report, Turn, Sampled, Query}
use Rattle.bc_history.specs.declared.entry.Seen.{Seen}
use Rattle.bc_history.specs.declared.entry.Who.{Who}
use Rattle.bc_history.specs.declared.entry.Who.TheVariants.{Port as A_port}
use Rattle.bc_history.specs.declared.scenario.Happening.{Happening}
use Rattle.bc_history.specs.declared.scenario.Happening.TheVariants.{Frame as Frame_record, Down as Down_record, Up as Up_record}
use Rattle.bc_history.specs.declared.scenario.Record.{Record}
use Rattle.bc_history.specs.declared.scenario.Scenario.{Scenario}
use Rattle.bc_history.specs.Phases.EntryEffects.{entry_after, event}
use Rattle.bc_history.specs.Phases.HubPort.{HubPort}
use Rattle.bc_history.specs.Phases.Inputs.{is_read, port_at, port_of, tick_of}
use Rattle.bc_history.specs.Phases.State.{State}
use Rattle.bc_history.specs.Phases.Step.{state_of}
use Rattle.bc_history.specs.Run.Actors.{actor_of, entries_of}
use Rattle.bc_history.specs.Run.ExchangeOutcomes.{Agrees}
use Rattle.bc_history.specs.Run.NextInputs.{IsNext, IsNextOf, input_of, next_input, record_or_timer, records_of}
use Rattle.bc_history.specs.Run.World.{World, port_reading, seen_at, seen_of}
use Rattle.bc_history.proofs.lemmas.PortIdentityLemmas.{port-state_of}
use Rattle.run_legal.specs.Numbers.Knowledge.{AreRising, IsAbreast, IsNumbered, IsUpTo, IsWithin, known_to}
use Rattle.run_legal.specs.Numbers.LogNumbers.{numbers_in}
use Rattle.run_legal.specs.Numbers.Marks.{Exchange, Mark, Sight, clock_of, exchange_marks, exchange_of, follower_sights, hub_sights, marks_in, marks_of, of_clock, outcome_marks, sight_mark, sights_of}
use Rattle.run_legal.specs.Runs.Courses.{EachAfter, IsAgreed, IsCourse, IsSeen, IsSightRight, IsSteered}
use Rattle.run_legal.specs.Runs.RightEntries.{IsRightEntry}
use Rattle.run_legal.proofs.lemmas.CourseLemmas.{actors_rise}
use Rattle.run_legal.proofs.lemmas.EventEntryLemmas.{right-made}
use Rattle.run_legal.proofs.lemmas.NumberBoundLemmas.{known-each, marks-of_actor, marks-of_clock, numbers-within}

-- ---- what a port takes next

-- an input is one of port p that a record or a timer brings
pub record IsTaken (s : Scenario) (p : ℕ) (input : Input) : Type 0 where
  pub next : (h : State) → IsNextOf s (port_at h.core.ports p) input → IsNext s h input
  pub actor : actor_of input ≡ A_port p
  pub of : port_of input ≡ Some p
  pub sights : follower_sights input ≡ []
  pub exchange : exchange_of s input ≡ None
  pub steered : (before : List Entry) → IsSteered s input before

-- that of a record
taken-record : (s : Scenario) (p tick : ℕ) (what : Happening) → IsTaken s p (input_of p tick what)
taken-record s p tick (Frame_record octets) = record { next = λ h is. is; actor = refl; of = refl; sights = refl; exchange = refl; steered = λ before. tt }
taken-record s p tick Down_record = record { next = λ h is. is; actor = refl; of = refl; sights = refl; exchange = refl; steered = λ before. tt }
taken-record s p tick Up_record = record { next = λ h is. is; actor = refl; of = refl; sights = refl; exchange = refl; steered = λ before. tt }

-- that of a timer
taken-timer : (s : Scenario) (p tick : ℕ) (timer : Timer) → IsTaken s p (Timed p tick timer)
taken-timer s p tick timer = record { next = λ h is. is; actor = refl; of = refl; sights = refl; exchange = refl; steered = λ before. tt }

-- the one or the other
taken-if : (b : Bool) (s : Scenario) (p : ℕ) (x y input : Input) → IsTaken s p x → IsTaken s p y → cond b (Some x) (Some y) ≡ Some input → IsTaken s p input
taken-if true s p x y input one other is = subst (IsTaken s p) (same_Some x input is) one
taken-if false s p x y input one other is = subst (IsTaken s p) (same_Some y input is) other

-- what is taken next
taken-next : (s : Scenario) (p : ℕ) (next : Option Record) (timer : Option (ℕ × Timer)) (input : Input) → record_or_timer p next timer ≡ Some input → IsTaken s p input
taken-next s p None None input is = absurd (cc)
taken-next s p (Some r) None input is = subst (IsTaken s p) (same_Some (input_of p r.tick r.what) input is) (taken-record s p r.tick r.what)
taken-next s p None (Some t) input is = subst (IsTaken s p) (same_Some (Timed p t.0 t.1) input is) (taken-timer s p t.0 t.1)
taken-next s p (Some r) (Some t) input is =
    taken-if (ltb t.0 r.tick) s p (Timed p t.0 t.1) (input_of p r.tick r.what) input (taken-timer s p t.0 t.1) (taken-record s p r.tick r.what) is

-- ---- the port itself

-- a port that is there has its number, and its clock
record IsOwnPort (s : Scenario) (p : ℕ) (h : HubPort) : Type 0 where
  number : h.port.id.port ≡ p
  clock : clock_of s p ≡ h.port.conf.clock

-- so has each port of a history
own-port : (s : Scenario) (entries : List Entry) (p : ℕ) (h : HubPort) → port_at (state_of s entries).core.ports p ≡ Some h → IsOwnPort s p h
own-port s entries zero h there = absurd (cc)
own-port s entries (suc i) h there =
    let is = port-state_of s entries i h there in
    record {
      number = omega (arith, is.number);
      clock = ap (λ (o : Option PortConf). unwrap_or (option_map (λ (conf : PortConf). conf.clock) o) 0) is.conf;
    }

-- what it takes next is its own
pub taken-own : (s : Scenario) (entries : List Entry) (p : ℕ) (h : HubPort) (input : Input) → port_at (state_of s entries).core.ports p ≡ Some h → next_input s h ≡ Some input → IsTaken s p input
taken-own s entries p h input there next =
    subst (λ (n : ℕ). IsTaken s n input) (own-port s entries p h there).number
    (taken-next s h.port.id.port (slice_get (records_of s h.port.id.port) h.taken) (due_of h.port.timers) input next)

-- ---- its reading

-- the reading of a port, if it took one
abbrev port_sights : Scenario → ℕ → Option Seen → List Sight
port_sights s p seen = map (λ (seen : Seen). record { clock = clock_of s p; seen = seen }) (option_to_list seen)

-- it is that of the hub
hub_sights-port : (s : Scenario) (p : ℕ) (input : Input) (seen : Option Seen) → port_of input ≡ Some p → hub_sights s (event input seen) ≡ port_sights s p seen
hub_sights-port s p (Frame port tick octets) seen is = ap (λ (q : ℕ). port_sights s q seen) (same_Some port p is)
hub_sights-port s p (Timed port tick timer) seen is = ap (λ (q : ℕ). port_sights s q seen) (same_Some port p is)
hub_sights-port s p (Down port tick) seen is = ap (λ (q : ℕ). port_sights s q seen) (same_Some port p is)
hub_sights-port s p (Up port tick) seen is = ap (λ (q : ℕ). port_sights s q seen) (same_Some port p is)
hub_sights-port s p (Report port tick gener action outcome) seen is = ap (λ (q : ℕ). port_sights s q seen) (same_Some port p is)
hub_sights-port s p (Turn clock tick) seen is = absurd (cc)
hub_sights-port s p (Sampled clock tick lead theirs own action outcome) seen is = absurd (cc)
hub_sights-port s p (Query tick text) seen is = absurd (cc)

-- it is all that the event read
sights-taken : (s : Scenario) (p : ℕ) (input : Input) (seen : Option Seen) → IsTaken s p input → sights_of s (event input seen) ≡ port_sights s p seen
sights-taken s p input seen taken =
    ap (λ (sights : List Sight). sights ++ hub_sights s (event input seen)) taken.sights ∙ hub_sights-port s p input seen taken.of

-- and all that it knew
marks-taken : (s : Scenario) (p : ℕ) (input : Input) (seen : Option Seen) → IsTaken s p input → marks_of s (event input seen) ≡ map sight_mark (port_sights s p seen)
marks-taken s p input seen taken =
    let none : exchange_marks s input ≡ [] =
    ap (λ (o : Option Exchange). flat_map (λ (exchange : Exchange). outcome_marks exchange.held.clock exchange.outcome) (option_to_list o)) taken.exchange in
    ap (λ (marks : List Mark). marks ++ map sight_mark (sights_of s (event input seen))) none ∙ ap (λ (sights : List Sight). map sight_mark sights) (sights-taken s p input seen taken)

-- without an exchange no outcome has to agree
unexchanged : (s : Scenario) (logs : List (List LogEntry)) (input : Input) → exchange_of s input ≡ None → IsAgreed s logs input
unexchanged s logs input none =
    subst (λ (o : Option Exchange). IfSome o (λ (x : Exchange). Agrees s.options.seat_rows (log_at logs x.held.clock) x.held x.tick x.action x.outcome)) (sym none) tt

-- a reading after all entries of a log is right
pub seen-whole : (opening : ClockState) (log : List LogEntry) (tick : ℕ) → IsSeen opening log tick (seen_at tick (whole_reading opening log))
seen-whole opening log tick =
    let none : length log - length log ≡ 0 = omega arith in
    let whole : log_after (length log) log ≡ log = ap (λ (n : ℕ). drop n log) none in
    record {
      within = omega arith;
      value = ap (λ (l : List LogEntry). reading (clock_after opening l) tick) (sym whole);
      freq = ap (λ (l : List LogEntry). (clock_after opening l).freq) (sym whole);
    }

module _ (s : Scenario) (w : World) (course : IsCourse s w.entries w.logs) (p : ℕ) (h : HubPort) (there : port_at (state_of s w.entries).core.ports p ≡ Some h) where
  -- how many entries the log of the port's clock has
  abbrev end : ℕ
  end = length (log_at w.logs (clock_of s p))

  -- no number is above it
  former : All (λ (mark : Mark). mark.number ≤ end) (of_clock (clock_of s p) (marks_in s (entries_of (A_port p) w.entries)))
  former = marks-of_clock w.logs (clock_of s p) (marks_in s (entries_of (A_port p) w.entries)) (marks-of_actor s w.logs (A_port p) w.entries course.numbers)

  -- so a reading at the end is not below what entries have
  up_to : (seen : Seen) → seen.number ≡ end → (entries : List Entry) → EachAfter (IsNumbered s w.logs) entries → IsUpTo s w.logs entries (sight_mark (record { clock = clock_of s p; seen = seen }))
  up_to seen at entries each =
      All-weaker (λ n. n ≤ end) (λ n. n ≤ seen.number) (λ n few. omega (arith, few, at)) (numbers_in s w.logs (clock_of s p) entries) (numbers-within s w.logs (clock_of s p) entries each)

  -- a reading at the end of the log, if there is one, is abreast
  abreast-sights : (seen : Option Seen) → IfSome seen (λ (seen : Seen). seen.number ≡ end)
      → AreRising (map sight_mark (port_sights s p seen) ++ marks_in s (entries_of (A_port p) w.entries))
      × All (IsWithin w.logs) (map sight_mark (port_sights s p seen))
      × All (IsUpTo s w.logs (known_to (A_port p) w.entries)) (map sight_mark (port_sights s p seen))
      × All (λ (sight : Sight). IsUpTo s w.logs w.entries (sight_mark sight)) (port_sights s p seen)
  abreast-sights None at = (actors_rise s w.logs (A_port p) w.entries course.numbers, All-nil _, All-nil _, All-nil _)
  abreast-sights (Some seen) at =
      let mark = sight_mark (record { clock = clock_of s p; seen = seen }) in (
        (All-weaker (λ (m : Mark). m.number ≤ end) (λ (m : Mark). m.number ≤ seen.number) (λ m le. omega (arith, le, at)) _ former, actors_rise s w.logs (A_port p) w.entries course.numbers),
        All-cons (IsWithin w.logs) mark [] (omega (arith, at)) (All-nil (IsWithin w.logs)),
        All-cons (IsUpTo s w.logs (known_to (A_port p) w.entries)) mark [] (up_to seen at (known_to (A_port p) w.entries) (known-each (IsNumbered s w.logs) (A_port p) w.entries course.numbers)) (All-nil (IsUpTo s w.logs (known_to (A_port p) w.entries))),
        All-cons (λ (sight : Sight). IsUpTo s w.logs w.entries (sight_mark sight)) (record { clock = clock_of s p; seen = seen }) [] (up_to seen at w.entries course.numbers) (All-nil (λ (sight : Sight). IsUpTo s w.logs w.entries (sight_mark sight))),
      )

  -- so is what a port takes with such a reading
  abreast-taken : (input : Input) (seen : Option Seen) → IsTaken s p input → IfSome seen (λ (seen : Seen). seen.number ≡ end) → IsAbreast s w.logs (event input seen) w.entries
  abreast-taken input seen taken at =
      let all = abreast-sights seen at in
      let marks = sym (marks-taken s p input seen taken) in
      record {
        rising = subst (λ (who : Who). AreRising (marks_of s (event input seen) ++ marks_in s (entries_of who w.entries))) (sym taken.actor)
            (subst (λ (ms : List Mark). AreRising (ms ++ marks_in s (entries_of (A_port p) w.entries))) marks all.0);
        within = subst (All (IsWithin w.logs)) marks all.1;
        told = subst (λ (who : Who). All (IsUpTo s w.logs (known_to who w.entries)) (marks_of s (event input seen))) (sym taken.actor)
            (subst (All (IsUpTo s w.logs (known_to (A_port p) w.entries))) marks all.2);
        read = subst (All (λ (sight : Sight). IsUpTo s w.logs w.entries (sight_mark sight))) (sym (hub_sights-port s p input seen taken.of)) all.3;
      }

  -- the reading of the port's clock now
  abbrev now : ℕ → Seen
  now tick = seen_of s w h.port.conf.clock tick

  -- the clock is the port's
  own-clock : clock_of s p ≡ h.port.conf.clock
  own-clock = (own-port s w.entries p h there).clock

  -- the reading is right
  now-right : (tick : ℕ) → IsSightRight s w.logs tick (record { clock = clock_of s p; seen = now tick })
  now-right tick =
      subst (λ (c : ℕ). IsSeen (clock_at s.clocks c) (log_at w.logs c) tick (seen_of s w h.port.conf.clock tick)) (sym own-clock)
      (seen-whole (clock_at s.clocks h.port.conf.clock) (log_at w.logs h.port.conf.clock) tick)

  -- and at the end of the log
  now-end : (tick : ℕ) → (now tick).number ≡ end
  now-end tick = ap (λ (c : ℕ). length (log_at w.logs c)) (sym own-clock)

  -- the entry of a port that waits is right
  pub taken-entry : (input : Input) → h.measured ≡ None → next_input s h ≡ Some input → tick_of input ≤ s.options.duration
      → IsRightEntry s w.entries w.logs (entry_after s w.entries input (port_reading s w h input))
  taken-entry input none next in_time = by (is_read input) refl
    where
      taken : IsTaken s p input
      taken = taken-own s w.entries p h input there next

      is_next : IsNext s (state_of s w.entries) input
      is_next = taken.next (state_of s w.entries) (subst (λ (o : Option HubPort). IsNextOf s o input) (sym there) (none, next))

      right : (seen : Option Seen) → is_some seen ≡ is_read input → All (IsSightRight s w.logs (tick_of input)) (port_sights s p seen) → IfSome seen (λ (seen : Seen). seen.number ≡ end)
          → IsRightEntry s w.entries w.logs (entry_after s w.entries input seen)
      right seen read readings at =
          right-made s w.entries w.logs input seen (is_next, in_time) read
          (subst (All (IsSightRight s w.logs (tick_of input))) (sym (sights-taken s p input seen taken)) readings) (taken.steered w.entries)
          (unexchanged s w.logs input taken.exchange) (abreast-taken input seen taken at)

      by : (b : Bool) → is_read input ≡ b → IsRightEntry s w.entries w.logs (entry_after s w.entries input (cond b (Some (now (tick_of input))) None))
      by true is =
          right (Some (now (tick_of input))) (sym is)
          (All-cons (IsSightRight s w.logs (tick_of input)) (record { clock = clock_of s p; seen = now (tick_of input) }) [] (now-right (tick_of input)) (All-nil (IsSightRight s w.logs (tick_of input))))
          (now-end (tick_of input))
      by false is = right None (sym is) (All-nil (IsSightRight s w.logs (tick_of input))) tt
