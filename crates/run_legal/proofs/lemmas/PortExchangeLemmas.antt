-- A port's exchange under the stamp of its last measure keeps entries and logs that belong together.
use Rattle.std.proofs.Common.{◌≡◌, ◌≢◌, ◌≤◌, ◌<◌, ℕ, zero, suc, ◌+◌, Bool, true, false, cond, eqb, leb, inl, inr, refl, sym, ap, ◌∙◌, subst, arith, List, [], ◌∷◌, length, Option, Some, None, pos, Result, Ok, Err}
use Rattle.std.specs.Prelude.{◌&&◌, All, Contains, not, option_map, slice_get, slice_set, unwrap_or}
use Rattle.std.proofs.lemmas.Bool.{eqb-true}
use Rattle.std.proofs.lemmas.List.Elements.{All-head, All-nil, All-tail}
use Rattle.std.proofs.lemmas.Option.{same_Some}
use Rattle.ptp_base.specs.declared.port_conf.PortConf.{PortConf}
use Rattle.ptp_profile.specs.declared.roles.RoleOrder.{RoleOrder}
use Rattle.ptp_profile.specs.declared.seats.Held.{Held}
use Rattle.ptp_profile.specs.declared.seats.LogEntry.{LogEntry}
use Rattle.ptp_profile.specs.declared.seats.Receipt.{Receipt}
use Rattle.ptp_profile.specs.declared.seats.Refused.{Refused}
use Rattle.ptp_profile.specs.declared.seats.Refused.TheVariants.{Superseded as Is_superseded, Spent as Is_spent}
use Rattle.ptp_profile.specs.declared.timing.Action.{Action}
use Rattle.ptp_profile.specs.declared.timing.Action.TheVariants.{Unlocked, Jump, Locked}
use Rattle.ptp_profile.specs.Roles.SeatLogs.{IsLawful, change_of, exchange_answer, log_at, stamp_after}
use Rattle.ptp_profile.proofs.lemmas.SeatLogLemmas.{IsLawful-changed}
use Rattle.bc_history.specs.declared.entry.Entry.{Entry}
use Rattle.bc_history.specs.declared.entry.Input.TheVariants.{Report}
use Rattle.bc_history.specs.declared.entry.Outcome.{Outcome}
use Rattle.bc_history.specs.declared.scenario.Scenario.{Scenario}
use Rattle.bc_history.specs.Phases.HubPort.{TickMeasure}
use Rattle.bc_history.specs.Phases.Inputs.{port_at}
use Rattle.bc_history.specs.Phases.Step.{state_of}
use Rattle.bc_history.specs.Run.ExchangeOutcomes.{Agrees, after_exchange, exchange_result}
use Rattle.bc_history.specs.Run.PortEntries.{IsHeldByPort, measured_by}
use Rattle.bc_history.specs.Scenario.ScenarioRules.{IsScenario}
use Rattle.bc_history.proofs.lemmas.ExchangeLemmas.{exchange_agrees}
use Rattle.bc_history.proofs.lemmas.StampLemmas.{IsHeldByPort-somebody, kept-stamp}
use Rattle.run_legal.specs.Numbers.GrownLogs.{AreSameOrChanged, IsSameOrChanged, logs_after_exchange, outcome_of_exchange}
use Rattle.run_legal.specs.Numbers.Marks.{Mark, clock_of, held_by_port, marks_in, of_clock}
use Rattle.run_legal.specs.Runs.Courses.{AreLogs, IsAgreed, IsCourse, IsSightRight}
use Rattle.run_legal.proofs.lemmas.GrownLogLemmas.{course-later, numbers_in-later}
use Rattle.run_legal.proofs.lemmas.CourseLemmas.{actors_rise, marks_inside}
use Rattle.run_legal.proofs.lemmas.NumberBoundLemmas.{exchange-at_end, known-each, marks-of_actor, marks-of_clock, numbers-within, report-abreast}
use Rattle.bc_history.specs.declared.entry.Who.TheVariants.{Port}
use Rattle.bc_history.specs.Phases.EntryEffects.{event}
use Rattle.bc_history.specs.Run.Actors.{entries_of}
use Rattle.run_legal.specs.Numbers.Knowledge.{IsAbreast, IsNumbered, known_to}
use Rattle.run_legal.specs.Numbers.LogNumbers.{numbers_in}
use Rattle.run_legal.proofs.lemmas.HolderLemmas.{IsHolder-ordered}

-- ---- one log of all is set

-- where one log is as it was or has a change more, so has each
set-grown : (logs : List (List LogEntry)) (i : ℕ) (new : List LogEntry) → IsSameOrChanged (log_at logs i) new → AreSameOrChanged logs (slice_set logs i new)
set-grown [] i new grown = λ clock. inl refl
set-grown (log ∷ logs) zero new grown = λ clock. by clock
  where
    by : (clock : ℕ) → IsSameOrChanged (log_at (log ∷ logs) clock) (log_at (new ∷ logs) clock)
    by zero = grown
    by (suc c) = inl refl
set-grown (log ∷ logs) (suc i) new grown = λ clock. by (set-grown logs i new grown) clock
  where
    by : AreSameOrChanged logs (slice_set logs i new) → (clock : ℕ) → IsSameOrChanged (log_at (log ∷ logs) clock) (log_at (log ∷ slice_set logs i new) clock)
    by rest zero = inl refl
    by rest (suc c) = rest c

pub length-slice_set : (logs : List (List LogEntry)) (i : ℕ) (new : List LogEntry) → length (slice_set logs i new) ≡ length logs
length-slice_set [] i new = refl
length-slice_set (log ∷ logs) zero new = refl
length-slice_set (log ∷ logs) (suc i) new = ap (λ n. suc n) (length-slice_set logs i new)

-- a fact of each log by its clock
set-each : (P : ℕ → List LogEntry → Type 0) (logs : List (List LogEntry)) (i : ℕ) (new : List LogEntry)
    → ((c : ℕ) (log : List LogEntry) → slice_get logs c ≡ Some log → P c log) → P i new
    → (c : ℕ) (log : List LogEntry) → slice_get (slice_set logs i new) c ≡ Some log → P c log
set-each P [] i new all own c log is = all c log is
set-each P (x ∷ logs) zero new all own zero log is = subst (λ (l : List LogEntry). P zero l) (same_Some new log is) own
set-each P (x ∷ logs) zero new all own (suc c) log is = all (suc c) log is
set-each P (x ∷ logs) (suc i) new all own zero log is = all zero log is
set-each P (x ∷ logs) (suc i) new all own (suc c) log is =
    set-each (λ k l. P (suc k) l) logs i new (λ k l there. all (suc k) l there) own c log is

-- the log of a clock that is there
pub log-there : (logs : List (List LogEntry)) (clock : ℕ) → clock < length logs → slice_get logs clock ≡ Some (log_at logs clock)
log-there [] clock lt = absurd (omega arith)
log-there (log ∷ logs) zero lt = refl
log-there (log ∷ logs) (suc c) lt = log-there logs c (omega (arith, lt))

log-set : (logs : List (List LogEntry)) (clock : ℕ) (new : List LogEntry) → clock < length logs → log_at (slice_set logs clock new) clock ≡ new
log-set [] clock new lt = absurd (omega arith)
log-set (log ∷ logs) zero new lt = refl
log-set (log ∷ logs) (suc c) new lt = log-set logs c new (omega (arith, lt))

-- ---- an exchange

-- the log after an exchange is as it was or has a change more
exchange-grown : (answer : Result Receipt Refused) (held : Held) (tick : ℕ) (action : Action) (log : List LogEntry) → IsSameOrChanged log (after_exchange answer held tick action log)
exchange-grown answer held tick Unlocked log = inl refl
exchange-grown (Ok receipt) held tick (Jump step freq) log = inr (change_of held tick step freq, refl, refl)
exchange-grown (Err refused) held tick (Jump step freq) log = inl refl
exchange-grown (Ok receipt) held tick (Locked freq) log = inr (change_of held tick (pos 0) freq, refl, refl)
exchange-grown (Err refused) held tick (Locked freq) log = inl refl

-- a log after a refusal
refused-lawful : (refused : Refused) (held : Held) (tick : ℕ) (action : Action) (orders : List RoleOrder) (log : List LogEntry)
    → IsLawful held.clock orders log → IsLawful held.clock orders (after_exchange (Err refused) held tick action log)
refused-lawful refused held tick Unlocked orders log lawful = lawful
refused-lawful refused held tick (Jump step freq) orders log lawful = lawful
refused-lawful refused held tick (Locked freq) orders log lawful = lawful

-- a log after a change under the stamp in force
taken-lawful : (receipt : Receipt) (held : Held) (tick : ℕ) (action : Action) (orders : List RoleOrder) (log : List LogEntry)
    → held.gener ≡ (stamp_after log).gener → held.ctrl ≡ (stamp_after log).ctrl → held.ctrl ≢ 0
    → IsLawful held.clock orders log → IsLawful held.clock orders (after_exchange (Ok receipt) held tick action log)
taken-lawful receipt held tick Unlocked orders log gener ctrl somebody lawful = lawful
taken-lawful receipt held tick (Jump step freq) orders log gener ctrl somebody lawful =
    IsLawful-changed held.clock orders log held.gener held.ctrl tick step freq (gener, ctrl, somebody) lawful
taken-lawful receipt held tick (Locked freq) orders log gener ctrl somebody lawful =
    IsLawful-changed held.clock orders log held.gener held.ctrl tick (pos 0) freq (gener, ctrl, somebody) lawful

-- the log of a held stamp's clock stays lawful
exchange-lawful : (rows : ℕ) (held : Held) (tick : ℕ) (action : Action) (orders : List RoleOrder) (log : List LogEntry) → held.ctrl ≢ 0
    → IsLawful held.clock orders log → IsLawful held.clock orders (exchange_result rows held tick action log).1
exchange-lawful rows held tick action orders log somebody lawful =
    by (eqb (stamp_after log).gener held.gener) (eqb (stamp_after log).ctrl held.ctrl) (leb rows (length log)) refl refl
  where
    by : (a b c : Bool) → eqb (stamp_after log).gener held.gener ≡ a → eqb (stamp_after log).ctrl held.ctrl ≡ b
        → IsLawful held.clock orders (after_exchange (cond (not (a && b)) (Err (Is_superseded (stamp_after log).gener (length log)))
        (cond c (Err (Is_spent (length log))) (Ok (record { number = length log + 1 })))) held tick action log)
    by false b c gener ctrl = refused-lawful (Is_superseded (stamp_after log).gener (length log)) held tick action orders log lawful
    by true false c gener ctrl = refused-lawful (Is_superseded (stamp_after log).gener (length log)) held tick action orders log lawful
    by true true true gener ctrl = refused-lawful (Is_spent (length log)) held tick action orders log lawful
    by true true false gener ctrl =
        taken-lawful (record { number = length log + 1 }) held tick action orders log (sym (eqb-true (stamp_after log).gener held.gener gener)) (sym (eqb-true (stamp_after log).ctrl held.ctrl ctrl)) somebody lawful

-- ---- a port's exchange

-- a fact of all elements is one of each
All-at : {X : Type 0} (P : X → Type 0) (xs : List X) (i : ℕ) (x : X) → All P xs → slice_get xs i ≡ Some x → P x
All-at P [] i x all is = absurd (cc)
All-at P (y ∷ ys) zero x all is = subst P (same_Some y x is) (All-head P y ys all)
All-at P (y ∷ ys) (suc i) x all is = All-at P ys i x (All-tail P y ys all) is

-- the clock of a port is one of the scenario's
clock-placed : (s : Scenario) → IsScenario s → (p : ℕ) (conf : PortConf) → port_at s.ports p ≡ Some conf → conf.clock < length s.clocks
clock-placed s is zero conf there = absurd (cc)
clock-placed s is (suc i) conf there = All-at (λ (c : PortConf). c.clock < length s.clocks) s.ports i conf is.placed there

abbrev held_with : (clock gener ctrl : ℕ) → Held
held_with clock gener ctrl = record { clock = clock; gener = gener; ctrl = ctrl }

held-same : (clock gener ctrl own p : ℕ) → clock ≡ own → ctrl ≡ p → held_with clock gener ctrl ≡ held_with own gener p
held-same clock gener ctrl own p is by = ap (λ (c : ℕ). held_with c gener ctrl) is ∙ ap (λ (k : ℕ). held_with own gener k) by

-- what a port holds is its own stamp of its generation
pub held-own : (s : Scenario) (orders : List RoleOrder) (p : ℕ) (held : Held) → IsHeldByPort s orders p held → held ≡ held_by_port s p held.gener
held-own s orders p held h =
    let clock : held.clock ≡ clock_of s p = h.clock ∙ sym (ap (λ (o : Option PortConf). unwrap_or (option_map (λ (conf : PortConf). conf.clock) o) 0) h.there) in
    held-same held.clock held.gener held.ctrl (clock_of s p) p clock h.ctrl

-- no log has an order more after an exchange
pub exchange-logs : (s : Scenario) (logs : List (List LogEntry)) (held : Held) (tick : ℕ) (action : Action)
    → AreSameOrChanged logs (logs_after_exchange s logs held tick action)
exchange-logs s logs held tick action =
    set-grown logs held.clock (exchange_result s.options.seat_rows held tick action (log_at logs held.clock)).1
    (exchange-grown (exchange_answer s.options.seat_rows held (log_at logs held.clock)) held tick action (log_at logs held.clock))

-- an exchange under a stamp that an order gave to somebody
module _ (s : Scenario) (entries : List Entry) (logs : List (List LogEntry)) (held : Held) (tick : ℕ) (action : Action) (course : IsCourse s entries logs) (somebody : held.ctrl ≢ 0) (within : held.clock < length logs) (ordered : Contains (state_of s entries).roles.orders (record { clock = held.clock; gener = held.gener; ctrl = held.ctrl })) where
  held_lawful : IsLawful held.clock (state_of s entries).roles.orders (log_at logs held.clock)
  held_lawful = course.lawful.lawful held.clock (log_at logs held.clock) (log-there logs held.clock within)

  held_after_lawful : AreLogs s entries (logs_after_exchange s logs held tick action)
  held_after_lawful = record {
    number = length-slice_set logs held.clock (exchange_result s.options.seat_rows held tick action (log_at logs held.clock)).1 ∙ course.lawful.number;
    lawful = set-each (λ (c : ℕ) (log : List LogEntry). IsLawful c (state_of s entries).roles.orders log) logs held.clock
        (exchange_result s.options.seat_rows held tick action (log_at logs held.clock)).1 course.lawful.lawful
        (exchange-lawful s.options.seat_rows held tick action (state_of s entries).roles.orders (log_at logs held.clock) somebody held_lawful);
  }

  -- entries and logs go on belonging together
  pub held_course : IsCourse s entries (logs_after_exchange s logs held tick action)
  held_course = course-later s logs (logs_after_exchange s logs held tick action) (exchange-logs s logs held tick action) entries course held_after_lawful

  -- and the outcome agrees with the log that the exchange leaves
  pub held_agreed : action ≢ Unlocked
      → Agrees s.options.seat_rows (log_at (logs_after_exchange s logs held tick action) held.clock) held tick action (outcome_of_exchange s logs held tick action)
  held_agreed asks =
      let there = log-set logs held.clock (exchange_result s.options.seat_rows held tick action (log_at logs held.clock)).1 within in
      let agrees = exchange_agrees s.options.seat_rows held tick action (log_at logs held.clock) asks (IsHolder-ordered s entries (log_at logs held.clock) held somebody held_lawful ordered) in
      subst (λ (log : List LogEntry). Agrees s.options.seat_rows log held tick action (outcome_of_exchange s logs held tick action)) (sym there) agrees

module _ (s : Scenario) (is : IsScenario s) (entries : List Entry) (logs : List (List LogEntry)) (p : ℕ) (m : TickMeasure) (action : Action) (course : IsCourse s entries logs) (measured : measured_by p entries ≡ Some m) where
  by_port : IsHeldByPort s (state_of s entries).roles.orders p m.held
  by_port = kept-stamp s is entries p m course.history measured

  somebody : m.held.ctrl ≢ 0
  somebody = IsHeldByPort-somebody s (state_of s entries).roles.orders p m.held by_port

  within : m.held.clock < length logs
  within =
      let placed = clock-placed s is p by_port.conf by_port.there in
      omega (arith, placed, by_port.clock, course.lawful.number)

  after_grown : AreSameOrChanged logs (logs_after_exchange s logs m.held m.tick action)
  after_grown = exchange-logs s logs m.held m.tick action

  -- entries and logs go on belonging together
  pub after_course : IsCourse s entries (logs_after_exchange s logs m.held m.tick action)
  after_course = held_course s entries logs m.held m.tick action course somebody within by_port.ordered

  abbrev outcome : Outcome
  outcome = outcome_of_exchange s logs m.held m.tick action

  -- and the outcome agrees with the log that the exchange leaves
  pub after_agreed : action ≢ Unlocked → IsAgreed s (logs_after_exchange s logs m.held m.tick action) (Report p m.tick m.held.gener action outcome)
  after_agreed asks =
      subst (λ (held : Held). Agrees s.options.seat_rows (log_at (logs_after_exchange s logs m.held m.tick action) held.clock) held m.tick action outcome)
      (held-own s (state_of s entries).roles.orders p m.held by_port)
      (held_agreed s entries logs m.held m.tick action course somebody within by_port.ordered asks)

  -- what the exchange knew is not less than what was known
  pub after_abreast : action ≢ Unlocked → IsAbreast s (logs_after_exchange s logs m.held m.tick action) (event (Report p m.tick m.held.gener action outcome) None) entries
  after_abreast asks =
      let later = logs_after_exchange s logs m.held m.tick action in
      let end = length (log_at logs m.held.clock) in
      let own : m.held.clock ≡ clock_of s p = ap (λ (held : Held). held.clock) (held-own s (state_of s entries).roles.orders p m.held by_port) in
      let former = marks-of_clock logs m.held.clock (marks_in s (entries_of (Port p) entries)) (marks-of_actor s logs (Port p) entries course.numbers) in
      let known = numbers-within s logs m.held.clock (known_to (Port p) entries) (known-each (IsNumbered s logs) (Port p) entries course.numbers) in
      let same = numbers_in-later s logs later after_grown m.held.clock (known_to (Port p) entries) in
      report-abreast s logs later entries p m.tick m.held.gener end action (actors_rise s logs (Port p) entries course.numbers)
      (subst (λ (c : ℕ). All (λ (mark : Mark). mark.number ≤ end) (of_clock c (marks_in s (entries_of (Port p) entries)))) own former)
      (subst (λ (c : ℕ). All (λ n. n ≤ end) (numbers_in s later c (known_to (Port p) entries))) own (subst (λ (ns : List ℕ). All (λ n. n ≤ end) ns) (sym same) known))
      outcome (exchange-at_end s.options.seat_rows m.held (log_at logs m.held.clock))
      (marks_inside s later (event (Report p m.tick m.held.gener action outcome) None) (All-nil (IsSightRight s later m.tick)) (after_agreed asks))
