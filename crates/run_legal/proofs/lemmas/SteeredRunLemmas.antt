-- A run that is open, and legal.
use Rattle.std.proofs.Common.{◌≡◌, ◌<◌, ◌≤◌, ℕ, zero, suc, Bool, true, false, refl, sym, ap, subst, List, [], ◌∷◌, reverse, cond, eqb, leb, arith, rules, Option, Some, None, pos}
use Rattle.std.specs.Prelude.{All, AllPairs, Contains, IsSomeAnd}
use Rattle.std.proofs.lemmas.Bool.{false≢true, eqb-true, leb-true}
use Rattle.std.proofs.lemmas.Option.{same_Some}
use Rattle.std.proofs.lemmas.List.Elements.{All-from_recursion, All-nil, All-cons}
use Rattle.ptp_profile.specs.declared.seats.LogEntry.{LogEntry}
use Rattle.ptp_profile.specs.declared.seats.LogEntry.TheVariants.{Order, Change}
use Rattle.ptp_profile.specs.Wire.MessageFormat.{number_at, message_octets}
use Rattle.model_clock.specs.Clock.{clock_at, reading}
use Rattle.ptp_profile.specs.Roles.SeatLogs.{AreLawful, IsLawful, clock_after, log_after, is_order}
use Rattle.bc_history.specs.declared.entry.Entry.{Entry}
use Rattle.bc_history.specs.declared.entry.Seen.{Seen}
use Rattle.model_clock.specs.Clock.{plain_clock}
use Rattle.bc_history.specs.Run.World.{status_after, Ended, Finished}
use Rattle.bc_history.specs.declared.entry.Input.{Input}
use Rattle.bc_history.specs.declared.entry.Input.TheVariants.{Frame, Timed, Down, Up, Report, Turn, Sampled, Query}
use Rattle.bc_history.specs.Phases.Inputs.{event_of, tick_of, port_at}
use Rattle.bc_history.specs.Run.NextInputs.{IsNextOf}
use Rattle.bc_history.specs.Phases.PortPhase.{after_port}
use Rattle.bc_history.specs.Phases.DecisionPhase.{with_codes, after_hearing}
use Rattle.bc_history.specs.Phases.RolePhase.{after_roles}
use Rattle.bc_history.specs.Phases.NoticePhase.{after_turn}
use Rattle.bc_history.specs.Phases.EntryEffects.{effects_of, entry_after}
use Rattle.bc_history.specs.Phases.Step.{step, state_of}
use Rattle.bc_history.specs.Run.History.{Continues, IsFinished}
use Rattle.ptp_base.specs.declared.port_conf.PortConf.{PortConf}
use Rattle.bc_history.specs.declared.scenario.Record.{Record}
use Rattle.bc_history.specs.Scenario.ScenarioRules.{IsScenario, IsOpeningClock, IsPortConf, IsRecordOf, IsRecordBefore, IsQuery, AreTurnsOf}
use Rattle.bc_history.proofs.lemmas.OptionRuleLemmas.{plain_port_rule, plain_clock_rule}
use Rattle.run_legal.specs.Numbers.Marks.{Sight, changes_in}
use Rattle.ptp_profile.specs.Roles.SeatLogs.{log_at}
use Rattle.run_legal.specs.Numbers.Knowledge.{IsNumbered}
use Rattle.run_legal.specs.Runs.Courses.{AreLogs, AreOutcomes, IsReadRight, IsAgreed, IsSeen, IsSteered, EachAfter}
use Rattle.run_legal.specs.Runs.LegalRuns.{IsOpen, IsLegal, IsWindowed, window_of, AreNamed}
use Rattle.run_legal.specs.Runs.LegalExamples.{steers, steered}
use Rattle.run_legal.proofs.lemmas.FormedRunLemmas.{formed-continues}
use Rattle.run_legal.proofs.lemmas.LegalTestLemmas.{other, IsNumbered-test, AllPairs-passes}

abbrev entries : List Entry
entries = reverse steered.entries

abbrev log : List LogEntry
log = Change 1 1 5500000000 (pos 50000) (pos 0) ∷ Order 1 1 ∷ []

abbrev logs : List (List LogEntry)
logs = log ∷ []

-- the ticks of all records rise
record_order : AllPairs IsRecordBefore steers.records
record_order =
    AllPairs-passes IsRecordBefore (λ (r q : Record). leb r.tick q.tick) (λ r q h same. leb-true r.tick q.tick h) steers.records refl

-- the scenario keeps the rules of all scenarios, so that the law of entries speaks of it
is_scenario : IsScenario steers
is_scenario = record {
  options = search rules;
  clock_count = (omega arith, omega arith);
  clocks = All-from_recursion IsOpeningClock steers.clocks (plain_clock_rule, tt);
  port_count = (omega arith, omega arith);
  ports = All-from_recursion IsPortConf steers.ports (plain_port_rule, tt);
  placed = All-from_recursion (λ (p : PortConf). p.clock < 1) steers.ports (omega arith, tt);
  together = λ apart i j d lt below. absurd (omega (arith, lt, below));
  records = All-from_recursion (IsRecordOf 1) steers.records (search rules);
  record_order = record_order;
  queries = All-nil IsQuery;
  query_order = λ i j d lt below. absurd (omega arith);
  turns = All-nil (AreTurnsOf 1 1);
}

-- a frame or a timer of port 1 follows
continues : Continues steers entries
unfolding number_at message_octets step state_of after_port with_codes after_hearing after_roles after_turn effects_of entry_after
continues = (
  record { due = ((refl, refl), omega arith); read = refl; made = refl },
  (
    record { due = ((refl, refl), omega arith); read = refl; made = refl },
    (
      record { due = ((refl, refl), omega arith); read = refl; made = refl },
      (
        record { due = ((refl, refl), omega arith); read = refl; made = refl },
        (
          record { due = ((refl, refl), omega arith); read = refl; made = refl },
          (
            record { due = ((refl, refl), omega arith); read = refl; made = refl },
            (
              record { due = ((refl, refl), omega arith); read = refl; made = refl },
              (
                record { due = ((refl, refl), omega arith); read = refl; made = refl },
                (
                  record { due = ((refl, refl), omega arith); read = refl; made = refl },
                  (record { due = ((refl, refl), omega arith); read = refl; made = refl }, tt),
                ),
              ),
            ),
          ),
        ),
      ),
    ),
  ),
)

-- the log of the only clock
log_lawful : IsLawful 0 (state_of steers entries).roles.orders log
unfolding number_at message_octets step state_of after_port with_codes after_hearing after_roles after_turn effects_of entry_after
log_lawful = record { orders_are = refl; stamped = ((refl, refl, other 1 0 refl), (tt, tt)) }

lawful_by : AreLawful (state_of steers entries).roles.orders logs
lawful_by zero l is =
    subst (λ (l : List LogEntry). IsLawful 0 (state_of steers entries).roles.orders l) (same_Some log l is) log_lawful
lawful_by (suc c) l is = absurd (cc)

lawful : AreLogs steers entries logs
lawful = record { number = refl; lawful = lawful_by }

one_read : (tick number : ℕ) → number ≤ 2 → pos tick ≡ reading (clock_after plain_clock (log_after number log)) tick → pos 0 ≡ (clock_after plain_clock (log_after number log)).freq
    → All (λ (sight : Sight). IsSeen (clock_at steers.clocks sight.clock) (log_at logs sight.clock) tick sight.seen) (record { clock = 0; seen = record { number = number; value = pos tick; freq = pos 0 } } ∷ [])
one_read tick number le value freq =
    let seen : Seen = record { number = number; value = pos tick; freq = pos 0 } in
    All-cons (λ (sight : Sight). IsSeen (clock_at steers.clocks sight.clock) (log_at logs sight.clock) tick sight.seen) (record { clock = 0; seen = seen }) [] (record { within = le; value = value; freq = freq }) (All-nil _)

readings : All (λ (e : Entry). IsReadRight steers logs (event_of e)) entries
readings = All-from_recursion (λ (e : Entry). IsReadRight steers logs (event_of e)) entries (
  All-nil _,
  (
    one_read 5500000000 1 (omega arith) refl refl,
    (
      one_read 5000000000 1 (omega arith) refl refl,
      (
        All-nil _,
        (
          one_read 4500000000 1 (omega arith) refl refl,
          (
            one_read 4100000000 1 (omega arith) refl refl,
            (
              one_read 4000000000 1 (omega arith) refl refl,
              (
                one_read 3500000000 1 (omega arith) refl refl,
                (
                  one_read 3000000000 0 (omega arith) refl refl,
                  (one_read 1000000000 0 (omega arith) refl refl, tt),
                ),
              ),
            ),
          ),
        ),
      ),
    ),
  ),
)

actions : EachAfter (λ e before. IsSteered steers e.input before) entries
actions = (refl, (tt, (tt, (refl, (tt, (tt, (tt, (tt, (tt, (tt, tt))))))))))

outcomes : AreOutcomes steers logs entries
outcomes = record {
  agreed = All-from_recursion (λ (e : Entry). IsAgreed steers logs e.input) entries (refl, (tt, (tt, (refl, (tt, (tt, (tt, (tt, (tt, (tt, tt))))))))));
  once = λ i j d lt below. absurd (omega arith);
}

numbers : EachAfter (IsNumbered steers logs) entries
numbers = (
  IsNumbered-test _ _ _ _ (record { rising = refl; within = refl; told = refl; read = refl; ordered = refl }),
  (
    IsNumbered-test _ _ _ _ (record { rising = refl; within = refl; told = refl; read = refl; ordered = refl }),
    (
      IsNumbered-test _ _ _ _ (record { rising = refl; within = refl; told = refl; read = refl; ordered = refl }),
      (
        IsNumbered-test _ _ _ _ (record { rising = refl; within = refl; told = refl; read = refl; ordered = refl }),
        (
          IsNumbered-test _ _ _ _ (record { rising = refl; within = refl; told = refl; read = refl; ordered = refl }),
          (IsNumbered-test _ _ _ _ (record { rising = refl; within = refl; told = refl; read = refl; ordered = refl }), (IsNumbered-test _ _ _ _ (record { rising = refl; within = refl; told = refl; read = refl; ordered = refl }), (IsNumbered-test _ _ _ _ (record { rising = refl; within = refl; told = refl; read = refl; ordered = refl }), (IsNumbered-test _ _ _ _ (record { rising = refl; within = refl; told = refl; read = refl; ordered = refl }), (IsNumbered-test _ _ _ _ (record { rising = refl; within = refl; told = refl; read = refl; ordered = refl }), tt))))),
        ),
      ),
    ),
  ),
)

pub steered_is_open : IsOpen steers steered
steered_is_open = record {
  opened = refl;
  course = record { formed = record { few = omega arith; each = formed-continues steers is_scenario entries continues }; history = continues; lawful = lawful; readings = readings; actions = actions; outcomes = outcomes; numbers = numbers };
}

-- the second entry of the log is the only change
named_by : (n : ℕ) (second first : Bool) → eqb n 2 ≡ second → eqb n 1 ≡ first
    → IsSomeAnd (cond second (Some (Change 1 1 5500000000 (pos 50000) (pos 0))) (cond first (Some (Order 1 1)) None)) (λ entry. is_order entry ≡ false)
    → Contains (changes_in steers entries) (record { clock = 0; number = n; is_change = true })
named_by n true first e f change = let same : n ≡ 2 = eqb-true n 2 e in rw same (0, omega arith, refl)
named_by n false true e f change = absurd (false≢true (sym change))
named_by n false false e f change = absurd change

named : AreNamed steers entries logs
named zero n change = named_by n (eqb n 2) (eqb n 1) refl refl change
named (suc c) n change = absurd change

tick_in : Option Input → ℕ
tick_in None = 0
tick_in (Some input) = tick_of input

-- the next input of port 1 comes at 6 s
later : (port : ℕ) (input : Input) → IsNextOf steers (port_at (state_of steers entries).core.ports port) input → 6000000000 ≡ tick_of input
unfolding tick_in number_at message_octets step state_of after_port with_codes after_hearing after_roles after_turn effects_of entry_after
later zero input next = absurd next
later (suc zero) input next = ap tick_in next.1
later (suc (suc p)) input next = absurd next

finished : IsFinished steers entries
unfolding number_at message_octets step state_of after_port with_codes after_hearing after_roles after_turn effects_of entry_after
finished (Frame port tick octets) due = let at = later port (Frame port tick octets) due.0 in let until = due.1 in omega arith
finished (Timed port tick timer) due = let at = later port (Timed port tick timer) due.0 in let until = due.1 in omega arith
finished (Down port tick) due = let at = later port (Down port tick) due.0 in let until = due.1 in omega arith
finished (Up port tick) due = let at = later port (Up port tick) due.0 in let until = due.1 in omega arith
finished (Report zero tick gener action outcome) due = due.0
finished (Report (suc zero) tick gener action outcome) due = due.0
finished (Report (suc (suc p)) tick gener action outcome) due = due.0
finished (Turn clock tick) due = due.0
finished (Sampled clock tick lead theirs own action outcome) due = due.0
finished (Query tick text) due = let never = due.0 in cc

pub steered_is_legal : IsLegal steers steered
steered_is_legal = record { is_open = steered_is_open; named = named; finished = finished }

-- the World of the scenario is that run
pub steers_to_it : status_after steers 12 ≡ Ended (Finished steered)
unfolding number_at message_octets status_after step state_of after_port with_codes after_hearing after_roles after_turn effects_of entry_after
steers_to_it = refl

pub steered_is_windowed : IsWindowed steers steered
steered_is_windowed = AllPairs-passes (λ (e f : Entry). window_of steers e ≤ window_of steers f) (λ (e f : Entry). leb (window_of steers e) (window_of steers f)) (λ e f. leb-true (window_of steers e) (window_of steers f)) steered.entries refl
