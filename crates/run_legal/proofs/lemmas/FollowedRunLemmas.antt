-- Runs with a follower that samples: one that is open, and the World's, which is legal.
use Rattle.std.proofs.Common.{◌≡◌, ◌<◌, ◌≤◌, ℕ, zero, suc, refl, sym, subst, List, [], ◌∷◌, length, reverse, leb, arith, rules, pos}
use Rattle.std.specs.Prelude.{All, AllPairs}
use Rattle.std.proofs.lemmas.Bool.{false≢true, leb-true}
use Rattle.std.proofs.lemmas.Option.{same_Some}
use Rattle.std.proofs.lemmas.List.Elements.{All-from_recursion, All-nil, All-cons}
use Rattle.ptp_base.specs.declared.port_conf.PortConf.{PortConf}
use Rattle.ptp_profile.specs.declared.seats.LogEntry.{LogEntry}
use Rattle.ptp_profile.specs.declared.seats.LogEntry.TheVariants.{Order, Change}
use Rattle.ptp_profile.specs.Wire.MessageFormat.{number_at, message_octets}
use Rattle.model_clock.specs.Clock.{clock_at, reading}
use Rattle.ptp_profile.specs.Roles.SeatLogs.{AreLawful, IsLawful, clock_after, log_after}
use Rattle.bc_history.specs.declared.entry.Entry.{Entry}
use Rattle.bc_history.specs.Phases.Inputs.{event_of}
use Rattle.bc_history.specs.Phases.PortPhase.{after_port}
use Rattle.bc_history.specs.Phases.DecisionPhase.{with_codes, after_hearing}
use Rattle.bc_history.specs.Phases.RolePhase.{after_roles}
use Rattle.bc_history.specs.Phases.NoticePhase.{after_turn}
use Rattle.bc_history.specs.Phases.EntryEffects.{effects_of, entry_after}
use Rattle.bc_history.specs.Phases.Step.{step, state_of}
use Rattle.bc_history.specs.declared.scenario.Record.{Record}
use Rattle.bc_history.specs.Scenario.ScenarioRules.{IsScenario, IsOpeningClock, IsPortConf, IsRecordOf, IsRecordBefore, IsQuery, AreTurnsOf}
use Rattle.bc_history.specs.Run.History.{Continues}
use Rattle.bc_history.specs.Run.World.{status_after, Ended, Finished}
use Rattle.bc_history.proofs.lemmas.OptionRuleLemmas.{plain_port_rule, plain_clock_rule}
use Rattle.run_legal.specs.Numbers.Marks.{Sight}
use Rattle.ptp_profile.specs.Roles.SeatLogs.{log_at}
use Rattle.run_legal.specs.Numbers.Knowledge.{IsNumbered}
use Rattle.run_legal.specs.Runs.Courses.{AreLogs, AreOutcomes, IsReadRight, IsAgreed, IsSeen, IsSteered, EachAfter}
use Rattle.run_legal.specs.Runs.LegalRuns.{IsOpen, IsLegal}
use Rattle.run_legal.specs.Runs.LegalExamples.{follows, followed, followed_to_the_end}
use Rattle.run_legal.proofs.lemmas.FormedRunLemmas.{formed-continues}
use Rattle.run_legal.proofs.lemmas.LegalTestLemmas.{other, IsNumbered-test, AllPairs-passes}
use Rattle.run_legal.proofs.lemmas.NamedEndLemmas.{run-legal}
use Rattle.run_legal.proofs.lemmas.StepLemmas.{stays-right}

abbrev entries : List Entry
entries = reverse followed.entries

abbrev logs : List (List LogEntry)
logs = (Change 1 1 5500000000 (pos 0) (pos 0) ∷ Order 1 1 ∷ []) ∷ (Order 2 128 ∷ []) ∷ []

-- the ticks of all records rise
record_order : AllPairs IsRecordBefore follows.records
record_order =
    AllPairs-passes IsRecordBefore (λ (r q : Record). leb r.tick q.tick) (λ r q h same. leb-true r.tick q.tick h) follows.records refl

-- the scenario keeps the rules of all scenarios, so that the laws of entries and of legal runs speak of it
is_scenario : IsScenario follows
is_scenario = record {
  options = search rules;
  clock_count = (omega arith, omega arith);
  clocks = All-from_recursion IsOpeningClock follows.clocks (plain_clock_rule, (plain_clock_rule, tt));
  port_count = (omega arith, omega arith);
  ports = All-from_recursion IsPortConf follows.ports (plain_port_rule, tt);
  placed = All-from_recursion (λ (p : PortConf). p.clock < 2) follows.ports (omega arith, tt);
  together = λ apart. absurd (false≢true (sym apart));
  records = All-from_recursion (IsRecordOf 1) follows.records (search rules);
  record_order = record_order;
  queries = All-nil IsQuery;
  query_order = λ i j d lt below. absurd (omega arith);
  turns = All-nil (AreTurnsOf 2 1);
}

continues : Continues follows entries
unfolding number_at message_octets step state_of after_port with_codes after_hearing after_roles after_turn effects_of entry_after
continues = (
  record { due = (refl, omega arith); read = refl; made = refl },
  (
    record { due = ((refl, refl), omega arith); read = refl; made = refl },
    (
      record { due = ((refl, refl), omega arith); read = refl; made = refl },
      (
        record { due = ((refl, refl), omega arith); read = refl; made = refl },
        (
          record { due = ((refl, refl), omega arith); read = refl; made = refl },
          (
            record { due = ((refl, refl), omega arith); read = refl; made = refl },
            (
              record { due = ((refl, refl), omega arith); read = refl; made = refl },
              (
                record { due = ((refl, refl), omega arith); read = refl; made = refl },
                (
                  record { due = ((refl, refl), omega arith); read = refl; made = refl },
                  (
                    record { due = ((refl, refl), omega arith); read = refl; made = refl },
                    (
                      record { due = ((refl, refl), omega arith); read = refl; made = refl },
                      (record { due = ((refl, refl), omega arith); read = refl; made = refl }, tt),
                    ),
                  ),
                ),
              ),
            ),
          ),
        ),
      ),
    ),
  ),
)

-- the first clock's log
first_lawful : IsLawful 0 (state_of follows entries).roles.orders (log_at logs 0)
unfolding number_at message_octets step state_of after_port with_codes after_hearing after_roles after_turn effects_of entry_after
first_lawful = record { orders_are = refl; stamped = ((refl, refl, other 1 0 refl), (tt, tt)) }

-- and the second's
second_lawful : IsLawful 1 (state_of follows entries).roles.orders (log_at logs 1)
unfolding number_at message_octets step state_of after_port with_codes after_hearing after_roles after_turn effects_of entry_after
second_lawful = record { orders_are = refl; stamped = (tt, tt) }

lawful_by : AreLawful (state_of follows entries).roles.orders logs
lawful_by zero log is =
    subst (λ (l : List LogEntry). IsLawful 0 (state_of follows entries).roles.orders l) (same_Some (log_at logs 0) log is) first_lawful
lawful_by (suc zero) log is =
    subst (λ (l : List LogEntry). IsLawful 1 (state_of follows entries).roles.orders l) (same_Some (log_at logs 1) log is) second_lawful
lawful_by (suc (suc c)) log is = absurd (cc)

lawful : AreLogs follows entries logs
lawful = record { number = refl; lawful = lawful_by }

right : (clock tick number : ℕ) → number ≤ length (log_at logs clock) → pos tick ≡ reading (clock_after (clock_at follows.clocks clock) (log_after number (log_at logs clock))) tick
    → pos 0 ≡ (clock_after (clock_at follows.clocks clock) (log_after number (log_at logs clock))).freq
    → IsSeen (clock_at follows.clocks clock) (log_at logs clock) tick (record { number = number; value = pos tick; freq = pos 0 })
right clock tick number le value freq = record { within = le; value = value; freq = freq }

abbrev IsSightRight : ℕ → Sight → Type 0
IsSightRight tick sight = IsSeen (clock_at follows.clocks sight.clock) (log_at logs sight.clock) tick sight.seen

one_read : (tick number : ℕ) → IsSightRight tick (record { clock = 0; seen = record { number = number; value = pos tick; freq = pos 0 } })
    → All (IsSightRight tick) (record { clock = 0; seen = record { number = number; value = pos tick; freq = pos 0 } } ∷ [])
one_read tick number is = All-cons (IsSightRight tick) (record { clock = 0; seen = record { number = number; value = pos tick; freq = pos 0 } }) [] is (All-nil (IsSightRight tick))

readings : All (λ (e : Entry). IsReadRight follows logs (event_of e)) entries
readings = All-from_recursion (λ (e : Entry). IsReadRight follows logs (event_of e)) entries (
  All-cons (IsSightRight 5600000000) (record { clock = 1; seen = record { number = 1; value = pos 5600000000; freq = pos 0 } }) (record { clock = 0; seen = record { number = 2; value = pos 5600000000; freq = pos 0 } } ∷ []) (right 1 5600000000 1 (omega arith) refl refl) (one_read 5600000000 2 (right 0 5600000000 2 (omega arith) refl refl)),
  (
    All-nil _,
    (
      All-nil _,
      (
        one_read 5500000000 1 (right 0 5500000000 1 (omega arith) refl refl),
        (
          one_read 5000000000 1 (right 0 5000000000 1 (omega arith) refl refl),
          (
            All-nil _,
            (
              one_read 4500000000 1 (right 0 4500000000 1 (omega arith) refl refl),
              (
                one_read 4100000000 1 (right 0 4100000000 1 (omega arith) refl refl),
                (
                  one_read 4000000000 1 (right 0 4000000000 1 (omega arith) refl refl),
                  (
                    one_read 3500000000 1 (right 0 3500000000 1 (omega arith) refl refl),
                    (
                      one_read 3000000000 0 (right 0 3000000000 0 (omega arith) refl refl),
                      (one_read 1000000000 0 (right 0 1000000000 0 (omega arith) refl refl), tt),
                    ),
                  ),
                ),
              ),
            ),
          ),
        ),
      ),
    ),
  ),
)

actions : EachAfter (λ e before. IsSteered follows e.input before) entries
actions = (refl, (tt, (refl, (tt, (tt, (refl, (tt, (tt, (tt, (tt, (tt, (tt, tt))))))))))))

outcomes : AreOutcomes follows logs entries
outcomes = record {
  agreed = All-from_recursion (λ (e : Entry). IsAgreed follows logs e.input) entries (refl, (tt, (refl, (tt, (tt, (refl, (tt, (tt, (tt, (tt, (tt, (tt, tt))))))))))));
  once = λ i j d lt below. absurd (omega arith);
}

numbers : EachAfter (IsNumbered follows logs) entries
numbers = (
  IsNumbered-test _ _ _ _ (record { rising = refl; within = refl; told = refl; read = refl; ordered = refl }),
  (
    IsNumbered-test _ _ _ _ (record { rising = refl; within = refl; told = refl; read = refl; ordered = refl }),
    (
      IsNumbered-test _ _ _ _ (record { rising = refl; within = refl; told = refl; read = refl; ordered = refl }),
      (
        IsNumbered-test _ _ _ _ (record { rising = refl; within = refl; told = refl; read = refl; ordered = refl }),
        (
          IsNumbered-test _ _ _ _ (record { rising = refl; within = refl; told = refl; read = refl; ordered = refl }),
          (
            IsNumbered-test _ _ _ _ (record { rising = refl; within = refl; told = refl; read = refl; ordered = refl }),
            (
              IsNumbered-test _ _ _ _ (record { rising = refl; within = refl; told = refl; read = refl; ordered = refl }),
              (
                IsNumbered-test _ _ _ _ (record { rising = refl; within = refl; told = refl; read = refl; ordered = refl }),
                (
                  IsNumbered-test _ _ _ _ (record { rising = refl; within = refl; told = refl; read = refl; ordered = refl }),
                  (
                    IsNumbered-test _ _ _ _ (record { rising = refl; within = refl; told = refl; read = refl; ordered = refl }),
                    (
                      IsNumbered-test _ _ _ _ (record { rising = refl; within = refl; told = refl; read = refl; ordered = refl }),
                      (IsNumbered-test _ _ _ _ (record { rising = refl; within = refl; told = refl; read = refl; ordered = refl }), tt),
                    ),
                  ),
                ),
              ),
            ),
          ),
        ),
      ),
    ),
  ),
)

pub followed_is_open : IsOpen follows followed
followed_is_open = record {
  opened = refl;
  course = record { formed = record { few = omega arith; each = formed-continues follows is_scenario entries continues }; history = continues; lawful = lawful; readings = readings; actions = actions; outcomes = outcomes; numbers = numbers };
}

-- ---- the World's run

-- the World of the scenario is that run
pub follows_to_the_end : status_after follows 17 ≡ Ended (Finished followed_to_the_end)
unfolding number_at message_octets status_after step state_of after_port with_codes after_hearing after_roles after_turn effects_of entry_after
follows_to_the_end = refl

-- so it is legal
pub followed_is_legal : IsLegal follows followed_to_the_end
followed_is_legal = run-legal follows is_scenario (stays-right follows is_scenario) followed_to_the_end (17, follows_to_the_end)
