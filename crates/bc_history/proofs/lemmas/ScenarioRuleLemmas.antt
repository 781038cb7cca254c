-- What the lines of a faultless text say keeps the rules.
use Rattle.std.proofs.Common.{◌≡◌, ℕ, ℤ, zero, suc, ◌+◌, ◌<◌, ◌≤◌, Bool, true, false, cond, not, ◌&&◌, ◌||◌, List, [], ◌∷◌, ◌++◌, length, get_or, take, Option, Some, None, refl, sym, ◌∙◌, ap, arith, inl, inr}
use Rattle.std.specs.Prelude.{nat_lt, nat_eq, ◌==◌, slice_get, codes}
use Rattle.std.specs.List.{All, starts_with}
use Rattle.std.specs.Option.{IfSome, is_none}
use Rattle.std.proofs.lemmas.Bool.{or_parts, or_cases, and_parts, not-false, ltb-true, eqb-true, eqb-false}
use Rattle.std.proofs.lemmas.List.{take_more, take_all, length_push}
use Rattle.std.proofs.lemmas.List.Elements.{All-push, All-weaker}
use Rattle.std.proofs.lemmas.List.Quantifiers.{all_pairs_push}
use Rattle.std.proofs.lemmas.List.Sums.{fold-append}
use Rattle.std.proofs.lemmas.Option.{slice_get-get_or, slice_get_past}
use Rattle.text_io.specs.declared.reason.Reason.{Reason}
use Rattle.text_io.specs.TextLines.{lines_of_text, words_of, is_printable}
use Rattle.ptp_base.specs.declared.port_conf.PortConf.{PortConf}
use Rattle.model_clock.specs.declared.state.ClockState.{ClockState}
use Rattle.bc_history.specs.declared.section.Header.{Header}
use Rattle.bc_history.specs.declared.section.Header.TheVariants.{Global, Clock, Port, Records, Queries, Schedule}
use Rattle.bc_history.specs.declared.section.Role.{Role}
use Rattle.bc_history.specs.declared.section.Role.TheVariants.{Skipped, Astray, Begins, Says}
use Rattle.bc_history.specs.declared.section.Section.{Section}
use Rattle.bc_history.specs.declared.section.Section.TheVariants.{Options as In_options, Records as In_records, Queries as In_queries, Schedule as In_schedule}
use Rattle.bc_history.specs.declared.option.Scope.{Scope}
use Rattle.bc_history.specs.declared.option.Scope.TheVariants.{Global as The_whole, Clock as A_clock, Port as A_port}
use Rattle.bc_history.specs.declared.scenario.Record.{Record}
use Rattle.bc_history.specs.declared.scenario.Asked.{Asked}
use Rattle.bc_history.specs.declared.scenario.Scenario.{Scenario}
use Rattle.bc_history.specs.Scenario.OptionTable.{Row, IsFrom, is_in_range, in_range, value_in, read_as, row_of, with_port_option, with_clock_option}
use Rattle.bc_history.specs.Scenario.SectionHeaders.{header_of, place_of, may_repeat, may_follow}
use Rattle.model_clock.specs.Clock.{plain_clock}
use Rattle.bc_history.specs.Scenario.Draft.{Draft, empty_draft, with_last, clocks_of, scenario_of}
use Rattle.bc_history.specs.Scenario.SectionLines.{is_clock, record_of, is_early_record, query_of, is_early_query, turns_of}
use Rattle.bc_history.specs.Scenario.LineFaults.{first_of, is_misplaced, is_on_another, breaks_jbod, sole_tests, header_tests, setting_of, option_of, is_lost, is_great_record, is_great_query, record_tests, query_tests, tests_of, header_role, inner_role, role_of, with_header, with_setting, with_set, with_option_line, and_one, with_role, with_line, draft_of, fault, end_fault, fault_behind, fault_at, Stands}
use Rattle.bc_history.specs.Scenario.QueryTexts.{IsWord}
use Rattle.bc_history.specs.Scenario.ScenarioRules.{AreOptions, IsOpeningClock, IsPortConf, AreTurnsOf, AreTogether, IsScenario}
use Rattle.bc_history.proofs.lemmas.OptionRuleLemmas.{IsInRow, keeps_option, keeps_port, keeps_clock, port_stays, defaults_in_range, plain_port_rule, plain_clock_rule}
use Rattle.bc_history.proofs.lemmas.ListRuleLemmas.{length-last, all-last, same-last, all-and_one}
use Rattle.bc_history.proofs.lemmas.QueryTextLemmas.{printable_words}
use Rattle.bc_history.proofs.lemmas.LineRuleLemmas.{AreRecords, IsNextRecord, next_record, more_records, more_ports, AreQueries, IsNextQuery, next_query, more_queries, AreTurns, next_turns, turns_still}

-- where the section in force stands in the order of sections
abbrev rank : Option Section → ℕ
rank None = 0
rank (Some section) = place_of section

-- each port is on one of so many clocks
abbrev ArePlaced : ℕ → List PortConf → Type 0
ArePlaced clocks ports = All (λ (p : PortConf). p.clock < clocks) ports

-- what some faultless lines say: before the sections of ports there are none
record IsDraft (d : Draft) : Type 0 where
  options : AreOptions d.options
  defaults : IsPortConf d.defaults
  few_clocks : length d.clocks ≤ 16
  clocks : All IsOpeningClock d.clocks
  few_ports : length d.ports ≤ 32
  ports : All IsPortConf d.ports
  placed : ArePlaced (length (clocks_of d.clocks)) d.ports
  together : d.options.boundary_clock_jbod ≡ false → AreTogether d.ports
  none_ahead : rank d.section < 2 → d.ports ≡ []
  records : AreRecords (length d.ports) d.records
  queries : AreQueries d.queries
  turns : AreTurns (length d.clocks) (length d.ports) d.turns

-- ---- tests

first_none : (b : Bool) (reason : Reason) (rest : Option Reason) → cond b (Some reason) rest ≡ None → (b ≡ false) × (rest ≡ None)
first_none true reason rest e = cc
first_none false reason rest e = (refl, e)

last_none : (b : Bool) (reason : Reason) → cond b (Some reason) None ≡ None → b ≡ false
last_none b reason e = (first_none b reason None e).0

-- ---- headers

follows : (former : Option Section) (next : Section) → may_follow former next ≡ true → rank former ≤ place_of next
follows None next e = omega arith
follows (Some former) next e = elim (or_cases (nat_lt (place_of former) (place_of next)) ((place_of former == place_of next) && may_repeat next) e) [
  | inl below ↦ omega (arith, ltb-true (place_of former) (place_of next) below)
  | inr same ↦ omega (arith, eqb-true (place_of former) (place_of next) (and_parts (place_of former == place_of next) (may_repeat next) same).0)
]

in_place : (d : Draft) (next : Section) → is_misplaced d next ≡ false → rank d.section ≤ place_of next
in_place d next e = follows d.section next (not-false (may_follow d.section next) e)

placed_still : (clocks more : ℕ) (ports : List PortConf) → clocks ≤ more → ArePlaced clocks ports → ArePlaced more ports
placed_still clocks more ports le h = All-weaker (λ (p : PortConf). p.clock < clocks) (λ (p : PortConf). p.clock < more) (λ p below. omega (arith, below, le)) ports h

-- no fewer clocks with one more, and at least one
more_clocks : (clocks : List ClockState) (c : ClockState) → length (clocks_of clocks) ≤ length (clocks_of (clocks ++ c ∷ []))
more_clocks [] c = omega arith
more_clocks (x ∷ xs) c = omega (arith, length_push xs c)

enter_sole : (d : Draft) (next : Section) → is_misplaced d next ≡ false → IsDraft d → IsDraft (record d { section = Some next; named = [] })
enter_sole d next e h =
    let behind : rank d.section ≤ place_of next = in_place d next e in
    record {
      options = h.options;
      defaults = h.defaults;
      few_clocks = h.few_clocks;
      clocks = h.clocks;
      few_ports = h.few_ports;
      ports = h.ports;
      placed = h.placed;
      together = h.together;
      records = h.records;
      queries = h.queries;
      turns = h.turns;
      none_ahead = λ early. h.none_ahead (omega (arith, early, behind));
    }

sole : (d : Draft) (good : Bool) (next : Section) → first_of (sole_tests d good next) ≡ None → IsDraft d → IsDraft (record d { section = Some next; named = [] })
sole d good next e h = enter_sole d next (first_none (is_misplaced d next) _ _ e).0 h

enter_clock : (d : Draft) (n : ℕ) → is_misplaced d (In_options A_clock) ≡ false → n ≡ length d.clocks → (n ≡ 16 → ⊥) → IsDraft d → IsDraft (with_header d (Clock n))
enter_clock d n e same other h =
    let behind : rank d.section ≤ 1 = in_place d (In_options A_clock) e in
    let more : length (d.clocks ++ plain_clock ∷ []) ≡ length d.clocks + 1 = length_push d.clocks plain_clock in
    record {
      options = h.options;
      defaults = h.defaults;
      few_ports = h.few_ports;
      ports = h.ports;
      together = h.together;
      records = h.records;
      queries = h.queries;
      few_clocks = omega (arith, more, h.few_clocks, same, other);
      clocks = All-push IsOpeningClock d.clocks plain_clock h.clocks plain_clock_rule;
      placed = placed_still (length (clocks_of d.clocks)) (length (clocks_of (d.clocks ++ plain_clock ∷ []))) d.ports (more_clocks d.clocks plain_clock) h.placed;
      none_ahead = λ early. h.none_ahead (omega (arith, behind));
      turns = turns_still (length d.clocks) (length (d.clocks ++ plain_clock ∷ [])) (length d.ports) (length d.ports) d.turns (omega (arith, more)) (omega arith) h.turns;
    }

-- the clock is that of each port so far
on_one : (ports : List PortConf) (clock : ℕ) → is_on_another (slice_get ports 0) clock ≡ false → AreTogether ports → (k : ℕ) (d : PortConf) → k < length ports → (get_or ports k d).clock ≡ clock
on_one [] clock e h k d below = absurd (omega (arith, below))
on_one (first ∷ rest) clock e h zero d below = eqb-true first.clock clock (not-false (first.clock == clock) e)
on_one (first ∷ rest) clock e h (suc k) d below =
    let here : first.clock ≡ clock = eqb-true first.clock clock (not-false (first.clock == clock) e) in
    let same : first.clock ≡ (get_or rest k d).clock = h 0 (suc k) d (omega arith) below in
    sym same ∙ here

alone : (off : Bool) (another : Bool) → (not off && another) ≡ false → off ≡ false → another ≡ false
alone true another e is = cc
alone false another e is = e

enter_port : (d : Draft) (n clock : ℕ) → is_misplaced d (In_options A_port) ≡ false → n ≡ length d.ports + 1 → (n ≡ 33 → ⊥) → is_clock d.clocks clock ≡ true → breaks_jbod d clock ≡ false → IsDraft d → IsDraft (with_header d (Port n clock))
enter_port d n clock e same other there one h =
    let more : length (d.ports ++ record d.defaults { clock = clock } ∷ []) ≡ length d.ports + 1 = length_push d.ports (record d.defaults { clock = clock }) in
    let fewer : length d.ports ≤ length (d.ports ++ record d.defaults { clock = clock } ∷ []) = omega (arith, more) in
    record {
      options = h.options;
      defaults = h.defaults;
      few_clocks = h.few_clocks;
      clocks = h.clocks;
      queries = h.queries;
      few_ports = omega (arith, more, h.few_ports, same, other);
      ports = All-push IsPortConf d.ports (record d.defaults { clock = clock }) h.ports h.defaults;
      placed = All-push (λ (p : PortConf). p.clock < length (clocks_of d.clocks)) d.ports (record d.defaults { clock = clock }) h.placed (ltb-true clock (length (clocks_of d.clocks)) there);
      together = λ off. all_pairs_push (λ (p q : PortConf). p.clock ≡ q.clock) d.ports (record d.defaults { clock = clock }) (h.together off)
          (on_one d.ports clock (alone d.options.boundary_clock_jbod (is_on_another (slice_get d.ports 0) clock) one off) (h.together off));
      none_ahead = λ early. absurd (omega (arith, early));
      records = more_ports (length d.ports) (length (d.ports ++ record d.defaults { clock = clock } ∷ [])) d.records fewer h.records;
      turns = turns_still (length d.clocks) (length d.clocks) (length d.ports) (length (d.ports ++ record d.defaults { clock = clock } ∷ [])) d.turns (omega arith) fewer h.turns;
    }

header : (d : Draft) (good : Bool) (next : Header) → first_of (header_tests d good next) ≡ None → IsDraft d → IsDraft (with_header d next)
header d good Global e h = sole d good (In_options The_whole) e h
header d good (Clock n) e h =
    let one = first_none (is_misplaced d (In_options A_clock) || not (n == length d.clocks)) _ _ e in
    let two = first_none (not good) _ _ one.1 in
    let three : (n == 16) ≡ false = last_none (n == 16) _ two.1 in
    let order : (is_misplaced d (In_options A_clock) ≡ false) × (not (n == length d.clocks) ≡ false) = or_parts (is_misplaced d (In_options A_clock)) (not (n == length d.clocks)) one.0 in
    enter_clock d n order.0 (eqb-true n (length d.clocks) (not-false (n == length d.clocks) order.1)) (eqb-false n 16 three) h
header d good (Port n clock) e h =
    let one = first_none (is_misplaced d (In_options A_port) || not (n == length d.ports + 1)) _ _ e in
    let two = first_none (not (is_clock d.clocks clock) || not good) _ _ one.1 in
    let three = first_none (n == 33) _ _ two.1 in
    let four : breaks_jbod d clock ≡ false = last_none (breaks_jbod d clock) _ three.1 in
    let order : (is_misplaced d (In_options A_port) ≡ false) × (not (n == length d.ports + 1) ≡ false) = or_parts (is_misplaced d (In_options A_port)) (not (n == length d.ports + 1)) one.0 in
    let value : (not (is_clock d.clocks clock) ≡ false) × (not good ≡ false) = or_parts (not (is_clock d.clocks clock)) (not good) two.0 in
    enter_port d n clock order.0 (eqb-true n (length d.ports + 1) (not-false (n == length d.ports + 1) order.1)) (eqb-false n 33 three.0) (not-false (is_clock d.clocks clock) value.0) four h
header d good Records e h = sole d good In_records e h
header d good Queries e h = sole d good In_queries e h
header d good Schedule e h = sole d good In_schedule e h

-- ---- options

some_same : (a b : Row) → Some a ≡ Some b → a ≡ b
some_same a b e = cc

ranged_by : (option : ℕ) (row : Row) (value : ℤ) (good : Bool) → row_of option ≡ Some row → is_in_range row value ≡ good → IfSome (cond good (Some value) None) (IsInRow option)
ranged_by option row value true is e = λ other same. let one : row ≡ other = some_same row other (sym is ∙ same) in rw one at e
ranged_by option row value false is e = tt

ranged : (option : ℕ) (row : Row) (value : Option ℤ) → row_of option ≡ Some row → IfSome (in_range row value) (IsInRow option)
ranged option row None is = tt
ranged option row (Some value) is = ranged_by option row value (is_in_range row value) is refl

ranged_in : (option : ℕ) (row : Option Row) (word : List ℕ) → row_of option ≡ row → IfSome (value_in row word) (IsInRow option)
ranged_in option None word is = tt
ranged_in option (Some row) word is = ranged option row (read_as row.form word) is

setting : (option : ℕ) (words : List (List ℕ)) → IfSome (setting_of option words) (IsInRow option)
setting option [] = tt
setting option (a ∷ []) = tt
setting option (a ∷ b ∷ []) = ranged_in option (row_of option) b refl
setting option (a ∷ b ∷ c ∷ rest) = tt

none_together : (ports : List PortConf) → ports ≡ [] → AreTogether ports
none_together ports none = rw none (λ i j d below within. absurd (omega (arith, within)))

clock_count_last : (f : ClockState → ClockState) (clocks : List ClockState) → length (clocks_of (with_last f clocks)) ≡ length (clocks_of clocks)
clock_count_last f clocks = counted (with_last f clocks) clocks (length-last f clocks)
  where
    counted : (a b : List ClockState) → length a ≡ length b → length (clocks_of a) ≡ length (clocks_of b)
    counted [] [] e = refl
    counted [] (y ∷ ys) e = absurd (omega (arith, e))
    counted (x ∷ xs) [] e = absurd (omega (arith, e))
    counted (x ∷ xs) (y ∷ ys) e = e

set : (d : Draft) (scope : Scope) (option : ℕ) (value : ℤ) → d.section ≡ Some (In_options scope) → IsInRow option value → IsDraft d → IsDraft (with_setting d scope option value)
set d The_whole option value in_force good h =
    let none : d.ports ≡ [] = h.none_ahead (rw in_force (omega arith)) in
    record {
      few_clocks = h.few_clocks;
      clocks = h.clocks;
      few_ports = h.few_ports;
      ports = h.ports;
      placed = h.placed;
      none_ahead = h.none_ahead;
      records = h.records;
      queries = h.queries;
      turns = h.turns;
      options = keeps_option option value d.options good h.options;
      defaults = keeps_port option value d.defaults good h.defaults;
      together = λ off. none_together d.ports none;
    }
set d A_clock option value in_force good h =
    let count : length (with_last (with_clock_option option value) d.clocks) ≡ length d.clocks = length-last (with_clock_option option value) d.clocks in
    let as_many : length (clocks_of (with_last (with_clock_option option value) d.clocks)) ≡ length (clocks_of d.clocks) = clock_count_last (with_clock_option option value) d.clocks in
    record {
      options = h.options;
      defaults = h.defaults;
      few_ports = h.few_ports;
      ports = h.ports;
      together = h.together;
      none_ahead = h.none_ahead;
      records = h.records;
      queries = h.queries;
      few_clocks = omega (arith, count, h.few_clocks);
      clocks = all-last IsOpeningClock (with_clock_option option value) (λ c one. keeps_clock option value c good one) d.clocks h.clocks;
      placed = rw as_many h.placed;
      turns = rw count h.turns;
    }
set d A_port option value in_force good h =
    let count : length (with_last (with_port_option option value) d.ports) ≡ length d.ports = length-last (with_port_option option value) d.ports in
    let clock : (i : ℕ) (p : PortConf) → (get_or (with_last (with_port_option option value) d.ports) i p).clock ≡ (get_or d.ports i p).clock = same-last (λ (p : PortConf). p.clock) (with_port_option option value) (port_stays option value) d.ports in
    record {
      options = h.options;
      defaults = h.defaults;
      few_clocks = h.few_clocks;
      clocks = h.clocks;
      queries = h.queries;
      few_ports = omega (arith, count, h.few_ports);
      ports = all-last IsPortConf (with_port_option option value) (λ p one. keeps_port option value p good one) d.ports h.ports;
      placed = all-last (λ (p : PortConf). p.clock < length (clocks_of d.clocks)) (with_port_option option value) (λ p below. rw (port_stays option value p) below) d.ports h.placed;
      together = λ off i j p below within. clock i p ∙ h.together off i j p below (omega (arith, within, count)) ∙ sym (clock j p);
      none_ahead = λ early. let late : 2 < 2 = rw in_force at early in absurd (omega (arith, late));
      records = rw count h.records;
      turns = rw count h.turns;
    }

set_found : (d : Draft) (scope : Scope) (option : ℕ) (value : Option ℤ) → d.section ≡ Some (In_options scope) → IfSome value (IsInRow option) → IsDraft d → IsDraft (with_set d scope option value)
set_found d scope option None in_force good h = h
set_found d scope option (Some value) in_force good h = set d scope option value in_force good h

option_line : (d : Draft) (scope : Scope) (words : List (List ℕ)) (option : Option ℕ) → d.section ≡ Some (In_options scope) → IsDraft d → IsDraft (with_option_line d scope words option)
option_line d scope words None in_force h = h
option_line d scope words (Some option) in_force h = set_found d scope option (setting_of option words) in_force (setting option words) h

-- ---- records, queries and turns

record_found : (d : Draft) (found : Option Record) → IfSome found (IsNextRecord d.ports d.records) → IsDraft d → AreRecords (length d.ports) (and_one d.records found)
record_found d None next h = h.records
record_found d (Some r) next h = more_records (length d.ports) d.records r h.records next.0 next.1

query_found : (d : Draft) (found : Option Asked) → IfSome found (IsNextQuery d.queries) → IsDraft d → AreQueries (and_one d.queries found)
query_found d None next h = h.queries
query_found d (Some q) next h = more_queries d.queries q h.queries next.0 next.1

record_line : (d : Draft) (good : Bool) (words : List (List ℕ)) → first_of (record_tests d good words) ≡ None → IsDraft d → IsDraft (with_role d words (Says In_records))
record_line d good words e h =
    let one = first_none (is_early_record d.ports d.records words) _ _ e in
    let two = first_none (is_lost d.ports (record_of words) || not good) _ _ one.1 in
    let three : is_great_record (record_of words) ≡ false = last_none (is_great_record (record_of words)) _ two.1 in
    let value : (is_lost d.ports (record_of words) ≡ false) × (not good ≡ false) = or_parts (is_lost d.ports (record_of words)) (not good) two.0 in
    record {
      options = h.options;
      defaults = h.defaults;
      few_clocks = h.few_clocks;
      clocks = h.clocks;
      few_ports = h.few_ports;
      ports = h.ports;
      placed = h.placed;
      together = h.together;
      none_ahead = h.none_ahead;
      queries = h.queries;
      turns = h.turns;
      records = record_found d (record_of words) (next_record d.ports d.records words one.0 value.0 three) h;
    }

query_line : (d : Draft) (good : Bool) (words : List (List ℕ)) → (good ≡ true → All IsWord words) → first_of (query_tests d good words) ≡ None → IsDraft d → IsDraft (with_role d words (Says In_queries))
query_line d good words spelled e h =
    let one = first_none (is_early_query d.queries words) _ _ e in
    let two = first_none (is_none (query_of words) || not good) _ _ one.1 in
    let three : is_great_query (query_of words) ≡ false = last_none (is_great_query (query_of words)) _ two.1 in
    let value : (is_none (query_of words) ≡ false) × (not good ≡ false) = or_parts (is_none (query_of words)) (not good) two.0 in
    record {
      options = h.options;
      defaults = h.defaults;
      few_clocks = h.few_clocks;
      clocks = h.clocks;
      few_ports = h.few_ports;
      ports = h.ports;
      placed = h.placed;
      together = h.together;
      none_ahead = h.none_ahead;
      records = h.records;
      turns = h.turns;
      queries = query_found d (query_of words) (next_query d.queries words (spelled (not-false good value.1)) one.0 three) h;
    }

turn_line : (d : Draft) (words : List (List ℕ)) → IsDraft d → IsDraft (with_role d words (Says In_schedule))
turn_line d words h = record {
  options = h.options;
  defaults = h.defaults;
  few_clocks = h.few_clocks;
  clocks = h.clocks;
  few_ports = h.few_ports;
  ports = h.ports;
  placed = h.placed;
  together = h.together;
  none_ahead = h.none_ahead;
  records = h.records;
  queries = h.queries;
  turns = all-and_one (AreTurnsOf (length d.clocks) (length d.ports)) d.turns (turns_of d.ports d.clocks words) h.turns (next_turns d.ports d.clocks words);
}

-- ---- lines

in_role : (d : Draft) (good : Bool) (words : List (List ℕ)) (role : Role) → ((section : Section) → role ≡ Says section → d.section ≡ Some section) → (good ≡ true → All IsWord words)
    → first_of (tests_of d good words role) ≡ None → IsDraft d → IsDraft (with_role d words role)
in_role d good words Skipped in_force spelled e h = h
in_role d good words Astray in_force spelled e h = h
in_role d good words (Begins next) in_force spelled e h = header d good next e h
in_role d good words (Says (In_options scope)) in_force spelled e h = option_line d scope words (option_of scope words) (in_force (In_options scope) refl) h
in_role d good words (Says In_records) in_force spelled e h = record_line d good words e h
in_role d good words (Says In_queries) in_force spelled e h = query_line d good words spelled e h
in_role d good words (Says In_schedule) in_force spelled e h = turn_line d words h

said_in : (skipped bracket : Bool) (found : Option Header) (section : Option Section) (said : Section) → cond skipped Skipped (cond bracket (header_role found) (inner_role section)) ≡ Says said → section ≡ Some said
said_in true bracket found section said e = cc
said_in false true None section said e = cc
said_in false true (Some next) section said e = cc
said_in false false found None said e = cc
said_in false false found (Some section) said e = cc

in_force : (section : Option Section) (words : List (List ℕ)) (said : Section) → role_of section words ≡ Says said → section ≡ Some said
in_force section [] said e = cc
in_force section (word ∷ words) said e = said_in (starts_with nat_eq word (codes "#")) (starts_with nat_eq word (codes "[")) (header_of (word ∷ words)) section said e

one_line : (d : Draft) (line : List ℕ) → fault d line ≡ None → IsDraft d → IsDraft (with_line d line)
one_line d line e h = in_role d (is_printable line) (words_of line) (role_of d.section (words_of line)) (in_force d.section (words_of line)) (printable_words line) e h

-- ---- texts

start : IsDraft empty_draft
start = record {
  options = defaults_in_range;
  defaults = plain_port_rule;
  few_clocks = omega arith;
  clocks = λ k d below. absurd (omega (arith, below));
  few_ports = omega arith;
  ports = λ k d below. absurd (omega (arith, below));
  placed = λ k d below. absurd (omega (arith, below));
  together = λ off i j d below within. absurd (omega (arith, within));
  none_ahead = λ early. refl;
  records = record { each = λ k d below. absurd (omega (arith, below)); order = λ i j d below within. absurd (omega (arith, within)); latest = λ port k d below. absurd (omega (arith, below)) };
  queries = record { each = λ k d below. absurd (omega (arith, below)); order = λ i j d below within. absurd (omega (arith, within)); latest = λ k d below. absurd (omega (arith, below)) };
  turns = λ k d below. absurd (omega (arith, below));
}

next_line : (lines : List (List ℕ)) (k : ℕ) → k < length lines → fault_at lines k ≡ None → IsDraft (draft_of (take k lines)) → IsDraft (draft_of (take (k + 1) lines))
next_line lines k below e h =
    let there : slice_get lines k ≡ Some (get_or lines k []) = slice_get-get_or lines k [] below in
    let good : fault (draft_of (take k lines)) (get_or lines k []) ≡ None = sym (ap (fault_behind (take k lines)) there) ∙ e in
    let longer : draft_of (take (k + 1) lines) ≡ with_line (draft_of (take k lines)) (get_or lines k []) =
    ap draft_of (take_more lines k [] below) ∙ fold-append with_line empty_draft (take k lines) (get_or lines k [] ∷ []) in
    rw longer (one_line (draft_of (take k lines)) (get_or lines k []) good h)

lines_keep : (lines : List (List ℕ)) (k : ℕ) → k ≤ length lines → ((n : ℕ) → n ≤ length lines → fault_at lines n ≡ None) → IsDraft (draft_of (take k lines))
lines_keep lines zero le good = start
lines_keep lines (suc k) le good =
    let same : suc k ≡ k + 1 = omega arith in
    rw same (next_line lines k (omega (arith, le)) (good k (omega (arith, le))) (lines_keep lines k (omega (arith, le)) good))

some_port : (d : Draft) → end_fault d ≡ None → 1 ≤ length d.ports
some_port d e = let none : (length d.ports == 0) ≡ false = last_none (length d.ports == 0) _ e in omega (arith, eqb-false (length d.ports) 0 none)

clocks_rule : (clocks : List ClockState) → All IsOpeningClock clocks → All IsOpeningClock (clocks_of clocks)
clocks_rule [] h = All-push IsOpeningClock [] plain_clock h plain_clock_rule
clocks_rule (c ∷ cs) h = h

clock_number : (clocks : List ClockState) → length clocks ≤ 16 → (IsFrom 1 16 (length (clocks_of clocks)) × (length clocks ≤ length (clocks_of clocks)))
clock_number [] few = ((omega arith, omega arith), omega arith)
clock_number (c ∷ cs) few = ((omega arith, few), omega arith)

scenario_rules : (d : Draft) → IsDraft d → 1 ≤ length d.ports → IsScenario (scenario_of d)
scenario_rules d h some =
    let number : IsFrom 1 16 (length (clocks_of d.clocks)) × (length d.clocks ≤ length (clocks_of d.clocks)) = clock_number d.clocks h.few_clocks in
    record {
      options = h.options;
      clock_count = number.0;
      clocks = clocks_rule d.clocks h.clocks;
      port_count = (some, h.few_ports);
      ports = h.ports;
      placed = h.placed;
      together = h.together;
      records = h.records.each;
      record_order = h.records.order;
      queries = h.queries.each;
      query_order = h.queries.order;
      turns = turns_still (length d.clocks) (length (clocks_of d.clocks)) (length d.ports) (length d.ports) d.turns number.1 (omega arith) h.turns;
    }

lines_rules : (lines : List (List ℕ)) → ((n : ℕ) → n ≤ length lines → fault_at lines n ≡ None) → IsScenario (scenario_of (draft_of lines))
lines_rules lines good =
    let whole : take (length lines) lines ≡ lines = take_all (length lines) lines (omega arith) in
    let gone : slice_get lines (length lines) ≡ None = slice_get_past lines (length lines) (omega arith) in
    let kept : IsDraft (draft_of lines) = rw whole at (lines_keep lines (length lines) (omega arith) good) in
    let end : end_fault (draft_of lines) ≡ None = sym (ap (fault_behind (take (length lines) lines)) gone ∙ ap (λ ls. end_fault (draft_of ls)) whole) ∙ good (length lines) (omega arith) in
    scenario_rules (draft_of lines) kept (some_port (draft_of lines) end)

pub scenario_keeps : (text : List ℕ) (s : Scenario) → Stands text s → IsScenario s
scenario_keeps text s stands = rw stands.said (lines_rules (lines_of_text text) stands.faultless)
