-- Which texts stand for which scenarios (project).
use Rattle.std.specs.Prelude.{◌≡◌, ℕ, ℤ, ◌+◌, ◌<◌, ◌≤◌, Bool, true, false, not, ◌==◌, ◌&&◌, ◌||◌, nat_eq, nat_lt, if◌then◌else◌, List, [], ◌∷◌, ◌++◌, length, take, fold, slice_get, codes, Option, Some, None}
use Rattle.std.specs.Option.{is_none}
use Rattle.std.specs.List.{starts_with, list_any}
use Rattle.text_io.specs.declared.reason.Reason.{Reason}
use Rattle.text_io.specs.declared.reason.Reason.TheVariants.{Section as Section_fault, Order, UnknownOption, Repeated, Value, Limit, Jbod}
use Rattle.text_io.specs.TextLines.{lines_of_text, words_of, is_printable}
use Rattle.ptp_base.specs.declared.port_conf.PortConf.{PortConf}
use Rattle.bc_history.specs.declared.section.Section.{Section}
use Rattle.bc_history.specs.declared.section.Section.TheVariants.{Options as In_options, Records as In_records, Queries as In_queries, Schedule as In_schedule}
use Rattle.bc_history.specs.declared.section.Header.{Header}
use Rattle.bc_history.specs.declared.section.Header.TheVariants.{Global, Clock, Port, Records, Queries, Schedule}
use Rattle.bc_history.specs.declared.section.Role.{Role}
use Rattle.bc_history.specs.declared.section.Role.TheVariants.{Skipped, Astray, Begins, Says}
use Rattle.bc_history.specs.declared.option.Scope.{Scope}
use Rattle.bc_history.specs.declared.option.Scope.TheVariants.{Global as The_whole, Clock as A_clock, Port as A_port}
use Rattle.bc_history.specs.declared.scenario.Record.{Record}
use Rattle.bc_history.specs.declared.scenario.Asked.{Asked}
use Rattle.bc_history.specs.declared.scenario.Turns.{Turns}
use Rattle.bc_history.specs.declared.scenario.Scenario.{Scenario}
use Rattle.bc_history.specs.Scenario.OptionTable.{option_named, value_of, with_option, with_port_option, with_clock_option}
use Rattle.bc_history.specs.Scenario.SectionHeaders.{header_of, section_of, may_follow}
use Rattle.bc_history.specs.Scenario.Draft.{Draft, empty_draft, with_last, scenario_of}
use Rattle.model_clock.specs.Clock.{plain_clock}
use Rattle.bc_history.specs.Scenario.SectionLines.{is_port, is_clock, record_of, is_early_record, frame_length, query_of, is_early_query, turns_of}
use Rattle.ptp_base.specs.declared.time.TheConstants.{TICK_MAX}
use Rattle.ptp_base.specs.declared.limits.TheConstants.{CLOCKS_MAX, FRAME_MAX, PORTS_MAX, QUERY_MAX}

-- ---- what a line is, by its words and the section in force

-- the role of a line that begins with a bracket: it begins a section, or is astray
abbrev pub header_role : Option Header → Role
header_role None = Astray
header_role (Some header) = Begins header

-- the role of any other line with words: it says something in its section, or is astray in none
abbrev pub inner_role : Option Section → Role
inner_role None = Astray
inner_role (Some section) = Says section

-- the role of a line with these words behind the header of a section, or before any header
abbrev pub role_of : Option Section → List (List ℕ) → Role
role_of section [] = Skipped
role_of section (word ∷ words) =
    if starts_with nat_eq word (codes "#") then Skipped
    else if starts_with nat_eq word (codes "[") then header_role (header_of (word ∷ words))
    else inner_role section

-- ---- what may be wrong with a line, each with its reason, in the order in which it is looked for
-- The draft is what the lines before it say, and good is whether all octets of the line may stand
-- in it.

-- faults that a line may have: whether each holds of it, and its reason
abbrev pub Tests : Type 0
Tests = List (Bool × Reason)

-- the first that holds
abbrev pub first_of : Tests → Option Reason
first_of [] = None
first_of (test ∷ rest) = if test.0 then Some test.1 else first_of rest

-- a section out of the order of sections, or one too many
abbrev pub is_misplaced : Draft → Section → Bool
is_misplaced d section = not (may_follow d.section section)

-- the clock is another than that of the first port, where there is a port
abbrev pub is_on_another : Option PortConf → ℕ → Bool
is_on_another None clock = false
is_on_another (Some first) clock = not (first.clock == clock)

-- a port of this clock is on another than port 1, while boundary_clock_jbod is 0
abbrev pub breaks_jbod : Draft → ℕ → Bool
breaks_jbod d clock = not d.options.boundary_clock_jbod && is_on_another (slice_get d.ports 0) clock

-- the faults of the header of a section that may stand once
abbrev pub sole_tests : Draft → Bool → Section → Tests
sole_tests d good section = (is_misplaced d section, Order) ∷ (not good, Value) ∷ []

-- the faults of a header: clocks are numbered from 0 and ports from 1, without a gap
abbrev pub header_tests : Draft → Bool → Header → Tests
header_tests d good Global = sole_tests d good (In_options The_whole)
header_tests d good (Clock n) =
    (is_misplaced d (In_options A_clock) || not (n == length d.clocks), Order)
    ∷ (not good, Value)
    ∷ (n == CLOCKS_MAX, Limit)
    ∷ []
header_tests d good (Port n clock) =
    (is_misplaced d (In_options A_port) || not (n == length d.ports + 1), Order)
    ∷ (not (is_clock d.clocks clock) || not good, Value)
    ∷ (n == PORTS_MAX + 1, Limit)
    ∷ (breaks_jbod d clock, Jbod)
    ∷ []
header_tests d good Records = sole_tests d good In_records
header_tests d good Queries = sole_tests d good In_queries
header_tests d good Schedule = sole_tests d good In_schedule

-- `NAME VALUE`
abbrev pub setting_of : ℕ → List (List ℕ) → Option ℤ
setting_of option (name ∷ value ∷ []) = value_of option value
setting_of option _ = None

-- the option that the first word names
abbrev pub option_of : Scope → List (List ℕ) → Option ℕ
option_of scope [] = None
option_of scope (name ∷ rest) = option_named scope name

-- the option is among those that stand in the section already
abbrev pub stands_in : List ℕ → ℕ → Bool
stands_in named option = list_any (λ other. other == option) named

-- the faults of a line that names an option of its section, by the value on it
abbrev pub set_tests : Draft → Bool → ℕ → Option ℤ → Tests
set_tests d good option value =
    (stands_in d.named option, Repeated)
    ∷ (is_none value || not good, Value)
    ∷ []

-- the faults of a line in a section of options, by the option that it names
abbrev pub option_tests : Draft → Bool → List (List ℕ) → Option ℕ → Tests
option_tests d good words None = (true, UnknownOption) ∷ []
option_tests d good words (Some option) = set_tests d good option (setting_of option words)

-- no record, or one of a port that is not there
abbrev pub is_lost : List PortConf → Option Record → Bool
is_lost ports None = true
is_lost ports (Some record_) = not (is_port ports record_.port)

-- a record whose tick or frame is above its limit
abbrev pub is_great_record : Option Record → Bool
is_great_record None = false
is_great_record (Some r) = nat_lt TICK_MAX r.tick || nat_lt FRAME_MAX (frame_length r.what)

-- the faults of a line in `[records]`, by the record that it has
abbrev pub found_tests : Draft → (is_early : Bool) → Option Record → Bool → Tests
found_tests d is_early found good =
    (is_early, Order)
    ∷ (is_lost d.ports found || not good, Value)
    ∷ (is_great_record found, Limit)
    ∷ []

-- the faults of a line in `[records]`, by its words
abbrev pub record_tests : Draft → Bool → List (List ℕ) → Tests
record_tests d good words =
    found_tests d (is_early_record d.ports d.records words) (record_of words) good

-- a query whose tick or text is above its limit
abbrev pub is_great_query : Option Asked → Bool
is_great_query None = false
is_great_query (Some asked) = nat_lt TICK_MAX asked.tick || nat_lt QUERY_MAX (length asked.text)

-- the faults of a line in `[queries]`, by the query that it has
abbrev pub asked_tests : (is_early : Bool) → Option Asked → Bool → Tests
asked_tests is_early asked good =
    (is_early, Order)
    ∷ (is_none asked || not good, Value)
    ∷ (is_great_query asked, Limit)
    ∷ []

-- the faults of a line in `[queries]`, by its words
abbrev pub query_tests : Draft → Bool → List (List ℕ) → Tests
query_tests d good words = asked_tests (is_early_query d.queries words) (query_of words) good

-- the faults of a line in `[schedule]`, by the turns that it has
abbrev pub added_tests : Option Turns → Bool → Tests
added_tests turns good = (is_none turns || not good, Value) ∷ []

-- the faults of a line in `[schedule]`, by its words
abbrev pub turn_tests : Draft → Bool → List (List ℕ) → Tests
turn_tests d good words = added_tests (turns_of d.ports d.clocks words) good

-- the faults of a line, by its words and its role
abbrev pub tests_of : Draft → Bool → List (List ℕ) → Role → Tests
tests_of d good words Skipped = []
tests_of d good words Astray = (true, Section_fault) ∷ []
tests_of d good words (Begins header) = header_tests d good header
tests_of d good words (Says (In_options scope)) = option_tests d good words (option_of scope words)
tests_of d good words (Says In_records) = record_tests d good words
tests_of d good words (Says In_queries) = query_tests d good words
tests_of d good words (Says In_schedule) = turn_tests d good words

-- what is wrong with a line, behind lines that say so much
abbrev pub fault : Draft → List ℕ → Option Reason
fault d line =
    first_of (tests_of d (is_printable line) (words_of line) (role_of d.section (words_of line)))

-- ---- what a line adds

-- the draft as a section begins, with one plain clock or one port at the defaults more where it is
-- of one
abbrev pub with_header : Draft → Header → Draft
with_header d header = added header (record d { section = Some (section_of header); named = [] })
  where
    added : Header → Draft → Draft
    added (Clock n) e = record e { clocks = e.clocks ++ plain_clock ∷ [] }
    added (Port n clock) e = record e
        { ports = e.ports ++ record e.defaults { clock = clock } ∷ [] }
    added _ e = e

-- an option of the whole is one of `Options` or a default of ports; one of a clock or a port is set
-- in the latest of these
abbrev pub with_setting : Draft → Scope → ℕ → ℤ → Draft
with_setting d The_whole option value =
    record d {
      named = d.named ++ option ∷ [];
      options = with_option option value d.options;
      defaults = with_port_option option value d.defaults;
    }
with_setting d A_clock option value =
    record d {
      named = d.named ++ option ∷ [];
      clocks = with_last (with_clock_option option value) d.clocks;
    }
with_setting d A_port option value =
    record d {
      named = d.named ++ option ∷ [];
      ports = with_last (with_port_option option value) d.ports;
    }

-- the draft with an option at its value, where the line has one
abbrev pub with_set : Draft → Scope → ℕ → Option ℤ → Draft
with_set d scope option None = d
with_set d scope option (Some value) = with_setting d scope option value

-- the draft after a line in a section of options, by the option that it names
abbrev pub with_option_line : Draft → Scope → List (List ℕ) → Option ℕ → Draft
with_option_line d scope words None = d
with_option_line d scope words (Some option) = with_set d scope option (setting_of option words)

-- a list with one more element behind it, where there is one
abbrev pub and_one : {T : Type 0} → List T → Option T → List T
and_one xs None = xs
and_one xs (Some x) = xs ++ x ∷ []

-- the draft after a line, by its words and its role
abbrev pub with_role : Draft → List (List ℕ) → Role → Draft
with_role d words Skipped = d
with_role d words Astray = d
with_role d words (Begins header) = with_header d header
with_role d words (Says (In_options scope)) = with_option_line d scope words (option_of scope words)
with_role d words (Says In_records) = record d { records = and_one d.records (record_of words) }
with_role d words (Says In_queries) = record d { queries = and_one d.queries (query_of words) }
with_role d words (Says In_schedule) =
    record d { turns = and_one d.turns (turns_of d.ports d.clocks words) }

-- the draft after a line
abbrev pub with_line : Draft → List ℕ → Draft
with_line d line = with_role d (words_of line) (role_of d.section (words_of line))

-- what some lines say
abbrev pub draft_of : List (List ℕ) → Draft
draft_of lines = fold with_line empty_draft lines

-- ---- texts

-- a text is faulty behind its last line, where it has no port
abbrev pub end_fault : Draft → Option Reason
end_fault d = if length d.ports == 0 then Some Section_fault else None

-- what is wrong with a line behind others, or with the end of the text behind them
abbrev pub fault_behind : List (List ℕ) → Option (List ℕ) → Option Reason
fault_behind lines (Some line) = fault (draft_of lines) line
fault_behind lines None = end_fault (draft_of lines)

-- what is wrong behind the first n lines: with line n + 1, or with the end of the text
abbrev pub fault_at : List (List ℕ) → ℕ → Option Reason
fault_at lines n = fault_behind (take n lines) (slice_get lines n)

-- how many lines a text has
abbrev pub line_count : List ℕ → ℕ
line_count text = length (lines_of_text text)

-- the least faulty line of a text, counted from 1, and what is wrong first there
pub record IsFirstFault (text : List ℕ) (line : ℕ) (reason : Reason) : Type 0 where
  -- how many lines stand before it
  pub index : ℕ
  pub counted : line ≡ index + 1
  pub within : index ≤ line_count text
  pub faulty : fault_at (lines_of_text text) index ≡ Some reason
  pub least : (n : ℕ) → n < index → fault_at (lines_of_text text) n ≡ None

-- no line of the text is faulty, and the scenario is what its lines say
pub record Stands (text : List ℕ) (s : Scenario) : Type 0 where
  pub faultless : (n : ℕ) → n ≤ line_count text → fault_at (lines_of_text text) n ≡ None
  pub said : s ≡ scenario_of (draft_of (lines_of_text text))
