-- The lines of a scenario text that begin a section (project).
use Rattle.std.specs.Prelude.{ℕ, ◌-◌, Bool, true, false, ◌==◌, ◌&&◌, ◌||◌, nat_eq, nat_lt, if◌then◌else◌, List, [], ◌∷◌, length, take, codes, Option, Some, None, option_map, option_and_then}
use Rattle.std.specs.List.{ends_with}
use lib.Pointwise.{pointwise}
use Rattle.text_io.specs.Numerals.{number_of}
use Rattle.bc_history.specs.declared.section.Section.{Section}
use Rattle.bc_history.specs.declared.section.Section.TheVariants.{Options as In_options, Records as In_records, Queries as In_queries, Schedule as In_schedule}
use Rattle.bc_history.specs.declared.option.Scope.TheVariants.{Global as The_whole, Clock as A_clock, Port as A_port}
use Rattle.bc_history.specs.declared.section.Header.{Header}
use Rattle.bc_history.specs.declared.section.Header.TheVariants.{Global, Clock, Port, Records, Queries, Schedule}

-- a word is spelled so
abbrev pub is_word : List ℕ → List ℕ → Bool
is_word word spelling = pointwise nat_eq word spelling

-- a number and a closing bracket
abbrev pub closed_of : List ℕ → Option ℕ
closed_of word =
    if ends_with nat_eq word (codes "]") then number_of (take (length word - 1) word) else None

-- `[global]`, `[records]`, `[queries]`, `[schedule]`
abbrev pub sole_header : List ℕ → Option Header
sole_header word =
    if is_word word (codes "[global]") then Some Global
    else if is_word word (codes "[records]") then Some Records
    else if is_word word (codes "[queries]") then Some Queries
    else if is_word word (codes "[schedule]") then Some Schedule
    else None

-- `[clock N]`; `[port N]`, on clock 0
abbrev pub numbered_header : List ℕ → List ℕ → Option Header
numbered_header name number =
    if is_word name (codes "[clock") then option_map Clock (closed_of number)
    else if is_word name (codes "[port") then option_map (λ n. Port n 0) (closed_of number)
    else None

-- `[port N clock C]`
abbrev pub placed_header : (name number word clock : List ℕ) → Option Header
placed_header name number word clock =
    if is_word name (codes "[port") && is_word word (codes "clock")
    then option_and_then (λ n. option_map (λ c. Port n c) (closed_of clock)) (number_of number)
    else None

-- the header that the words of a line are
abbrev pub header_of : List (List ℕ) → Option Header
header_of (a ∷ []) = sole_header a
header_of (a ∷ b ∷ []) = numbered_header a b
header_of (a ∷ b ∷ c ∷ d ∷ []) = placed_header a b c d
header_of _ = None

-- the section that a header begins
abbrev pub section_of : Header → Section
section_of Global = In_options The_whole
section_of (Clock n) = In_options A_clock
section_of (Port n c) = In_options A_port
section_of Records = In_records
section_of Queries = In_queries
section_of Schedule = In_schedule

-- where a section stands in the order of sections
abbrev pub place_of : Section → ℕ
place_of (In_options The_whole) = 0
place_of (In_options A_clock) = 1
place_of (In_options A_port) = 2
place_of In_records = 3
place_of In_queries = 4
place_of In_schedule = 5

-- sections of clocks and of ports may be several
abbrev pub may_repeat : Section → Bool
may_repeat (In_options The_whole) = false
may_repeat (In_options A_clock) = true
may_repeat (In_options A_port) = true
may_repeat In_records = false
may_repeat In_queries = false
may_repeat In_schedule = false

-- a section may stand behind another, or at the head of the text
abbrev pub may_follow : Option Section → Section → Bool
may_follow None next = true
may_follow (Some former) next =
    nat_lt (place_of former) (place_of next)
    || ((place_of former == place_of next) && may_repeat next)
