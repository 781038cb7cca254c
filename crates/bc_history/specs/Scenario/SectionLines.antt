-- The lines within the sections `[records]`, `[queries]` and `[schedule]` (project).
use Rattle.std.specs.Prelude.{ℕ, ◌-◌, Bool, false, ◌==◌, ◌&&◌, nat_lt, nat_le, if◌then◌else◌, List, [], ◌∷◌, length, fold, slice_get, codes, Option, Some, None, option_map, option_and_then, Result, Ok, Err}
use Rattle.std.specs.List.{join_with_byte}
use Rattle.hex.specs.Hex.{decode_of}
use Rattle.hex.specs.declared.error.FromHexError.{FromHexError}
use Rattle.text_io.specs.Numerals.{number_of}
use Rattle.ptp_base.specs.declared.port_conf.PortConf.{PortConf}
use Rattle.model_clock.specs.declared.state.ClockState.{ClockState}
use Rattle.bc_history.specs.declared.scenario.Record.{Record}
use Rattle.bc_history.specs.declared.scenario.Happening.{Happening}
use Rattle.bc_history.specs.declared.scenario.Happening.TheVariants.{Frame, Down, Up}
use Rattle.bc_history.specs.declared.scenario.Asked.{Asked}
use Rattle.bc_history.specs.declared.scenario.Turns.{Turns}
use Rattle.bc_history.specs.declared.scenario.Turner.{Turner}
use Rattle.bc_history.specs.declared.scenario.Turner.TheVariants.{Default, Port, Clock, Queries}
use Rattle.bc_history.specs.Scenario.SectionHeaders.{is_word}
use Rattle.bc_history.specs.Scenario.Draft.{clocks_of}

-- the most turns of a line
abbrev pub most_turns : ℕ
most_turns = 1000000

-- ports are numbered from 1
abbrev pub is_port : List PortConf → ℕ → Bool
is_port ports n = nat_le 1 n && nat_le n (length ports)

-- clocks are numbered from 0; where no clock section stands there is clock 0
abbrev pub is_clock : List ClockState → ℕ → Bool
is_clock clocks n = nat_lt n (length (clocks_of clocks))

-- a follower is there for each clock where there are two clocks or more
abbrev pub is_follower : List ClockState → ℕ → Bool
is_follower clocks n = nat_le 2 (length clocks) && nat_lt n (length clocks)

-- ---- records: `TICK PORT HEX`, `TICK PORT down`, `TICK PORT up`

-- a frame is hex digits of any case, an even number of them, at least two
abbrev pub frame_of : List ℕ → Option Happening
frame_of word = by (decode_of word)
  where
    by : Result (List ℕ) FromHexError → Option Happening
    by (Ok (octet ∷ octets)) = Some (Frame (octet ∷ octets))
    by (Ok []) = None
    by (Err e) = None

-- what happens to a port: its link goes down or comes up, or a frame arrives
abbrev pub happening_of : List ℕ → Option Happening
happening_of word =
    if is_word word (codes "down") then Some Down
    else if is_word word (codes "up") then Some Up
    else frame_of word

-- the record of a tick, a port and what happens, where all three are there
abbrev pub record_in : Option ℕ → Option ℕ → Option Happening → Option Record
record_in tick port what =
    option_and_then
    (λ t.
    option_and_then (λ p. option_map (λ w. record { port = p; tick = t; what = w }) what)
    port)
    tick

-- the record that the words of a line are
abbrev pub record_of : List (List ℕ) → Option Record
record_of (tick ∷ port ∷ what ∷ []) =
    record_in (number_of tick) (number_of port) (happening_of what)
record_of _ = None

-- the tick of the former record of a port; 0 where it has none
abbrev pub former_tick : List Record → ℕ → ℕ
former_tick records port =
    fold (λ former (r : Record). if r.port == port then r.tick else former) 0 records

-- the first word is a number, the second the number of a port that is there, and the tick is below
-- that of the port's former record
abbrev pub is_early_record : List PortConf → List Record → List (List ℕ) → Bool
is_early_record ports records (tick ∷ port ∷ rest) = by (number_of tick) (number_of port)
  where
    by : Option ℕ → Option ℕ → Bool
    by (Some t) (Some p) = is_port ports p && nat_lt t (former_tick records p)
    by (Some t) None = false
    by None p = false
is_early_record ports records _ = false

-- how many octets a frame has; 0 where the link goes down or comes up
abbrev pub frame_length : Happening → ℕ
frame_length (Frame octets) = length octets
frame_length Down = 0
frame_length Up = 0

-- ---- queries: `TICK` and at least one further word; the text is those words, joined by one space

-- the query that the words of a line are
abbrev pub query_of : List (List ℕ) → Option Asked
query_of (tick ∷ word ∷ words) =
    option_map (λ t. record { tick = t; text = join_with_byte 32 (word ∷ words) }) (number_of tick)
query_of _ = None

-- the tick of the former query; 0 where there is none
abbrev pub former_query : List Asked → ℕ
former_query queries = by (slice_get queries (length queries - 1))
  where
    by : Option Asked → ℕ
    by None = 0
    by (Some asked) = asked.tick

-- the first word is a number below the tick of the former query
abbrev pub is_early_query : List Asked → List (List ℕ) → Bool
is_early_query queries [] = false
is_early_query queries (tick ∷ rest) = by (number_of tick)
  where
    by : Option ℕ → Bool
    by None = false
    by (Some t) = nat_lt t (former_query queries)

-- ---- schedule: `default K`, `port N K`, `clock C K`, `queries K`

-- how many turns a word stands for, from 1 to the most of a line
abbrev pub count_of : List ℕ → Option ℕ
count_of word =
    option_and_then (λ k. if nat_le 1 k && nat_le k most_turns then Some k else None)
    (number_of word)

-- so many turns of one actor
abbrev pub turns_by : Turner → List ℕ → Option Turns
turns_by who count = option_map (λ k. record { who = who; count = k }) (count_of count)

-- a port or a follower that is there
abbrev pub turner_of : List PortConf → List ClockState → (name number : List ℕ) → Option Turner
turner_of ports clocks name number = option_and_then by (number_of number)
  where
    by : ℕ → Option Turner
    by n = if is_word name (codes "port") && is_port ports n then Some (Port n)
        else if is_word name (codes "clock") && is_follower clocks n then Some (Clock n)
        else None

-- turns of the default rule or of the queries: `default K`, `queries K`
abbrev pub plain_turns : (name count : List ℕ) → Option Turns
plain_turns name count =
    if is_word name (codes "default") then turns_by Default count
    else if is_word name (codes "queries") then turns_by Queries count
    else None

-- turns of a port or of a follower: `port N K`, `clock C K`
abbrev pub placed_turns :
    List PortConf → List ClockState → (name number count : List ℕ) → Option Turns
placed_turns ports clocks name number count =
    option_and_then (λ who. turns_by who count) (turner_of ports clocks name number)

-- the turns that the words of a line are
abbrev pub turns_of : List PortConf → List ClockState → List (List ℕ) → Option Turns
turns_of ports clocks (name ∷ count ∷ []) = plain_turns name count
turns_of ports clocks (name ∷ number ∷ count ∷ []) = placed_turns ports clocks name number count
turns_of ports clocks _ = None
