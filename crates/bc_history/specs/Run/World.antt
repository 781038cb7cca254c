-- The run that a list of turns gives: one actor takes one step at a time.
use Rattle.std.specs.Prelude.{ℕ, zero, suc, ◌+◌, ◌-◌, ◌≡◌, ◌==◌, Bool, true, false, nat_le, nat_lt, if◌then◌else◌, List, [], ◌∷◌, length, map, filter, filter_map, slice_get, slice_set, replicate, Option, Some, None, option_map, option_and_then, reverse}
use Rattle.std.specs.Option.{option_or}
use Rattle.ptp_base.specs.Least.{first_least}
use Rattle.ptp_base.specs.declared.limits.TheConstants.{ENTRIES_MAX}
use Rattle.model_clock.specs.Clock.{clock_at, reading}
use Rattle.ptp_profile.specs.declared.roles.Lead.{Lead}
use Rattle.ptp_profile.specs.declared.seats.Held.{Held}
use Rattle.ptp_profile.specs.declared.seats.LogEntry.{LogEntry}
use Rattle.ptp_profile.specs.declared.seats.Reading.{Reading}
use Rattle.ptp_profile.specs.Roles.SeatLogs.{log_at, logs_from, no_logs, whole_reading, with_orders}
use Rattle.bc_history.specs.declared.entry.Entry.{Entry}
use Rattle.bc_history.specs.declared.entry.Input.{Input}
use Rattle.bc_history.specs.declared.entry.Input.TheVariants.{Report, Turn, Sampled, Query}
use Rattle.bc_history.specs.declared.entry.Outcome.{Outcome}
use Rattle.bc_history.specs.declared.entry.Seen.{Seen}
use Rattle.bc_history.specs.declared.entry.Run.{Run}
use Rattle.bc_history.specs.declared.entry.Who.{Who}
use Rattle.bc_history.specs.declared.entry.Who.TheVariants.{Port as A_port, Follower as A_follower, Queries as The_queries}
use Rattle.bc_history.specs.declared.scenario.Scenario.{Scenario}
use Rattle.bc_history.specs.declared.scenario.Asked.{Asked}
use Rattle.bc_history.specs.declared.scenario.Turner.{Turner}
use Rattle.bc_history.specs.declared.scenario.Turner.TheVariants.{Default, Port as Port_turn, Clock as Clock_turn, Queries as Queries_turn}
use Rattle.bc_history.specs.declared.scenario.Turns.{Turns}
use Rattle.bc_history.specs.Phases.State.{Follower, State}
use Rattle.bc_history.specs.Phases.HubPort.{HubPort}
use Rattle.bc_history.specs.Phases.Inputs.{tick_of, port_at, changed_at, at_port, is_read}
use Rattle.bc_history.specs.Phases.OpeningState.{follower_count}
use Rattle.bc_history.specs.Run.ExchangeOutcomes.{exchange_result}
use Rattle.bc_history.specs.Phases.Step.{state_of}
use Rattle.bc_history.specs.Phases.EntryEffects.{entry_after}
use Rattle.bc_history.specs.Run.NextInputs.{next_input, turn_tick, query_input}
use Rattle.bc_history.specs.Run.Actors.{actors_of}
use Rattle.bc_history.specs.Run.Samples.{follower_samples}
use Rattle.bc_history.specs.declared.place.PortPlace.{PortPlace}
use Rattle.bc_history.specs.declared.place.PortPlace.TheVariants.{Waits, Exchanges, Reports}
use Rattle.bc_history.specs.Run.PortPlace.{after_port_exchange, place_by_entries}
use Rattle.bc_history.specs.declared.place.FollowerPlace.{FollowerPlace}
use Rattle.bc_history.specs.declared.place.FollowerPlace.TheVariants.{Turns as Turns_next, ReadsTheirs as Reads_theirs, ReadsOwn as Reads_own, Exchanges as Exchanges_own, Samples}
use Rattle.bc_history.specs.Run.FollowerPlace.{after_follower_exchange, after_follower_reading, follower_place_by_entries}

-- ---- where an actor is in its job

-- the run so far and where each actor is in its job; entries and logs have the newest first, the
-- logs are by rising clock
pub record World : Type 0 where
  pub entries : List Entry
  pub logs : List (List LogEntry)
  pub ports : List PortPlace
  pub followers : List FollowerPlace

-- before the first step: everybody waits
abbrev pub world_opening : Scenario → World
world_opening s = record {
  entries = [];
  logs = no_logs s.clocks;
  ports = map (λ c. Waits) s.ports;
  followers = replicate (follower_count s) Turns_next;
}

-- where an actor is in its job, whoever it is
pub data Place : Type 0 where
  Of_port : PortPlace → Place
  Of_follower : FollowerPlace → Place
  Of_queries : Place

-- where an actor is; None where it is not there
abbrev pub place_of : World → Who → Option Place
place_of w (A_port p) = option_map (λ place. Of_port place) (port_at w.ports p)
place_of w (A_follower c) = option_map (λ place. Of_follower place) (slice_get w.followers c)
place_of w The_queries = Some Of_queries

-- an actor is in the middle of its job
abbrev pub is_busy : Place → Bool
is_busy (Of_port Waits) = false
is_busy (Of_port (Exchanges tick held action)) = true
is_busy (Of_port (Reports tick gener action outcome)) = true
is_busy (Of_follower Turns_next) = false
is_busy (Of_follower (Reads_theirs tick lead)) = true
is_busy (Of_follower (Reads_own tick lead theirs)) = true
is_busy (Of_follower (Exchanges_own tick lead theirs own action)) = true
is_busy (Of_follower (Samples tick lead theirs own action outcome)) = true
is_busy Of_queries = false

-- how many readings and exchanges an actor makes before its next event
abbrev pub free_steps : Place → ℕ
free_steps (Of_port Waits) = 0
free_steps (Of_port (Exchanges tick held action)) = 1
free_steps (Of_port (Reports tick gener action outcome)) = 0
free_steps (Of_follower Turns_next) = 0
free_steps (Of_follower (Reads_theirs tick lead)) = 3
free_steps (Of_follower (Reads_own tick lead theirs)) = 2
free_steps (Of_follower (Exchanges_own tick lead theirs own action)) = 1
free_steps (Of_follower (Samples tick lead theirs own action outcome)) = 0
free_steps Of_queries = 0

-- an actor's next step is an event, and no reading or exchange
abbrev pub is_inside : Place → Bool
is_inside place = free_steps place == 0

-- an actor at another place
abbrev pub with_place : Who → Place → World → World
with_place (A_port p) (Of_port place) w =
    record w { ports = at_port (λ former. place) p w.ports }
with_place (A_follower c) (Of_follower place) w =
    record w { followers = changed_at (λ former. place) c w.followers }
with_place who place w = w

-- ---- clocks and their logs

-- what a reading shows at a tick
abbrev pub seen_at : ℕ → Reading → Seen
seen_at tick r = record { number = r.number; value = reading r.state tick; freq = r.state.freq }

-- a reading of a clock after all entries of its log
abbrev pub seen_of : Scenario → World → ℕ → ℕ → Seen
seen_of s w c tick = seen_at tick (whole_reading (clock_at s.clocks c) (log_at w.logs c))

-- ---- steps

-- a step: an event of the hub, or a reading or an exchange
pub data Step : Type 0 where
  Event : World → Step
  Free : World → Step

-- the entry is added, and its orders are appended to the logs
abbrev pub with_entry : World → Entry → World
with_entry w e = record w { entries = e ∷ w.entries; logs = with_orders w.logs e.effects.orders }

-- port p's entry enters the history, and the port goes on to its next place
abbrev pub port_event : Scenario → World → ℕ → Input → Option Seen → World
port_event s w p input seen = placed (entry_after s w.entries input seen)
  where
    placed : Entry → World
    placed e = record (with_entry w e) {
      ports = at_port (λ place. place_by_entries s.options p (e ∷ w.entries)) p w.ports;
    }

-- a reading comes with a frame and a timer
abbrev pub port_reading : Scenario → World → HubPort → Input → Option Seen
port_reading s w h input =
    if is_read input then Some (seen_of s w h.port.conf.clock (tick_of input)) else None

-- what is due has a tick up to the end of the run
abbrev pub is_due : Scenario → ℕ → Bool
is_due s tick = nat_le tick s.options.duration

-- the next step of port p from its place, where it has one that is due
abbrev pub port_step : Scenario → World → ℕ → HubPort → PortPlace → Option Step
port_step s w p h Waits =
    option_and_then
    (λ input.
    if is_due s (tick_of input) then
    Some (Event (port_event s w p input (port_reading s w h input)))
    else
    None)
    (next_input s h)
port_step s w p h (Exchanges tick held action) = Some (Free (after (exchange_result s.options.seat_rows held tick action (log_at w.logs held.clock))))
  where
    after : Outcome × List LogEntry → World
    after x = record w {
      logs = slice_set w.logs held.clock x.1;
      ports = at_port (after_port_exchange x.0) p w.ports;
    }
port_step s w p h (Reports tick gener action outcome) =
    Some (Event (port_event s w p (Report p tick gener action outcome) None))

-- the stamp that a follower of clock c holds by its lead
abbrev pub held_by : ℕ → Lead → Held
held_by c lead = record { clock = c; gener = lead.gener; ctrl = 128 + lead.source }

-- the follower of clock c at another place
abbrev pub with_follower : World → ℕ → FollowerPlace → World
with_follower w c place = with_place (A_follower c) (Of_follower place) w

-- an entry of the follower of clock c enters the history, and the follower goes on to its next
-- place
abbrev pub follower_event : Scenario → World → ℕ → Input → World
follower_event s w c input = placed (entry_after s w.entries input None)
  where
    placed : Entry → World
    placed e = with_follower (with_entry w e) c (follower_place_by_entries c (e ∷ w.entries))

-- the follower of clock c at the place where a reading takes it
abbrev pub follower_reading : Scenario → World → ℕ → Seen → FollowerPlace → World
follower_reading s w c seen place =
    with_follower w c
    (after_follower_reading s.options (follower_samples c w.entries) seen place)

-- the next step of the follower of clock c from its place, where it has one that is due
abbrev pub follower_step : Scenario → World → ℕ → Follower → FollowerPlace → Option Step
follower_step s w c f Turns_next =
    if is_due s (turn_tick s f) then
    Some (Event (follower_event s w c (Turn c (turn_tick s f))))
    else
    None
follower_step s w c f (Reads_theirs tick lead) =
    Some
    (Free (follower_reading s w c (seen_of s w lead.source tick) (Reads_theirs tick lead)))
follower_step s w c f (Reads_own tick lead theirs) =
    Some (Free (follower_reading s w c (seen_of s w c tick) (Reads_own tick lead theirs)))
follower_step s w c f (Exchanges_own tick lead theirs own action) = Some (Free (after (exchange_result s.options.seat_rows (held_by c lead) tick action (log_at w.logs c))))
  where
    after : Outcome × List LogEntry → World
    after x = with_follower (record w { logs = slice_set w.logs c x.1 }) c
        (after_follower_exchange x.0 (Exchanges_own tick lead theirs own action))
follower_step s w c f (Samples tick lead theirs own action outcome) =
    Some (Event (follower_event s w c (Sampled c tick lead theirs own action outcome)))

-- the next query as a step, where it is due
abbrev pub query_step : Scenario → World → Option Asked → Option Step
query_step s w None = None
query_step s w (Some asked) =
    if is_due s asked.tick then
    Some (Event (with_entry w (entry_after s w.entries (Query asked.tick asked.text) None)))
    else
    None

-- the next step of an actor from its place, if it has one
abbrev pub step_from : Scenario → World → Who → Place → Option Step
step_from s w (A_port p) (Of_port place) =
    option_and_then (λ h. port_step s w p h place) (port_at (state_of s w.entries).core.ports p)
step_from s w (A_follower c) (Of_follower place) =
    option_and_then (λ f. follower_step s w c f place)
    (slice_get (state_of s w.entries).followers c)
step_from s w The_queries Of_queries =
    query_step s w (query_input s (state_of s w.entries))
step_from s w who place = None

-- the next step of an actor, if it has one
abbrev pub step_of : Scenario → World → Who → Option Step
step_of s w who = option_and_then (λ place. step_from s w who place) (place_of w who)

-- ---- turns

-- the tick of a port's next step, if it has one
abbrev pub port_due : Scenario → HubPort → PortPlace → Option ℕ
port_due s h Waits = option_map tick_of (next_input s h)
port_due s h (Exchanges tick held action) = Some tick
port_due s h (Reports tick gener action outcome) = Some tick

-- the tick of a follower's next step
abbrev pub follower_due : Scenario → Follower → FollowerPlace → ℕ
follower_due s f Turns_next = turn_tick s f
follower_due s f (Reads_theirs tick lead) = tick
follower_due s f (Reads_own tick lead theirs) = tick
follower_due s f (Exchanges_own tick lead theirs own action) = tick
follower_due s f (Samples tick lead theirs own action outcome) = tick

-- the tick of the next step of an actor at a place, if it has one, after what a history gives
abbrev pub place_due : Scenario → State → Who → Place → Option ℕ
place_due s h (A_port p) (Of_port place) =
    option_and_then (λ port. port_due s port place) (port_at h.core.ports p)
place_due s h (A_follower c) (Of_follower place) =
    option_map (λ f. follower_due s f place) (slice_get h.followers c)
place_due s h The_queries Of_queries =
    option_map (λ (asked : Asked). asked.tick) (query_input s h)
place_due s h who place = None

-- the tick of the next step of an actor at a place, where that is due before the run ends
abbrev pub due_by_end : Scenario → State → Who → Place → Option ℕ
due_by_end s h who place =
    option_and_then (λ tick. if is_due s tick then Some tick else None) (place_due s h who place)

-- one who may take a step: the tick, whether in the middle of a job, and who
pub record Candidate : Type 0 where
  pub tick : ℕ
  pub busy : Bool
  pub who : Who

-- an actor at a place, where its next step is due before the run ends
abbrev pub candidate_at : Scenario → State → Who → Place → Option Candidate
candidate_at s h who place =
    option_map (λ tick. record { tick = tick; busy = is_busy place; who = who })
    (due_by_end s h who place)

-- an actor of the World, where its next step is due before the run ends
abbrev pub candidate_of : Scenario → State → World → Who → Option Candidate
candidate_of s h w who = option_and_then (λ place. candidate_at s h who place) (place_of w who)

-- all actors that have a step: ports, then followers, each rising, then queries
abbrev pub candidates : Scenario → World → List Candidate
candidates s w = of (state_of s w.entries)
  where
    of : State → List Candidate
    of h = filter_map (candidate_of s h w) (actors_of s)

-- of those with the least tick the first
abbrev pub first_of : List Candidate → Option Who
first_of all =
    option_map (λ (candidate : Candidate). candidate.who)
    (first_least (λ (candidate : Candidate). candidate.tick) all)

-- the default rule: one in the middle of its job goes first, else the least tick; of equals the
-- first in the order of all actors
abbrev pub default_turn : Scenario → World → Option Who
default_turn s w =
    option_or (first_of (filter (λ (candidate : Candidate). candidate.busy) (candidates s w)))
    (first_of (candidates s w))

-- who takes the turn of a line of the schedule
abbrev pub turn_of : Scenario → World → Turner → Option Who
turn_of s w Default = default_turn s w
turn_of s w (Port_turn p) = Some (A_port p)
turn_of s w (Clock_turn c) = Some (A_follower c)
turn_of s w Queries_turn = Some The_queries

-- the line that turn n is of, counted from 0; none behind the schedule
abbrev pub turner_at : List Turns → ℕ → Option Turner
turner_at [] n = None
turner_at (line ∷ lines) n =
    if nat_lt n line.count then Some line.who else turner_at lines (n - line.count)

-- how the turns of a scenario end: with a run, at a turn that has no step, or at one event too many
pub data End : Type 0 where
  Finished : Run → End
  Not_due : (turn : ℕ) → End
  Events : End

-- a run that goes on, or one that has ended
pub data Status : Type 0 where
  Going : World → Status
  Ended : End → Status

-- the run so far, the oldest entry first
abbrev pub run_of : Scenario → World → Run
run_of s w = record { entries = reverse w.entries; logs = logs_from 0 s.clocks w.logs }

-- an event is one too many where ENTRIES_MAX entries are held
abbrev pub status_after_step : World → Step → Status
status_after_step w (Event next) =
    if nat_le ENTRIES_MAX (length w.entries) then Ended Events else Going next
status_after_step w (Free next) = Going next

-- the status after a step, or the end that it comes to where there is no step
abbrev pub take_step : World → End → Option Step → Status
take_step w end None = Ended end
take_step w end (Some step) = status_after_step w step

-- turn n of the scenario: one of the schedule, which has to have a step, or one of the default rule
-- until nobody has a step
abbrev pub next_status : Scenario → ℕ → World → Option Turner → Status
next_status s n w (Some turner) =
    take_step w (Not_due (n + 1)) (option_and_then (step_of s w) (turn_of s w turner))
next_status s n w None =
    take_step w (Finished (run_of s w)) (option_and_then (step_of s w) (default_turn s w))

-- one more turn, where the scenario has not ended
abbrev pub status_after_turn : Scenario → ℕ → Status → Status
status_after_turn s n (Going w) = next_status s n w (turner_at s.turns n)
status_after_turn s n (Ended end) = Ended end

-- where the scenario stands after n turns
unfoldable pub status_after : Scenario → ℕ → Status
status_after s zero = Going (world_opening s)
status_after s (suc n) = status_after_turn s n (status_after s n)

-- the scenario ends so after some number of turns
abbrev pub IsEnd : Scenario → End → Type 0
IsEnd s end = (n : ℕ) × (status_after s n ≡ Ended end)

-- the run of a scenario
abbrev pub IsWorld : Scenario → Run → Type 0
IsWorld s run = IsEnd s (Finished run)
