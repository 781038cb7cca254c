-- A hub before and after an event.
use Rattle.std.proofs.Common.{Bool, true, false, cond, None, option_map, ◌≡◌, ◌≢◌, ℕ, zero, suc, ◌+◌, ◌-◌, ◌%◌, ◌<◌, ◌≤◌, List, [], ◌∷◌, ◌++◌, length, reverse, refl, sym, ap, subst, ◌∙◌, arith, Option, Some, length-append}
use Rattle.std.specs.Prelude.{slice_get, slice_index_or, slice_set, is_some, option_and_then, ℤ, ◌+ℤ◌, All, IfSome, OnErr, OnOk, Result, Ok, Err}
use Rattle.std.proofs.lemmas.Int.{ints}
use Rattle.std.proofs.lemmas.List.{length-reverse, reverse-append, reverse-reverse}
use Rattle.std.proofs.lemmas.List.Elements.{All-cons, All-nil}
use Rattle.model_clock.specs.declared.state.ClockState.{ClockState}
use Rattle.model_clock.specs.Clock.{clock_at, held_time, reading, time_gained}
use Rattle.ptp_base.specs.declared.port_conf.PortConf.{PortConf}
use Rattle.discipline_seat.proofs.lemmas.ReversalLemmas.{reverse_push}
use Rattle.ptp_base.specs.declared.limits.TheConstants.{ENTRIES_MAX}
use Rattle.ptp_profile.specs.declared.seats.LogEntry.{LogEntry}
use Rattle.ptp_profile.specs.declared.seats.Receipt.{Receipt}
use Rattle.ptp_profile.specs.declared.seats.Refused.{Refused}
use Rattle.ptp_profile.specs.Roles.SeatLogs.{log_at, whole_reading, with_orders}
use Rattle.ptp_profile.specs.Port.PortTimers.{due_of}
use Rattle.bc_history.specs.declared.entry.Effects.{Effects}
use Rattle.bc_history.specs.declared.entry.Entry.{Entry}
use Rattle.bc_history.specs.declared.entry.Input.{Input}
use Rattle.bc_history.specs.declared.entry.Input.TheVariants.{Frame, Timed, Down, Up, Report, Turn, Sampled, Query}
use Rattle.bc_history.specs.declared.entry.Seen.{Seen}
use Rattle.bc_history.specs.declared.port_input.PortHappening.TheVariants.{Frame as Frame_arrives, Timed as Timer_fires, Down as Goes_down, Up as Comes_up, Report as Reports}
use Rattle.bc_history.specs.declared.port_input.PortInput.{PortInput}
use Rattle.bc_history.specs.declared.scenario.Scenario.{Scenario}
use Rattle.bc_history.specs.Phases.EntryEffects.{entry_after}
use Rattle.bc_history.specs.Run.History.{Continues, Follows, IsHistory}
use Rattle.bc_history.proofs.lemmas.ArrivalLemmas.{measures-read}
use Rattle.ptp_profile.specs.declared.seats.Held.{Held}
use Rattle.ptp_profile.specs.declared.timing.Measure.{Measure}
use Rattle.bc_history.specs.Phases.Inputs.{event_of, history_input, is_read, port_at, port_input, port_of, tick_of, IsReadTime, IsTime}
use Rattle.bc_history.specs.Run.NextInputs.{IsDue}
use Rattle.bc_history.specs.Phases.OpeningState.{opening}
use Rattle.bc_history.specs.Scenario.ScenarioRules.{IsScenario}
use Rattle.bc_history.specs.Phases.State.{State}
use Rattle.bc_history.specs.Phases.HubPort.{HubPort}
use Rattle.bc_history.specs.Phases.QueryAnswers.{requests_after}
use Rattle.bc_history.specs.Phases.Step.{queries_after, state_of, step}
use Rattle.ptp_profile.specs.Best.StateDecision.{bests_of}
use Rattle.bc_ports.specs.DecisionCost.{no_bests}
use Rattle.bc_ports.specs.declared.boundary_clock.BoundaryClock.{BoundaryClock}
use Rattle.hub_core.specs.DecisionHistory.{decided_bests}
use Rattle.hub_core.specs.HubCost.{event_at}
use Rattle.hub_core.proofs.lemmas.DecisionHistoryLemmas.{bests-opened, event-after}
use Rattle.bc_ports.specs.declared.hub_port.HubPort.{HubPort as KeptPort}
use Rattle.bc_ports.proofs.lemmas.RepresentationLemmas.{PortsRepresent-some}
use Rattle.discipline_seat.specs.SeatsView.{Seats, with_entry as with_change_entry}
use Rattle.bc_roles.specs.RolesView.{RolesRepresent, RolesView}
use Rattle.hub_core.specs.HubView.{HubState, HubYields, IsHub, IsMeasuredTime, entry_by, history_of, newest_seen, reading_at, with_entry}
use Rattle.bc_windows.specs.Windows.{IsInBound, IsMadeBy, Window}
use Rattle.hub_core.specs.GivenWindows.{windows_of}
use Rattle.hub_core.specs.FollowerInputs.{IsServed}
use Rattle.hub_core.specs.HubParts.{PartsYield, PartsRepresent}
use Rattle.hub_core.specs.PortReading.{input_seen}
use Rattle.hub_core.specs.declared.hub.Hub.TheInside.{Inside}
use Rattle.hub_core.specs.declared.hub_parts.HubParts.{HubParts}
use Rattle.hub_core.proofs.lemmas.PortEntryLemmas.{due-port, history-again, placed-at, seen-some}

-- ---- before the first entry

pub hub-opened : (i : Inside) → i.entries ≡ [] → IsScenario i.scenario.value → PartsRepresent i.scenario.value i.machine (opening i.scenario.value) → i.machine.roles.generation.gener ≡ 0 → i.asked ≡ 0 → i.sequence ≡ 0 → windows_of i.windows ≡ [] → bests_of i.machine.core.decider.bests ≡ no_bests i.scenario.value.ports → IsHub i
unfolding state_of
hub-opened i none rules machine gener asked sequence given bests =
    let s = i.scenario.value in
    let H : List Entry → Type 0 = λ es. IsHistory s es in
    let M : List Entry → Type 0 = λ es. PartsRepresent s i.machine (state_of s es) in
    let Q : List Entry → Type 0 = λ es. i.asked ≡ (state_of s es).queries in
    let R : List Entry → Type 0 = λ es. i.sequence ≡ (state_of s es).requests % 65536 in
    let empty : [] ≡ history_of i = ap (λ (es : List Entry). reverse es) (sym none) in
    record {
      rules = rules;
      history = subst H empty (record { few = omega arith; continues = tt });
      times = subst (λ (es : List Entry). All IsReadTime es) empty (All-nil IsReadTime);
      windows = subst (λ (ws : List Window). IsMadeBy s ws (history_of i)) (sym given) tt;
      machine = subst M empty machine;
      gener = omega (arith, gener);
      few_asked = omega (arith, asked);
      asked = subst Q empty asked;
      sequence = subst R empty sequence;
      decided = bests ∙ sym (bests-opened s) ∙ ap (λ (es : List Entry). decided_bests s es) empty;
    }

-- ---- rooms

-- more places for orders change nothing else
pub record IsRoomier (old new : RolesView) : Type 0 where
  pub spare : ℕ
  pub same : new ≡ record old { seats = record old.seats { spare = spare } }

abbrev with_roles : HubParts → RolesView → HubParts
with_roles m r = record { port_clocks = m.port_clocks; core = m.core; roles = r; states = m.states; notices = m.notices; drafts = m.drafts }

pub machine-roomier : (s : Scenario) (m : HubParts) (h : State) (r : RolesView) → PartsRepresent s m h → IsRoomier m.roles r → PartsRepresent s (with_roles m r) h
machine-roomier s m h r was more =
    let P : RolesView → Type 0 = λ x. PartsRepresent s (with_roles m x) h in
    subst P (sym more.same) (record {
      clocks = was.clocks;
      core = was.core;
      sound = was.sound;
      ports = was.ports;
      roles = record { gener = was.roles.gener; edges = was.roles.edges; stamps = was.roles.stamps; lawful = was.roles.lawful };
      rows = was.rows;
      openings = was.openings;
      stamps = was.stamps;
      places = was.places;
      notices = was.notices;
      drafts = was.drafts;
    })

pub gener-roomier : (old new : RolesView) → IsRoomier old new → new.generation.gener ≡ old.generation.gener
gener-roomier old new more = ap (λ (r : RolesView). r.generation.gener) more.same

pub logs-roomier : (old new : RolesView) → IsRoomier old new → new.seats.logs ≡ old.seats.logs
logs-roomier old new more = ap (λ (r : RolesView). r.seats.logs) more.same

-- the same history with another machine that stands for it
pub hub-same : (i j : Inside) → IsHub i → j.scenario.value ≡ i.scenario.value → j.entries ≡ i.entries → j.asked ≡ i.asked → j.sequence ≡ i.sequence → j.windows ≡ i.windows
    → PartsRepresent i.scenario.value j.machine (state_of i.scenario.value (history_of i)) → j.machine.roles.generation.gener ≡ i.machine.roles.generation.gener → j.machine.core ≡ i.machine.core → IsHub j
hub-same i j was scenario entries asked sequence windows machine gener core =
    let history : history_of i ≡ history_of j = ap (λ (es : List Entry). reverse es) (sym entries) in
    let long = ap (λ (es : List Entry). length es) entries in
    let S : Scenario → Type 0 = λ s. IsScenario s in
    let H : Scenario → Type 0 = λ s. IsHistory s (history_of i) in
    let H' : List Entry → Type 0 = λ es. IsHistory j.scenario.value es in
    let M : Scenario → Type 0 = λ s. PartsRepresent s j.machine (state_of s (history_of i)) in
    let M' : List Entry → Type 0 = λ es. PartsRepresent j.scenario.value j.machine (state_of j.scenario.value es) in
    let Q : Scenario → Type 0 = λ s. j.asked ≡ (state_of s (history_of i)).queries in
    let Q' : List Entry → Type 0 = λ es. j.asked ≡ (state_of j.scenario.value es).queries in
    let R : Scenario → Type 0 = λ s. j.sequence ≡ (state_of s (history_of i)).requests % 65536 in
    let R' : List Entry → Type 0 = λ es. j.sequence ≡ (state_of j.scenario.value es).requests % 65536 in
    record {
      rules = subst S (sym scenario) was.rules;
      history = subst H' history (subst H (sym scenario) was.history);
      times = subst (λ (es : List Entry). All IsReadTime es) history was.times;
      windows = rw (scenario, windows) (subst (λ (es : List Entry). IsMadeBy i.scenario.value (windows_of i.windows) es) history was.windows);
      machine = subst M' history (subst M (sym scenario) machine);
      gener = omega (arith, was.gener, gener, long);
      few_asked = omega (arith, was.few_asked, asked, long);
      asked = subst Q' history (subst Q (sym scenario) (asked ∙ was.asked));
      sequence = subst R' history (subst R (sym scenario) (sequence ∙ was.sequence));
      decided = ap (λ (n : BoundaryClock). bests_of n.decider.bests) core ∙ (was.decided ∙ (ap (λ (s : Scenario). decided_bests s (history_of i)) (sym scenario) ∙ ap (λ (es : List Entry). decided_bests j.scenario.value es) history));
    }

-- ---- one entry more

-- a time is held within what a clock counts
held-time : (z : ℤ) → IsTime (held_time z)
held-time z = grind (arith, ints)

seen-after : (s : Scenario) (before : List Entry) (input : Input) (seen : Option Seen) → (entry_after s before input seen).seen ≡ seen
unfolding entry_after
seen-after s before input seen = refl

input-after : (s : Scenario) (before : List Entry) (input : Input) (seen : Option Seen) → (entry_after s before input seen).input ≡ input
unfolding entry_after
input-after s before input seen = refl

-- a history made by windows may have an entry more within the present one
made-more : (s : Scenario) (windows : List Window) (entries : List Entry) (e : Entry) → IsInBound windows (tick_of e.input) → IsMadeBy s windows entries → IsMadeBy s windows (e ∷ entries)
made-more s [] entries e within was = tt
made-more s (w ∷ former) entries e within (made, begins, before) = (
  record {
    more = e ∷ made.more;
    history = ap (λ (es : List Entry). e ∷ es) made.history;
    within = All-cons (λ (x : Entry). tick_of x.input ≤ w.end) e made.more within made.within;
  },
  begins,
  before,
)

follows-after : (s : Scenario) (before : List Entry) (input : Input) (seen : Option Seen) → IsDue s (state_of s before) input → is_some seen ≡ is_read input → Follows s before (entry_after s before input seen)
unfolding entry_after
follows-after s before input seen due read = record { due = due; read = read; made = refl }

-- how many queries came, and how many requests there were, one entry later
queries-next : (s : Scenario) (before : List Entry) (input : Input) (seen : Option Seen) → (state_of s (entry_after s before input seen ∷ before)).queries ≡ queries_after input (state_of s before).queries
unfolding state_of step entry_after
queries-next s before input seen = refl

requests-next : (s : Scenario) (before : List Entry) (input : Input) (seen : Option Seen) → (state_of s (entry_after s before input seen ∷ before)).requests ≡ requests_after input (state_of s before).requests
unfolding state_of step entry_after
requests-next s before input seen = refl

-- an input that is no query is not counted as one
pub queries-served : (input : Input) (n : ℕ) → IsServed input → n ≡ queries_after input n
queries-served (Frame port tick octets) n own = refl
queries-served (Timed port tick timer) n own = refl
queries-served (Down port tick) n own = refl
queries-served (Up port tick) n own = refl
queries-served (Report port tick gener action outcome) n own = refl
queries-served (Turn clock tick) n own = refl
queries-served (Sampled clock tick lead theirs ours action outcome) n own = refl
queries-served (Query tick text) n own = absurd own

-- nor as a request
pub requests-served : (input : Input) (n : ℕ) → IsServed input → n ≡ requests_after input n
requests-served (Frame port tick octets) n own = refl
requests-served (Timed port tick timer) n own = refl
requests-served (Down port tick) n own = refl
requests-served (Up port tick) n own = refl
requests-served (Report port tick gener action outcome) n own = refl
requests-served (Turn clock tick) n own = refl
requests-served (Sampled clock tick lead theirs ours action outcome) n own = refl
requests-served (Query tick text) n own = absurd own

-- an input is one query at most
queries-few : (input : Input) (n : ℕ) → queries_after input n ≤ n + 1
queries-few (Frame port tick octets) n = omega arith
queries-few (Timed port tick timer) n = omega arith
queries-few (Down port tick) n = omega arith
queries-few (Up port tick) n = omega arith
queries-few (Report port tick gener action outcome) n = omega arith
queries-few (Turn clock tick) n = omega arith
queries-few (Sampled clock tick lead theirs ours action outcome) n = omega arith
queries-few (Query tick text) n = omega arith

-- all but a query are served
pub not-a-query : (input : Input) → ((tick : ℕ) (text : List ℕ) → input ≢ Query tick text) → IsServed input
not-a-query (Frame port tick octets) other = tt
not-a-query (Timed port tick timer) other = tt
not-a-query (Down port tick) other = tt
not-a-query (Up port tick) other = tt
not-a-query (Report port tick gener action outcome) other = tt
not-a-query (Turn clock tick) other = tt
not-a-query (Sampled clock tick lead theirs ours action outcome) other = tt
not-a-query (Query tick text) other = absurd (other tick text refl)

-- an entry in the place of the draft at the end
pub drafted : (es : List Entry) (draft e : Entry) → slice_set (es ++ draft ∷ []) (length es) e ≡ es ++ e ∷ []
drafted [] draft e = refl
drafted (x ∷ es) draft e = ap (λ (xs : List Entry). x ∷ xs) (drafted es draft e)

behind-all : (es : List Entry) (e d : Entry) → slice_index_or (es ++ e ∷ []) (length es) d ≡ e
behind-all [] e d = refl
behind-all (x ∷ es) e d = behind-all es e d

-- the newest entry stands at the end
pub newest-last : (es before : List Entry) (e d : Entry) (n : ℕ) → n ≡ length es → reverse es ≡ e ∷ before → slice_index_or es (n - 1) d ≡ e
newest-last es before e d n long is =
    let turned : es ≡ reverse before ++ e ∷ [] = sym (reverse-reverse es) ∙ (ap (λ (xs : List Entry). reverse xs) is ∙ reverse-append (e ∷ []) before) in
    let count = long ∙ (ap (λ (xs : List Entry). length xs) turned ∙ length-append (reverse before) (e ∷ [])) in
    let last : n - 1 ≡ length (reverse before) = omega (arith, count) in
    ap (λ (xs : List Entry). slice_index_or xs (n - 1) d) turned ∙ (ap (λ (k : ℕ). slice_index_or (reverse before ++ e ∷ []) k d) last ∙ behind-all (reverse before) e d)

-- the input as one of a port is due as it is one of the history
pub own-due : (s : Scenario) (h : State) (input : Input) (p : PortInput) → port_input input ≡ Some p → IsDue s h input → IsDue s h (history_input p)
own-due s h input p own due = subst (λ (x : Input). IsDue s h x) (sym (history-again input p own)) due

-- a clock reads times
reading-time : (clock : ClockState) (tick : ℕ) → IsTime (reading clock tick)
reading-time clock tick = held-time (clock.time +ℤ time_gained (clock.drift +ℤ clock.freq) (tick - clock.tick))

-- what comes with an input is a time, where it comes with a reading and its port is there
seen-time : (b : Bool) (conf : Option PortConf) (read : PortConf → Seen) → ((c : PortConf) → IsTime (read c).value)
    → IfSome (cond b (option_map read conf) None) (λ (seen : Seen). IsTime seen.value)
seen-time true None read times = tt
seen-time true (Some c) read times = times c
seen-time false conf read times = tt

-- what an entry read is a time
entry-time : (s : Scenario) (before : List Entry) (logs : List (List LogEntry)) (input : Input) (entry : Entry)
    → entry ≡ entry_after s before input (input_seen s logs input) → IsReadTime entry
entry-time s before logs input entry is =
    let reading_is : entry.seen ≡ input_seen s logs input = ap (λ (e : Entry). e.seen) is ∙ seen-after s before input (input_seen s logs input) in
    subst (λ (x : Option Seen). IfSome x (λ (seen : Seen). IsTime seen.value)) (sym reading_is)
    (seen-time (is_read input) (option_and_then (port_at s.ports) (port_of input)) _
    (λ c. reading-time (whole_reading (clock_at s.clocks c.clock) (log_at logs c.clock)).state (tick_of input)))

-- a port's own input comes with a reading where it is one that does
port-read : (s : Scenario) (before : List Entry) (logs : List (List LogEntry)) (p : PortInput) → IsDue s (state_of s before) (history_input p)
    → is_some (input_seen s logs (history_input p)) ≡ is_read (history_input p)
port-read s before logs p due =
    let at = due-port s (state_of s before) p due in
    seen-some s logs p at.port (placed-at s before p.number at.port at.there)

-- so does each input
read-due : (s : Scenario) (before : List Entry) (logs : List (List LogEntry)) (input : Input) → IsDue s (state_of s before) input
    → is_some (input_seen s logs input) ≡ is_read input
read-due s before logs (Frame port tick octets) due = port-read s before logs (record { number = port; tick = tick; what = Frame_arrives octets }) due
read-due s before logs (Timed port tick timer) due = port-read s before logs (record { number = port; tick = tick; what = Timer_fires timer }) due
read-due s before logs (Down port tick) due = port-read s before logs (record { number = port; tick = tick; what = Goes_down }) due
read-due s before logs (Up port tick) due = port-read s before logs (record { number = port; tick = tick; what = Comes_up }) due
read-due s before logs (Report port tick gener action outcome) due = port-read s before logs (record { number = port; tick = tick; what = Reports gener action outcome }) due
read-due s before logs (Turn clock tick) due = refl
read-due s before logs (Sampled clock tick lead theirs ours action outcome) due = refl
read-due s before logs (Query tick text) due = refl

-- a hub that took one more input
pub record HasTakenOne (i j : Inside) (input : Input) (logs : List (List LogEntry)) (entry : Entry) : Type 0 where
  pub scenario : j.scenario.value ≡ i.scenario.value
  pub served : PartsYield i.scenario.value (history_of i) logs input j.machine entry
  pub entries : j.entries ≡ i.entries ++ entry ∷ []
  pub asked : j.asked ≡ queries_after input i.asked
  pub sequence : (requests : ℕ) → i.sequence ≡ requests % 65536 → j.sequence ≡ requests_after input requests % 65536
  pub gener : j.machine.roles.generation.gener ≤ i.machine.roles.generation.gener + 1
  pub logs_before : logs ≡ i.machine.roles.seats.logs
  pub logs_after : j.machine.roles.seats.logs ≡ with_orders logs entry.effects.orders
  pub windows : j.windows ≡ i.windows
  pub decided : bests_of i.machine.core.decider.bests ≡ decided_bests i.scenario.value (history_of i)
      → bests_of j.machine.core.decider.bests ≡ decided_bests i.scenario.value (entry ∷ history_of i)

history-one : (i j : Inside) (input : Input) (logs : List (List LogEntry)) (entry : Entry) → HasTakenOne i j input logs entry → history_of j ≡ entry ∷ history_of i
history-one i j input logs entry is = ap (λ (es : List Entry). reverse es) is.entries ∙ reverse_push i.entries entry

pub hub-next : (i j : Inside) (input : Input) (logs : List (List LogEntry)) (entry : Entry) → IsHub i → length i.entries < ENTRIES_MAX
    → IsDue i.scenario.value (state_of i.scenario.value (history_of i)) input → IsInBound (windows_of i.windows) (tick_of input) → HasTakenOne i j input logs entry → IsHub j
hub-next i j input logs entry was few due within is =
    let s = i.scenario.value in
    let before = history_of i in
    let h = state_of s before in
    let reading = input_seen s logs input in
    let read = read-due s before logs input due in
    let history : history_of j ≡ entry ∷ before = history-one i j input logs entry is in
    let move : (P : Scenario → List Entry → Type 0) → P s (entry ∷ before) → P j.scenario.value (history_of j) =
    λ P x. subst (λ (y : Scenario). P y (history_of j)) (sym is.scenario) (subst (λ (es : List Entry). P s es) (sym history) x) in
    let long = length-reverse i.entries in
    let more = ap (λ (es : List Entry). length es) is.entries ∙ length-append i.entries (entry ∷ []) in
    let follows = subst (λ (e : Entry). Follows s before e) (sym is.served.entry_is) (follows-after s before input reading due read) in
    let asked = ap (λ (e : Entry). (state_of s (e ∷ before)).queries) is.served.entry_is ∙ queries-next s before input reading in
    let sequence = ap (λ (e : Entry). (state_of s (e ∷ before)).requests % 65536) is.served.entry_is ∙ ap (λ (n : ℕ). n % 65536) (requests-next s before input reading) in
    let one = queries-few input i.asked in
    let tick : tick_of entry.input ≡ tick_of input = ap (λ (e : Entry). tick_of e.input) is.served.entry_is ∙ ap tick_of (input-after s before input reading) in
    record {
      rules = subst (λ (x : Scenario). IsScenario x) (sym is.scenario) was.rules;
      history = move (λ x es. IsHistory x es) (record { few = omega (arith, few, long); continues = (follows, was.history.continues) });
      times = move (λ x es. All IsReadTime es) (All-cons IsReadTime entry before (entry-time s before logs input entry is.served.entry_is) was.times);
      windows = rw is.windows (move (λ x es. IsMadeBy x (windows_of i.windows) es) (made-more s (windows_of i.windows) before entry (rw tick within) was.windows));
      machine = move (λ x es. PartsRepresent x j.machine (state_of x es)) is.served.machine;
      gener = omega (arith, is.gener, was.gener, more);
      few_asked = omega (arith, is.asked, one, was.few_asked, more);
      asked = move (λ x es. j.asked ≡ (state_of x es).queries) (is.asked ∙ ap (λ (n : ℕ). queries_after input n) was.asked ∙ sym asked);
      sequence = move (λ x es. j.sequence ≡ (state_of x es).requests % 65536) (is.sequence h.requests was.sequence ∙ sym sequence);
      decided = move (λ x es. bests_of j.machine.core.decider.bests ≡ decided_bests x es) (is.decided was.decided);
    }

-- a fact of what may be there
if_there : (o : Option (Measure × Held)) (P : Measure × Held → Type 0) → ((m : Measure × Held) → o ≡ Some m → P m) → IfSome o P
if_there None P each = tt
if_there (Some m) P each = each m refl

-- what the event measured bears a time that a clock read
measured-time : (i j : Inside) (input : Input) (logs : List (List LogEntry)) (entry : Entry) → HasTakenOne i j input logs entry
    → IsHub j → IsMeasuredTime entry.effects
measured-time i j input logs entry is now =
    let history = history-one i j input logs entry is in
    let s = j.scenario.value in
    let continues = subst (λ (es : List Entry). Continues s es) history now.history.continues in
    let times = subst (λ (es : List Entry). All IsReadTime es) history now.times in
    if_there entry.effects.measure (λ (m : Measure × Held). IsTime m.0.local)
    (λ m there. measures-read s (history_of i) entry m continues times there)

-- ---- what contracts see of it

abbrev pub seen_of : Inside → HubState
seen_of i = record { scenario = i.scenario.value; entries = history_of i; logs = i.machine.roles.seats.logs; windows = windows_of i.windows }

same-hub : (s s' : Scenario) (es es' : List Entry) (ls ls' : List (List LogEntry)) (ws ws' : List Window) → s ≡ s' → es ≡ es' → ls ≡ ls' → ws ≡ ws'
    → (let a : HubState = record { scenario = s; entries = es; logs = ls; windows = ws } in a) ≡ (let b : HubState = record { scenario = s'; entries = es'; logs = ls'; windows = ws' } in b)
same-hub s s' es es' ls ls' ws ws' a b d e = rw (a, b, d, e) refl

newest-one : (i j : Inside) (input : Input) (logs : List (List LogEntry)) (entry : Entry) → HasTakenOne i j input logs entry → newest_seen (history_of j) ≡ input_seen i.scenario.value logs input
newest-one i j input logs entry is =
    ap newest_seen (history-one i j input logs entry is) ∙ ap (λ (e : Entry). e.seen) is.served.entry_is
    ∙ seen-after i.scenario.value (history_of i) input (input_seen i.scenario.value logs input)

-- the newest entry has the reading that comes with the input
reading-taken : (i j : Inside) (input : Input) (logs : List (List LogEntry)) (entry : Entry) → HasTakenOne i j input logs entry → newest_seen (history_of j) ≡ reading_at (seen_of i) input
reading-taken i j input logs entry is =
    newest-one i j input logs entry is ∙ ap (λ (ls : List (List LogEntry)). input_seen i.scenario.value ls input) is.logs_before

-- the entry is the one that the input makes with that reading
pub entry-taken : (i j : Inside) (input : Input) (logs : List (List LogEntry)) (entry : Entry) → HasTakenOne i j input logs entry → entry ≡ entry_by (seen_of i) input (newest_seen (history_of j))
entry-taken i j input logs entry is =
    let s = i.scenario.value in
    let before = history_of i in
    is.served.entry_is ∙ ap (λ (x : Option Seen). entry_after s before input x) (sym (newest-one i j input logs entry is))

hub-taken : (i j : Inside) (input : Input) (logs : List (List LogEntry)) (entry : Entry) → HasTakenOne i j input logs entry
    → seen_of j ≡ with_entry (seen_of i) (entry_by (seen_of i) input (newest_seen (history_of j)))
hub-taken i j input logs entry is =
    let by = entry-taken i j input logs entry is in
    let history = history-one i j input logs entry is ∙ ap (λ (e : Entry). e ∷ history_of i) by in
    let logs_are = is.logs_after ∙ (ap (λ (ls : List (List LogEntry)). with_orders ls entry.effects.orders) is.logs_before ∙ ap (λ (e : Entry). with_orders i.machine.roles.seats.logs e.effects.orders) by) in
    same-hub _ _ _ _ _ _ _ _ is.scenario history logs_are (ap windows_of is.windows)

-- the event of the entry is that of the input with its reading
pub event-taken : (i j : Inside) (input : Input) (logs : List (List LogEntry)) (entry : Entry) → HasTakenOne i j input logs entry → event_of entry ≡ event_at (seen_of i) input
event-taken i j input logs entry is =
    let s = i.scenario.value in
    ap (λ (e : Entry). event_of e) is.served.entry_is ∙ event-after s (history_of i) input (input_seen s logs input)
    ∙ ap (λ (ls : List (List LogEntry)). event_at (record { scenario = s; entries = history_of i; logs = ls; windows = windows_of i.windows }) input) is.logs_before

-- what the event made of the hub, by what contracts see of it before and after
pub hub-yields : (i j : Inside) (input : Input) (logs : List (List LogEntry)) (entry : Entry) (old : HubState) (effects : Effects) → HasTakenOne i j input logs entry → IsHub j → seen_of i ≡ old → effects ≡ entry.effects
    → HubYields old input (seen_of j) effects
hub-yields i j input logs entry old effects is now before told =
    let H : HubState → Type 0 = λ h. HubYields h input (seen_of j) effects in
    subst H before (record {
      entry = hub-taken i j input logs entry is;
      reading = reading-taken i j input logs entry is;
      told = told ∙ ap (λ (e : Entry). e.effects) (entry-taken i j input logs entry is);
      measured = subst IsMeasuredTime (sym told) (measured-time i j input logs entry is now);
    })

-- ---- what is due

port-index : (hs : List HubPort) (number : ℕ) → 1 ≤ number → slice_get hs (number - 1) ≡ port_at hs number
port-index hs zero some = absurd (omega (arith, some))
port-index hs (suc i) some = let index : suc i - 1 ≡ i = omega arith in ap (λ (k : ℕ). slice_get hs k) index

-- the timer that a port of the machine has is that of the history's port
pub due-some : (s : Scenario) (m : HubParts) (h : State) (number : ℕ) (q : KeptPort) → PartsRepresent s m h → 1 ≤ number → slice_get m.core.ports.items (number - 1) ≡ Some q
    → due_of q.engine.timers ≡ option_and_then (λ (g : HubPort). due_of g.port.timers) (port_at h.core.ports number)
due-some s m h number q is some found =
    let stands = PortsRepresent-some s.options.delay_filter_length m.core.moment m.core.ports.items h.core.ports (number - 1) q is.core.core.ports found in
    ap due_of stands.2.engine.timers ∙ sym (ap (option_and_then (λ (g : HubPort). due_of g.port.timers)) (sym (port-index h.core.ports number some) ∙ stands.1))

-- ---- exchanges

-- what an exchange leaves of the roles: all but the logs and the places for them
record IsSameButLogs (old new : RolesView) : Type 0 where
  rows : new.seats.rows ≡ old.seats.rows
  openings : new.seats.openings ≡ old.seats.openings

-- whether the change was taken or not
exchanged : (old new : RolesView) (result : Result Receipt Refused) (clock : ℕ) (change : LogEntry)
    → OnOk result (new.seats ≡ with_change_entry old.seats clock change) → OnErr result (new ≡ old) → IsSameButLogs old new
exchanged old new (Ok receipt) clock change taken same =
    record { rows = ap (λ (x : Seats). x.rows) taken; openings = ap (λ (x : Seats). x.openings) taken }
exchanged old new (Err refused) clock change taken same =
    record { rows = ap (λ (r : RolesView). r.seats.rows) same; openings = ap (λ (r : RolesView). r.seats.openings) same }

-- the parts with the roles after an exchange represent the same state
pub machine-exchanged : (s : Scenario) (m : HubParts) (h : State) (r : RolesView) (result : Result Receipt Refused) (clock : ℕ) (change : LogEntry)
    → PartsRepresent s m h → RolesRepresent r h.roles → r ≡ record m.roles { seats = r.seats }
    → OnOk result (r.seats ≡ with_change_entry m.roles.seats clock change) → OnErr result (r ≡ m.roles) → PartsRepresent s (with_roles m r) h
machine-exchanged s m h r result clock change was roles kept taken same =
    let table = exchanged m.roles r result clock change taken same in
    record {
      clocks = was.clocks;
      core = was.core;
      sound = was.sound;
      ports = was.ports;
      roles = roles;
      rows = table.rows ∙ was.rows;
      openings = table.openings ∙ was.openings;
      stamps = ap (λ (x : RolesView). length x.stamps) kept ∙ was.stamps;
      places = was.places;
      notices = was.notices;
      drafts = was.drafts;
    }
