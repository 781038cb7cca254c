-- The entry of a port's own input that is due: its port and its clock, and the phases of its step.
use Rattle.std.proofs.Common.{◌≡◌, ℕ, zero, suc, ◌+◌, ◌-◌, ◌<◌, ◌≤◌, cond, List, [], ◌∷◌, length, map, get_or, refl, sym, ap, subst, ◌∙◌, arith, Option, Some, None}
use Rattle.std.specs.Prelude.{ℤ, slice_get, is_some, option_map, option_and_then, IsSomeAnd, All}
use Rattle.std.proofs.lemmas.List.Elements.{All-cons, All-nil}
use Rattle.std.proofs.lemmas.Option.{get_or_from_slice_get, slice_get-map, slice_get_within}
use Rattle.ptp_base.specs.declared.port_conf.PortConf.{PortConf}
use Rattle.model_clock.specs.declared.state.ClockState.{ClockState}
use Rattle.model_clock.specs.Clock.{clock_at}
use Rattle.ptp_profile.specs.declared.seats.Held.{Held}
use Rattle.ptp_profile.specs.declared.seats.LogEntry.{LogEntry}
use Rattle.ptp_profile.specs.Roles.SeatLogs.{log_at, whole_reading}
use Rattle.bc_history.specs.declared.entry.Entry.{Entry}
use Rattle.bc_history.specs.declared.entry.Input.{Input}
use Rattle.bc_history.specs.declared.entry.Input.TheVariants.{Frame, Timed, Down, Up, Report, Turn, Sampled, Query}
use Rattle.bc_history.specs.declared.entry.Seen.{Seen}
use Rattle.bc_history.specs.declared.port_input.PortEntry.{PortEntry}
use Rattle.bc_history.specs.declared.port_input.PortHappening.{PortHappening}
use Rattle.bc_history.specs.declared.port_input.PortHappening.TheVariants.{Frame as Frame_arrives, Timed as Timer_fires, Down as Goes_down, Up as Comes_up, Report as Reports}
use Rattle.bc_history.specs.declared.port_input.PortInput.{PortInput}
use Rattle.bc_history.specs.declared.scenario.Options.{Options}
use Rattle.bc_history.specs.declared.scenario.Scenario.{Scenario}
use Rattle.bc_history.specs.Phases.DecisionPhase.{after_decision}
use Rattle.bc_history.specs.Phases.EntryEffects.{entry_fate, entry_frames, event, frames_at}
use Rattle.bc_history.specs.Phases.Inputs.{history_input, input_with, is_read, port_at, port_input, port_of, tick_of, value_of}
use Rattle.bc_history.specs.Run.NextInputs.{IsDue, IsNext}
use Rattle.bc_history.specs.Phases.PortPhase.{after_port, fate_at}
use Rattle.bc_history.specs.Phases.RolePhase.{clocks_of}
use Rattle.bc_history.specs.Scenario.ScenarioRules.{IsScenario}
use Rattle.bc_history.specs.Phases.State.{Core, State}
use Rattle.bc_history.specs.Phases.HubPort.{HubPort, TickMeasure}
use Rattle.bc_history.specs.Phases.Step.{at_moment, core_after, core_before, core_between, decision_phase, held_of, measure_at, port_entry, port_held, port_phase, state_of}
use Rattle.bc_history.specs.Run.World.{seen_at}
use Rattle.bc_history.proofs.lemmas.PortIdentityLemmas.{ports-length, port-state_of}
use Rattle.bc_ports.specs.ClockYield.{core_at, core_decided, core_ported, measure_of}
use Rattle.hub_core.specs.HubParts.{clocks_by}
use Rattle.hub_core.specs.PortReading.{input_seen}

-- ---- the input

input-with : (number tick : ℕ) (what : PortHappening) → port_input (input_with number tick what) ≡ Some (record { number = number; tick = tick; what = what })
input-with number tick (Frame_arrives octets) = refl
input-with number tick (Timer_fires timer) = refl
input-with number tick Goes_down = refl
input-with number tick Comes_up = refl
input-with number tick (Reports gener action outcome) = refl

pub input-again : (p : PortInput) → port_input (history_input p) ≡ Some p
input-again p = input-with p.number p.tick p.what

port-with : (number tick : ℕ) (what : PortHappening) → port_of (input_with number tick what) ≡ Some number
port-with number tick (Frame_arrives octets) = refl
port-with number tick (Timer_fires timer) = refl
port-with number tick Goes_down = refl
port-with number tick Comes_up = refl
port-with number tick (Reports gener action outcome) = refl

pub port-again : (p : PortInput) → port_of (history_input p) ≡ Some p.number
port-again p = port-with p.number p.tick p.what

tick-with : (number tick : ℕ) (what : PortHappening) → tick_of (input_with number tick what) ≡ tick
tick-with number tick (Frame_arrives octets) = refl
tick-with number tick (Timer_fires timer) = refl
tick-with number tick Goes_down = refl
tick-with number tick Comes_up = refl
tick-with number tick (Reports gener action outcome) = refl

pub tick-again : (p : PortInput) → tick_of (history_input p) ≡ p.tick
tick-again p = tick-with p.number p.tick p.what

same-input : (a p : PortInput) → Some a ≡ Some p → history_input p ≡ history_input a
same-input a p is = let same : p ≡ a = cc in ap history_input same

-- a port's own input, made one of the history again
pub history-again : (input : Input) (p : PortInput) → port_input input ≡ Some p → history_input p ≡ input
history-again (Frame port tick octets) p is = same-input _ p is
history-again (Timed port tick timer) p is = same-input _ p is
history-again (Down port tick) p is = same-input _ p is
history-again (Up port tick) p is = same-input _ p is
history-again (Report port tick gener action outcome) p is = same-input _ p is
history-again (Turn clock tick) p is = cc
history-again (Sampled clock tick lead theirs own action outcome) p is = cc
history-again (Query tick text) p is = cc

-- ---- the port

-- there is a port of the number
pub record IsAtPort (ports : List HubPort) (number : ℕ) : Type 0 where
  pub port : HubPort
  pub there : port_at ports number ≡ Some port

at-port : (ports : List HubPort) (number : ℕ) (o : Option HubPort) (P : HubPort → Type 0) → port_at ports number ≡ o → IsSomeAnd o P → IsAtPort ports number
at-port ports number None P is next = absurd next
at-port ports number (Some q) P is next = record { port = q; there = is }

next-port : (s : Scenario) (h : State) (number tick : ℕ) (what : PortHappening) → IsNext s h (input_with number tick what) → IsAtPort h.core.ports number
next-port s h number tick (Frame_arrives octets) next = at-port h.core.ports number _ _ refl next
next-port s h number tick (Timer_fires timer) next = at-port h.core.ports number _ _ refl next
next-port s h number tick Goes_down next = at-port h.core.ports number _ _ refl next
next-port s h number tick Comes_up next = at-port h.core.ports number _ _ refl next
next-port s h number tick (Reports gener action outcome) next = at-port h.core.ports number _ _ refl next

-- the port of an input that is due
pub due-port : (s : Scenario) (h : State) (p : PortInput) → IsDue s h (history_input p) → IsAtPort h.core.ports p.number
due-port s h p due = next-port s h p.number p.tick p.what due.0

-- what is due has a tick of the run
pub due-tick : (s : Scenario) (h : State) (p : PortInput) → IsDue s h (history_input p) → p.tick ≤ s.options.duration
due-tick s h p due = subst (λ (t : ℕ). t ≤ s.options.duration) (tick-again p) due.1

-- the port's number and its configuration are those of the scenario
pub record IsPlaced (s : Scenario) (number : ℕ) (q : HubPort) : Type 0 where
  pub some : 1 ≤ number
  pub few : number ≤ length s.ports
  pub number_is : q.port.id.port ≡ number
  pub conf : port_at s.ports number ≡ Some q.port.conf

pub placed-at : (s : Scenario) (entries : List Entry) (number : ℕ) (q : HubPort) → port_at (state_of s entries).core.ports number ≡ Some q → IsPlaced s number q
placed-at s entries zero q is = cc
placed-at s entries (suc i) q is =
    let of = port-state_of s entries i q is in
    let within = slice_get_within s.ports i q.port.conf of.conf in
    let more : i + 1 ≡ suc i = omega arith in
    record { some = omega arith; few = omega (arith, within); number_is = of.number ∙ more; conf = of.conf }

-- ---- its clock

-- the clock that stands in the place of a port is the port's
pub clock-is : (s : Scenario) (number : ℕ) (q : HubPort) (clock : ℕ) → IsPlaced s number q → clock ≡ get_or (clocks_by s) (number - 1) clock → clock ≡ q.port.conf.clock
clock-is s zero q clock placed is = absurd (omega (arith, placed.some))
clock-is s (suc i) q clock placed is =
    let f : PortConf → ℕ = λ conf. conf.clock in
    let index : suc i - 1 ≡ i = omega arith in
    let at : slice_get (map f s.ports) i ≡ Some q.port.conf.clock = slice_get-map f s.ports i ∙ ap (option_map f) placed.conf in
    is ∙ ap (λ (k : ℕ). get_or (clocks_by s) k clock) index ∙ get_or_from_slice_get (map f s.ports) i q.port.conf.clock clock at

conf-within : (n : ℕ) (confs : List PortConf) (i : ℕ) (conf : PortConf) → All (λ (c : PortConf). c.clock < n) confs → slice_get confs i ≡ Some conf → conf.clock < n
conf-within n confs i conf all is =
    let at = all i conf (slice_get_within confs i conf is) in
    subst (λ (c : PortConf). c.clock < n) (get_or_from_slice_get confs i conf conf is) at

-- and there
pub clock-there : (s : Scenario) (number : ℕ) (q : HubPort) → IsScenario s → IsPlaced s number q → q.port.conf.clock < length s.clocks
clock-there s zero q rules placed = absurd (omega (arith, placed.some))
clock-there s (suc i) q rules placed = conf-within (length s.clocks) s.ports i q.port.conf rules.placed placed.conf

all-tail : {X : Type 0} (P : X → Type 0) (x : X) (xs : List X) → All P (x ∷ xs) → All P xs
all-tail P x xs all = λ k d lt. all (suc k) d (omega arith)

all-clocks : (n : ℕ) (confs : List PortConf) → All (λ (p : PortConf). p.clock < n) confs → All (λ clock. clock < n) (map (λ (conf : PortConf). conf.clock) confs)
all-clocks n [] all = All-nil (λ clock. clock < n)
all-clocks n (conf ∷ confs) all =
    All-cons (λ clock. clock < n) conf.clock (map (λ (c : PortConf). c.clock) confs) (all 0 conf (omega arith)) (all-clocks n confs (all-tail (λ (p : PortConf). p.clock < n) conf confs all))

-- all clocks of ports are there
pub clocks-there : (s : Scenario) → IsScenario s → All (λ clock. clock < length s.clocks) (clocks_by s)
clocks-there s rules = all-clocks (length s.clocks) s.ports rules.placed

-- the clock of each port, as the scenario has it
same-clocks : (hs : List HubPort) (confs : List PortConf) → length confs ≡ length hs → ((i : ℕ) (h : HubPort) → slice_get hs i ≡ Some h → slice_get confs i ≡ Some h.port.conf)
    → map (λ (conf : PortConf). conf.clock) confs ≡ clocks_of hs
same-clocks [] [] long each = refl
same-clocks [] (conf ∷ confs) long each = cc
same-clocks (h ∷ hs) [] long each = cc
same-clocks (h ∷ hs) (conf ∷ confs) long each =
    let first : Some conf ≡ Some h.port.conf = each 0 h refl in
    let is : conf ≡ h.port.conf = cc in
    let rest : length confs ≡ length hs = omega (arith, long) in
    let head = ap (λ (x : PortConf). x.clock) is in
    rw (head, same-clocks hs confs rest (λ i g at. each (suc i) g at)) refl

pub clocks-ports : (s : Scenario) (entries : List Entry) → clocks_by s ≡ clocks_of (state_of s entries).core.ports
clocks-ports s entries = same-clocks (state_of s entries).core.ports s.ports (sym (ports-length s entries)) (λ i h is. (port-state_of s entries i h is).conf)

-- ---- the reading

-- the reading of a clock, where the input comes with one
abbrev pub clock_seen : List ClockState → List (List LogEntry) → ℕ → ℕ → Input → Option Seen
clock_seen openings logs clock tick input = cond (is_read input) (Some (seen_at tick (whole_reading (clock_at openings clock) (log_at logs clock)))) None

seen-with : (s : Scenario) (logs : List (List LogEntry)) (number tick : ℕ) (what : PortHappening) (conf : PortConf) → port_at s.ports number ≡ Some conf
    → clock_seen s.clocks logs conf.clock tick (input_with number tick what) ≡ input_seen s logs (input_with number tick what)
seen-with s logs number tick (Frame_arrives octets) conf there = sym (ap (option_map (λ (c : PortConf). seen_at tick (whole_reading (clock_at s.clocks c.clock) (log_at logs c.clock)))) there)
seen-with s logs number tick (Timer_fires timer) conf there = sym (ap (option_map (λ (c : PortConf). seen_at tick (whole_reading (clock_at s.clocks c.clock) (log_at logs c.clock)))) there)
seen-with s logs number tick Goes_down conf there = refl
seen-with s logs number tick Comes_up conf there = refl
seen-with s logs number tick (Reports gener action outcome) conf there = refl

-- what a port's clock reads is the reading of its input
pub seen-is : (s : Scenario) (logs : List (List LogEntry)) (openings : List ClockState) (p : PortInput) (q : HubPort) (clock : ℕ) (seen : Option Seen) → IsPlaced s p.number q → openings ≡ s.clocks
    → clock ≡ q.port.conf.clock → seen ≡ clock_seen openings logs clock p.tick (history_input p) → seen ≡ input_seen s logs (history_input p)
seen-is s logs openings p q clock seen placed opened clock_is is =
    is ∙ ap (λ (os : List ClockState). clock_seen os logs clock p.tick (history_input p)) opened
    ∙ ap (λ (k : ℕ). clock_seen s.clocks logs k p.tick (history_input p)) clock_is
    ∙ seen-with s logs p.number p.tick p.what q.port.conf placed.conf

some-with : (openings : List ClockState) (logs : List (List LogEntry)) (clock number tick : ℕ) (what : PortHappening)
    → is_some (clock_seen openings logs clock tick (input_with number tick what)) ≡ is_read (input_with number tick what)
some-with openings logs clock number tick (Frame_arrives octets) = refl
some-with openings logs clock number tick (Timer_fires timer) = refl
some-with openings logs clock number tick Goes_down = refl
some-with openings logs clock number tick Comes_up = refl
some-with openings logs clock number tick (Reports gener action outcome) = refl

-- there is a reading exactly where the input comes with one
pub seen-some : (s : Scenario) (logs : List (List LogEntry)) (p : PortInput) (q : HubPort) → IsPlaced s p.number q → is_some (input_seen s logs (history_input p)) ≡ is_read (history_input p)
seen-some s logs p q placed =
    ap (λ (x : Option Seen). is_some x) (sym (seen-with s logs p.number p.tick p.what q.port.conf placed.conf))
    ∙ some-with s.clocks logs q.port.conf.clock p.number p.tick p.what

-- ---- the phases

-- the entry that the hub made is what the phases of ports look at
pub entry-is : (h : State) (q : HubPort) (seen : Option Seen) (e : PortEntry) → port_at h.core.ports e.input.number ≡ Some q → e.held ≡ held_of q.port.conf.clock h.roles.orders → e.reading ≡ value_of seen
    → port_entry h (event (history_input e.input) seen) ≡ Some e
entry-is h q seen e there held reading =
    let made : PortInput → PortEntry = λ p. record { input = p; held = port_held h.roles.orders (port_at h.core.ports p.number); reading = value_of seen } in
    let with : Held → ℤ → Option PortEntry = λ k r. let x : PortEntry = record { input = e.input; held = k; reading = r } in Some x in
    ap (option_map made) (input-again e.input)
    ∙ ap (λ (o : Option HubPort). with (port_held h.roles.orders o) (value_of seen)) there
    ∙ ap (λ (k : Held). with k (value_of seen)) (sym held)
    ∙ ap (λ (r : ℤ). with e.held r) (sym reading)

pub before-is : (h : State) (e : PortEntry) (seen : Option Seen) → core_before h (event (history_input e.input) seen) ≡ core_at e h.core
before-is h e seen = ap (λ (t : ℕ). at_moment t h.core) (tick-again e.input)

pub between-is : (o : Options) (h : State) (e : PortEntry) (seen : Option Seen) → port_entry h (event (history_input e.input) seen) ≡ Some e
    → core_between o h (event (history_input e.input) seen) ≡ core_ported o e h.core
between-is o h e seen is =
    ap (λ (x : Option PortEntry). port_phase o x (core_before h (event (history_input e.input) seen))) is
    ∙ ap (λ (c : Core). after_port o e c) (before-is h e seen)

pub after-is : (o : Options) (h : State) (e : PortEntry) (seen : Option Seen) → port_entry h (event (history_input e.input) seen) ≡ Some e
    → core_after o h (event (history_input e.input) seen) ≡ core_decided o e h.core
after-is o h e seen is =
    ap (λ (x : Option PortEntry). decision_phase o x (core_before h (event (history_input e.input) seen)) (core_between o h (event (history_input e.input) seen))) is
    ∙ ap (λ (c : Core). after_decision o e c (core_between o h (event (history_input e.input) seen))) (before-is h e seen)
    ∙ ap (λ (c : Core). after_decision o e (core_at e h.core) c) (between-is o h e seen is)

pub fate-is : (o : Options) (h : State) (e : PortEntry) (seen : Option Seen) → port_entry h (event (history_input e.input) seen) ≡ Some e
    → entry_fate o (port_entry h (event (history_input e.input) seen)) (core_before h (event (history_input e.input) seen)) ≡ fate_at o e (core_at e h.core)
fate-is o h e seen is =
    ap (λ (x : Option PortEntry). entry_fate o x (core_before h (event (history_input e.input) seen))) is
    ∙ ap (λ (c : Core). fate_at o e c) (before-is h e seen)

pub frames-are : (o : Options) (h : State) (e : PortEntry) (seen : Option Seen) → port_entry h (event (history_input e.input) seen) ≡ Some e
    → entry_frames o (port_entry h (event (history_input e.input) seen)) (core_before h (event (history_input e.input) seen)) ≡ frames_at o e (core_at e h.core)
frames-are o h e seen is =
    ap (λ (x : Option PortEntry). entry_frames o x (core_before h (event (history_input e.input) seen))) is
    ∙ ap (λ (c : Core). frames_at o e c) (before-is h e seen)

pub measure-is : (p : PortInput) (seen : Option Seen) (ports : List HubPort) → measure_at (event (history_input p) seen) ports ≡ measure_of p.number ports
measure-is p seen ports =
    ap (λ (x : Option ℕ). option_map (λ (m : TickMeasure). (m.measure, m.held)) (option_and_then (λ (h : HubPort). h.measured) (option_and_then (port_at ports) x))) (port-again p)
