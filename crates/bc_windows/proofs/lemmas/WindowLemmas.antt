-- Where a history is through with all that is due up to a tick, each later entry is beyond that tick.
use Rattle.std.proofs.Common.{◌≡◌, ◌<◌, ◌≤◌, ◌+◌, ◌*◌, ℕ, zero, suc, refl, sym, ◌∙◌, subst, List, [], ◌∷◌, ◌++◌, get_or, length, Option, Some, None, pos, arith, inl, inr}
use Rattle.std.specs.Prelude.{All, IsSomeAnd, slice_get}
use Rattle.std.proofs.lemmas.Bool.{cases_lt}
use Rattle.std.proofs.lemmas.List.Elements.{All-cons, All-nil}
use Rattle.std.proofs.lemmas.Nat.{mul-le}
use Rattle.std.proofs.lemmas.Option.{slice_get-get_or, slice_get_within}
use Rattle.ptp_profile.specs.declared.timing.Action.TheVariants.{Unlocked as Unlocked_action}
use Rattle.ptp_profile.specs.Port.PortTimers.{due_of}
use Rattle.bc_history.specs.declared.entry.Entry.{Entry}
use Rattle.bc_history.specs.declared.entry.Input.{Input}
use Rattle.bc_history.specs.declared.entry.Input.TheVariants.{Frame, Timed, Down, Up, Report, Turn, Sampled, Query}
use Rattle.bc_history.specs.declared.entry.Outcome.TheVariants.{Unlocked}
use Rattle.bc_history.specs.declared.entry.Seen.{Seen}
use Rattle.bc_history.specs.declared.scenario.Asked.{Asked}
use Rattle.bc_history.specs.declared.scenario.Happening.{Happening}
use Rattle.bc_history.specs.declared.scenario.Happening.TheVariants.{Frame as Frame_record, Down as Down_record, Up as Up_record}
use Rattle.bc_history.specs.declared.scenario.Record.{Record}
use Rattle.bc_history.specs.declared.scenario.Scenario.{Scenario}
use Rattle.bc_history.specs.Phases.HubPort.{HubPort, TickMeasure}
use Rattle.bc_history.specs.Phases.Inputs.{port_at, tick_of}
use Rattle.bc_history.specs.Phases.State.{Follower, State, TickLead}
use Rattle.bc_history.specs.Phases.Step.{state_of}
use Rattle.bc_history.specs.Run.FollowerEntries.{leading_by, turns_by}
use Rattle.bc_history.specs.Run.History.{Continues, IsFinished}
use Rattle.bc_history.specs.Run.NextInputs.{IsNextOf, IsReportOf, input_of, next_input, records_of, turn_tick}
use Rattle.bc_history.specs.Run.PortEntries.{measured_by, taken_by}
use Rattle.bc_history.specs.Scenario.ScenarioRules.{IsScenario}
use Rattle.bc_history.proofs.lemmas.CoreInvariantLemmas.{Each}
use Rattle.bc_history.proofs.lemmas.FollowerPhaseLemmas.{followers-length, leading-state_of, turns-state_of}
use Rattle.bc_history.proofs.lemmas.MeasureLemmas.{measured-state_of}
use Rattle.bc_history.proofs.lemmas.PortEntriesLemmas.{taken-state_of}
use Rattle.bc_history.proofs.lemmas.PortIdentityLemmas.{port-state_of, ports-length}
use Rattle.bc_windows.specs.Windows.{IsBeyond}
use Rattle.bc_windows.proofs.lemmas.EntryFloorLemmas.{leading-tick, leading-tick_of_all, measured-tick, measured-tick_of_all, queries-more, taken-more, turns-more}
use Rattle.bc_windows.proofs.lemmas.NextFloorLemmas.{AreAbove, IsOneAbove, IsRecordAbove, both-above, next-above, queries-above, records-above}
use Rattle.bc_windows.proofs.lemmas.PortFloorLemmas.{IsPortAbove, ports-above}
use Rattle.bc_windows.proofs.lemmas.TimerFloorLemmas.{IsDueAbove, due-above, timers-above}

-- ---- who is there

-- an index within one list is within another one as long
there-too : {X : Type 0} (xs ys : List X) (i : ℕ) (x : X) → length xs ≡ length ys → slice_get xs i ≡ Some x
    → (y : X) × (slice_get ys i ≡ Some y)
there-too xs ys i x same there =
    let inside = slice_get_within xs i x there in
    (get_or ys i x, slice_get-get_or ys i x (omega (arith, inside, same)))

-- a port that is there after some entries is there after others
port-there : (s : Scenario) (entries others : List Entry) (p : ℕ) (g : HubPort) → port_at (state_of s entries).core.ports p ≡ Some g
    → (h : HubPort) × (port_at (state_of s others).core.ports p ≡ Some h)
port-there s entries others zero g there = absurd (cc)
port-there s entries others (suc i) g there =
    there-too (state_of s entries).core.ports (state_of s others).core.ports i g (ports-length s entries ∙ sym (ports-length s others)) there

-- so is a follower
follower-there : (s : Scenario) (entries others : List Entry) (c : ℕ) (f : Follower) → slice_get (state_of s entries).followers c ≡ Some f
    → (g : Follower) × (slice_get (state_of s others).followers c ≡ Some g)
follower-there s entries others c f there =
    there-too (state_of s entries).followers (state_of s others).followers c f (followers-length s entries ∙ sym (followers-length s others)) there

-- a port has its number
port-number : (s : Scenario) (entries : List Entry) (p : ℕ) (g : HubPort) → port_at (state_of s entries).core.ports p ≡ Some g
    → g.port.id.port ≡ p
port-number s entries zero g there = absurd (cc)
port-number s entries (suc i) g there = let number = (port-state_of s entries i g there).number in omega (arith, number)

-- ---- what stands where a history is beyond a tick

-- all timers are above it, all records and queries that didn't come, and the next turns; no measure and no lead waits
record IsThrough (s : Scenario) (floor : ℕ) (before : List Entry) : Type 0 where
  timers : Each (λ (p : ℕ) (h : HubPort). IsPortAbove floor h) (state_of s before).core.ports
  unmeasured : (p : ℕ) (g : HubPort) → port_at (state_of s before).core.ports p ≡ Some g → measured_by p before ≡ None
  records : (p : ℕ) (g : HubPort) → port_at (state_of s before).core.ports p ≡ Some g
      → AreAbove (λ (r : Record). r.tick) floor (records_of s p) (taken_by p before)
  unled : (c : ℕ) (f : Follower) → slice_get (state_of s before).followers c ≡ Some f → leading_by c before ≡ None
  turns : (c : ℕ) (f : Follower) → slice_get (state_of s before).followers c ≡ Some f
      → floor < (turns_by c before + 1) * s.options.follow_interval
  queries : AreAbove (λ (q : Asked). q.tick) floor s.queries (state_of s before).queries

-- a history of which no entry is beyond a tick, and after which no actor has a next input up to it
module _ (s : Scenario) (rules : IsScenario s) (floor : ℕ) (before : List Entry) (continues : Continues s before)
    (low : All (λ (e : Entry). tick_of e.input ≤ floor) before) (beyond : IsBeyond s before floor) where
  -- no measure waits: its report would be next at a tick of an entry before
  unmeasured-through : (p : ℕ) (g : HubPort) → port_at (state_of s before).core.ports p ≡ Some g → measured_by p before ≡ None
  unmeasured-through p g there = by (measured_by p before) refl
    where
      by : (o : Option TickMeasure) → measured_by p before ≡ o → o ≡ None
      by None is = refl
      by (Some m) is =
          let has = measured-state_of s before continues p g there ∙ is in
          let reports : IsSomeAnd g.measured (λ (x : TickMeasure). (x.tick ≡ m.tick) × (x.held.gener ≡ m.held.gener)) =
          subst (λ (o : Option TickMeasure). IsSomeAnd o (λ (x : TickMeasure). (x.tick ≡ m.tick) × (x.held.gener ≡ m.held.gener))) (sym has) (refl, refl) in
          let next : IsReportOf (port_at (state_of s before).core.ports p) m.tick m.held.gener =
          subst (λ (o : Option HubPort). IsReportOf o m.tick m.held.gener) (sym there) reports in
          let above = beyond (Report p m.tick m.held.gener Unlocked_action Unlocked) next in
          let within = measured-tick_of_all (λ (n : ℕ). n ≤ floor) p m before low is in
          absurd (omega (arith, above, within))

  -- an input that comes next to a port is next
  next-through : (p : ℕ) (g : HubPort) → port_at (state_of s before).core.ports p ≡ Some g → (input : Input) → next_input s g ≡ Some input
      → IsNextOf s (port_at (state_of s before).core.ports g.port.id.port) input
  next-through p g there input is =
      let none = measured-state_of s before continues p g there ∙ unmeasured-through p g there in
      let at = subst (λ (n : ℕ). port_at (state_of s before).core.ports n ≡ Some g) (sym (port-number s before p g there)) there in
      subst (λ (o : Option HubPort). IsNextOf s o input) (sym at) (none, is)

  -- so the next record and the next timer are above the tick
  port-through : (p : ℕ) (g : HubPort) → port_at (state_of s before).core.ports p ≡ Some g
      → IsRecordAbove floor (slice_get (records_of s g.port.id.port) g.taken) × IsDueAbove floor (due_of g.port.timers)
  port-through p g there =
      both-above floor g.port.id.port (slice_get (records_of s g.port.id.port) g.taken) (due_of g.port.timers)
      (λ x. recorded x.tick x.what)
      (λ due is. beyond (Timed g.port.id.port due.0 due.1) (next-through p g there (Timed g.port.id.port due.0 due.1) is))
    where
      recorded : (tick : ℕ) (what : Happening) → next_input s g ≡ Some (input_of g.port.id.port tick what) → floor < tick
      recorded tick (Frame_record octets) is =
          beyond (Frame g.port.id.port tick octets) (next-through p g there (Frame g.port.id.port tick octets) is)
      recorded tick Down_record is = beyond (Down g.port.id.port tick) (next-through p g there (Down g.port.id.port tick) is)
      recorded tick Up_record is = beyond (Up g.port.id.port tick) (next-through p g there (Up g.port.id.port tick) is)

  -- and all records that didn't come
  records-through : (p : ℕ) (g : HubPort) → port_at (state_of s before).core.ports p ≡ Some g
      → AreAbove (λ (r : Record). r.tick) floor (records_of s p) (taken_by p before)
  records-through p g there =
      let at = subst (λ (n : ℕ). IsRecordAbove floor (slice_get (records_of s n) g.taken)) (port-number s before p g there) (port-through p g there).0 in
      let first = subst (λ (n : ℕ). IsRecordAbove floor (slice_get (records_of s p) n)) (taken-state_of s before p g there) at in
      records-above s floor p (taken_by p before) rules first

  -- no lead waits: its sample would be next at a tick of an entry before
  unled-through : (c : ℕ) (f : Follower) → slice_get (state_of s before).followers c ≡ Some f → leading_by c before ≡ None
  unled-through c f there = by (leading_by c before) refl
    where
      seen : Seen
      seen = record { number = 0; value = pos 0; freq = pos 0 }

      by : (o : Option TickLead) → leading_by c before ≡ o → o ≡ None
      by None is = refl
      by (Some l) is =
          let leads : f.leading ≡ Some l = leading-state_of s before continues c f there ∙ is in
          let next = subst (λ (o : Option Follower). IsSomeAnd o (λ (x : Follower). x.leading ≡ Some l)) (sym there) leads in
          let above = beyond (Sampled c l.tick l.lead seen seen Unlocked_action Unlocked) next in
          let within = leading-tick_of_all (λ (n : ℕ). n ≤ floor) c l before low is in
          absurd (omega (arith, above, within))

  -- so the next turn is above the tick
  turns-through : (c : ℕ) (f : Follower) → slice_get (state_of s before).followers c ≡ Some f
      → floor < (turns_by c before + 1) * s.options.follow_interval
  turns-through c f there =
      let none : f.leading ≡ None = leading-state_of s before continues c f there ∙ unled-through c f there in
      let next = subst (λ (o : Option Follower). IsSomeAnd o (λ (x : Follower). (x.leading ≡ None) × (turn_tick s f ≡ turn_tick s x))) (sym there) (none, refl) in
      subst (λ (n : ℕ). floor < (n + 1) * s.options.follow_interval) (turns-state_of s before c f there) (beyond (Turn c (turn_tick s f)) next)

  -- the next query is above the tick
  query-through : IsOneAbove (λ (q : Asked). q.tick) floor (slice_get s.queries (state_of s before).queries)
  query-through = by (slice_get s.queries (state_of s before).queries) refl
    where
      by : (o : Option Asked) → slice_get s.queries (state_of s before).queries ≡ o → IsOneAbove (λ (q : Asked). q.tick) floor o
      by None is = tt
      by (Some q) is = beyond (Query q.tick q.text) is

  -- all of it
  through : IsThrough s floor before
  through = record {
    timers = λ p g there. timers-above floor g.port.timers (port-through p g there).1;
    unmeasured = unmeasured-through;
    records = records-through;
    unled = unled-through;
    turns = turns-through;
    queries = queries-above s floor (state_of s before).queries rules query-through;
  }

-- ---- what is next then

-- more entries behind such a history, all of them above the tick
module _ (s : Scenario) (floor : ℕ) (more before : List Entry) (is : IsThrough s floor before) (continues : Continues s (more ++ before))
    (all : All (λ (e : Entry). floor < tick_of e.input) more)
    (timers : Each (λ (p : ℕ) (h : HubPort). IsPortAbove floor h) (state_of s (more ++ before)).core.ports) where
  abbrev now : State
  now = state_of s (more ++ before)

  -- the next record or timer of a port
  port-beyond : (p : ℕ) (g : HubPort) → port_at now.core.ports p ≡ Some g → (input : Input) → next_input s g ≡ Some input → floor < tick_of input
  port-beyond p g there input next =
      let was = port-there s (more ++ before) before p g there in
      let number = port-number s (more ++ before) p g there in
      let taken = taken-state_of s (more ++ before) p g there in
      let grown = taken-more p more before in
      let le : taken_by p before ≤ g.taken = omega (arith, taken, grown) in
      let rest = subst (λ (n : ℕ). AreAbove (λ (r : Record). r.tick) floor (records_of s n) (taken_by p before)) (sym number) (is.records p was.0 was.1) in
      next-above floor g.port.id.port (slice_get (records_of s g.port.id.port) g.taken) (due_of g.port.timers) input
      (by (slice_get (records_of s g.port.id.port) g.taken) refl (λ r at. rest g.taken r le at))
      (due-above floor g.port.timers (timers p g there)) next
    where
      by : (o : Option Record) → slice_get (records_of s g.port.id.port) g.taken ≡ o
          → ((r : Record) → slice_get (records_of s g.port.id.port) g.taken ≡ Some r → floor < r.tick) → IsRecordAbove floor o
      by None at each = tt
      by (Some r) at each = each r at

  -- whatever comes next to a port
  next-beyond : (p : ℕ) (input : Input) → IsNextOf s (port_at now.core.ports p) input → floor < tick_of input
  next-beyond p input next = by (port_at now.core.ports p) refl next
    where
      by : (o : Option HubPort) → port_at now.core.ports p ≡ o → IsNextOf s o input → floor < tick_of input
      by None there next = absurd next
      by (Some g) there next = port-beyond p g there input next.1

  -- the report of a port is of a measure of an entry above the tick
  report-beyond : (p tick gener : ℕ) → IsReportOf (port_at now.core.ports p) tick gener → floor < tick
  report-beyond p tick gener next = by (port_at now.core.ports p) refl next
    where
      of : (g : HubPort) → port_at now.core.ports p ≡ Some g → (o : Option TickMeasure) → g.measured ≡ o
          → IsSomeAnd o (λ (m : TickMeasure). (m.tick ≡ tick) × (m.held.gener ≡ gener)) → floor < tick
      of g there None has says = absurd says
      of g there (Some m) has says =
          let was = port-there s (more ++ before) before p g there in
          let none = is.unmeasured p was.0 was.1 in
          let kept = sym (measured-state_of s (more ++ before) continues p g there) ∙ has in
          subst (λ (n : ℕ). floor < n) says.0
          (measured-tick (λ (n : ℕ). floor < n) p m more before all (λ some. let both = sym none ∙ some in absurd (cc)) kept)

      by : (o : Option HubPort) → port_at now.core.ports p ≡ o → IsReportOf o tick gener → floor < tick
      by None there next = absurd next
      by (Some g) there next = of g there g.measured refl next

  -- a follower's turn is its next one, or a later one
  turn-beyond : (c tick : ℕ) → IsSomeAnd (slice_get now.followers c) (λ (f : Follower). (f.leading ≡ None) × (tick ≡ turn_tick s f)) → floor < tick
  turn-beyond c tick next = by (slice_get now.followers c) refl next
    where
      by : (o : Option Follower) → slice_get now.followers c ≡ o → IsSomeAnd o (λ (f : Follower). (f.leading ≡ None) × (tick ≡ turn_tick s f))
          → floor < tick
      by None there next = absurd next
      by (Some f) there next =
          let was = follower-there s (more ++ before) before c f there in
          let least = is.turns c was.0 was.1 in
          let took = turns-state_of s (more ++ before) c f there in
          let grown = turns-more c more before in
          let rises = mul-le (turns_by c before + 1) s.options.follow_interval (f.turns + 1) s.options.follow_interval
          (omega (arith, took, grown)) (omega arith) in
          let at : tick ≡ (f.turns + 1) * s.options.follow_interval = next.1 in
          omega (arith, least, rises, at)

  -- the sample of a follower is of a lead of an entry above the tick
  sample-beyond : (c : ℕ) (l : TickLead) → IsSomeAnd (slice_get now.followers c) (λ (f : Follower). f.leading ≡ Some l) → floor < l.tick
  sample-beyond c l next = by (slice_get now.followers c) refl next
    where
      by : (o : Option Follower) → slice_get now.followers c ≡ o → IsSomeAnd o (λ (f : Follower). f.leading ≡ Some l) → floor < l.tick
      by None there next = absurd next
      by (Some f) there next =
          let was = follower-there s (more ++ before) before c f there in
          let none = is.unled c was.0 was.1 in
          let kept = sym (leading-state_of s (more ++ before) continues c f there) ∙ next in
          leading-tick (λ (n : ℕ). floor < n) c l more before all (λ some. let both = sym none ∙ some in absurd (cc)) kept

  -- no actor has a next input up to the tick
  stays-beyond : IsBeyond s (more ++ before) floor
  stays-beyond (Frame port tick octets) next = next-beyond port (Frame port tick octets) next
  stays-beyond (Timed port tick timer) next = next-beyond port (Timed port tick timer) next
  stays-beyond (Down port tick) next = next-beyond port (Down port tick) next
  stays-beyond (Up port tick) next = next-beyond port (Up port tick) next
  stays-beyond (Report port tick gener action outcome) next = report-beyond port tick gener next
  stays-beyond (Turn clock tick) next = turn-beyond clock tick next
  stays-beyond (Sampled clock tick lead theirs own action outcome) next = sample-beyond clock (record { tick = tick; lead = lead }) next
  stays-beyond (Query tick text) next =
      is.queries now.queries (record { tick = tick; text = text }) (queries-more s more before) next

-- ---- the law

-- the entries behind such a history are above the tick, and so are the timers and all that is next
record AreBehind (s : Scenario) (floor : ℕ) (more before : List Entry) : Type 0 where
  entries : All (λ (e : Entry). floor < tick_of e.input) more
  timers : Each (λ (p : ℕ) (h : HubPort). IsPortAbove floor h) (state_of s (more ++ before)).core.ports
  inputs : IsBeyond s (more ++ before) floor

-- entry by entry
behind : (s : Scenario) (floor : ℕ) (more before : List Entry) → IsThrough s floor before → IsBeyond s before floor → Continues s (more ++ before)
    → AreBehind s floor more before
behind s floor [] before is beyond continues =
    record { entries = All-nil (λ (e : Entry). floor < tick_of e.input); timers = is.timers; inputs = beyond }
behind s floor (e ∷ more) before is beyond (follows, continues) =
    let rest = behind s floor more before is beyond continues in
    let above = rest.inputs e.input follows.due.0 in
    let all = All-cons (λ (x : Entry). floor < tick_of x.input) e more above rest.entries in
    let timers = ports-above s floor e (more ++ before) above rest.timers in
    record {
      entries = all;
      timers = timers;
      inputs = stays-beyond s floor (e ∷ more) before is (follows, continues) all timers;
    }

-- the entries before others continue by themselves
pub continues-before : (s : Scenario) (more before : List Entry) → Continues s (more ++ before) → Continues s before
continues-before s [] before continues = continues
continues-before s (e ∷ more) before (follows, continues) = continues-before s more before continues

-- all that follows is beyond the tick
pub entries-beyond : (s : Scenario) (before more : List Entry) (floor : ℕ) → IsScenario s → Continues s (more ++ before)
    → All (λ (e : Entry). tick_of e.input ≤ floor) before → IsBeyond s before floor
    → All (λ (e : Entry). floor < tick_of e.input) more
entries-beyond s before more floor rules continues low beyond =
    (behind s floor more before (through s rules floor before (continues-before s more before continues) low beyond) beyond continues).entries

-- and so is all that is next behind it
pub inputs-beyond : (s : Scenario) (before more : List Entry) (floor : ℕ) → IsScenario s → Continues s (more ++ before)
    → All (λ (e : Entry). tick_of e.input ≤ floor) before → IsBeyond s before floor → IsBeyond s (more ++ before) floor
inputs-beyond s before more floor rules continues low beyond =
    (behind s floor more before (through s rules floor before (continues-before s more before continues) low beyond) beyond continues).inputs

-- ---- the end of a run

-- a finished history is beyond the end of the run
pub finished-beyond : (s : Scenario) (entries : List Entry) → IsFinished s entries → IsBeyond s entries s.options.duration
finished-beyond s entries done input next =
    elim (cases_lt s.options.duration (tick_of input)) [
      | inl above ↦ above
      | inr within ↦ absurd (done input (next, within))
    ]

-- and one that is beyond it is finished
pub beyond-finished : (s : Scenario) (entries : List Entry) → IsBeyond s entries s.options.duration → IsFinished s entries
beyond-finished s entries beyond input due =
    let above = beyond input due.0 in
    let within = due.1 in
    omega (arith, above, within)
