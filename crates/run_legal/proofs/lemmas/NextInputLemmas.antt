-- In a right World each next input has the tick of an actor's next step, and each next step with a tick has a next input of it.
use Rattle.std.proofs.Common.{◌≡◌, ℕ, zero, suc, refl, sym, ap, ◌∙◌, subst, arith, List, [], ◌∷◌, length, Option, Some, None, pos}
use Rattle.std.specs.Prelude.{Contains, IsSomeAnd, option_and_then, option_map, slice_get}
use Rattle.std.proofs.lemmas.Option.{same_Some, slice_get_within}
use Rattle.ptp_profile.specs.declared.roles.Lead.{Lead}
use Rattle.ptp_profile.specs.declared.seats.Held.{Held}
use Rattle.ptp_profile.specs.declared.timing.Action.{Action}
use Rattle.ptp_profile.specs.declared.timing.Action.TheVariants.{Unlocked as Unlocked_action, Jump, Locked}
use Rattle.ptp_profile.specs.Timing.Servo.{newest_action}
use Rattle.bc_history.specs.declared.entry.Entry.{Entry}
use Rattle.bc_history.specs.declared.entry.Input.{Input}
use Rattle.bc_history.specs.declared.entry.Input.TheVariants.{Frame, Timed, Down, Up, Report, Turn, Sampled, Query}
use Rattle.bc_history.specs.declared.entry.Outcome.{Outcome}
use Rattle.bc_history.specs.declared.entry.Outcome.TheVariants.{Unlocked}
use Rattle.bc_history.specs.declared.entry.Seen.{Seen}
use Rattle.bc_history.specs.declared.entry.Who.{Who}
use Rattle.bc_history.specs.declared.entry.Who.TheVariants.{Port as A_port, Follower as A_follower, Queries as The_queries}
use Rattle.bc_history.specs.declared.place.FollowerPlace.{FollowerPlace}
use Rattle.bc_history.specs.declared.place.FollowerPlace.TheVariants.{Turns as Turns_next, ReadsTheirs as Reads_theirs, ReadsOwn as Reads_own, Exchanges as Exchanges_own, Samples}
use Rattle.bc_history.specs.declared.place.PortPlace.{PortPlace}
use Rattle.bc_history.specs.declared.place.PortPlace.TheVariants.{Waits, Exchanges, Reports}
use Rattle.bc_history.specs.declared.scenario.Asked.{Asked}
use Rattle.bc_history.specs.declared.scenario.Options.{Options}
use Rattle.bc_history.specs.declared.scenario.Scenario.{Scenario}
use Rattle.bc_history.specs.Phases.HubPort.{HubPort, TickMeasure}
use Rattle.bc_history.specs.Phases.Inputs.{port_at, tick_of}
use Rattle.bc_history.specs.Phases.OpeningState.{servo_of}
use Rattle.bc_history.specs.Phases.State.{Follower, State, TickLead}
use Rattle.bc_history.specs.Phases.Step.{state_of}
use Rattle.bc_history.specs.Run.Actors.{actors_of}
use Rattle.bc_history.specs.Run.NextInputs.{IsNext, IsNextOf, IsReportOf, next_input, query_input, turn_tick}
use Rattle.bc_history.specs.Run.PortEntries.{measured_by}
use Rattle.bc_history.specs.Run.PortPlace.{after_port_exchange, place_by_entries, port_job, port_place}
use Rattle.bc_history.specs.Run.Samples.{port_samples}
use Rattle.bc_history.specs.Run.World.{Of_follower, Of_port, Of_queries, Place, World, follower_due, place_due, place_of, port_due}
use Rattle.bc_history.proofs.lemmas.CoreInvariantLemmas.{option_map-some}
use Rattle.bc_history.proofs.lemmas.EntryPhaseLemmas.{option_and_then-some}
use Rattle.bc_history.proofs.lemmas.FollowerPhaseLemmas.{followers-length}
use Rattle.bc_history.proofs.lemmas.MeasureLemmas.{measured-state_of, place-by_measure, place-unmeasured}
use Rattle.bc_history.proofs.lemmas.PortIdentityLemmas.{ports-length}
use Rattle.run_legal.specs.Runs.WorldInvariant.{IsFollowerPlaced, IsLed, IsPortPlaced, IsRight}
use Rattle.run_legal.proofs.lemmas.EventPortLemmas.{taken-own}
use Rattle.run_legal.proofs.lemmas.NamedRunLemmas.{follower-acting, port-acting, queries-acting}

-- ---- elements that are there

-- an element of one of two lists of one length has one beside it
pub beside : {X Y : Type 0} (xs : List X) (ys : List Y) (i : ℕ) (x : X) → length xs ≡ length ys → slice_get xs i ≡ Some x → (y : Y) × (slice_get ys i ≡ Some y)
beside [] ys i x same there = absurd (cc)
beside (z ∷ xs) [] i x same there = absurd (omega (arith, same))
beside (z ∷ xs) (y ∷ ys) zero x same there = (y, refl)
beside (z ∷ xs) (y ∷ ys) (suc i) x same there = beside xs ys i x (omega (arith, same)) there

-- a value that is there, with its fact
with_fact : {X : Type 0} (o : Option X) (P : X → Type 0) → IsSomeAnd o P → (x : X) × (o ≡ Some x) × P x
with_fact None P fact = absurd fact
with_fact (Some x) P fact = (x, refl, fact)

-- ---- the tick of a port in the middle of its job

-- the tick of an exchange or a report that a port is at
abbrev pub job_tick : PortPlace → Option ℕ
job_tick Waits = None
job_tick (Exchanges tick held action) = Some tick
job_tick (Reports tick gener action outcome) = Some tick

-- an exchange leaves it
job_tick-exchange : (outcome : Outcome) (place : PortPlace) → job_tick (after_port_exchange outcome place) ≡ job_tick place
job_tick-exchange outcome Waits = refl
job_tick-exchange outcome (Exchanges tick held action) = refl
job_tick-exchange outcome (Reports tick gener action former) = refl

-- so do all exchanges since the last entry
job_tick-exchanges : (o : Options) (p : ℕ) (entries : List Entry) (exchanges : List Outcome) → job_tick (port_place o p entries exchanges) ≡ job_tick (place_by_entries o p entries)
job_tick-exchanges o p entries [] = refl
job_tick-exchanges o p entries (outcome ∷ exchanges) = job_tick-exchange outcome (port_place o p entries exchanges) ∙ job_tick-exchanges o p entries exchanges

-- it is that of the job of a measure
job_tick-job : (tick : ℕ) (held : Held) (action : Action) → job_tick (port_job tick held action) ≡ Some tick
job_tick-job tick held Unlocked_action = refl
job_tick-job tick held (Jump step freq) = refl
job_tick-job tick held (Locked freq) = refl

-- the tick of a measure
abbrev pub measured_tick : Option TickMeasure → Option ℕ
measured_tick o = option_map (λ (m : TickMeasure). m.tick) o

-- it is that of the last measure
job_tick-measured : (o : Options) (p : ℕ) (entries : List Entry) → job_tick (place_by_entries o p entries) ≡ measured_tick (measured_by p entries)
job_tick-measured o p entries = by (measured_by p entries) refl
  where
    by : (m : Option TickMeasure) → measured_by p entries ≡ m → job_tick (place_by_entries o p entries) ≡ measured_tick m
    by None is = ap job_tick (place-unmeasured o p entries is)
    by (Some m) is = ap job_tick (place-by_measure o p entries m is) ∙ job_tick-job m.tick m.held (newest_action (servo_of o) (port_samples p entries))

-- a port that is where it may be is at the tick of its last measure
pub job_tick-placed : (s : Scenario) (w : World) (p : ℕ) (place : PortPlace) → IsPortPlaced s w p place → job_tick place ≡ measured_tick (measured_by p w.entries)
job_tick-placed s w p Waits is = ap job_tick (sym is) ∙ job_tick-measured s.options p w.entries
job_tick-placed s w p (Exchanges tick held action) is = ap job_tick (sym is) ∙ job_tick-measured s.options p w.entries
job_tick-placed s w p (Reports tick gener action outcome) is =
    ap job_tick (sym is.place) ∙ (job_tick-exchanges s.options p w.entries is.exchanges ∙ job_tick-measured s.options p w.entries)

-- a port without such a tick is at its next input
due-waiting : (s : Scenario) (h : HubPort) (place : PortPlace) → job_tick place ≡ None → port_due s h place ≡ option_map tick_of (next_input s h)
due-waiting s h Waits none = refl
due-waiting s h (Exchanges tick held action) none = absurd (cc)
due-waiting s h (Reports tick gener action outcome) none = absurd (cc)

-- a port with one is due at it
pub due-busy : (s : Scenario) (h : HubPort) (place : PortPlace) (tick : ℕ) → job_tick place ≡ Some tick → port_due s h place ≡ Some tick
due-busy s h Waits tick is = absurd (cc)
due-busy s h (Exchanges t held action) tick is = is
due-busy s h (Reports t gener action outcome) tick is = is

-- ---- the tick of a follower

-- a follower that was told nothing is at its next turn
due-turning : (s : Scenario) (w : World) (c : ℕ) (f : Follower) (place : FollowerPlace) → f.leading ≡ None → IsFollowerPlaced s w c f place → follower_due s f place ≡ turn_tick s f
due-turning s w c f Turns_next none is = refl
due-turning s w c f (Reads_theirs tick lead) none is = let led = is.0 in absurd (cc)
due-turning s w c f (Reads_own tick lead theirs) none is = let led = is.0 in absurd (cc)
due-turning s w c f (Exchanges_own tick lead theirs own action) none is = let led = is.0 in absurd (cc)
due-turning s w c f (Samples tick lead theirs own action outcome) none is = let led = is.0 in absurd (cc)

-- the tick of what a follower was told
led-tick : (l : TickLead) (tick : ℕ) (leading : Option TickLead) → leading ≡ Some l → option_map (λ (x : TickLead). x.tick) leading ≡ Some tick → tick ≡ l.tick
led-tick l tick leading is at = let same : Some l.tick ≡ Some tick = sym (ap (option_map (λ (x : TickLead). x.tick)) is) ∙ at in cc

-- a follower that was told whom to copy is due at the tick of that
due-led : (s : Scenario) (w : World) (c : ℕ) (f : Follower) (place : FollowerPlace) (l : TickLead) → f.leading ≡ Some l → IsFollowerPlaced s w c f place → follower_due s f place ≡ l.tick
due-led s w c f Turns_next l led is = absurd (cc)
due-led s w c f (Reads_theirs tick lead) l led is = led-tick l tick f.leading led (ap (option_map (λ (x : TickLead). x.tick)) is.0)
due-led s w c f (Reads_own tick lead theirs) l led is = led-tick l tick f.leading led (ap (option_map (λ (x : TickLead). x.tick)) is.0)
due-led s w c f (Exchanges_own tick lead theirs own action) l led is = led-tick l tick f.leading led (ap (option_map (λ (x : TickLead). x.tick)) is.0)
due-led s w c f (Samples tick lead theirs own action outcome) l led is = led-tick l tick f.leading led (ap (option_map (λ (x : TickLead). x.tick)) is.0)

-- what the history of a World gives
abbrev given : Scenario → World → State
given s w = state_of s w.entries

-- ---- who is there

module _ (s : Scenario) (w : World) (right : IsRight s w) where
  -- the place of a port that the history gives
  port-beside : (i : ℕ) (port : HubPort) → slice_get (given s w).core.ports i ≡ Some port → (place : PortPlace) × (slice_get w.ports i ≡ Some place)
  port-beside i port is = beside (given s w).core.ports w.ports i port (ports-length s w.entries ∙ sym right.port_count) is

  -- the place of a follower that the history gives
  follower-beside : (c : ℕ) (f : Follower) → slice_get (given s w).followers c ≡ Some f → (place : FollowerPlace) × (slice_get w.followers c ≡ Some place)
  follower-beside c f is = beside (given s w).followers w.followers c f (sym right.follower_count) is

  -- the tick of a port by what it measured
  port-tick : (i : ℕ) (port : HubPort) (place : PortPlace) → slice_get (given s w).core.ports i ≡ Some port → slice_get w.ports i ≡ Some place → job_tick place ≡ measured_tick port.measured
  port-tick i port place is there =
      job_tick-placed s w (suc i) place (right.ports (suc i) place there)
      ∙ sym (ap measured_tick (measured-state_of s w.entries right.course.history (suc i) port is))

-- ---- what is so of the tick of each actor's next step

module _ (s : Scenario) (w : World) (Is : ℕ → Type 0) (right : IsRight s w) (steps : (who : Who) (place : Place) (tick : ℕ) → Contains (actors_of s) who → place_of w who ≡ Some place → place_due s (state_of s w.entries) who place ≡ Some tick → Is tick) where
  -- is so of a port's
  pub port-all : (i tick : ℕ) (port : HubPort) (place : PortPlace) → slice_get (state_of s w.entries).core.ports i ≡ Some port → slice_get w.ports i ≡ Some place → port_due s port place ≡ Some tick → Is tick
  port-all i tick port place is there at =
      let within = slice_get_within w.ports i place there in
      steps (A_port (suc i)) (Of_port place) tick (port-acting s i (omega (arith, within, right.port_count))) (ap (option_map (λ place. Of_port place)) there)
      (ap (option_and_then (λ port. port_due s port place)) is ∙ at)

  -- and of a follower's
  pub follower-all : (c tick : ℕ) (f : Follower) (place : FollowerPlace) → slice_get (state_of s w.entries).followers c ≡ Some f → slice_get w.followers c ≡ Some place → follower_due s f place ≡ tick → Is tick
  follower-all c tick f place is there at =
      let within = slice_get_within (given s w).followers c f is in
      let count = followers-length s w.entries in
      steps (A_follower c) (Of_follower place) tick (follower-acting s c (omega (arith, within, count))) (ap (option_map (λ place. Of_follower place)) there)
      (ap (option_map (λ f. follower_due s f place)) is ∙ ap (λ (t : ℕ). Some t) at)

  -- so it is of the tick of a port's next record or timer
  taken-all : (p : ℕ) (input : Input) → IsNextOf s (port_at (given s w).core.ports p) input → Is (tick_of input)
  taken-all zero input next = absurd next
  taken-all (suc i) input next =
      let port = with_fact (slice_get (given s w).core.ports i) (λ (g : HubPort). (g.measured ≡ None) × (next_input s g ≡ Some input)) next in
      let place = port-beside s w right i port.0 port.1 in
      let waits : job_tick place.0 ≡ None = port-tick s w right i port.0 place.0 port.1 place.1 ∙ ap measured_tick port.2.0 in
      port-all i (tick_of input) port.0 place.0 port.1 place.1 (due-waiting s port.0 place.0 waits ∙ ap (option_map tick_of) port.2.1)

  -- of its report's
  report-all : (p tick gener : ℕ) → IsReportOf (port_at (given s w).core.ports p) tick gener → Is tick
  report-all zero tick gener next = absurd next
  report-all (suc i) tick gener next =
      let port = with_fact (slice_get (given s w).core.ports i) (λ (g : HubPort). IsSomeAnd g.measured (λ (m : TickMeasure). (m.tick ≡ tick) × (m.held.gener ≡ gener))) next in
      let m = with_fact port.0.measured (λ (m : TickMeasure). (m.tick ≡ tick) × (m.held.gener ≡ gener)) port.2 in
      let place = port-beside s w right i port.0 port.1 in
      let busy : job_tick place.0 ≡ Some tick = port-tick s w right i port.0 place.0 port.1 place.1 ∙ (ap measured_tick m.1 ∙ ap (λ (t : ℕ). Some t) m.2.0) in
      port-all i tick port.0 place.0 port.1 place.1 (due-busy s port.0 place.0 tick busy)

  -- of a turn's
  turn-all : (c tick : ℕ) → IsSomeAnd (slice_get (given s w).followers c) (λ (f : Follower). (f.leading ≡ None) × (tick ≡ turn_tick s f)) → Is tick
  turn-all c tick next =
      let f = with_fact (slice_get (given s w).followers c) (λ (f : Follower). (f.leading ≡ None) × (tick ≡ turn_tick s f)) next in
      let place = follower-beside s w right c f.0 f.1 in
      follower-all c tick f.0 place.0 f.1 place.1 (due-turning s w c f.0 place.0 f.2.0 (right.followers c f.0 place.0 f.1 place.1) ∙ sym f.2.1)

  -- of a sample's
  sample-all : (c : ℕ) (l : TickLead) → IsSomeAnd (slice_get (given s w).followers c) (λ (f : Follower). f.leading ≡ Some l) → Is l.tick
  sample-all c l next =
      let f = with_fact (slice_get (given s w).followers c) (λ (f : Follower). f.leading ≡ Some l) next in
      let place = follower-beside s w right c f.0 f.1 in
      follower-all c l.tick f.0 place.0 f.1 place.1 (due-led s w c f.0 place.0 l f.2 (right.followers c f.0 place.0 f.1 place.1))

  -- and of each next input's
  pub next-all : (input : Input) → IsNext s (state_of s w.entries) input → Is (tick_of input)
  next-all (Frame port tick octets) next = taken-all port (Frame port tick octets) next
  next-all (Timed port tick timer) next = taken-all port (Timed port tick timer) next
  next-all (Down port tick) next = taken-all port (Down port tick) next
  next-all (Up port tick) next = taken-all port (Up port tick) next
  next-all (Report port tick gener action outcome) next = report-all port tick gener next
  next-all (Turn clock tick) next = turn-all clock tick next
  next-all (Sampled clock tick lead theirs own action outcome) next = sample-all clock (record { tick = tick; lead = lead }) next
  next-all (Query tick text) next =
      steps The_queries Of_queries tick (queries-acting s) refl (ap (option_map (λ (asked : Asked). asked.tick)) next)

-- ---- a next input of the tick of a next step

-- there is a next input of a tick
abbrev HasNextAt : Scenario → World → ℕ → Type 0
HasNextAt s w tick = (input : Input) × IsNext s (state_of s w.entries) input × (tick_of input ≡ tick)

-- where nothing is made nothing is there
option_map-none : {X Y : Type 0} (f : X → Y) (o : Option X) → option_map f o ≡ None → o ≡ None
option_map-none f None none = refl
option_map-none f (Some x) none = absurd (cc)

-- a reading, as any other
some_reading : Seen
some_reading = record { number = 0; value = pos 0; freq = pos 0 }

-- a port that measured nothing has its next record or timer
waiting-next : (s : Scenario) (w : World) (i tick : ℕ) (port : HubPort) → slice_get (given s w).core.ports i ≡ Some port → port.measured ≡ None → option_map tick_of (next_input s port) ≡ Some tick
    → HasNextAt s w tick
waiting-next s w i tick port is none at =
    let next = option_map-some tick_of (next_input s port) tick at in
    let taken = taken-own s w.entries (suc i) port next.0 is next.1 in
    (next.0, taken.next (given s w) (subst (λ (o : Option HubPort). IsNextOf s o next.0) (sym is) (none, next.1)), next.2)

-- a port that measured has its report, whatever it asked for and had
report-next : (s : Scenario) (w : World) (i tick : ℕ) (port : HubPort) → slice_get (given s w).core.ports i ≡ Some port → measured_tick port.measured ≡ Some tick → HasNextAt s w tick
report-next s w i tick port is at =
    let m = option_map-some (λ (m : TickMeasure). m.tick) port.measured tick at in
    let gener = m.0.held.gener in
    let reports : IsReportOf (Some port) tick gener =
    subst (λ (o : Option TickMeasure). IsSomeAnd o (λ (x : TickMeasure). (x.tick ≡ tick) × (x.held.gener ≡ gener))) (sym m.1) (m.2, refl) in
    (Report (suc i) tick gener Unlocked_action Unlocked, subst (λ (o : Option HubPort). IsReportOf o tick gener) (sym is) reports, refl)

-- a follower that was told whom to copy has its sample, whatever it read, asked for and had
sample-next : (s : Scenario) (w : World) (c tick at : ℕ) (f : Follower) (lead : Lead) → slice_get (given s w).followers c ≡ Some f → IsLed f at lead → at ≡ tick → HasNextAt s w tick
sample-next s w c tick at f lead is led same = (
  Sampled c at lead some_reading some_reading Unlocked_action Unlocked,
  subst (λ (o : Option Follower). IsSomeAnd o (λ g. g.leading ≡ Some (record { tick = at; lead = lead }))) (sym is) led,
  same,
)

-- a follower has its turn or its sample, by its place
follower-next : (s : Scenario) (w : World) (c tick : ℕ) (f : Follower) (place : FollowerPlace) → slice_get (given s w).followers c ≡ Some f → IsFollowerPlaced s w c f place → follower_due s f place ≡ tick
    → HasNextAt s w tick
follower-next s w c tick f Turns_next is none same = (
  Turn c (turn_tick s f),
  subst (λ (o : Option Follower). IsSomeAnd o (λ g. (g.leading ≡ None) × (turn_tick s f ≡ turn_tick s g))) (sym is) (none, refl),
  same,
)
follower-next s w c tick f (Reads_theirs at lead) is placed same = sample-next s w c tick at f lead is placed.0 same
follower-next s w c tick f (Reads_own at lead theirs) is placed same = sample-next s w c tick at f lead is placed.0 same
follower-next s w c tick f (Exchanges_own at lead theirs own action) is placed same = sample-next s w c tick at f lead is placed.0 same
follower-next s w c tick f (Samples at lead theirs own action outcome) is placed same = sample-next s w c tick at f lead is placed.0 same

-- the queries have their next line
query-next : (s : Scenario) (w : World) (tick : ℕ) → option_map (λ (asked : Asked). asked.tick) (query_input s (given s w)) ≡ Some tick → HasNextAt s w tick
query-next s w tick at =
    let asked = option_map-some (λ (asked : Asked). asked.tick) (query_input s (given s w)) tick at in
    (Query asked.0.tick asked.0.text, asked.1, asked.2)

module _ (s : Scenario) (w : World) (right : IsRight s w) where
  -- a port has a next input, by its place
  port-next : (i tick : ℕ) (port : HubPort) (place : PortPlace) → slice_get (given s w).core.ports i ≡ Some port → slice_get w.ports i ≡ Some place → port_due s port place ≡ Some tick → HasNextAt s w tick
  port-next i tick port Waits is there at =
      waiting-next s w i tick port is (option_map-none (λ (m : TickMeasure). m.tick) port.measured (sym (port-tick s w right i port Waits is there))) at
  port-next i tick port (Exchanges t held action) is there at =
      report-next s w i tick port is (sym (port-tick s w right i port (Exchanges t held action) is there) ∙ at)
  port-next i tick port (Reports t gener action outcome) is there at =
      report-next s w i tick port is (sym (port-tick s w right i port (Reports t gener action outcome) is there) ∙ at)

  -- whoever's next step has a tick has a next input of that tick
  pub has-next : (who : Who) (place : Place) (tick : ℕ) → place_of w who ≡ Some place → place_due s (state_of s w.entries) who place ≡ Some tick
      → (input : Input) × IsNext s (state_of s w.entries) input × (tick_of input ≡ tick)
  has-next (A_port zero) place tick there at = absurd (cc)
  has-next (A_port (suc i)) place tick there at =
      let own = option_map-some (λ (own : PortPlace). Of_port own) (slice_get w.ports i) place there in
      let due = subst (λ (x : Place). place_due s (given s w) (A_port (suc i)) x ≡ Some tick) (sym own.2) at in
      let port = option_and_then-some (λ (port : HubPort). port_due s port own.0) (slice_get (given s w).core.ports i) tick due in
      port-next i tick port.0 own.0 port.1 own.1 port.2
  has-next (A_follower c) place tick there at =
      let own = option_map-some (λ (own : FollowerPlace). Of_follower own) (slice_get w.followers c) place there in
      let due = subst (λ (x : Place). place_due s (given s w) (A_follower c) x ≡ Some tick) (sym own.2) at in
      let f = option_map-some (λ (f : Follower). follower_due s f own.0) (slice_get (given s w).followers c) tick due in
      follower-next s w c tick f.0 own.0 f.1 (right.followers c f.0 own.0 f.1 own.1) f.2
  has-next The_queries place tick there at =
      let own = same_Some Of_queries place there in
      query-next s w tick (subst (λ (x : Place). place_due s (given s w) The_queries x ≡ Some tick) (sym own) at)
