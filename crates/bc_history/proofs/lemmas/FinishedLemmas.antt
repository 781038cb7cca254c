-- A test that nothing is due any more.
use Rattle.std.proofs.Common.{◌≡◌, ℕ, zero, suc, Bool, true, ltb, refl, sym, ap, ◌∙◌, arith, List, [], ◌∷◌, Option, Some, None}
use Rattle.std.specs.Prelude.{◌&&◌, IsSomeAnd, slice_get}
use Rattle.std.proofs.lemmas.Bool.{and_parts, ltb-true}
use Rattle.bc_history.specs.declared.entry.Entry.{Entry}
use Rattle.bc_history.specs.declared.entry.Input.{Input}
use Rattle.bc_history.specs.declared.entry.Input.TheVariants.{Frame, Timed, Down, Up, Report, Turn, Sampled, Query}
use Rattle.bc_history.specs.declared.scenario.Asked.{Asked}
use Rattle.bc_history.specs.declared.scenario.Scenario.{Scenario}
use Rattle.bc_history.specs.Phases.Inputs.{port_at, tick_of}
use Rattle.bc_history.specs.Phases.State.{Follower, State, TickLead}
use Rattle.bc_history.specs.Phases.HubPort.{HubPort, TickMeasure}
use Rattle.bc_history.specs.Run.NextInputs.{IsNext, IsNextOf, IsReportOf, next_input, query_input, turn_tick}
use Rattle.bc_history.specs.Run.History.{IsFinished}
use Rattle.bc_history.specs.Phases.Step.{state_of}

-- ---- the test

-- a tick is beyond the end of the run
abbrev is_late : Scenario → ℕ → Bool
is_late s tick = ltb s.options.duration tick

-- the next input of a port, if it has one
abbrev is_input_late : Scenario → Option Input → Bool
is_input_late s None = true
is_input_late s (Some input) = is_late s (tick_of input)

-- a port's report where its last entry gave a measure, else its next record or timer
abbrev is_port_done : Scenario → Option TickMeasure → Option Input → Bool
is_port_done s None next = is_input_late s next
is_port_done s (Some m) next = is_late s m.tick

-- a follower's sample where its last turn told whom it copies, else its next turn
abbrev is_follower_done : Scenario → Option TickLead → ℕ → Bool
is_follower_done s None turn = is_late s turn
is_follower_done s (Some l) turn = is_late s l.tick

-- the next query, if there is one
abbrev is_query_late : Scenario → Option Asked → Bool
is_query_late s None = true
is_query_late s (Some asked) = is_late s asked.tick

-- each element passes a test
abbrev passes : {X : Type 0} → (X → Bool) → List X → Bool
passes test [] = true
passes test (x ∷ xs) = test x && passes test xs

-- nothing of any port, follower or query is due
abbrev pub is_finished : Scenario → State → Bool
is_finished s h =
    passes (λ (p : HubPort). is_port_done s p.measured (next_input s p)) h.core.ports
    && (passes (λ (f : Follower). is_follower_done s f.leading (turn_tick s f)) h.followers && is_query_late s (query_input s h))

-- ---- what it tells

-- an element of a list of which each passes
pass : {X : Type 0} (test : X → Bool) (xs : List X) (i : ℕ) (x : X) → passes test xs ≡ true
    → slice_get xs i ≡ Some x → test x ≡ true
pass test [] i x all there = cc
pass test (y ∷ ys) zero x all there = let same : y ≡ x = cc in ap test (sym same) ∙ (and_parts (test y) (passes test ys) all).0
pass test (y ∷ ys) (suc i) x all there = pass test ys i x (and_parts (test y) (passes test ys) all).1 there

-- a fact of an element that is there, and the test that it passes
with_pass : {X : Type 0} (test : X → Bool) (P : X → Type 0) (xs : List X) (i : ℕ) (o : Option X) → slice_get xs i ≡ o
    → passes test xs ≡ true → IsSomeAnd o P → (x : X) × (test x ≡ true) × P x
with_pass test P xs i None there all holds = absurd holds
with_pass test P xs i (Some x) there all holds = (x, pass test xs i x all there, holds)

-- a port's test where its last entry gave no measure, and where it gave one
port-next : (s : Scenario) (m : Option TickMeasure) (next : Option Input) (input : Input) → m ≡ None → next ≡ Some input
    → is_late s (tick_of input) ≡ is_port_done s m next
port-next s m next input none is = rw (none, is) refl

-- and where it gave one
port-report : (s : Scenario) (m : Option TickMeasure) (next : Option Input) (tick gener : ℕ)
    → IsSomeAnd m (λ x. (x.tick ≡ tick) × (x.held.gener ≡ gener)) → is_late s tick ≡ is_port_done s m next
port-report s None next tick gener is = absurd is
port-report s (Some m) next tick gener is = ap (is_late s) (sym is.0)

-- a follower's test at its turn, and at its sample
follower-turn : (s : Scenario) (lead : Option TickLead) (turn tick : ℕ) → lead ≡ None → tick ≡ turn
    → is_late s tick ≡ is_follower_done s lead turn
follower-turn s lead turn tick none is = rw none (ap (is_late s) is)

-- and at its sample
follower-sample : (s : Scenario) (lead : Option TickLead) (turn : ℕ) (l : TickLead) → lead ≡ Some l
    → is_late s l.tick ≡ is_follower_done s lead turn
follower-sample s lead turn l is = rw is refl

module _ (s : Scenario) (h : State) (done : is_finished s h ≡ true) where
  abbrev port_test : HubPort → Bool
  port_test p = is_port_done s p.measured (next_input s p)

  abbrev follower_test : Follower → Bool
  follower_test f = is_follower_done s f.leading (turn_tick s f)

  abbrev query_test : Bool
  query_test = is_query_late s (query_input s h)

  -- each port passes
  ports_done : passes port_test h.core.ports ≡ true
  ports_done = (and_parts (passes port_test h.core.ports) (passes follower_test h.followers && query_test) done).0

  -- each follower passes, and the queries
  others_done : (passes follower_test h.followers ≡ true) × (query_test ≡ true)
  others_done =
      and_parts (passes follower_test h.followers) query_test
      (and_parts (passes port_test h.core.ports) (passes follower_test h.followers && query_test) done).1

  -- a port's next record or timer is beyond the end
  next-late : (p : ℕ) (input : Input) → IsNextOf s (port_at h.core.ports p) input → is_late s (tick_of input) ≡ true
  next-late zero input next = absurd next
  next-late (suc i) input next =
      let g = with_pass port_test _ h.core.ports i (slice_get h.core.ports i) refl ports_done next in
      port-next s g.0.measured (next_input s g.0) input g.2.0 g.2.1 ∙ g.1

  -- so is its report
  report-late : (p tick gener : ℕ) → IsReportOf (port_at h.core.ports p) tick gener → is_late s tick ≡ true
  report-late zero tick gener next = absurd next
  report-late (suc i) tick gener next =
      let g = with_pass port_test _ h.core.ports i (slice_get h.core.ports i) refl ports_done next in
      port-report s g.0.measured (next_input s g.0) tick gener g.2 ∙ g.1

  -- whatever is next is beyond the end
  is_late-next : (input : Input) → IsNext s h input → is_late s (tick_of input) ≡ true
  is_late-next (Frame port tick octets) next = next-late port (Frame port tick octets) next
  is_late-next (Timed port tick timer) next = next-late port (Timed port tick timer) next
  is_late-next (Down port tick) next = next-late port (Down port tick) next
  is_late-next (Up port tick) next = next-late port (Up port tick) next
  is_late-next (Report port tick gener action outcome) next = report-late port tick gener next
  is_late-next (Turn clock tick) next =
      let f = with_pass follower_test _ h.followers clock (slice_get h.followers clock) refl others_done.0 next in
      follower-turn s f.0.leading (turn_tick s f.0) tick f.2.0 f.2.1 ∙ f.1
  is_late-next (Sampled clock tick lead theirs own action outcome) next =
      let f = with_pass follower_test _ h.followers clock (slice_get h.followers clock) refl others_done.0 next in
      follower-sample s f.0.leading (turn_tick s f.0) (record { tick = tick; lead = lead }) f.2 ∙ f.1
  is_late-next (Query tick text) next = ap (is_query_late s) (sym next) ∙ others_done.1

-- where the test holds, nothing is due
pub finished-from_test : (s : Scenario) (entries : List Entry) → is_finished s (state_of s entries) ≡ true → IsFinished s entries
finished-from_test s entries done input due =
    let lt = ltb-true s.options.duration (tick_of input) (is_late-next s (state_of s entries) done input due.0) in
    let le = due.1 in
    omega (arith, lt, le)
