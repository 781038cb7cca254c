-- No two outcomes name one change: they would be of one actor, whose numbers rise.
use Rattle.std.proofs.Common.{◌≡◌, ◌≢◌, ◌≤◌, ◌<◌, ℕ, zero, suc, Bool, true, false, cond, eqb, eq-eqb, refl, sym, ap, ◌∙◌, subst, arith, List, [], ◌∷◌, ◌++◌, length, map, Option, Some, None}
use Rattle.std.specs.Prelude.{All, AllPairs, IfSome, filter, flat_map, is_some, option_map, option_to_list, slice_get}
use Rattle.std.proofs.lemmas.List.Elements.{All-nil, All-cons, All-append, All-head, All-tail, All-weaker, filter-append}
use Rattle.std.proofs.lemmas.List.Kept.{AllPairs-cons}
use Rattle.std.proofs.lemmas.Bool.{false≢true}
use Rattle.std.proofs.lemmas.Option.{same_Some}
use Rattle.ptp_profile.specs.declared.seats.Held.{Held}
use Rattle.ptp_profile.specs.declared.seats.LogEntry.{LogEntry}
use Rattle.ptp_profile.specs.declared.seats.LogEntry.TheVariants.{Order, Change}
use Rattle.ptp_profile.specs.declared.timing.Action.{Action}
use Rattle.ptp_profile.specs.declared.timing.Action.TheVariants.{Unlocked as Unlocked_action, Jump, Locked}
use Rattle.ptp_profile.specs.Roles.SeatLogs.{entry_at, log_at}
use Rattle.bc_history.specs.declared.entry.Entry.{Entry}
use Rattle.bc_history.specs.declared.entry.Input.{Input}
use Rattle.bc_history.specs.declared.entry.Input.TheVariants.{Frame, Timed, Down, Up, Report, Turn, Sampled, Query}
use Rattle.bc_history.specs.declared.entry.Outcome.{Outcome}
use Rattle.bc_history.specs.declared.entry.Outcome.TheVariants.{Unlocked, Changed, Superseded, Spent}
use Rattle.bc_history.specs.declared.entry.Who.{Who}
use Rattle.bc_history.specs.declared.entry.Who.TheVariants.{Port, Follower, Queries}
use Rattle.bc_history.specs.declared.scenario.Scenario.{Scenario}
use Rattle.bc_history.specs.Phases.EffectKinds.{is_there}
use Rattle.bc_history.specs.Phases.Inputs.{event_of, port_at}
use Rattle.bc_history.specs.Phases.Step.{state_of}
use Rattle.bc_history.specs.Run.Actors.{actor_of, entries_of, is_by, is_same_actor}
use Rattle.bc_history.specs.Run.ExchangeOutcomes.{Agrees, IsChangeBy}
use Rattle.bc_history.specs.Run.History.{Continues, Follows}
use Rattle.bc_history.specs.Scenario.ScenarioRules.{IsScenario}
use Rattle.bc_history.proofs.lemmas.EffectKindLemmas.{follows-there}
use Rattle.bc_history.proofs.lemmas.PortIdentityLemmas.{ports-length}
use Rattle.run_legal.specs.Numbers.Knowledge.{AreRising, IsAbreast}
use Rattle.run_legal.specs.Numbers.Marks.{Exchange, Mark, Sight, changes_in, exchange_marks, exchange_of, marks_in, marks_of, outcome_marks, sight_mark, sights_of}
use Rattle.run_legal.specs.Runs.Courses.{AreOutcomes, IsAgreed}
use Rattle.run_legal.proofs.lemmas.HolderLemmas.{All-passing}

-- ---- lists

-- what is so of two lists in a row is so of each
All-parts : {X : Type 0} (P : X → Type 0) (xs ys : List X) → All P (xs ++ ys) → All P xs × All P ys
All-parts P [] ys all = (All-nil P, all)
All-parts P (x ∷ xs) ys all =
    let rest = All-parts P xs ys (All-tail P x (xs ++ ys) all) in
    (All-cons P x xs (All-head P x (xs ++ ys) all) rest.0, rest.1)

-- ---- the changes that an event names

-- the marks of an exchange, if there is one
abbrev marks_by : Option Exchange → List Mark
marks_by o = flat_map (λ (exchange : Exchange). outcome_marks exchange.held.clock exchange.outcome) (option_to_list o)

-- the change that an outcome names
abbrev change_by : ℕ → Outcome → List Mark
change_by clock Unlocked = []
change_by clock (Changed number) = record { clock = clock; number = number; is_change = true } ∷ []
change_by clock (Superseded newer at) = []
change_by clock (Spent at) = []

-- the change that an exchange made
abbrev changes_by : Option Exchange → List Mark
changes_by None = []
changes_by (Some x) = change_by x.held.clock x.outcome

-- it is that among its marks
changes-outcome : (clock : ℕ) (outcome : Outcome) → filter (λ (mark : Mark). mark.is_change) (outcome_marks clock outcome ++ []) ≡ change_by clock outcome
changes-outcome clock Unlocked = refl
changes-outcome clock (Changed number) = refl
changes-outcome clock (Superseded newer at) = refl
changes-outcome clock (Spent at) = refl

-- the same of an exchange
changes-exchange : (o : Option Exchange) → filter (λ (mark : Mark). mark.is_change) (marks_by o) ≡ changes_by o
changes-exchange None = refl
changes-exchange (Some x) = changes-outcome x.held.clock x.outcome

-- readings name none
changes-sights : (sights : List Sight) → filter (λ (mark : Mark). mark.is_change) (map sight_mark sights) ≡ []
changes-sights [] = refl
changes-sights (sight ∷ sights) = changes-sights sights

-- nothing behind a list
append-nil : {X : Type 0} (xs : List X) → xs ++ [] ≡ xs
append-nil [] = refl
append-nil (x ∷ xs) = ap (λ ys. x ∷ ys) (append-nil xs)

-- an event names the change of its exchange alone
changes-event : (s : Scenario) (e : Entry) (before : List Entry) → changes_in s (e ∷ before) ≡ changes_by (exchange_of s e.input) ++ changes_in s before
changes-event s e before =
    let test : Mark → Bool = λ (mark : Mark). mark.is_change in
    let sights = map sight_mark (sights_of s (event_of e)) in
    let own : filter test (marks_of s (event_of e)) ≡ changes_by (exchange_of s e.input) =
    filter-append test (marks_by (exchange_of s e.input)) sights
    ∙ (ap (λ (ms : List Mark). filter test (marks_by (exchange_of s e.input)) ++ ms) (changes-sights (sights_of s (event_of e)))
    ∙ (append-nil (filter test (marks_by (exchange_of s e.input))) ∙ changes-exchange (exchange_of s e.input))) in
    filter-append test (marks_of s (event_of e)) (marks_in s before) ∙ ap (λ (ms : List Mark). ms ++ changes_in s before) own

-- ---- whose a change is

-- who holds a stamp: a port is its controller, a follower has its clock and a controller from 128 on
abbrev IsActorOf : Held → Who → Type 0
IsActorOf held (Port p) = (held.ctrl ≡ p) × (p < 128)
IsActorOf held (Follower clock) = (held.clock ≡ clock) × (128 ≤ held.ctrl)
IsActorOf held Queries = ⊥

-- so a clock and a controller are of one actor
same-holder : (held other : Held) (a b : Who) → IsActorOf held a → IsActorOf other b → held.clock ≡ other.clock → held.ctrl ≡ other.ctrl → is_same_actor a b ≡ true
same-holder held other (Port p) (Port q) own its clock ctrl = eq-eqb p q (sym own.0 ∙ (ctrl ∙ its.0))
same-holder held other (Port p) (Follower d) own its clock ctrl = absurd (omega (arith, own.0, own.1, its.1, ctrl))
same-holder held other (Follower c) (Port q) own its clock ctrl = absurd (omega (arith, own.1, its.0, its.1, ctrl))
same-holder held other (Follower c) (Follower d) own its clock ctrl = eq-eqb c d (sym own.0 ∙ (clock ∙ its.0))
same-holder held other Queries b own its clock ctrl = absurd own
same-holder held other (Port p) Queries own its clock ctrl = absurd its
same-holder held other (Follower c) Queries own its clock ctrl = absurd its

-- a port that is there has a number up to as many
port-within : {X : Type 0} (xs : List X) (p : ℕ) → is_some (port_at xs p) ≡ true → p ≤ length xs
port-within xs zero is = omega arith
port-within xs (suc i) is = by xs i is
  where
    by : {X : Type 0} (xs : List X) (i : ℕ) → is_some (slice_get xs i) ≡ true → suc i ≤ length xs
    by [] i is = absurd (false≢true is)
    by (x ∷ xs) zero is = omega arith
    by (x ∷ xs) (suc i) is = let rest = by xs i is in omega (arith, rest)

-- an exchange is of its input's actor
exchange-actor : (s : Scenario) → IsScenario s → (before : List Entry) (input : Input) → is_there (state_of s before) input ≡ true
    → IfSome (exchange_of s input) (λ (x : Exchange). IsActorOf x.held (actor_of input))
exchange-actor s is before (Report port tick gener action outcome) there =
    let few = port-within (state_of s before).core.ports port there in
    let all = ports-length s before in
    (refl, omega (arith, few, all, is.port_count))
exchange-actor s is before (Sampled clock tick lead theirs own action outcome) there = (refl, omega arith)
exchange-actor s is before (Frame port tick octets) there = tt
exchange-actor s is before (Timed port tick timer) there = tt
exchange-actor s is before (Down port tick) there = tt
exchange-actor s is before (Up port tick) there = tt
exchange-actor s is before (Turn clock tick) there = tt
exchange-actor s is before (Query tick text) there = tt

-- the controller of an entry of a log
abbrev entry_ctrl : LogEntry → ℕ
entry_ctrl (Order gener ctrl) = ctrl
entry_ctrl (Change gener ctrl tick step freq) = ctrl

-- a change that an outcome names bears the controller of its stamp
change-ctrl : (log : List LogEntry) (held : Held) (tick number : ℕ) (action : Action) → IsChangeBy log held tick action number
    → option_map entry_ctrl (entry_at number log) ≡ Some held.ctrl
change-ctrl log held tick number Unlocked_action is = absurd is
change-ctrl log held tick number (Jump step freq) is = ap (option_map entry_ctrl) is
change-ctrl log held tick number (Locked freq) is = ap (option_map entry_ctrl) is

-- ---- a new change is none of the former ones

-- a change of an actor, with a number above those that its entries had for the clock
record IsNewChange (logs : List (List LogEntry)) (held : Held) (who : Who) (number : ℕ) : Type 0 where
  holder : IsActorOf held who
  ctrl : option_map entry_ctrl (entry_at number (log_at logs held.clock)) ≡ Some held.ctrl

-- its mark
abbrev new_mark : Held → ℕ → Mark
new_mark held number = record { clock = held.clock; number = number; is_change = true }

-- a mark of the clock is below
abbrev IsBelow : ℕ → ℕ → Mark → Type 0
IsBelow clock number mark = mark.clock ≡ clock → mark.number < number

-- it is not what a former exchange made
unlike-outcome : (rows : ℕ) (logs : List (List LogEntry)) (held : Held) (who : Who) (number : ℕ) → IsNewChange logs held who number
    → (other : Held) (tick : ℕ) (action : Action) (a : Who) → IsActorOf other a → (outcome : Outcome) → Agrees rows (log_at logs other.clock) other tick action outcome
    → (is_same_actor who a ≡ true → All (IsBelow held.clock number) (outcome_marks other.clock outcome ++ []))
    → All (λ (older : Mark). new_mark held number ≢ older) (change_by other.clock outcome)
unlike-outcome rows logs held who number new other tick action a is Unlocked agrees own = All-nil (λ (older : Mark). new_mark held number ≢ older)
unlike-outcome rows logs held who number new other tick action a is (Superseded newer at) agrees own = All-nil (λ (older : Mark). new_mark held number ≢ older)
unlike-outcome rows logs held who number new other tick action a is (Spent at) agrees own = All-nil (λ (older : Mark). new_mark held number ≢ older)
unlike-outcome rows logs held who number new other tick action a is (Changed former) agrees own =
    All-cons (λ (older : Mark). new_mark held number ≢ older) (new_mark other former) [] (λ same.
    let clock : held.clock ≡ other.clock = ap (λ (m : Mark). m.clock) same in
    let one : number ≡ former = ap (λ (m : Mark). m.number) same in
    let its = change-ctrl (log_at logs other.clock) other tick former action agrees in
    let moved = subst (λ (c : ℕ). option_map entry_ctrl (entry_at number (log_at logs c)) ≡ Some held.ctrl) clock new.ctrl in
    let here = subst (λ (n : ℕ). option_map entry_ctrl (entry_at n (log_at logs other.clock)) ≡ Some held.ctrl) one moved in
    let ctrl : held.ctrl ≡ other.ctrl = same_Some held.ctrl other.ctrl (sym here ∙ its) in
    let below = All-head (IsBelow held.clock number) (new_mark other former) [] (own (same-holder held other who a new.holder is clock ctrl)) (sym clock) in
    omega (arith, below, one)) (All-nil (λ (older : Mark). new_mark held number ≢ older))

-- the same of an exchange, if there was one
unlike-exchange : (rows : ℕ) (logs : List (List LogEntry)) (held : Held) (who : Who) (number : ℕ) → IsNewChange logs held who number
    → (a : Who) (o : Option Exchange) → IfSome o (λ (x : Exchange). IsActorOf x.held a)
    → IfSome o (λ (x : Exchange). Agrees rows (log_at logs x.held.clock) x.held x.tick x.action x.outcome)
    → (is_same_actor who a ≡ true → All (IsBelow held.clock number) (marks_by o))
    → All (λ (older : Mark). new_mark held number ≢ older) (changes_by o)
unlike-exchange rows logs held who number new a None is agrees own = All-nil (λ (older : Mark). new_mark held number ≢ older)
unlike-exchange rows logs held who number new a (Some x) is agrees own =
    unlike-outcome rows logs held who number new x.held x.tick x.action a is x.outcome agrees own

-- nor what any former entry names
unlike-former : (s : Scenario) → IsScenario s → (logs : List (List LogEntry)) (held : Held) (who : Who) (number : ℕ) → IsNewChange logs held who number
    → (before : List Entry) → Continues s before → All (λ (e : Entry). IsAgreed s logs e.input) before
    → All (IsBelow held.clock number) (marks_in s (entries_of who before))
    → All (λ (older : Mark). new_mark held number ≢ older) (changes_in s before)
unlike-former s is logs held who number new [] history agreed below = All-nil (λ (older : Mark). new_mark held number ≢ older)
unlike-former s is logs held who number new (f ∷ before) history agreed below =
    let parts = by (is_by who f) refl below in
    subst (λ (ms : List Mark). All (λ (older : Mark). new_mark held number ≢ older) ms) (sym (changes-event s f before))
    (All-append (λ (older : Mark). new_mark held number ≢ older) (changes_by (exchange_of s f.input)) (changes_in s before)
    (unlike-exchange s.options.seat_rows logs held who number new (actor_of f.input) (exchange_of s f.input)
    (exchange-actor s is before f.input (follows-there s before f history.0)) (All-head (λ (e : Entry). IsAgreed s logs e.input) f before agreed) parts.0)
    (unlike-former s is logs held who number new before history.1 (All-tail (λ (e : Entry). IsAgreed s logs e.input) f before agreed) parts.1))
  where
    by : (b : Bool) → is_by who f ≡ b → All (IsBelow held.clock number) (marks_in s (cond b (f ∷ entries_of who before) (entries_of who before)))
        → (is_by who f ≡ true → All (IsBelow held.clock number) (exchange_marks s f.input)) × All (IsBelow held.clock number) (marks_in s (entries_of who before))
    by false other below = (λ same. absurd (false≢true (sym other ∙ same)), below)
    by true own below =
        let parts = All-parts (IsBelow held.clock number) (marks_of s (event_of f)) (marks_in s (entries_of who before)) below in
        (λ same. (All-parts (IsBelow held.clock number) (exchange_marks s f.input) (map sight_mark (sights_of s (event_of f))) parts.0).0, parts.1)

module _ (s : Scenario) (is : IsScenario s) (logs : List (List LogEntry)) (before : List Entry) (history : Continues s before) (outcomes : AreOutcomes s logs before) (who : Who) (sights : List Mark) where
  -- with the change that an outcome names
  once-outcome : (held : Held) (tick : ℕ) (action : Action) → IsActorOf held who → (outcome : Outcome) → Agrees s.options.seat_rows (log_at logs held.clock) held tick action outcome
      → AreRising (((outcome_marks held.clock outcome ++ []) ++ sights) ++ marks_in s (entries_of who before))
      → AllPairs (λ (newer older : Mark). newer ≢ older) (change_by held.clock outcome ++ changes_in s before)
  once-outcome held tick action holder Unlocked agrees rising = outcomes.once
  once-outcome held tick action holder (Superseded newer at) agrees rising = outcomes.once
  once-outcome held tick action holder (Spent at) agrees rising = outcomes.once
  once-outcome held tick action holder (Changed number) agrees rising =
      let all = All-passing (λ (mark : Mark). mark.number < number) (λ (mark : Mark). eqb mark.clock held.clock) (sights ++ marks_in s (entries_of who before)) rising.0 in
      let own = (All-parts (λ (mark : Mark). eqb mark.clock held.clock ≡ true → mark.number < number) sights (marks_in s (entries_of who before)) all).1 in
      let below = All-weaker (λ (mark : Mark). eqb mark.clock held.clock ≡ true → mark.number < number) (IsBelow held.clock number)
      (λ mark lt same. lt (eq-eqb mark.clock held.clock same)) (marks_in s (entries_of who before)) own in
      AllPairs-cons (λ (newer older : Mark). newer ≢ older) (new_mark held number) (changes_in s before)
      (unlike-former s is logs held who number (record { holder = holder; ctrl = change-ctrl (log_at logs held.clock) held tick number action agrees }) before history outcomes.agreed below)
      outcomes.once

  -- with that of an exchange, if there is one
  once-exchange : (o : Option Exchange) → IfSome o (λ (x : Exchange). IsActorOf x.held who)
      → IfSome o (λ (x : Exchange). Agrees s.options.seat_rows (log_at logs x.held.clock) x.held x.tick x.action x.outcome)
      → AreRising ((marks_by o ++ sights) ++ marks_in s (entries_of who before))
      → AllPairs (λ (newer older : Mark). newer ≢ older) (changes_by o ++ changes_in s before)
  once-exchange None holder agrees rising = outcomes.once
  once-exchange (Some x) holder agrees rising = once-outcome x.held x.tick x.action holder x.outcome agrees rising

-- so with one entry more no two outcomes name one change
pub once-entered : (s : Scenario) → IsScenario s → (logs : List (List LogEntry)) (before : List Entry) (e : Entry) → Continues s before → AreOutcomes s logs before
    → Follows s before e → IsAgreed s logs e.input → IsAbreast s logs (event_of e) before
    → AllPairs (λ (newer older : Mark). newer ≢ older) (changes_in s (e ∷ before))
once-entered s is logs before e history outcomes f agreed abreast =
    subst (λ (ms : List Mark). AllPairs (λ (newer older : Mark). newer ≢ older) ms) (sym (changes-event s e before))
    (once-exchange s is logs before history outcomes (actor_of e.input) (map sight_mark (sights_of s (event_of e))) (exchange_of s e.input)
    (exchange-actor s is before e.input (follows-there s before e f)) agreed abreast.rising)
