-- The next record and the next timer of a port above a floor, and lists whose ticks rise from one above it.
use Rattle.std.proofs.Common.{◌≡◌, ◌<◌, ◌≤◌, ℕ, Bool, true, false, cond, eqb, ltb, get_or, refl, sym, ap, ◌∙◌, subst, List, length, Option, Some, None, arith, inl, inr}
use Rattle.std.specs.Prelude.{AllPairs, slice_get}
use Rattle.std.proofs.lemmas.Bool.{cases_lt, eqb-true, ltb-false, ltb-true}
use Rattle.std.proofs.lemmas.List.Elements.{filter_passes}
use Rattle.std.proofs.lemmas.List.Kept.{AllPairs-filter}
use Rattle.std.proofs.lemmas.Option.{get_or_from_slice_get, same_Some, slice_get-get_or, slice_get_within}
use Rattle.ptp_profile.specs.declared.port_event.Timer.{Timer}
use Rattle.bc_history.specs.declared.entry.Input.{Input}
use Rattle.bc_history.specs.declared.entry.Input.TheVariants.{Timed}
use Rattle.bc_history.specs.declared.scenario.Asked.{Asked}
use Rattle.bc_history.specs.declared.scenario.Happening.{Happening}
use Rattle.bc_history.specs.declared.scenario.Happening.TheVariants.{Frame, Down, Up}
use Rattle.bc_history.specs.declared.scenario.Record.{Record}
use Rattle.bc_history.specs.declared.scenario.Scenario.{Scenario}
use Rattle.bc_history.specs.Phases.Inputs.{tick_of}
use Rattle.bc_history.specs.Run.NextInputs.{input_of, record_or_timer, records_of}
use Rattle.bc_history.specs.Scenario.ScenarioRules.{IsRecordBefore, IsScenario}
use Rattle.bc_windows.proofs.lemmas.TimerFloorLemmas.{IsDueAbove}

-- ---- the earlier of a record and a timer

-- what is there has a tick above the floor
abbrev pub IsOneAbove : {X : Type 0} → (X → ℕ) → ℕ → Option X → Type 0
IsOneAbove tick floor None = Unit {0}
IsOneAbove tick floor (Some x) = floor < tick x

-- the record that is next, if there is one, is above the floor
abbrev pub IsRecordAbove : ℕ → Option Record → Type 0
IsRecordAbove floor r = IsOneAbove (λ (x : Record). x.tick) floor r

-- the input of a record has the record's tick
input_of-tick : (p tick : ℕ) (what : Happening) → tick_of (input_of p tick what) ≡ tick
input_of-tick p tick (Frame octets) = refl
input_of-tick p tick Down = refl
input_of-tick p tick Up = refl

-- where both are above the floor, so is the input of the earlier one
pub next-above : (floor p : ℕ) (r : Option Record) (t : Option (ℕ × Timer)) (input : Input) → IsRecordAbove floor r → IsDueAbove floor t
    → record_or_timer p r t ≡ Some input → floor < tick_of input
next-above floor p None None input first later is = absurd (cc)
next-above floor p (Some r) None input first later is =
    let at = sym (input_of-tick p r.tick r.what) in
    subst (λ (i : Input). floor < tick_of i) (same_Some (input_of p r.tick r.what) input is) (subst (λ (n : ℕ). floor < n) at first)
next-above floor p None (Some t) input first later is =
    subst (λ (i : Input). floor < tick_of i) (same_Some (Timed p t.0 t.1) input is) later
next-above floor p (Some r) (Some t) input first later is = by (ltb t.0 r.tick) is
  where
    by : (b : Bool) → cond b (Some (Timed p t.0 t.1)) (Some (input_of p r.tick r.what)) ≡ Some input → floor < tick_of input
    by true is = subst (λ (i : Input). floor < tick_of i) (same_Some (Timed p t.0 t.1) input is) later
    by false is =
        let at = sym (input_of-tick p r.tick r.what) in
        subst (λ (i : Input). floor < tick_of i) (same_Some (input_of p r.tick r.what) input is) (subst (λ (n : ℕ). floor < n) at first)

-- where the earlier one is above the floor, both are
pub both-above : (floor p : ℕ) (r : Option Record) (t : Option (ℕ × Timer))
    → ((x : Record) → record_or_timer p r t ≡ Some (input_of p x.tick x.what) → floor < x.tick)
    → ((due : ℕ × Timer) → record_or_timer p r t ≡ Some (Timed p due.0 due.1) → floor < due.0)
    → IsRecordAbove floor r × IsDueAbove floor t
both-above floor p None None recorded timed = (tt, tt)
both-above floor p (Some r) None recorded timed = (recorded r refl, tt)
both-above floor p None (Some t) recorded timed = (tt, timed t refl)
both-above floor p (Some r) (Some t) recorded timed = by (ltb t.0 r.tick) refl (recorded r) (timed t)
  where
    by : (b : Bool) → ltb t.0 r.tick ≡ b
        → (cond b (Some (Timed p t.0 t.1)) (Some (input_of p r.tick r.what)) ≡ Some (input_of p r.tick r.what) → floor < r.tick)
        → (cond b (Some (Timed p t.0 t.1)) (Some (input_of p r.tick r.what)) ≡ Some (Timed p t.0 t.1) → floor < t.0)
        → (floor < r.tick) × (floor < t.0)
    by true is record_says timer_says =
        let least = timer_says refl in
        let less = ltb-true t.0 r.tick is in
        (omega (arith, least, less), least)
    by false is record_says timer_says =
        let least = record_says refl in
        let less = ltb-false t.0 r.tick is in
        (least, omega (arith, least, less))

-- ---- lists whose ticks don't fall

-- from an index on each element has a tick above the floor
abbrev pub AreAbove : {X : Type 0} → (X → ℕ) → ℕ → List X → ℕ → Type 0
AreAbove {X} tick floor xs n = (k : ℕ) (x : X) → n ≤ k → slice_get xs k ≡ Some x → floor < tick x

-- so it is where the ticks don't fall and the first of them is above the floor
pub rest-above : {X : Type 0} (tick : X → ℕ) (floor : ℕ) (xs : List X) (n : ℕ) → AllPairs (λ (former later : X). tick former ≤ tick later) xs
    → IsOneAbove tick floor (slice_get xs n) → AreAbove tick floor xs n
rest-above {X} tick floor xs n rise first k x le there =
    let inside = slice_get_within xs k x there in
    let within : n < length xs = omega (arith, inside, le) in
    let same = get_or_from_slice_get xs k x x there in
    let least : floor < tick (get_or xs n x) = subst (λ (o : Option X). IsOneAbove tick floor o) (slice_get-get_or xs n x within) first in
    let last : tick (get_or xs k x) ≡ tick x = ap tick same in
    elim (cases_lt n k) [
      | inl less ↦ let no_less = rise n k x less inside in omega (arith, least, last, no_less)
      | inr more ↦
          let at : n ≡ k = omega (arith, le, more) in
          subst (λ (y : X). floor < tick y) same (subst (λ (i : ℕ). floor < tick (get_or xs i x)) at least)
    ]

-- the ticks of a port's records don't fall
records-rise : (s : Scenario) (p : ℕ) → IsScenario s → AllPairs (λ (former later : Record). former.tick ≤ later.tick) (records_of s p)
records-rise s p is i j d less inside =
    let mine = λ (r : Record). eqb r.port p in
    let passes = filter_passes mine s.records in
    let former = passes i d (omega (arith, less, inside)) in
    let later = passes j d inside in
    let same = eqb-true _ p former ∙ sym (eqb-true _ p later) in
    AllPairs-filter IsRecordBefore mine s.records is.record_order i j d less inside same

-- from the next record of a port on all are above the floor where that one is
pub records-above : (s : Scenario) (floor p n : ℕ) → IsScenario s → IsRecordAbove floor (slice_get (records_of s p) n)
    → AreAbove (λ (r : Record). r.tick) floor (records_of s p) n
records-above s floor p n is first = rest-above (λ (r : Record). r.tick) floor (records_of s p) n (records-rise s p is) first

-- so are all queries from the next one on
pub queries-above : (s : Scenario) (floor n : ℕ) → IsScenario s → IsOneAbove (λ (q : Asked). q.tick) floor (slice_get s.queries n)
    → AreAbove (λ (q : Asked). q.tick) floor s.queries n
queries-above s floor n is first = rest-above (λ (q : Asked). q.tick) floor s.queries n is.query_order first
