-- What entries say of an actor behind a floor: how many of its inputs came, and the tick of what its last entry left.
use Rattle.std.proofs.Common.{◌≡◌, ◌≤◌, ◌+◌, ℕ, Bool, true, false, cond, sym, subst, List, [], ◌∷◌, ◌++◌, Some, arith}
use Rattle.std.specs.Prelude.{All}
use Rattle.std.proofs.lemmas.List.{append-nil}
use Rattle.std.proofs.lemmas.List.Elements.{All-head, All-tail}
use Rattle.bc_history.specs.declared.entry.Entry.{Entry}
use Rattle.bc_history.specs.declared.entry.Input.{Input}
use Rattle.bc_history.specs.declared.entry.Input.TheVariants.{Query}
use Rattle.bc_history.specs.declared.entry.Who.TheVariants.{Port, Follower}
use Rattle.bc_history.specs.declared.scenario.Scenario.{Scenario}
use Rattle.bc_history.specs.Phases.HubPort.{TickMeasure}
use Rattle.bc_history.specs.Phases.Inputs.{tick_of}
use Rattle.bc_history.specs.Phases.State.{TickLead}
use Rattle.bc_history.specs.Phases.Step.{queries_after, state_of, step}
use Rattle.bc_history.specs.Run.Actors.{is_by}
use Rattle.bc_history.specs.Run.FollowerEntries.{is_turn_of, leading_by, led_with, turns_by}
use Rattle.bc_history.specs.Run.FollowerPlace.{told_lead}
use Rattle.bc_history.specs.Run.PortEntries.{is_record_of, measured_by, measured_with, taken_by}
use Rattle.bc_history.proofs.lemmas.CoreInvariantLemmas.{option_map-some}
use Rattle.bc_history.proofs.lemmas.FollowerPhaseLemmas.{turns_by-more}
use Rattle.bc_history.proofs.lemmas.PortEntriesLemmas.{taken_by-more}

-- ---- how many came

-- one more or none is no less
no-less : (b : Bool) (n m : ℕ) → n ≤ m → n ≤ cond b (m + 1) m
no-less true n m le = omega (arith, le)
no-less false n m le = le

-- with more entries no fewer records of a port came
pub taken-more : (p : ℕ) (more before : List Entry) → taken_by p before ≤ taken_by p (more ++ before)
taken-more p [] before = omega arith
taken-more p (e ∷ more) before =
    subst (λ (n : ℕ). taken_by p before ≤ n) (sym (taken_by-more p e (more ++ before)))
    (no-less (is_record_of p e.input) (taken_by p before) (taken_by p (more ++ before)) (taken-more p more before))

-- nor did a follower take fewer turns
pub turns-more : (c : ℕ) (more before : List Entry) → turns_by c before ≤ turns_by c (more ++ before)
turns-more c [] before = omega arith
turns-more c (e ∷ more) before =
    subst (λ (n : ℕ). turns_by c before ≤ n) (sym (turns_by-more c e (more ++ before)))
    (no-less (is_turn_of c e.input) (turns_by c before) (turns_by c (more ++ before)) (turns-more c more before))

-- an input is a query more or none
queries-no_less : (input : Input) (n m : ℕ) → n ≤ m → n ≤ queries_after input m
queries-no_less (Query tick text) n m le = omega (arith, le)
queries-no_less _ n m le = le

-- nor did fewer queries come
pub queries-more : (s : Scenario) (more before : List Entry) → (state_of s before).queries ≤ (state_of s (more ++ before)).queries
unfolding state_of step
queries-more s [] before = omega arith
queries-more s (e ∷ more) before =
    queries-no_less e.input (state_of s before).queries (state_of s (more ++ before)).queries (queries-more s more before)

-- ---- what the last entry left

-- a fact of the ticks of entries, and of the last measure before them, is one of the last measure
pub measured-tick : (P : ℕ → Type 0) (p : ℕ) (m : TickMeasure) (more before : List Entry) → All (λ (e : Entry). P (tick_of e.input)) more
    → (measured_by p before ≡ Some m → P m.tick) → measured_by p (more ++ before) ≡ Some m → P m.tick
measured-tick P p m [] before all former is = former is
measured-tick P p m (e ∷ more) before all former is =
    by (is_by (Port p) e)
    (measured-tick P p m more before (All-tail (λ (x : Entry). P (tick_of x.input)) e more all) former) is
  where
    by : (b : Bool) → (measured_by p (more ++ before) ≡ Some m → P m.tick)
        → cond b (measured_with e) (measured_by p (more ++ before)) ≡ Some m → P m.tick
    by true rest is =
        let made = option_map-some _ e.effects.measure m is in
        subst (λ (x : TickMeasure). P x.tick) made.2 (All-head (λ (x : Entry). P (tick_of x.input)) e more all)
    by false rest is = rest is

-- a fact of the ticks of all entries is one of the last measure
pub measured-tick_of_all : (P : ℕ → Type 0) (p : ℕ) (m : TickMeasure) (entries : List Entry)
    → All (λ (e : Entry). P (tick_of e.input)) entries → measured_by p entries ≡ Some m → P m.tick
measured-tick_of_all P p m entries all is =
    measured-tick P p m entries [] all (λ none. absurd (cc))
    (subst (λ (es : List Entry). measured_by p es ≡ Some m) (sym (append-nil entries)) is)

-- a fact of the ticks of entries, and of the last lead before them, is one of the last lead
pub leading-tick : (P : ℕ → Type 0) (c : ℕ) (l : TickLead) (more before : List Entry) → All (λ (e : Entry). P (tick_of e.input)) more
    → (leading_by c before ≡ Some l → P l.tick) → leading_by c (more ++ before) ≡ Some l → P l.tick
leading-tick P c l [] before all former is = former is
leading-tick P c l (e ∷ more) before all former is =
    by (is_by (Follower c) e)
    (leading-tick P c l more before (All-tail (λ (x : Entry). P (tick_of x.input)) e more all) former) is
  where
    by : (b : Bool) → (leading_by c (more ++ before) ≡ Some l → P l.tick)
        → cond b (led_with e) (leading_by c (more ++ before)) ≡ Some l → P l.tick
    by true rest is =
        let made = option_map-some _ (told_lead e) l is in
        subst (λ (x : TickLead). P x.tick) made.2 (All-head (λ (x : Entry). P (tick_of x.input)) e more all)
    by false rest is = rest is

-- a fact of the ticks of all entries is one of the last lead
pub leading-tick_of_all : (P : ℕ → Type 0) (c : ℕ) (l : TickLead) (entries : List Entry)
    → All (λ (e : Entry). P (tick_of e.input)) entries → leading_by c entries ≡ Some l → P l.tick
leading-tick_of_all P c l entries all is =
    leading-tick P c l entries [] all (λ none. absurd (cc))
    (subst (λ (es : List Entry). leading_by c es ≡ Some l) (sym (append-nil entries)) is)
