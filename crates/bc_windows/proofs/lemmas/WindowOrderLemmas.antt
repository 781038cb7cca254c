-- The ticks of a history that windows made: up to the latest window, and the newest window's beyond all former ones.
use Rattle.std.proofs.Common.{◌<◌, ◌≤◌, ℕ, max, sym, subst, List, [], ◌∷◌, ◌++◌, arith}
use Rattle.std.specs.Prelude.{All}
use Rattle.std.proofs.lemmas.List.Elements.{All-append, All-nil}
use Rattle.bc_history.specs.declared.entry.Entry.{Entry}
use Rattle.bc_history.specs.declared.scenario.Scenario.{Scenario}
use Rattle.bc_history.specs.Phases.Inputs.{tick_of}
use Rattle.bc_history.specs.Phases.Step.{state_of}
use Rattle.bc_history.specs.Run.History.{Continues}
use Rattle.bc_history.specs.Run.NextInputs.{IsNext}
use Rattle.bc_history.specs.Scenario.ScenarioRules.{IsScenario}
use Rattle.bc_windows.specs.Windows.{BeganEmpty, IsBeyond, IsMadeBy, IsMadeWithin, Window, latest}
use Rattle.bc_windows.proofs.lemmas.WindowLemmas.{continues-before, entries-beyond, inputs-beyond}

-- ---- up to the latest window

-- no entry is beyond a tick
abbrev AreUpTo : ℕ → List Entry → Type 0
AreUpTo end entries = All (λ (e : Entry). tick_of e.input ≤ end) entries

-- entries within a window, behind entries up to some tick
within-low : (w : Window) (end : ℕ) (entries : List Entry) → IsMadeWithin w entries → AreUpTo end w.begun
    → AreUpTo (max w.end end) entries
within-low w end entries is low =
    subst (AreUpTo (max w.end end)) (sym is.history)
    (All-append (λ (e : Entry). tick_of e.input ≤ max w.end end) is.more w.begun
    (λ k d inside. let within = is.within k d inside in omega (arith, within))
    (λ k d inside. let before = low k d inside in omega (arith, before)))

-- the entries that a window began with are up to the latest of the former windows
pub begun-low : (s : Scenario) (w : Window) (former : List Window) → IsMadeBy s former w.begun → BeganEmpty (w ∷ former)
    → All (λ (e : Entry). tick_of e.input ≤ latest former) w.begun
begun-low s w [] made empty = subst (AreUpTo 0) (sym empty) (All-nil (λ (e : Entry). tick_of e.input ≤ 0))
begun-low s w (v ∷ former) (is, begins, made) empty =
    within-low v (latest former) w.begun is (begun-low s v former made empty)

-- all entries are up to the latest window
pub made-low : (s : Scenario) (w : Window) (former : List Window) (entries : List Entry) → IsMadeBy s (w ∷ former) entries
    → BeganEmpty (w ∷ former) → All (λ (e : Entry). tick_of e.input ≤ latest (w ∷ former)) entries
made-low s w former entries (is, begins, made) empty = within-low w (latest former) entries is (begun-low s w former made empty)

-- ---- beyond the former windows

-- a history that windows made, and that is beyond the end of the newest of them, is beyond the latest: it was beyond all
-- former ones when that one was given
made-beyond : (s : Scenario) (v : Window) (former : List Window) (entries : List Entry) → IsScenario s → Continues s entries
    → IsBeyond s entries v.end → IsMadeBy s (v ∷ former) entries → BeganEmpty (v ∷ former)
    → IsBeyond s entries (latest (v ∷ former))
made-beyond s v [] entries rules continues beyond made empty input next =
    let above = beyond input next in omega (arith, above)
made-beyond s v (u ∷ former) entries rules continues beyond (is, begins, made) empty input next =
    let whole = subst (Continues s) is.history continues in
    let was = made-beyond s u former v.begun rules (continues-before s is.more v.begun whole) begins made empty in
    let stays = inputs-beyond s v.begun is.more (latest (u ∷ former)) rules whole (begun-low s v (u ∷ former) made empty) was in
    let above = beyond input next in
    let further = stays input (subst (λ (es : List Entry). IsNext s (state_of s es) input) is.history next) in
    omega (arith, above, further)

-- the entries of the newest window are beyond the latest of the former ones
pub newest-behind : (s : Scenario) (w v : Window) (former : List Window) (more : List Entry) → IsScenario s
    → Continues s (more ++ w.begun) → IsMadeBy s (w ∷ v ∷ former) (more ++ w.begun) → BeganEmpty (w ∷ v ∷ former)
    → All (λ (e : Entry). latest (v ∷ former) < tick_of e.input) more
newest-behind s w v former more rules continues (is, begins, made) empty =
    let before = continues-before s more w.begun continues in
    entries-beyond s w.begun more (latest (v ∷ former)) rules continues (begun-low s w (v ∷ former) made empty)
    (made-beyond s v former w.begun rules before begins made empty)
