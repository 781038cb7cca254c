-- Entries that a window made are in the window of its end, so windows never fall along a run.
use Rattle.std.proofs.Common.{◌≡◌, ◌<◌, ◌≤◌, ◌+◌, ◌-◌, ◌*◌, ℕ, zero, suc, refl, sym, subst, List, [], ◌∷◌, ◌++◌, get_or, length, reverse, arith, inl, inr}
use Rattle.std.specs.Prelude.{All, AllPairs}
use Rattle.std.proofs.lemmas.Bool.{cases_lt}
use Rattle.std.proofs.lemmas.List.{get_or-reverse, length-reverse, reverse-reverse}
use Rattle.std.proofs.lemmas.List.Elements.{All-append, All-head, All-tail}
use Rattle.std.proofs.lemmas.List.Kept.{AllPairs-cons}
use Rattle.std.proofs.lemmas.Nat.{le-div}
use Rattle.std.proofs.Math.Nat.{div-mul-le_self}
use Rattle.bc_history.specs.declared.entry.Entry.{Entry}
use Rattle.bc_history.specs.declared.entry.Run.{Run}
use Rattle.bc_history.specs.declared.scenario.Scenario.{Scenario}
use Rattle.bc_history.specs.Phases.Inputs.{tick_of}
use Rattle.bc_history.specs.Run.History.{Continues}
use Rattle.bc_history.specs.Scenario.OptionTable.{OptionIsFrom, option_table}
use Rattle.bc_history.specs.Scenario.ScenarioRules.{IsScenario}
use Rattle.bc_history.proofs.lemmas.OptionRuleLemmas.{row_at}
use Rattle.run_legal.specs.Runs.LegalRuns.{IsWindowed, window_at, window_of}
use Rattle.bc_windows.specs.Windows.{BeganEmpty, IsBeyond, IsMadeBy, IsMadeWithin, MayBegin, Window, latest}
use Rattle.bc_windows.proofs.lemmas.WindowLemmas.{continues-before, entries-beyond}
use Rattle.bc_windows.proofs.lemmas.WindowOrderLemmas.{begun-low, newest-behind}
use Rattle.bc_actors.specs.OptionWindows.{IsOneWindow, IsThroughBefore}

-- ---- the number of a window

-- a window is not empty: the option is in the range of its row
pub window-some : (s : Scenario) → IsScenario s → 0 < s.options.window
window-some s is = let range = (row_at (OptionIsFrom s.options) option_table 18 _ is.options refl).0 in omega (arith, range)

-- a later tick is in no earlier window
pub window-mono : (s : Scenario) (former later : ℕ) → 0 < s.options.window → former ≤ later → window_at s former ≤ window_at s later
window-mono s former later some le =
    let times = div-mul-le_self (former + (s.options.window - 1)) s.options.window in
    le-div (window_at s former) (later + (s.options.window - 1)) s.options.window some (omega (arith, times, le))

-- a tick that is beyond the end of a numbered window is in a later one
pub tick-later : (s : Scenario) (number tick : ℕ) → 0 < s.options.window → number * s.options.window < tick → suc number ≤ window_at s tick
tick-later s number tick some above =
    le-div (suc number) (tick + (s.options.window - 1)) s.options.window some (omega (arith, some, above))

-- ---- the entries of a window

-- entries behind those that a window began with, up to its end, where windows made those that it began with
module _ (s : Scenario) (rules : IsScenario s) (w : Window) (more : List Entry) (continues : Continues s (more ++ w.begun))
    (within : All (λ (e : Entry). tick_of e.input ≤ w.end) more) where
  -- they are no earlier than the latest of the former windows
  entries-later : (former : List Window) → MayBegin s former w.begun → IsMadeBy s former w.begun → BeganEmpty (w ∷ former)
      → All (λ (e : Entry). latest former ≤ tick_of e.input) more
  entries-later [] begins made empty k d inside = omega arith
  entries-later (v ∷ former) begins made empty k d inside =
      let own : IsMadeWithin w (more ++ w.begun) = record { more = more; history = refl; within = within } in
      let after = newest-behind s w v former more rules continues (own, begins, made) empty k d inside in
      omega (arith, after)

  -- and beyond a tick up to which nothing was next, whether the former windows end before it or not
  entries-above : (floor : ℕ) (former : List Window) → MayBegin s former w.begun → IsMadeBy s former w.begun → BeganEmpty (w ∷ former)
      → IsBeyond s w.begun floor → All (λ (e : Entry). floor < tick_of e.input) more
  entries-above floor former begins made empty beyond =
      elim (cases_lt floor (latest former)) [
        | inl less ↦
            λ k d inside.
            let after = entries-later former begins made empty k d inside in
            omega (arith, after, less)
        | inr least ↦
            entries-beyond s w.begun more floor rules continues
            (λ k d inside. let low = begun-low s w former made empty k d inside in omega (arith, low, least)) beyond
      ]

  -- so each is in the window that the end is in
  entries-number : (former : List Window) → MayBegin s former w.begun → IsMadeBy s former w.begun → BeganEmpty (w ∷ former)
      → IsOneWindow s w → All (λ (e : Entry). window_of s e ≡ window_at s w.end) more
  entries-number former begins made empty one k d inside = by (window_at s w.end) refl one
    where
      some : 0 < s.options.window
      some = window-some s rules

      e : Entry
      e = get_or more k d

      by : (number : ℕ) → window_at s w.end ≡ number → IsThroughBefore s w.begun number → window_of s e ≡ window_at s w.end
      by zero is through =
          let le = window-mono s (tick_of e.input) w.end some (within k d inside) in
          omega (arith, le, is)
      by (suc number) is through =
          let le = window-mono s (tick_of e.input) w.end some (within k d inside) in
          let above = entries-above (number * s.options.window) former begins made empty through k d inside in
          let least = tick-later s number (tick_of e.input) some above in
          omega (arith, le, is, least)

-- ---- along a run

-- an older entry is in no later window
abbrev IsNoLater : Scenario → Entry → Entry → Type 0
IsNoLater s newer older = window_of s older ≤ window_of s newer

-- entries of one window behind entries that are in no later window than any of them
pairs-append : (s : Scenario) (number : ℕ) (entries before : List Entry) → All (λ (e : Entry). window_of s e ≡ number) entries
    → All (λ (e : Entry). All (IsNoLater s e) before) entries → AllPairs (IsNoLater s) before → AllPairs (IsNoLater s) (entries ++ before)
pairs-append s number [] before own low pairs = pairs
pairs-append s number (e ∷ entries) before own low pairs =
    let here = All-head (λ (x : Entry). window_of s x ≡ number) e entries own in
    let rest = All-tail (λ (x : Entry). window_of s x ≡ number) e entries own in
    let older = All-head (λ (x : Entry). All (IsNoLater s x) before) e entries low in
    AllPairs-cons (IsNoLater s) e (entries ++ before)
    (All-append (IsNoLater s e) entries before (λ k d inside. let same = rest k d inside in omega (arith, here, same)) older)
    (pairs-append s number entries before rest (All-tail (λ (x : Entry). All (IsNoLater s x) before) e entries low) pairs)

-- a window's entries behind those that it began with
made-fall : (s : Scenario) (w : Window) (former : List Window) (entries : List Entry) → IsScenario s → Continues s entries
    → IsMadeBy s (w ∷ former) entries → BeganEmpty (w ∷ former) → IsOneWindow s w → AllPairs (IsNoLater s) w.begun
    → AllPairs (IsNoLater s) entries
made-fall s w former entries rules continues (is, begins, made) empty one pairs =
    let whole = subst (Continues s) is.history continues in
    let own = entries-number s rules w is.more whole is.within former begins made empty one in
    let later = entries-later s rules w is.more whole is.within former begins made empty in
    let low = begun-low s w former made empty in
    subst (AllPairs (IsNoLater s)) (sym is.history)
    (pairs-append s (window_at s w.end) is.more w.begun own
    (λ k d inside i c within.
    let newer = later k d inside in
    let older = low i c within in
    window-mono s (tick_of (get_or w.begun i c).input) (tick_of (get_or is.more k d).input) (window-some s rules) (omega (arith, newer, older)))
    pairs)

-- so windows never fall along the entries that a window began with
begun-fall : (s : Scenario) (w : Window) (former : List Window) → IsScenario s → Continues s w.begun → IsMadeBy s former w.begun
    → BeganEmpty (w ∷ former) → All (IsOneWindow s) former → AllPairs (IsNoLater s) w.begun
begun-fall s w [] rules continues made empty ones =
    subst (AllPairs (IsNoLater s)) (sym empty) (λ i j d less inside. absurd (omega (arith, inside)))
begun-fall s w (v ∷ former) rules continues (is, begins, made) empty ones =
    let before = continues-before s is.more v.begun (subst (Continues s) is.history continues) in
    made-fall s v former w.begun rules continues (is, begins, made) empty (All-head (IsOneWindow s) v former ones)
    (begun-fall s v former rules before made empty (All-tail (IsOneWindow s) v former ones))

-- a relation of each element to each later one, for the list turned round
pairs-reverse : {X : Type 0} (R : X → X → Type 0) (xs : List X) → AllPairs R xs → AllPairs (λ (a b : X). R b a) (reverse xs)
pairs-reverse {X} R xs pairs i j d less inside =
    let long = length-reverse xs in
    let later : j < length xs = omega (arith, inside, long) in
    let former : i < length xs = omega (arith, less, later) in
    let at_i = sym (get_or-reverse xs i d former) in
    let at_j = sym (get_or-reverse xs j d later) in
    subst (λ (x : X). R (get_or (reverse xs) j d) x) at_i
    (subst (λ (x : X). R x (get_or xs (length xs - 1 - i) d)) at_j
    (pairs (length xs - 1 - j) (length xs - 1 - i) d (omega (arith, less, later)) (omega (arith, former))))

-- nor along a run that windows made
pub run-windowed : (s : Scenario) (w : Window) (former : List Window) (run : Run) → IsScenario s → Continues s (reverse run.entries)
    → IsMadeBy s (w ∷ former) (reverse run.entries) → BeganEmpty (w ∷ former) → All (IsOneWindow s) (w ∷ former) → IsWindowed s run
run-windowed s w former run rules continues (is, begins, made) empty ones =
    let before = continues-before s is.more w.begun (subst (Continues s) is.history continues) in
    let pairs =
    made-fall s w former (reverse run.entries) rules continues (is, begins, made) empty (All-head (IsOneWindow s) w former ones)
    (begun-fall s w former rules before made empty (All-tail (IsOneWindow s) w former ones)) in
    subst (λ (es : List Entry). AllPairs (λ (earlier later : Entry). window_of s earlier ≤ window_of s later) es) (reverse-reverse run.entries)
    (pairs-reverse (IsNoLater s) (reverse run.entries) pairs)

-- nor along a run with no entries
pub empty-windowed : (s : Scenario) (run : Run) → run.entries ≡ [] → IsWindowed s run
empty-windowed s run none =
    subst (λ (es : List Entry). AllPairs (λ (earlier later : Entry). window_of s earlier ≤ window_of s later) es) (sym none)
    (λ i j d less inside. absurd (omega (arith, inside)))
