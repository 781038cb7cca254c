-- Windows: what a history may have up to a tick (project). Lists have the newest first.
use Rattle.std.specs.Prelude.{◌≡◌, ℕ, ◌<◌, ◌≤◌, max, List, [], ◌∷◌, ◌++◌, All, IfSome, Option, None, Some}
use Rattle.bc_history.specs.declared.entry.Entry.{Entry}
use Rattle.bc_history.specs.declared.entry.Input.{Input}
use Rattle.bc_history.specs.declared.scenario.Scenario.{Scenario}
use Rattle.bc_history.specs.Phases.Inputs.{tick_of}
use Rattle.bc_history.specs.Phases.Step.{state_of}
use Rattle.bc_history.specs.Run.NextInputs.{IsNext}

-- no actor has a next input up to a tick
abbrev pub IsBeyond : Scenario → List Entry → ℕ → Type 0
IsBeyond s entries end =
    (input : Input) → IsNext s (state_of s entries) input → end < tick_of input

-- a window that was given: its last tick, and the history then
pub record Window : Type 0 where
  pub end : ℕ
  pub begun : List Entry

-- the last tick of the present window, if there is one
abbrev pub bound_of : List Window → Option ℕ
bound_of [] = None
bound_of (w ∷ former) = Some w.end

-- a tick is not behind the present window
abbrev pub IsInBound : List Window → ℕ → Type 0
IsInBound windows tick = IfSome (bound_of windows) (λ end. tick ≤ end)

-- a window may begin where no actor has a next input up to the end of the one before
abbrev pub MayBegin : Scenario → List Window → List Entry → Type 0
MayBegin s former entries = IfSome (bound_of former) (IsBeyond s entries)

-- a history is the one that a window began with, and entries up to the window's last tick
pub record IsMadeWithin (w : Window) (entries : List Entry) : Type 0 where
  pub more : List Entry
  pub history : entries ≡ more ++ w.begun
  pub within : All (λ (e : Entry). tick_of e.input ≤ w.end) more

-- a history was made by these windows: each began where it might, and all entries from then up to
-- the next one are within it
abbrev pub IsMadeBy : Scenario → List Window → List Entry → Type 0
IsMadeBy s [] entries = Unit {0}
IsMadeBy s (w ∷ former) entries =
    IsMadeWithin w entries × MayBegin s former w.begun × IsMadeBy s former w.begun

-- the history that the first window began with was empty
abbrev pub BeganEmpty : List Window → Type 0
BeganEmpty [] = Unit {0}
BeganEmpty (w ∷ []) = w.begun ≡ []
BeganEmpty (w ∷ v ∷ former) = BeganEmpty (v ∷ former)

-- the greatest last tick of all windows, 0 where there are none
abbrev pub latest : List Window → ℕ
latest [] = 0
latest (w ∷ former) = max w.end (latest former)
