-- Controllers, one for each clock: who copies whom, and what orders make of them (project)
use Rattle.std.specs.Prelude.{ℕ, ◌+◌, ◌≡◌, ◌⊎◌, List, [], ◌∷◌, length, fold, slice_index, slice_set, Contains}
use Rattle.ptp_profile.specs.declared.roles.RoleOrder.{RoleOrder}

-- the clock c copies the clock d: its controller is 128 more than d
abbrev pub Copies : List ℕ → ℕ → ℕ → Type 0
Copies ctrls c d = slice_index ctrls c ≡ 128 + d

-- a walk from the clock c by the clocks of the list, each of which the one before copies
abbrev pub IsWalk : List ℕ → ℕ → List ℕ → Type 0
IsWalk ctrls c [] = Unit {0}
IsWalk ctrls c (d ∷ walk) = Copies ctrls c d × IsWalk ctrls d walk

-- no walk comes back to the clock that it has left
abbrev pub IsForest : List ℕ → Type 0
IsForest ctrls = (c : ℕ) (walk : List ℕ) → IsWalk ctrls c walk → ¬ Contains walk c

-- the controllers of a part of the edges: each clock has the same controller or none
pub record IsPart (part whole : List ℕ) : Type 0 where
  pub as_many : length part ≡ length whole
  pub each : (c : ℕ) → (slice_index part c ≡ 0) ⊎ (slice_index part c ≡ slice_index whole c)

-- the controllers after an order
abbrev pub ctrls_by : List ℕ → RoleOrder → List ℕ
ctrls_by ctrls order = slice_set ctrls order.clock order.ctrl

-- the controllers that orders leave, the first order first
abbrev pub ctrls_after : List ℕ → List RoleOrder → List ℕ
ctrls_after ctrls orders = fold ctrls_by ctrls orders
