-- Generations: how often the edges have changed, and the edges since the last change (project).
use Rattle.std.specs.Prelude.{ℕ, List, Option, Some, None, All, replicate}
use Rattle.ptp_profile.specs.declared.roles.Edge.{Edge}
use Rattle.ptp_profile.specs.Roles.Edges.{HasCtrl}

-- a generation, counted from 1, or 0 before the first, and what drives each clock in it
pub record Generation : Type 0 where
  pub gener : ℕ
  pub edges : List (Option Edge)

-- before the first generation nothing drives a clock
abbrev pub no_generation : ℕ → Generation
no_generation clocks = record { gener = 0; edges = replicate clocks None }

-- the controller fits into an octet, if the clock has one
abbrev pub HasCtrlIfAny : Option Edge → Type 0
HasCtrlIfAny None = Unit {0}
HasCtrlIfAny (Some edge) = HasCtrl edge

-- so do all controllers
abbrev pub HaveCtrls : List (Option Edge) → Type 0
HaveCtrls edges = All HasCtrlIfAny edges
