-- A scenario without a schedule does not end at a turn that has no step; made scenarios are such.
use Rattle.std.proofs.Common.{◌≡◌, ℕ, zero, suc, Bool, true, false, cond, leb, refl, ap, ◌∙◌, [], length, Option, None, Some}
use Rattle.ptp_base.specs.declared.limits.TheConstants.{ENTRIES_MAX}
use Rattle.bc_history.specs.declared.scenario.Scenario.{Scenario}
use Rattle.bc_history.specs.declared.scenario.Turner.{Turner}
use Rattle.bc_history.specs.Run.World.{End, Ended, Event, Events, Finished, Free, Going, IsEnd, Not_due, Status, Step, World, next_status, run_of, status_after, status_after_step, status_after_turn, take_step, turner_at}
use Rattle.bc_gen.specs.MadeScenario.{made_scenario}

pub made-no_turns : (n : ℕ) → (made_scenario n).turns ≡ []
unfolding made_scenario
made-no_turns n = refl

step-due : (w : World) (turn : ℕ) (step : Step) → status_after_step w step ≡ Ended (Not_due turn) → ⊥
step-due w turn (Event next) is = by (leb ENTRIES_MAX (length w.entries)) is
  where
    by : (b : Bool) → cond b (Ended Events) (Going next) ≡ Ended (Not_due turn) → ⊥
    by true same = let end : Events ≡ Not_due turn = cc in cc
    by false same = cc
step-due w turn (Free next) is = cc

default-due : (w : World) (end : End) (turn : ℕ) (step : Option Step) → (end ≡ Not_due turn → ⊥) → take_step w end step ≡ Ended (Not_due turn) → ⊥
default-due w end turn None other is = let same : end ≡ Not_due turn = cc in other same
default-due w end turn (Some step) other is = step-due w turn step is

turn-due : (s : Scenario) (n turn : ℕ) (w : World) (turner : Option Turner) → turner ≡ None → next_status s n w turner ≡ Ended (Not_due turn) → ⊥
turn-due s n turn w None none is = default-due w (Finished (run_of s w)) turn _ (λ same. cc) is
turn-due s n turn w (Some turner) none is = absurd cc

no_turner : (s : Scenario) (n : ℕ) → s.turns ≡ [] → turner_at s.turns n ≡ None
no_turner s n none = ap (λ turns. turner_at turns n) none

status-due : (s : Scenario) (n turn : ℕ) → s.turns ≡ [] → status_after s n ≡ Ended (Not_due turn) → ⊥
unfolding status_after
status-due s zero turn none is = cc
status-due s (suc n) turn none is = by (status_after s n) refl (status-due s n turn none) is
  where
    by : (status : Status) → status_after s n ≡ status → (status_after s n ≡ Ended (Not_due turn) → ⊥) → status_after_turn s n status ≡ Ended (Not_due turn) → ⊥
    by (Going w) former rest same = turn-due s n turn w (turner_at s.turns n) (no_turner s n none) same
    by (Ended end) former rest same = rest (former ∙ same)

-- each turn has a step where the schedule has none
pub always_due : (s : Scenario) (turn : ℕ) → s.turns ≡ [] → IsEnd s (Not_due turn) → ⊥
always_due s turn none (n, is) = status-due s n turn none is
