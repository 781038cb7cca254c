-- How the count of comparisons grows, port by port.
use Rattle.std.proofs.Common.{◌≡◌, ℕ, ◌+◌, ◌*◌, ◌≤◌, Bool, true, false, cond, List, ◌∷◌, refl, arith}
use Rattle.std.proofs.lemmas.List.Sums.{sum_by-cons}
use Rattle.bc_history.specs.Phases.HubPort.{HubPort}
use Rattle.bc_ports.specs.DecisionCost.{may_pass, passing}

count-step : (b : Bool) (before after k : ℕ) → (b ≡ false → after ≡ before) → after ≤ before + 15 → after + 15 * k ≤ before + 15 * (cond b 1 0 + k)
count-step true before after k quiet few = omega (arith, few)
count-step false before after k quiet few = let same = quiet refl in omega (arith, same)

-- Erbest of one port more
pub passing-step : (m : ℕ) (h : HubPort) (hs : List HubPort) (before after : ℕ) → (may_pass m h ≡ false → after ≡ before) → after ≤ before + 15
    → after + 15 * passing m hs ≤ before + 15 * passing m (h ∷ hs)
passing-step m h hs before after quiet few = rw (sum_by-cons (λ (x : HubPort). cond (may_pass m x) 1 0) h hs) (count-step (may_pass m h) before after (passing m hs) quiet few)
