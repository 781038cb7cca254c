-- Controllers that are a forest have no walk that comes back.
use Rattle.std.proofs.Common.{◌≡◌, ℕ, zero, suc, List, [], ◌∷◌, map, set, get_or, slice_index, refl, sym, ap, ◌∙◌, arith}
use Rattle.std.specs.Prelude.{Contains}
use Rattle.ptp_profile.specs.Roles.Forest.{IsForest, IsWalk}
use Rattle.ptp_profile.specs.declared.seats.LogEntry.TheVariants.{Order}
use Rattle.discipline_seat.specs.declared.view.View.{View}
use Rattle.discipline_seat.specs.Rule.SeatLog.{HasNoCircle, LeadsTo, SeatLog, ctrl_after}
use Rattle.discipline_seat.specs.Rule.SeatView.{after_look as saw, ctrls_with, seen_log}

ctrl_at : (logs : List SeatLog) (d : ℕ) → slice_index (map ctrl_after logs) d ≡ ctrl_after (get_or logs d [])
ctrl_at [] d = refl
ctrl_at (l ∷ ls) zero = refl
ctrl_at (l ∷ ls) (suc d) = ctrl_at ls d

ctrls_set : (logs : List SeatLog) (c k : ℕ) (l : SeatLog) → ctrl_after l ≡ k → set (map ctrl_after logs) c k ≡ map ctrl_after (set logs c l)
ctrls_set [] c k l is = refl
ctrls_set (x ∷ xs) zero k l is = ap (λ (n : ℕ). n ∷ map ctrl_after xs) (sym is)
ctrls_set (x ∷ xs) (suc c) k l is = ap (λ (ns : List ℕ). ctrl_after x ∷ ns) (ctrls_set xs c k l is)

abbrev walk_of : (f : ℕ → ℕ) (k a b : ℕ) → LeadsTo f k a b → List ℕ
walk_of f zero a b h = b ∷ []
walk_of f (suc k) a b h = h.0 ∷ walk_of f k h.0 b h.2

is_walk : (ctrls : List ℕ) (f : ℕ → ℕ) (same : (d : ℕ) → slice_index ctrls d ≡ f d) (k a b : ℕ) (h : LeadsTo f k a b) → IsWalk ctrls a (walk_of f k a b h)
is_walk ctrls f same zero a b h = (same a ∙ h, tt)
is_walk ctrls f same (suc k) a b h = (same a ∙ h.1, is_walk ctrls f same k h.0 b h.2)

comes_to : (f : ℕ → ℕ) (k a b : ℕ) (h : LeadsTo f k a b) → Contains (walk_of f k a b h) b
comes_to f zero a b h = (0, omega arith, refl)
comes_to f (suc k) a b h = let rest = comes_to f k h.0 b h.2 in (suc rest.0, (let lt = rest.1 in omega (arith, lt)), rest.2)

pub no_circle : (ctrls : List ℕ) (f : ℕ → ℕ) → ((d : ℕ) → slice_index ctrls d ≡ f d) → IsForest ctrls → HasNoCircle f
no_circle ctrls f same forest k c h = forest c (walk_of f k c c h) (is_walk ctrls f same k c c h) (comes_to f k c c h)

pub no_circle_with : (v : View) (c g k : ℕ) → IsForest (ctrls_with v c k) → HasNoCircle (λ d. ctrl_after (seen_log (saw v c (Order g k ∷ seen_log v c)) d))
no_circle_with v c g k forest =
    let l : SeatLog = Order g k ∷ seen_log v c in
    no_circle (ctrls_with v c k) (λ d. ctrl_after (seen_log (saw v c l) d)) (λ d. ap (λ (ns : List ℕ). slice_index ns d) (ctrls_set v.seen c k l refl) ∙ ctrl_at (set v.seen c l) d) forest
