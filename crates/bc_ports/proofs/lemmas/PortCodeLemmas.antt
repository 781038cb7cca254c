-- The codes of all ports are those of the history's decision.
use Rattle.std.proofs.Common.{◌≡◌, ℕ, suc, ◌+◌, arith, List, [], ◌∷◌, map, refl, ap, sym, ◌∙◌, Option, Some, None}
use Rattle.std.specs.Prelude.{fold, filter_map, All, IfSome, if◌then◌else◌, Bool, true, false}
use Rattle.std.specs.List.{enumerate_from, cons_option}
use Rattle.ptp_base.specs.declared.identity.PortId.{PortId}
use Rattle.ptp_base.specs.declared.announcement.Announcement.{Announcement}
use Rattle.ptp_base.specs.declared.code.Code.{Code}
use Rattle.ptp_profile.specs.declared.port_best.PortBest.{PortBest}
use Rattle.ptp_profile.specs.Best.Comparison.{wins}
use Rattle.ptp_profile.specs.Best.ForeignMasters.{better}
use Rattle.ptp_profile.specs.Best.StateDecision.{bests_of, code_of}
use Rattle.bc_history.specs.declared.scenario.Options.{Options}
use Rattle.bc_history.specs.Phases.DecisionPhase.{best_of, code_with}
use Rattle.bc_history.specs.Phases.HubPort.{HubPort}
use Rattle.bc_ports.specs.Representation.{PortsRepresent, ArePortsOf}
use Rattle.bc_ports.specs.DecisionScratch.{port_bests}
use Rattle.bc_ports.specs.declared.hub_port.HubPort.{HubPort as KeptPort}

-- the best of each port, in rising number
pub bests-port_bests : (m : ℕ) (hs : List HubPort) → bests_of (port_bests m hs) ≡ map (best_of m) hs
bests-port_bests m [] = refl
bests-port_bests m (h ∷ hs) = ap (λ rest. best_of m h ∷ rest) (bests-port_bests m hs)

pub codes-from : (n : ℕ) (o : Options) (own : Announcement) (best : Option Announcement) (m p : ℕ) (qs : List KeptPort) (hs : List HubPort) → ArePortsOf o p qs → PortsRepresent n m qs hs
    → map (λ (port : ℕ × PortBest). code_of own best port.0 port.1.state port.1.best) (enumerate_from p (port_bests m hs)) ≡ map (code_with own m best) hs
codes-from n o own best m p [] [] of all = refl
codes-from n o own best m p [] (h ∷ hs) of all = absurd all
codes-from n o own best m p (q ∷ qs) [] of all = absurd all
codes-from n o own best m p (q ∷ qs) (h ∷ hs) of all =
    let number : p ≡ h.port.id.port = ap (λ (id : PortId). id.port) (sym of.0 ∙ all.0.receiver) in
    let rest = codes-from n o own best m (p + 1) qs hs of.1 all.1 in
    let later : List Code = map (λ (port : ℕ × PortBest). code_of own best port.0 port.1.state port.1.best) (enumerate_from (p + 1) (port_bests m hs)) in
    ap (λ (k : ℕ). code_of own best k h.port.state (best_of m h) ∷ later) number ∙ ap (λ (xs : List Code). code_with own m best h ∷ xs) rest

-- ---- the winner has what all have

one_of : (P : Announcement → Type 0) (b : Bool) (a x : Announcement) → P a → P x → IfSome (if b then Some a else Some x) P
one_of P true a x pa px = pa
one_of P false a x pa px = px

better-has : (P : Announcement → Type 0) (best : Option Announcement) (a : Announcement) → IfSome best P → P a → IfSome (better best a) P
better-has P None a p pa = pa
better-has P (Some b) a p pa = one_of P (wins a b) a b pa p

some_or : (P : Announcement → Type 0) (best o : Option Announcement) (rest : List Announcement) → IfSome best P → IfSome o P
    → ((x : Option Announcement) → IfSome x P → IfSome (fold better x rest) P) → IfSome (fold better best (cons_option o rest)) P
some_or P best None rest p po more = more best p
some_or P best (Some a) rest p po more = more (better best a) (better-has P best a p po)

pub fold-has : (P : Announcement → Type 0) (best : Option Announcement) (bests : List PortBest) → IfSome best P → All (λ (b : PortBest). IfSome b.best P) bests
    → IfSome (fold better best (filter_map (λ b. b) (bests_of bests))) P
fold-has P best [] p all = p
fold-has P best (b ∷ bests) p all =
    some_or P best b.best (filter_map (λ b. b) (bests_of bests)) p (all 0 b (omega arith)) (λ x px. fold-has P x bests px (λ k d lt. all (suc k) d (omega arith)))
