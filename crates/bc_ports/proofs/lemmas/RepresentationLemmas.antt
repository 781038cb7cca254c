-- The hub's ports and those of the history, one after another.
use Rattle.std.proofs.Common.{◌≡◌, ℕ, zero, suc, ◌+◌, ◌<◌, ◌≤◌, List, [], ◌∷◌, ◌++◌, length, map, drop, get_or, set, refl, ap, subst, ◌∙◌, arith, Some}
use Rattle.std.specs.Prelude.{slice_get}
use Rattle.bc_history.specs.declared.scenario.Options.{Options}
use Rattle.bc_history.specs.Phases.Inputs.{changed_at}
use Rattle.bc_history.specs.Phases.HubPort.{HubPort}
use Rattle.bc_ports.specs.Representation.{PortRepresents, PortsRepresent, IsSamePort, IsNumbered, ArePortsOf}
use Rattle.bc_ports.specs.declared.hub_port.HubPort.{HubPort as KeptPort}

pub PortsRepresent-length : (n m : ℕ) (qs : List KeptPort) (hs : List HubPort) → PortsRepresent n m qs hs → length qs ≡ length hs
PortsRepresent-length n m [] [] all = refl
PortsRepresent-length n m [] (h ∷ hs) all = absurd all
PortsRepresent-length n m (q ∷ qs) [] all = absurd all
PortsRepresent-length n m (q ∷ qs) (h ∷ hs) all = ap suc (PortsRepresent-length n m qs hs all.1)

-- the kept Announces of each port are not later than a later moment
pub PortRepresents-later : (n m k : ℕ) (q : KeptPort) (h : HubPort) → m ≤ k → PortRepresents n m q h → PortRepresents n k q h
PortRepresents-later n m k q h le s = record { engine = s.engine; records = s.records; reached = λ i x lt. let at = s.reached i x lt in omega arith; window = s.window; receiver = s.receiver }

pub PortsRepresent-later : (n m k : ℕ) (qs : List KeptPort) (hs : List HubPort) → m ≤ k → PortsRepresent n m qs hs → PortsRepresent n k qs hs
PortsRepresent-later n m k [] [] le all = tt
PortsRepresent-later n m k [] (h ∷ hs) le all = absurd all
PortsRepresent-later n m k (q ∷ qs) [] le all = absurd all
PortsRepresent-later n m k (q ∷ qs) (h ∷ hs) le all = (PortRepresents-later n m k q h le all.0, PortsRepresent-later n m k qs hs le all.1)

-- the port at an index
pub PortsRepresent-get : (n m : ℕ) (qs : List KeptPort) (hs : List HubPort) (i : ℕ) (q : KeptPort) → PortsRepresent n m qs hs → i < length qs → q ≡ get_or qs i q
    → (h : HubPort) × (slice_get hs i ≡ Some h) × PortRepresents n m q h
PortsRepresent-get n m [] hs i q all lt is = absurd (omega arith)
PortsRepresent-get n m (x ∷ qs) [] i q all lt is = absurd all
PortsRepresent-get n m (x ∷ qs) (h ∷ hs) zero q all lt is = (h, refl, rw is all.0)
PortsRepresent-get n m (x ∷ qs) (h ∷ hs) (suc i) q all lt is = PortsRepresent-get n m qs hs i q all.1 (omega arith) is

pub PortsRepresent-some : (n m : ℕ) (qs : List KeptPort) (hs : List HubPort) (i : ℕ) (q : KeptPort) → PortsRepresent n m qs hs → slice_get qs i ≡ Some q
    → (h : HubPort) × (slice_get hs i ≡ Some h) × PortRepresents n m q h
PortsRepresent-some n m [] hs i q all is = cc
PortsRepresent-some n m (x ∷ qs) [] i q all is = absurd all
PortsRepresent-some n m (x ∷ qs) (h ∷ hs) zero q all is = let same : x ≡ q = cc in (h, refl, subst (λ (y : KeptPort). PortRepresents n m y h) same all.0)
PortsRepresent-some n m (x ∷ qs) (h ∷ hs) (suc i) q all is = PortsRepresent-some n m qs hs i q all.1 is

-- the port at an index is changed
pub PortsRepresent-at : (n m : ℕ) (qs : List KeptPort) (hs : List HubPort) (i : ℕ) (q q' : KeptPort) (f : HubPort → HubPort) → PortsRepresent n m qs hs → i < length qs → q ≡ get_or qs i q
    → ((h : HubPort) → slice_get hs i ≡ Some h → PortRepresents n m q h → PortRepresents n m q' (f h)) → PortsRepresent n m (set qs i q') (changed_at f i hs)
PortsRepresent-at n m [] hs i q q' f all lt is stands = absurd (omega arith)
PortsRepresent-at n m (x ∷ qs) [] i q q' f all lt is stands = absurd all
PortsRepresent-at n m (x ∷ qs) (h ∷ hs) zero q q' f all lt is stands = (stands h refl (rw is all.0), all.1)
PortsRepresent-at n m (x ∷ qs) (h ∷ hs) (suc i) q q' f all lt is stands = (all.0, PortsRepresent-at n m qs hs i q q' f all.1 (omega arith) is stands)

-- the first k ports are changed
abbrev pub mapped : ℕ → (HubPort → HubPort) → List HubPort → List HubPort
mapped zero f hs = hs
mapped (suc k) f [] = []
mapped (suc k) f (h ∷ hs) = f h ∷ mapped k f hs

pub mapped-all : (k : ℕ) (f : HubPort → HubPort) (hs : List HubPort) → length hs ≤ k → mapped k f hs ≡ map f hs
mapped-all zero f [] le = refl
mapped-all zero f (h ∷ hs) le = absurd (omega arith)
mapped-all (suc k) f [] le = refl
mapped-all (suc k) f (h ∷ hs) le = ap (λ rest. f h ∷ rest) (mapped-all k f hs (omega arith))

pub PortsRepresent-mapped : (n m : ℕ) (qs : List KeptPort) (hs : List HubPort) (i : ℕ) (q q' : KeptPort) (f : HubPort → HubPort) → i < length qs → q ≡ get_or qs i q
    → ((h : HubPort) → slice_get hs i ≡ Some h → PortRepresents n m q h → PortRepresents n m q' (f h)) → PortsRepresent n m qs (mapped i f hs) → PortsRepresent n m (set qs i q') (mapped (suc i) f hs)
PortsRepresent-mapped n m [] hs i q q' f lt is stands all = absurd (omega arith)
PortsRepresent-mapped n m (x ∷ qs) [] zero q q' f lt is stands all = absurd all
PortsRepresent-mapped n m (x ∷ qs) [] (suc i) q q' f lt is stands all = absurd all
PortsRepresent-mapped n m (x ∷ qs) (h ∷ hs) zero q q' f lt is stands all = (stands h refl (rw is all.0), all.1)
PortsRepresent-mapped n m (x ∷ qs) (h ∷ hs) (suc i) q q' f lt is stands all = (all.0, PortsRepresent-mapped n m qs hs i q q' f (omega arith) is stands all.1)

-- the port at i and the others that follow
pub PortsRepresent-next : (n m : ℕ) (qs : List KeptPort) (hs : List HubPort) (i : ℕ) (q : KeptPort) → PortsRepresent n m qs hs → i < length qs → q ≡ get_or qs i q
    → (h : HubPort) × (drop i hs ≡ h ∷ drop (suc i) hs) × PortRepresents n m q h
PortsRepresent-next n m [] hs i q all lt is = absurd (omega arith)
PortsRepresent-next n m (x ∷ qs) [] i q all lt is = absurd all
PortsRepresent-next n m (x ∷ qs) (h ∷ hs) zero q all lt is = (h, refl, rw is all.0)
PortsRepresent-next n m (x ∷ qs) (h ∷ hs) (suc i) q all lt is = PortsRepresent-next n m qs hs i q all.1 (omega arith) is

pub PortsRepresent-end : (n m : ℕ) (qs : List KeptPort) (hs : List HubPort) (i : ℕ) → PortsRepresent n m qs hs → length qs ≤ i → drop i hs ≡ []
PortsRepresent-end n m [] [] zero all le = refl
PortsRepresent-end n m [] [] (suc i) all le = refl
PortsRepresent-end n m [] (h ∷ hs) i all le = absurd all
PortsRepresent-end n m (q ∷ qs) [] i all le = absurd all
PortsRepresent-end n m (q ∷ qs) (h ∷ hs) zero all le = absurd (omega arith)
PortsRepresent-end n m (q ∷ qs) (h ∷ hs) (suc i) all le = PortsRepresent-end n m qs hs i all.1 (omega arith)

-- one more port at the end
pub PortsRepresent-push : (n m : ℕ) (qs : List KeptPort) (hs : List HubPort) (q : KeptPort) (h : HubPort) → PortsRepresent n m qs hs → PortRepresents n m q h → PortsRepresent n m (qs ++ q ∷ []) (hs ++ h ∷ [])
PortsRepresent-push n m [] [] q h all one = (one, tt)
PortsRepresent-push n m [] (x ∷ hs) q h all one = absurd all
PortsRepresent-push n m (y ∷ qs) [] q h all one = absurd all
PortsRepresent-push n m (y ∷ qs) (x ∷ hs) q h all one = (all.0, PortsRepresent-push n m qs hs q h all.1 one)

-- ---- the ports of the scenario

pub ArePortsOf-get : (o : Options) (p : ℕ) (qs : List KeptPort) (i : ℕ) (q : KeptPort) → ArePortsOf o p qs → i < length qs → q ≡ get_or qs i q → IsNumbered o (i + p) q
ArePortsOf-get o p [] i q all lt is = absurd (omega arith)
ArePortsOf-get o p (x ∷ qs) zero q all lt is = let at : 0 + p ≡ p = omega arith in rw (at, is) all.0
ArePortsOf-get o p (x ∷ qs) (suc i) q all lt is = let at : i + (p + 1) ≡ suc i + p = omega arith in rw (← at) (ArePortsOf-get o (p + 1) qs i q all.1 (omega arith) is)

pub ArePortsOf-set : (o : Options) (p : ℕ) (qs : List KeptPort) (i : ℕ) (q q' : KeptPort) → ArePortsOf o p qs → i < length qs → q ≡ get_or qs i q → IsSamePort q q' → ArePortsOf o p (set qs i q')
ArePortsOf-set o p [] i q q' all lt is same = absurd (omega arith)
ArePortsOf-set o p (x ∷ qs) zero q q' all lt is same = (same.receiver ∙ rw is all.0, all.1)
ArePortsOf-set o p (x ∷ qs) (suc i) q q' all lt is same = (all.0, ArePortsOf-set o (p + 1) qs i q q' all.1 (omega arith) is same)

pub ArePortsOf-push : (o : Options) (p : ℕ) (qs : List KeptPort) (q : KeptPort) → ArePortsOf o p qs → IsNumbered o (length qs + p) q → ArePortsOf o p (qs ++ q ∷ [])
ArePortsOf-push o p [] q all one = let at : 0 + p ≡ p = omega arith in (rw (← at) one, tt)
ArePortsOf-push o p (x ∷ qs) q all one = let at : length qs + (p + 1) ≡ suc (length qs) + p = omega arith in (all.0, ArePortsOf-push o (p + 1) qs q all.1 (rw at one))
