-- The winners of the pass up to each port, as a port is added or is another.
use Rattle.std.proofs.Common.{◌≡◌, ◌≢◌, ◌∙◌, ℕ, suc, zero, ◌+◌, ◌<◌, ◌≤◌, inl, inr, List, [], ◌∷◌, length, get_or, take, Option, Some, None, refl, sym, ap, subst, arith}
use Rattle.std.specs.Prelude.{fold, filter_map, slice_set, slice_get}
use Rattle.std.proofs.lemmas.Bool.{cases_lt}
use Rattle.std.proofs.lemmas.List.{take-set-le, take_all, length-set, get_or-set_same}
use Rattle.std.proofs.lemmas.Option.{get_or_from_slice_get}
use Rattle.ptp_base.specs.declared.announcement.Announcement.{Announcement}
use Rattle.ptp_profile.specs.declared.port_best.PortBest.{PortBest}
use Rattle.ptp_profile.specs.Best.StateDecision.{bests_of}
use Rattle.ptp_profile.specs.Best.ForeignMasters.{better, ebest}
use Rattle.state_decision.specs.PassWinners.{winner_up_to, winner_after, AreWinnersUpTo}

-- the pass goes on with these bests
abbrev pass_on : Option Announcement → List (Option Announcement) → Option Announcement
pass_on former bests = fold better former (filter_map (λ best. best) bests)

pass_on-cons : (former best : Option Announcement) (bests : List (Option Announcement)) → pass_on former (best ∷ bests) ≡ pass_on (winner_after former best) bests
pass_on-cons former None bests = refl
pass_on-cons former (Some a) bests = refl

pass_on-more : (former : Option Announcement) (p : ℕ) (ports : List PortBest) (d : PortBest) → p < length ports →
    pass_on former (bests_of (take (suc p) ports)) ≡ winner_after (pass_on former (bests_of (take p ports))) (get_or ports p d).best
pass_on-more former p [] d l = absurd (omega (arith, l))
pass_on-more former zero (x ∷ ports) d l = pass_on-cons former x.best []
pass_on-more former (suc p) (x ∷ ports) d l =
    pass_on-cons former x.best (bests_of (take (suc p) ports))
    ∙ pass_on-more (winner_after former x.best) p ports d (omega (arith, l))
    ∙ sym (ap (λ w. winner_after w (get_or ports p d).best) (pass_on-cons former x.best (bests_of (take p ports))))

-- the pass goes on by one port
pub winner_up_to-more : (p : ℕ) (ports : List PortBest) (d : PortBest) → p < length ports →
    winner_up_to (p + 1) ports ≡ winner_after (winner_up_to p ports) (get_or ports p d).best
winner_up_to-more p ports d l =
    let same : suc p ≡ p + 1 = omega arith in
    subst (λ q. winner_up_to q ports ≡ winner_after (winner_up_to p ports) (get_or ports p d).best) same
    (pass_on-more None p ports d l)

-- the pass over all is that up to the last port
pub winner_up_to-all : (ports : List PortBest) → winner_up_to (length ports) ports ≡ ebest (bests_of ports)
winner_up_to-all ports = ap (λ ps. ebest (bests_of ps)) (take_all (length ports) ports (omega arith))

-- a later port changes nothing
pub winner_up_to-set_later : (p at : ℕ) (ports : List PortBest) (b : PortBest) → p ≤ at → winner_up_to p (slice_set ports at b) ≡ winner_up_to p ports
winner_up_to-set_later p at ports b l = ap (λ ps. ebest (bests_of ps)) (take-set-le p ports at b l)

pass_on-set_same : (former : Option Announcement) (at p : ℕ) (ports : List PortBest) (b : PortBest) → at < p →
    pass_on former (bests_of (take (suc at) (slice_set ports at b))) ≡ pass_on former (bests_of (take (suc at) ports)) →
    pass_on former (bests_of (take p (slice_set ports at b))) ≡ pass_on former (bests_of (take p ports))
pass_on-set_same former at zero ports b l e = absurd (omega (arith, l))
pass_on-set_same former at (suc p) [] b l e = refl
pass_on-set_same former zero (suc p) (x ∷ ports) b l e =
    pass_on-cons former b.best (bests_of (take p ports))
    ∙ ap (λ w. pass_on w (bests_of (take p ports))) (sym (pass_on-cons former b.best []) ∙ e ∙ pass_on-cons former x.best [])
    ∙ sym (pass_on-cons former x.best (bests_of (take p ports)))
pass_on-set_same former (suc at) (suc p) (x ∷ ports) b l e =
    pass_on-cons former x.best (bests_of (take p (slice_set ports at b)))
    ∙ pass_on-set_same (winner_after former x.best) at p ports b (omega (arith, l))
    (sym (pass_on-cons former x.best (bests_of (take (suc at) (slice_set ports at b)))) ∙ e ∙ pass_on-cons former x.best (bests_of (take (suc at) ports)))
    ∙ sym (pass_on-cons former x.best (bests_of (take p ports)))

-- where the winner up to a port stays, it stays up to all later ones
pub winner_up_to-set_same : (at p : ℕ) (ports : List PortBest) (b : PortBest) → at < p →
    winner_up_to (at + 1) (slice_set ports at b) ≡ winner_up_to (at + 1) ports →
    winner_up_to p (slice_set ports at b) ≡ winner_up_to p ports
winner_up_to-set_same at p ports b l e =
    let same : at + 1 ≡ suc at = omega arith in
    pass_on-set_same None at p ports b l (subst (λ q. winner_up_to q (slice_set ports at b) ≡ winner_up_to q ports) same e)

-- the pass up to a port that is set
pub winner_up_to-set : (at : ℕ) (ports : List PortBest) (b : PortBest) → at < length ports →
    winner_up_to (at + 1) (slice_set ports at b) ≡ winner_after (winner_up_to at ports) b.best
winner_up_to-set at ports b l =
    winner_up_to-more at (slice_set ports at b) b (subst (λ n. at < n) (sym (length-set ports at b)) l)
    ∙ ap (λ w. winner_after w (get_or (slice_set ports at b) at b).best) (winner_up_to-set_later at at ports b (omega arith))
    ∙ ap (λ (p : PortBest). winner_after (winner_up_to at ports) p.best) (get_or-set_same ports at b b l)

-- where the winner up to the port that is set stays, it stays up to each port
pub winner_up_to-set_each : (at p : ℕ) (ports : List PortBest) (b : PortBest) →
    winner_up_to (at + 1) (slice_set ports at b) ≡ winner_up_to (at + 1) ports →
    winner_up_to p (slice_set ports at b) ≡ winner_up_to p ports
winner_up_to-set_each at p ports b e =
    elim (cases_lt at p) [
      | inl l ↦ winner_up_to-set_same at p ports b l e
      | inr l ↦ winner_up_to-set_later p at ports b l
    ]

-- entry p of the winners
pub winner_entry : (last p : ℕ) (ports : List PortBest) (winners : List (Option Announcement)) (w : Option Announcement) → AreWinnersUpTo last ports winners → p ≤ last →
    w ≡ get_or winners p w → w ≡ winner_up_to p ports
winner_entry last p ports winners w are l is = is ∙ get_or_from_slice_get winners p (winner_up_to p ports) w (are p l)

-- what holds of the element that is set, and of each other, holds of each
set-each : {X : Type 0} (P : ℕ → Option X → Type 0) (xs : List X) (i j : ℕ) (y : X) → i < length xs → P i (Some y) → (j ≢ i → P j (slice_get xs j)) → P j (slice_get (slice_set xs i y) j)
set-each P [] i j y l one other = absurd (omega (arith, l))
set-each P (x ∷ xs) zero zero y l one other = one
set-each P (x ∷ xs) zero (suc j) y l one other = other (λ e. cc)
set-each P (x ∷ xs) (suc i) zero y l one other = other (λ e. cc)
set-each P (x ∷ xs) (suc i) (suc j) y l one other =
    set-each (λ (k : ℕ). P (suc k)) xs i j y (omega (arith, l)) one (λ e. other (λ same. e (omega (arith, same))))

-- the winners are known up to one port more
pub winners-more : (p : ℕ) (ports : List PortBest) (winners : List (Option Announcement)) (former w : Option Announcement) (d : PortBest) →
    p < length ports → length winners ≡ length ports + 1 → AreWinnersUpTo p ports winners → former ≡ get_or winners p former →
    w ≡ winner_after former (get_or ports p d).best → AreWinnersUpTo (p + 1) ports (slice_set winners (p + 1) w)
winners-more p ports winners former w d l many are is made = λ q lq.
    set-each (λ k (o : Option (Option Announcement)). k ≤ p + 1 → o ≡ Some (winner_up_to k ports)) winners (p + 1) q w (omega (arith, l, many))
    (λ _. ap (λ u. Some u) (made ∙ ap (λ u. winner_after u (get_or ports p d).best) (winner_entry p p ports winners former are (omega arith) is) ∙ sym (winner_up_to-more p ports d l)))
    (λ other lk. are q (omega (arith, other, lk)))
    lq

-- the winners up to a port that is set
pub winners-set : (at : ℕ) (ports : List PortBest) (b : PortBest) (winners : List (Option Announcement)) (former w : Option Announcement) →
    at < length ports → length winners ≡ length ports + 1 → AreWinnersUpTo (length ports) ports winners → former ≡ get_or winners at former →
    w ≡ winner_after former b.best → AreWinnersUpTo (at + 1) (slice_set ports at b) (slice_set winners (at + 1) w)
winners-set at ports b winners former w l many are is made =
    winners-more at (slice_set ports at b) winners former w b
    (subst (λ n. at < n) (sym (length-set ports at b)) l)
    (many ∙ ap (λ n. n + 1) (sym (length-set ports at b)))
    (λ p lp. are p (omega (arith, l, lp)) ∙ ap (λ u. Some u) (sym (winner_up_to-set_later p at ports b lp)))
    is
    (made ∙ ap (λ (q : PortBest). winner_after former q.best) (sym (get_or-set_same ports at b b l)))
