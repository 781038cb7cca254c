-- What a Decider keeps, as a port is set.
use Rattle.std.proofs.Common.{◌≡◌, ◌∙◌, ℕ, ◌+◌, ◌-◌, ◌≤◌, Bool, true, false, suc, zero, List, ◌∷◌, length, get_or, map, Option, Some, None, refl, sym, ap, subst, arith}
use Rattle.std.specs.Prelude.{slice_set, slice_get, option_map, replicate}
use Rattle.std.proofs.lemmas.List.{length-set, length-replicate, map-set}
use Rattle.std.proofs.Math.Seq.{map-set_same}
use Rattle.std.proofs.lemmas.Option.{same_Some, slice_get-get_or}
use Rattle.ptp_base.specs.declared.limits.TheConstants.{PORTS_MAX}
use Rattle.ptp_base.specs.declared.announcement.Announcement.{Announcement}
use Rattle.ptp_profile.specs.declared.port_best.PortBest.{PortBest}
use Rattle.ptp_profile.specs.Best.StateDecision.{bests_of, wins_against, wins_by_topology}
use Rattle.ptp_profile.specs.Best.ForeignMasters.{ebest}
use Rattle.state_decision.specs.PassWinners.{winner_up_to, winner_after, AreWinnersUpTo}
use Rattle.state_decision.specs.DeciderView.{DeciderView, IsDecider, HasBest, unset}
use Rattle.state_decision.proofs.lemmas.PassWinnersLemmas.{winner_up_to-more, winner_up_to-all, winner_up_to-set, winner_up_to-set_each, winner_entry, winners-set}

-- the number of the port before, and one more
next : (port : ℕ) → 1 ≤ port → (port - 1) + 1 ≡ port
next port some = omega (arith, some)

-- ---- the winners, as a port is set

-- the winner that is made anew is that of the pass up to the port
pub set-winner : (port : ℕ) (ports : List PortBest) (b : PortBest) (pass : List (Option Announcement)) (former w : Option Announcement) →
    1 ≤ port → port ≤ length ports → AreWinnersUpTo (length ports) ports pass → former ≡ get_or pass (port - 1) former →
    w ≡ winner_after former b.best → w ≡ winner_up_to port (slice_set ports (port - 1) b)
set-winner port ports b pass former w some there are is made =
    made
    ∙ ap (λ u. winner_after u b.best) (winner_entry (length ports) (port - 1) ports pass former are (omega (arith, there)) is)
    ∙ sym (winner_up_to-set (port - 1) ports b (omega (arith, some, there)))
    ∙ ap (λ p. winner_up_to p (slice_set ports (port - 1) b)) (next port some)

-- it stands behind those of the ports before
pub set-standing : (port : ℕ) (ports : List PortBest) (b : PortBest) (pass : List (Option Announcement)) (former w : Option Announcement) →
    1 ≤ port → port ≤ length ports → length pass ≡ length ports + 1 → AreWinnersUpTo (length ports) ports pass → former ≡ get_or pass (port - 1) former →
    w ≡ winner_after former b.best → AreWinnersUpTo port (slice_set ports (port - 1) b) (slice_set pass port w)
set-standing port ports b pass former w some there many are is made =
    subst (λ p. AreWinnersUpTo p (slice_set ports (port - 1) b) (slice_set pass p w)) (next port some)
    (winners-set (port - 1) ports b pass former w (omega (arith, some, there)) many are is made)

-- a port that is set to the best that it has leaves the winner up to it
same_best-winner : (port : ℕ) (ports : List PortBest) (b : PortBest) (d : PortBest) → 1 ≤ port → port ≤ length ports →
    (get_or ports (port - 1) d).best ≡ b.best → winner_up_to port (slice_set ports (port - 1) b) ≡ winner_up_to port ports
same_best-winner port ports b d some there same =
    subst (λ p. winner_up_to p (slice_set ports (port - 1) b) ≡ winner_up_to p ports) (next port some)
    (winner_up_to-set (port - 1) ports b (omega (arith, some, there))
    ∙ ap (λ o. winner_after (winner_up_to (port - 1) ports) o) (sym same)
    ∙ sym (winner_up_to-more (port - 1) ports d (omega (arith, some, there))))

-- ---- where the winner up to the port stays

each_same : (port p : ℕ) (ports : List PortBest) (b : PortBest) → 1 ≤ port →
    winner_up_to port (slice_set ports (port - 1) b) ≡ winner_up_to port ports →
    winner_up_to p (slice_set ports (port - 1) b) ≡ winner_up_to p ports
each_same port p ports b some e =
    winner_up_to-set_each (port - 1) p ports b
    (subst (λ q. winner_up_to q (slice_set ports (port - 1) b) ≡ winner_up_to q ports) (sym (next port some)) e)

ebest_same : (port : ℕ) (ports : List PortBest) (b : PortBest) → 1 ≤ port →
    winner_up_to port (slice_set ports (port - 1) b) ≡ winner_up_to port ports →
    ebest (bests_of (slice_set ports (port - 1) b)) ≡ ebest (bests_of ports)
ebest_same port ports b some e =
    sym (winner_up_to-all (slice_set ports (port - 1) b))
    ∙ ap (λ n. winner_up_to n (slice_set ports (port - 1) b)) (length-set ports (port - 1) b)
    ∙ each_same port (length ports) ports b some e
    ∙ winner_up_to-all ports

winners_same : (port : ℕ) (ports : List PortBest) (b : PortBest) (pass : List (Option Announcement)) → 1 ≤ port → AreWinnersUpTo (length ports) ports pass →
    winner_up_to port (slice_set ports (port - 1) b) ≡ winner_up_to port ports →
    AreWinnersUpTo (length (slice_set ports (port - 1) b)) (slice_set ports (port - 1) b) pass
winners_same port ports b pass some are e =
    λ p lp. are p (subst (λ n. p ≤ n) (length-set ports (port - 1) b) lp) ∙ ap (λ u. Some u) (sym (each_same port p ports b some e))

-- ---- what is kept of each port

-- an answer for each port, where one port is set and its answer with it
answers-set : (f : PortBest → Bool) (at : ℕ) (ports : List PortBest) (b : PortBest) (kept : List Bool) (answer : Bool) →
    kept ≡ map f ports → answer ≡ f b → slice_set kept at answer ≡ map f (slice_set ports at b)
answers-set f at ports b kept answer are is =
    ap (λ k. slice_set k at answer) are ∙ ap (λ x. slice_set (map f ports) at x) is ∙ sym (map-set f ports at b)

-- what is kept where a port is set to the best that it has
pub decider-same_best : (own : Announcement) (ports : List PortBest) (pass : List (Option Announcement)) (over : List Bool) (o : Bool) (topology : List Bool) (port : ℕ) (b d : PortBest) →
    IsDecider own ports pass over o topology → 1 ≤ port → port ≤ length ports → (get_or ports (port - 1) d).best ≡ b.best →
    IsDecider own (slice_set ports (port - 1) b) pass over o topology
decider-same_best own ports pass over o topology port b d is some there same =
    let e = same_best-winner port ports b d some there same in
    let best = ebest_same port ports b some e in
    record {
      few = subst (λ n. n ≤ PORTS_MAX) (sym (length-set ports (port - 1) b)) is.few;
      entries = is.entries ∙ ap (λ n. n + 1) (sym (length-set ports (port - 1) b));
      winners = winners_same port ports b pass some is.winners e;
      own_over_erbest = is.own_over_erbest
          ∙ sym (map-set_same (λ (p : PortBest). wins_against own p.best) ports (port - 1) b d (ap (wins_against own) (sym same)));
      own_over_ebest = is.own_over_ebest ∙ ap (wins_against own) (sym best);
      by_topology = is.by_topology
          ∙ sym (map-set_same (λ (p : PortBest). wins_by_topology (ebest (bests_of ports)) p.best) ports (port - 1) b d (ap (wins_by_topology (ebest (bests_of ports))) (sym same)))
          ∙ ap (λ w. map (λ (p : PortBest). wins_by_topology w p.best) (slice_set ports (port - 1) b)) (sym best);
    }

-- what is kept where the winner up to the port stays
pub decider-same_winner : (own : Announcement) (ports : List PortBest) (pass : List (Option Announcement)) (over : List Bool) (o : Bool) (topology : List Bool) (port : ℕ) (b : PortBest) (w : Option Announcement) (x t : Bool) →
    IsDecider own ports pass over o topology → 1 ≤ port →
    winner_up_to port (slice_set ports (port - 1) b) ≡ winner_up_to port ports →
    w ≡ get_or pass (length ports) w → x ≡ wins_against own b.best → t ≡ wins_by_topology w b.best →
    IsDecider own (slice_set ports (port - 1) b) pass (slice_set over (port - 1) x) o (slice_set topology (port - 1) t)
decider-same_winner own ports pass over o topology port b w x t is some e last won by =
    let best = ebest_same port ports b some e in
    let known = winner_entry (length ports) (length ports) ports pass w is.winners (omega arith) last ∙ winner_up_to-all ports in
    record {
      few = subst (λ n. n ≤ PORTS_MAX) (sym (length-set ports (port - 1) b)) is.few;
      entries = is.entries ∙ ap (λ n. n + 1) (sym (length-set ports (port - 1) b));
      winners = winners_same port ports b pass some is.winners e;
      own_over_erbest = answers-set (λ (p : PortBest). wins_against own p.best) (port - 1) ports b over x is.own_over_erbest won;
      own_over_ebest = is.own_over_ebest ∙ ap (wins_against own) (sym best);
      by_topology = answers-set (λ (p : PortBest). wins_by_topology (ebest (bests_of ports)) p.best) (port - 1) ports b topology t is.by_topology (by ∙ ap (λ v. wins_by_topology v b.best) known)
          ∙ ap (λ v. map (λ (p : PortBest). wins_by_topology v p.best) (slice_set ports (port - 1) b)) (sym best);
    }

-- what is kept where the winners and all that hangs on Ebest are made anew
pub decider-renewed : (own : Announcement) (ports ys : List PortBest) (pass made : List (Option Announcement)) (over : List Bool) (o : Bool) (topology anew : List Bool) (at : ℕ) (b : PortBest) (w : Option Announcement) (x y : Bool) →
    IsDecider own ports pass over o topology → ys ≡ slice_set ports at b →
    length made ≡ length ys + 1 → AreWinnersUpTo (length ys) ys made → w ≡ get_or made (length ys) w →
    x ≡ wins_against own b.best → y ≡ wins_against own w → anew ≡ map (λ (p : PortBest). wins_by_topology w p.best) ys →
    IsDecider own (slice_set ports at b) made (slice_set over at x) y anew
decider-renewed own ports ys pass made over o topology anew at b w x y is new many are last won best by =
    let known = winner_entry (length ys) (length ys) ys made w are (omega arith) last ∙ winner_up_to-all ys in
    subst (λ (ps : List PortBest). IsDecider own ps made (slice_set over at x) y anew) new
    record {
      few = subst (λ n. n ≤ PORTS_MAX) (sym (ap (λ (ps : List PortBest). length ps) new ∙ length-set ports at b)) is.few;
      entries = many;
      winners = are;
      own_over_erbest = answers-set (λ (p : PortBest). wins_against own p.best) at ports b over x is.own_over_erbest won ∙ ap (map (λ (p : PortBest). wins_against own p.best)) (sym new);
      own_over_ebest = best ∙ ap (wins_against own) known;
      by_topology = by ∙ ap (λ v. map (λ (p : PortBest). wins_by_topology v p.best) ys) known;
    }

-- ---- where no port was set

none_heard : (p n : ℕ) → winner_up_to p (replicate n unset) ≡ None
none_heard zero n = refl
none_heard (suc p) zero = refl
none_heard (suc p) (suc n) = none_heard p n

-- the winners where none is heard
abbrev nones : ℕ → List (Option Announcement)
nones n = replicate n None

each_none : (p n : ℕ) → p ≤ n → slice_get (nones (suc n)) p ≡ Some None
each_none zero n l = refl
each_none (suc p) zero l = absurd (omega (arith, l))
each_none (suc p) (suc n) l = each_none p n (omega (arith, l))

map_all : (f : PortBest → Bool) (n : ℕ) → replicate n (f unset) ≡ map f (replicate n unset)
map_all f zero = refl
map_all f (suc n) = ap (λ rest. f unset ∷ rest) (map_all f n)

pub decider-unset : (own : Announcement) (n : ℕ) (ports : List PortBest) (pass : List (Option Announcement)) (over topology : List Bool) → n ≤ PORTS_MAX →
    ports ≡ replicate n unset → pass ≡ replicate (n + 1) None → over ≡ replicate n true → topology ≡ replicate n false →
    IsDecider own ports pass over true topology
decider-unset own n ports pass over topology few is entries won by =
    let same : n + 1 ≡ suc n = omega arith in
    let many : length ports ≡ n = ap (λ (ps : List PortBest). length ps) is ∙ length-replicate n unset in
    let best : ebest (bests_of ports) ≡ None =
    ap (λ (ps : List PortBest). ebest (bests_of ps)) is ∙ sym (winner_up_to-all (replicate n unset)) ∙ none_heard (length (replicate n unset)) n in
    record {
      few = subst (λ k. k ≤ PORTS_MAX) (sym many) few;
      entries = ap (λ (ws : List (Option Announcement)). length ws) entries ∙ length-replicate (n + 1) None ∙ ap (λ k. k + 1) (sym many);
      winners = λ p lp. ap (λ (ws : List (Option Announcement)). slice_get ws p) (entries ∙ ap nones same)
          ∙ each_none p n (subst (λ k. p ≤ k) many lp)
          ∙ ap (λ u. Some u) (sym (ap (λ (ps : List PortBest). winner_up_to p ps) is ∙ none_heard p n));
      own_over_erbest = won ∙ map_all (λ (q : PortBest). wins_against own q.best) n ∙ ap (map (λ (q : PortBest). wins_against own q.best)) (sym is);
      own_over_ebest = sym (ap (wins_against own) best);
      by_topology = by ∙ map_all (λ (q : PortBest). wins_by_topology None q.best) n
          ∙ ap (map (λ (q : PortBest). wins_by_topology None q.best)) (sym is)
          ∙ ap (λ v. map (λ (q : PortBest). wins_by_topology v q.best) ports) (sym best);
    }

-- ---- a best that a port has

option-best : (o : Option PortBest) (x : PortBest) (best : Option Announcement) → o ≡ Some x → option_map (λ (p : PortBest). p.best) o ≡ Some best → x.best ≡ best
option-best o x best is has = same_Some x.best best (sym (ap (option_map (λ (p : PortBest). p.best)) is) ∙ has)

has_best : (port : ℕ) (ports : List PortBest) (best : Option Announcement) (d : PortBest) → 1 ≤ port → port ≤ length ports →
    HasBest port ports best → (get_or ports (port - 1) d).best ≡ best
has_best port ports best d some there has =
    option-best (slice_get ports (port - 1)) (get_or ports (port - 1) d) best (slice_get-get_or ports (port - 1) d (omega (arith, some, there))) has

-- the best of the port that was looked at, where the port has this best
pub had_best : (port : ℕ) (own : Announcement) (before : DeciderView) (ports : List PortBest) (b had : PortBest) → 1 ≤ port → port ≤ length before.bests →
    record { own = own; bests = ports } ≡ before → had ≡ get_or ports (port - 1) had →
    HasBest port before.bests b.best → had.best ≡ b.best
had_best port own before ports b had some there view is has =
    ap (λ (p : PortBest). p.best) is
    ∙ ap (λ (v : DeciderView). (get_or v.bests (port - 1) had).best) view
    ∙ has_best port before.bests b.best had some there has
