-- The changes of state that an entry tells stand by rising port, and no port has more than two.
use Rattle.std.proofs.Common.{◌≡◌, ℕ, ◌+◌, ◌≤◌, Bool, true, false, cond, List, [], ◌∷◌, ◌++◌, length, refl, arith, ne_eqb}
use Rattle.std.specs.Prelude.{◌==◌}
use Rattle.std.specs.List.{All, AllPairs, filter}
use Rattle.std.proofs.lemmas.Bool.{eqb-true}
use Rattle.std.proofs.lemmas.List.Elements.{All-nil, All-cons, All-head, All-tail, All-weaker}
use Rattle.std.proofs.lemmas.List.Kept.{AllPairs-cons}
use Rattle.ptp_base.specs.declared.port_state.PortState.{PortState}
use Rattle.ptp_profile.specs.Port.PortStates.{state_number}
use Rattle.bc_history.specs.declared.entry.Moved.{Moved}
use Rattle.bc_history.specs.Phases.EntryEffects.{moves_from}
use Rattle.bc_history.specs.Run.FormedRuns.{AreFormedMoves}

-- how many of the changes are of a port
abbrev count : ℕ → List Moved → ℕ
count port moves = length (filter (λ (m : Moved). m.port == port) moves)

-- changes of ports from p on, of which p has at most k
record AreMovesFrom (k p : ℕ) (moves : List Moved) : Type 0 where
  above : All (λ (m : Moved). p ≤ m.port) moves
  rising : AllPairs (λ (former later : Moved). former.port ≤ later.port) moves
  own : count p moves ≤ k
  twice : (port : ℕ) → count port moves ≤ 2

-- no changes at all
no_moves : (k p : ℕ) → AreMovesFrom k p []
no_moves k p = record {
  above = All-nil _;
  rising = λ i j d lt below. absurd (omega (arith, below));
  own = omega arith;
  twice = λ port. omega arith;
}

-- one element more is counted where the test passes
counted_within : (b : Bool) (m : Moved) (moves : List Moved) (k : ℕ) → length moves ≤ k → length (cond b (m ∷ moves) moves) ≤ k + 1
counted_within true m moves k few = omega (arith, few)
counted_within false m moves k few = omega (arith, few)

-- one change of p more
one_move : (k p : ℕ) (m : Moved) (moves : List Moved) → m.port ≡ p → k + 1 ≤ 2 → AreMovesFrom k p moves → AreMovesFrom (k + 1) p (m ∷ moves)
one_move k p m moves is few h = record {
  above = All-cons (λ (m : Moved). p ≤ m.port) m moves (omega (arith, is)) h.above;
  rising = AllPairs-cons (λ (former later : Moved). former.port ≤ later.port) m moves
      (All-weaker (λ (m : Moved). p ≤ m.port) (λ (later : Moved). m.port ≤ later.port) (λ later from. omega (arith, is, from)) moves h.above) h.rising;
  own = counted_within (m.port == p) m (filter (λ (m : Moved). m.port == p) moves) k h.own;
  twice = λ port. by port (m.port == port) refl;
}
  where
    own_twice : (port : ℕ) → port ≡ p → count port moves + 1 ≤ 2
    own_twice port same = let here : count port moves ≤ k = rw same h.own in omega (arith, here, few)

    by : (port : ℕ) (b : Bool) → (m.port == port) ≡ b → length (cond b (m ∷ filter (λ (m : Moved). m.port == port) moves) (filter (λ (m : Moved). m.port == port) moves)) ≤ 2
    by port true e =
        let there : m.port ≡ port = eqb-true m.port port e in
        let same : port ≡ p = omega (arith, there, is) in
        omega (arith, own_twice port same)
    by port false e = h.twice port

-- the test of p fails at changes of later ports
later_none : (p : ℕ) (moves : List Moved) → All (λ (m : Moved). p + 1 ≤ m.port) moves → count p moves ≡ 0
later_none p [] above = refl
later_none p (m ∷ moves) above = by (m.port == p) (ne_eqb m.port p (λ e. omega (arith, e, All-head (λ (m : Moved). p + 1 ≤ m.port) m moves above))) (later_none p moves (All-tail (λ (m : Moved). p + 1 ≤ m.port) m moves above))
  where
    by : (b : Bool) → b ≡ false → count p moves ≡ 0 → length (cond b (m ∷ filter (λ (m : Moved). m.port == p) moves) (filter (λ (m : Moved). m.port == p) moves)) ≡ 0
    by true e rest = cc
    by false e rest = rest

-- changes of later ports are changes from p on
earlier : (k p : ℕ) (moves : List Moved) → AreMovesFrom k (p + 1) moves → AreMovesFrom 0 p moves
earlier k p moves h = record {
  above = All-weaker (λ (m : Moved). p + 1 ≤ m.port) (λ (m : Moved). p ≤ m.port) (λ m from. omega (arith, from)) moves h.above;
  rising = h.rising;
  own = omega (arith, later_none p moves h.above);
  twice = h.twice;
}

-- more may be of p
more_own : (k l p : ℕ) (moves : List Moved) → k ≤ l → AreMovesFrom k p moves → AreMovesFrom l p moves
more_own k l p moves le h = record { above = h.above; rising = h.rising; own = omega (arith, le, h.own); twice = h.twice }

-- a port's own two changes, each of which may not be, before those of later ports
port_moves : (p : ℕ) (same still : Bool) (first second : Moved) (rest : List Moved) → first.port ≡ p → second.port ≡ p → AreMovesFrom 0 p rest
    → AreMovesFrom 2 p (cond same [] (first ∷ []) ++ cond still [] (second ∷ []) ++ rest)
port_moves p true true first second rest one two h = more_own 0 2 p rest (omega arith) h
port_moves p true false first second rest one two h = more_own 1 2 p (second ∷ rest) (omega arith) (one_move 0 p second rest two (omega arith) h)
port_moves p false true first second rest one two h = more_own 1 2 p (first ∷ rest) (omega arith) (one_move 0 p first rest one (omega arith) h)
port_moves p false false first second rest one two h = one_move 1 p first (second ∷ rest) one (omega arith) (one_move 0 p second rest two (omega arith) h)

-- by all ports from p on
moves-from : (p : ℕ) (olds mids news : List PortState) → AreMovesFrom 2 p (moves_from p olds mids news)
moves-from p [] mids news = no_moves 2 p
moves-from p (old ∷ olds) [] news = no_moves 2 p
moves-from p (old ∷ olds) (mid ∷ mids) [] = no_moves 2 p
moves-from p (old ∷ olds) (mid ∷ mids) (new ∷ news) =
    port_moves p (state_number old == state_number mid) (state_number mid == state_number new) (record { port = p; old = old; new = mid }) (record { port = p; old = mid; new = new })
    (moves_from (p + 1) olds mids news) refl refl (earlier 2 p (moves_from (p + 1) olds mids news) (moves-from (p + 1) olds mids news))

-- what an entry tells of changes is formed
pub formed_moves : (p : ℕ) (olds mids news : List PortState) → AreFormedMoves (moves_from p olds mids news)
formed_moves p olds mids news = let h = moves-from p olds mids news in record { rising = h.rising; twice = h.twice }
