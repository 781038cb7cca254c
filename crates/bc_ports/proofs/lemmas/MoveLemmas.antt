-- How ports move, one after another, and portDS with other states.
use Rattle.std.proofs.Common.{◌≡◌, ◌≢◌, ℕ, zero, suc, ◌+◌, ◌<◌, ◌≤◌, List, [], ◌∷◌, ◌++◌, length, drop, set, refl, ap, ◌∙◌, arith, append_assoc, Option, Some, inl, inr}
use Rattle.std.specs.Prelude.{slice_get, slice_index_or}
use Rattle.std.specs.Option.{option_map}
use Rattle.std.proofs.lemmas.Bool.{eq-eqb}
use Rattle.std.proofs.lemmas.Bool.Decides.{eqb_tells}
use Rattle.std.proofs.lemmas.List.{append-nil}
use Rattle.std.proofs.lemmas.Option.{slice_get-map}
use Rattle.circular_buffer.proofs.Places.{slice_get-set_same, slice_get-set_other}
use Rattle.ptp_base.specs.declared.port_state.PortState.{PortState}
use Rattle.ptp_profile.specs.Port.PortStates.{state_number}
use Rattle.data_sets.specs.declared.port_set.PortSet.{PortSet}
use Rattle.bc_history.specs.declared.entry.Moved.{Moved}
use Rattle.bc_history.specs.Phases.EntryEffects.{moves_of_port, moves_from}
use Rattle.bc_ports.specs.DecisionScratch.{states_in, with_states}

-- the port at an index, and the others behind it
pub moves-next : (p i : ℕ) (olds mids news : List PortState) (old mid new : PortState) → slice_get olds i ≡ Some old → slice_get mids i ≡ Some mid → slice_get news i ≡ Some new
    → moves_from p (drop i olds) (drop i mids) (drop i news) ≡ moves_of_port p old mid ++ moves_of_port p mid new ++ moves_from (p + 1) (drop (suc i) olds) (drop (suc i) mids) (drop (suc i) news)
moves-next p i [] mids news old mid new a b c = cc
moves-next p i (x ∷ olds) [] news old mid new a b c = cc
moves-next p i (x ∷ olds) (y ∷ mids) [] old mid new a b c = cc
moves-next p zero (x ∷ olds) (y ∷ mids) (z ∷ news) old mid new a b c =
    let ex : x ≡ old = cc in
    let ey : y ≡ mid = cc in
    let ez : z ≡ new = cc in
    rw (ex, ey, ez) refl
moves-next p (suc i) (x ∷ olds) (y ∷ mids) (z ∷ news) old mid new a b c = moves-next p i olds mids news old mid new a b c

pub regroup : (done olds mids rest : List Moved) → done ++ olds ++ mids ++ rest ≡ done ++ (olds ++ mids ++ rest)
regroup done olds mids rest = simp append_assoc refl

pub moves-one : (p i k : ℕ) (olds mids news : List PortState) (old mid new : PortState) → k ≡ suc i → slice_get olds i ≡ Some old → slice_get mids i ≡ Some mid → slice_get news i ≡ Some new
    → moves_from p (drop i olds) (drop i mids) (drop i news) ≡ moves_of_port p old mid ++ moves_of_port p mid new ++ moves_from (p + 1) (drop k olds) (drop k mids) (drop k news)
moves-one p i k olds mids news old mid new k_is a b c = rw k_is (moves-next p i olds mids news old mid new a b c)

pub moves-end : (p i : ℕ) (olds mids news : List PortState) → length olds ≤ i → moves_from p (drop i olds) (drop i mids) (drop i news) ≡ []
moves-end p zero [] mids news le = refl
moves-end p (suc i) [] mids news le = refl
moves-end p zero (x ∷ olds) mids news le = absurd (omega arith)
moves-end p (suc i) (x ∷ olds) [] news le = end-mids p (drop i olds)
  where
    end-mids : (p : ℕ) (olds : List PortState) → moves_from p olds [] (drop (suc i) news) ≡ []
    end-mids p [] = refl
    end-mids p (o ∷ olds) = refl
moves-end p (suc i) (x ∷ olds) (y ∷ mids) [] le = end-news p (drop i olds) (drop i mids)
  where
    end-news : (p : ℕ) (olds mids : List PortState) → moves_from p olds mids [] ≡ []
    end-news p [] mids = refl
    end-news p (o ∷ olds) [] = refl
    end-news p (o ∷ olds) (m ∷ mids) = refl
moves-end p (suc i) (x ∷ olds) (y ∷ mids) (z ∷ news) le = moves-end p i olds mids news (omega arith)

-- the state of a port after the own event of another, or its own
pub state-between : (olds : List PortState) (i at : ℕ) (between old mid : PortState) → slice_get olds i ≡ Some old → i < length olds → (i ≡ at → mid ≡ between) → (i ≢ at → mid ≡ old)
    → slice_get (set olds at between) i ≡ Some mid
state-between olds i at between old mid found lt here elsewhere =
    elim (eqb_tells i at) [
      | inl t ↦ let same : i ≡ at = t.1 in rw (same, here same) (slice_get-set_same olds at between (omega (arith, same, lt)))
      | inr f ↦ rw (elsewhere f.1) (slice_get-set_other olds at i between f.1 ∙ found)
    ]

-- the element of an index that is there
pub get-there : {X : Type 0} (xs : List X) (i : ℕ) (d : X) → i < length xs → slice_get xs i ≡ Some (slice_index_or xs i d)
get-there [] i d lt = absurd (omega arith)
get-there (x ∷ xs) zero d lt = refl
get-there (x ∷ xs) (suc i) d lt = get-there xs i d (omega arith)

pub states_in-length : (sets : List PortSet) → length (states_in sets) ≡ length sets
states_in-length [] = refl
states_in-length (s ∷ sets) = ap suc (states_in-length sets)

pub states_in-at : (sets : List PortSet) (i : ℕ) (s : PortSet) → slice_get sets i ≡ Some s → slice_get (states_in sets) i ≡ Some s.state
states_in-at sets i s found = slice_get-map (λ (x : PortSet). x.state) sets i ∙ ap (λ (o : Option PortSet). option_map (λ (x : PortSet). x.state) o) found

-- the first i have their new states
abbrev pub stated : ℕ → List PortSet → List PortState → List PortSet
stated zero sets states = sets
stated (suc i) [] states = []
stated (suc i) (s ∷ sets) [] = s ∷ sets
stated (suc i) (s ∷ sets) (state ∷ states) = record s { state = state } ∷ stated i sets states

pub stated-length : (i : ℕ) (sets : List PortSet) (states : List PortState) → length (stated i sets states) ≡ length sets
stated-length zero sets states = refl
stated-length (suc i) [] states = refl
stated-length (suc i) (s ∷ sets) [] = refl
stated-length (suc i) (s ∷ sets) (state ∷ states) = ap suc (stated-length i sets states)

pub stated-all : (i : ℕ) (sets : List PortSet) (states : List PortState) → length states ≤ i → stated i sets states ≡ with_states sets states
stated-all zero [] [] le = refl
stated-all zero (s ∷ sets) [] le = refl
stated-all zero [] (state ∷ states) le = refl
stated-all zero (s ∷ sets) (state ∷ states) le = absurd (omega arith)
stated-all (suc i) [] states le = refl
stated-all (suc i) (s ∷ sets) [] le = refl
stated-all (suc i) (s ∷ sets) (state ∷ states) le = ap (λ xs. record s { state = state } ∷ xs) (stated-all i sets states (omega arith))

-- one more has its new state
pub stated-next : (i : ℕ) (sets : List PortSet) (states : List PortState) (s : PortSet) (state : PortState) → length states ≡ length sets → slice_get (stated i sets states) i ≡ Some s → slice_get states i ≡ Some state
    → set (stated i sets states) i (record s { state = state }) ≡ stated (suc i) sets states
stated-next zero [] states s state long a b = cc
stated-next zero (x ∷ sets) [] s state long a b = cc
stated-next zero (x ∷ sets) (y ∷ states) s state long a b = let ex : x ≡ s = cc in let ey : y ≡ state = cc in rw (ex, ey) refl
stated-next (suc i) [] states s state long a b = cc
stated-next (suc i) (x ∷ sets) [] s state long a b = absurd (omega (arith, long))
stated-next (suc i) (x ∷ sets) (y ∷ states) s state long a b = ap (λ xs. record x { state = y } ∷ xs) (stated-next i sets states s state (omega (arith, long)) a b)

-- ---- one port alone

-- a port that stays does not move
stays : (p : ℕ) (s : PortState) → moves_of_port p s s ≡ []
stays p s = rw (eq-eqb (state_number s) (state_number s) refl) refl

-- ports that all stay do not move
all-stay : (p : ℕ) (states : List PortState) → moves_from p states states states ≡ []
all-stay p [] = refl
all-stay p (s ∷ states) = rw (stays p s, all-stay (p + 1) states) refl

-- only the port at an index moved, at its own event
pub moves-own : (p at : ℕ) (olds : List PortState) (old between : PortState) → slice_get olds at ≡ Some old
    → moves_from p olds (set olds at between) (set olds at between) ≡ moves_of_port (at + p) old between
moves-own p at [] old between found = cc
moves-own p zero (x ∷ olds) old between found =
    let same : x ≡ old = cc in
    let none : 0 + p ≡ p = omega arith in
    rw (none, stays p between, all-stay (p + 1) olds, same) (append-nil (moves_of_port p old between ++ []) ∙ append-nil (moves_of_port p old between))
moves-own p (suc at) (x ∷ olds) old between found =
    let number : at + (p + 1) ≡ suc at + p = omega arith in
    rw (stays p x, ← number) (moves-own (p + 1) at olds old between found)

-- portDS with the states that are in it
same-states : (sets : List PortSet) → with_states sets (states_in sets) ≡ sets
same-states [] = refl
same-states (s ∷ sets) = ap (λ xs. s ∷ xs) (same-states sets)

-- only the port at an index has another state
pub stated-own : (at : ℕ) (sets : List PortSet) (s : PortSet) (state : PortState) → slice_get sets at ≡ Some s
    → set sets at (record s { state = state }) ≡ with_states sets (set (states_in sets) at state)
stated-own at [] s state found = cc
stated-own zero (x ∷ sets) s state found = let same : x ≡ s = cc in rw (same, same-states sets) refl
stated-own (suc at) (x ∷ sets) s state found = ap (λ xs. x ∷ xs) (stated-own at sets s state found)
