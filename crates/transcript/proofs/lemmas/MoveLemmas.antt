-- Changes of state that may stand one behind another are formed, and no others.
use Rattle.std.proofs.Common.{◌≡◌, ◌≢◌, ℕ, zero, suc, ◌-◌, ◌<◌, ◌≤◌, Bool, true, false, cond, refl, sym, ap, ◌∙◌, arith, List, [], ◌∷◌, ◌++◌, length, length-append, get_or, eq-eqb, subst}
use Rattle.std.specs.Prelude.{AllPairs, nat_le, ◌==◌, ◌&&◌, not, filter, slice_index_or}
use Rattle.std.proofs.lemmas.Bool.{false≢true, and_from}
use Rattle.std.proofs.lemmas.Bool.Decides.{Decides-eqb, leb_tells}
use Rattle.std.proofs.lemmas.List.Elements.{filter-append}
use Rattle.std.proofs.lemmas.List.Quantifiers.{all_pairs_push}
use Rattle.bc_history.specs.declared.entry.Moved.{Moved}
use Rattle.bc_history.specs.Run.FormedRuns.{AreFormedMoves}
use Rattle.transcript.specs.NextLines.{may_follow}

-- ---- tests

le_true : (a b : ℕ) → a ≤ b → nat_le a b ≡ true
le_true a b h = grind (arith, leb_tells a b)

true_le : (a b : ℕ) → nat_le a b ≡ true → a ≤ b
true_le a b h = grind (arith, leb_tells a b)

not_true : (t : Bool) → (t ≡ true → ⊥) → not t ≡ true
not_true true h = absurd (h refl)
not_true false h = refl

true_not : (t : Bool) → not t ≡ true → t ≡ false
true_not true h = absurd (false≢true h)
true_not false h = refl

and_parts : (a b : Bool) → (a && b) ≡ true → (a ≡ true) × (b ≡ true)
and_parts true b h = (refl, h)
and_parts false b h = absurd (false≢true h)

-- ---- those behind the first

Rise : List Moved → Type 0
Rise moves = AllPairs (λ (former later : Moved). former.port ≤ later.port) moves

abbrev of_port : ℕ → Moved → Bool
of_port port m = m.port == port

rise_tail : (a : Moved) (moves : List Moved) → Rise (a ∷ moves) → Rise moves
unfolding Rise
rise_tail a moves rising = λ i j d lt below. rising (suc i) (suc j) d (omega arith) (omega arith)

fewer : (b : Bool) (a : Moved) (moves : List Moved) → length (cond b (a ∷ moves) moves) ≤ 2 → length moves ≤ 2
fewer true a moves h = omega (arith, h)
fewer false a moves h = h

tail_formed : (a : Moved) (moves : List Moved) → AreFormedMoves (a ∷ moves) → AreFormedMoves moves
unfolding Rise
tail_formed a moves formed = record {
  rising = rise_tail a moves formed.rising;
  twice = λ port. fewer (of_port port a) a (filter (of_port port) moves) (formed.twice port);
}

-- ---- what is formed may stand

three : (a b m : Moved) (rest : List Moved) (port : ℕ) → of_port port a ≡ true → of_port port b ≡ true → of_port port m ≡ true → length (filter (of_port port) (a ∷ b ∷ m ∷ rest)) ≤ 2 → ⊥
three a b m rest port ha hb hm h =
    let P : Bool → Bool → Bool → ℕ = λ x y z. length (cond x (a ∷ cond y (b ∷ cond z (m ∷ filter (of_port port) rest) (filter (of_port port) rest)) (cond z (m ∷ filter (of_port port) rest) (filter (of_port port) rest))) (cond y (b ∷ cond z (m ∷ filter (of_port port) rest) (filter (of_port port) rest)) (cond z (m ∷ filter (of_port port) rest) (filter (of_port port) rest)))) in
    let h1 : P true (of_port port b) (of_port port m) ≤ 2 = subst (λ (x : Bool). P x (of_port port b) (of_port port m) ≤ 2) ha h in
    let h2 : P true true (of_port port m) ≤ 2 = subst (λ (x : Bool). P true x (of_port port m) ≤ 2) hb h1 in
    let h3 : P true true true ≤ 2 = subst (λ (x : Bool). P true true x ≤ 2) hm h2 in
    absurd (omega (arith, h3))

-- a change that stands behind others in a list that is formed may stand there
pub may-follow : (done : List Moved) (m : Moved) (rest : List Moved) → AreFormedMoves (done ++ m ∷ rest) → may_follow done m ≡ true
may-follow [] m rest formed = refl
may-follow (a ∷ []) m rest formed = le_true a.port m.port (formed.rising 0 1 a (omega arith) (omega arith))
may-follow (a ∷ b ∷ []) m rest formed =
    let ab : a.port ≤ b.port = formed.rising 0 1 a (omega arith) (omega arith) in
    let bm : b.port ≤ m.port = formed.rising 1 2 a (omega arith) (omega arith) in
    and_from (nat_le b.port m.port) (not (a.port == m.port)) (le_true b.port m.port bm)
    (not_true (a.port == m.port) (λ same.
    let am : a.port ≡ m.port = (Decides-eqb a.port m.port).0 same in
    let between : b.port ≡ m.port = omega arith in
    three a b m rest m.port same (eq-eqb b.port m.port between) (eq-eqb m.port m.port refl) (formed.twice m.port)))
may-follow (a ∷ b ∷ c ∷ done) m rest formed = may-follow (b ∷ c ∷ done) m rest (tail_formed a (b ∷ c ∷ done ++ m ∷ rest) formed)

-- ---- what may stand is formed

below : (done : List Moved) (m : Moved) → Rise done → may_follow done m ≡ true → (k : ℕ) (d : Moved) → k < length done → (slice_index_or done k d).port ≤ m.port
unfolding Rise
below [] m rising may k d h = absurd (omega (arith, h))
below (a ∷ []) m rising may zero d h = true_le a.port m.port may
below (a ∷ []) m rising may (suc k) d h = absurd (omega (arith, h))
below (a ∷ b ∷ []) m rising may zero d h =
    let ab : a.port ≤ b.port = rising 0 1 a (omega arith) (omega arith) in
    let bm : b.port ≤ m.port = true_le b.port m.port (and_parts (nat_le b.port m.port) (not (a.port == m.port)) may).0 in
    omega arith
below (a ∷ b ∷ []) m rising may (suc zero) d h = true_le b.port m.port (and_parts (nat_le b.port m.port) (not (a.port == m.port)) may).0
below (a ∷ b ∷ []) m rising may (suc (suc k)) d h = absurd (omega (arith, h))
below (a ∷ b ∷ c ∷ done) m rising may zero d h =
    let ab : a.port ≤ b.port = rising 0 1 a (omega arith) (omega arith) in
    let bm : b.port ≤ m.port = below (b ∷ c ∷ done) m (rise_tail a (b ∷ c ∷ done) rising) may 0 d (omega arith) in
    omega arith
below (a ∷ b ∷ c ∷ done) m rising may (suc k) d h = below (b ∷ c ∷ done) m (rise_tail a (b ∷ c ∷ done) rising) may k d (omega arith)

first_below : (a b : Moved) (done : List Moved) (m : Moved) → Rise (a ∷ b ∷ done) → may_follow (a ∷ b ∷ done) m ≡ true → a.port < m.port
unfolding Rise
first_below a b [] m rising may =
    let parts = and_parts (nat_le b.port m.port) (not (a.port == m.port)) may in
    let ab : a.port ≤ b.port = rising 0 1 a (omega arith) (omega arith) in
    let bm : b.port ≤ m.port = true_le b.port m.port parts.0 in
    let other : a.port ≢ m.port = λ e. false≢true (sym (true_not (a.port == m.port) parts.1) ∙ eq-eqb a.port m.port e) in
    omega arith
first_below a b (c ∷ done) m rising may =
    let ab : a.port ≤ b.port = rising 0 1 a (omega arith) (omega arith) in
    let bm : b.port < m.port = first_below b c done m (rise_tail a (b ∷ c ∷ done) rising) may in
    omega arith

test_false : (a b : ℕ) → a < b → (a == b) ≡ false
test_false a b lt = true_not (a == b) (not_true (a == b) (λ same. let e : a ≡ b = (Decides-eqb a b).0 same in absurd (omega arith)))

at_most : (t : Bool) (a : Moved) → length (cond t (a ∷ []) []) ≤ 1
at_most true a = omega arith
at_most false a = omega arith

once : (done : List Moved) (m : Moved) → Rise done → may_follow done m ≡ true → length (filter (of_port m.port) done) ≤ 1
once [] m rising may = omega arith
once (a ∷ []) m rising may = at_most (of_port m.port a) a
once (a ∷ b ∷ []) m rising may =
    let no = test_false a.port m.port (first_below a b [] m rising may) in
    subst (λ (t : Bool). length (cond t (a ∷ filter (of_port m.port) (b ∷ [])) (filter (of_port m.port) (b ∷ []))) ≤ 1) (sym no) (at_most (of_port m.port b) b)
once (a ∷ b ∷ c ∷ done) m rising may =
    let no = test_false a.port m.port (first_below a b (c ∷ done) m rising may) in
    subst (λ (t : Bool). length (cond t (a ∷ filter (of_port m.port) (b ∷ c ∷ done)) (filter (of_port m.port) (b ∷ c ∷ done))) ≤ 1) (sym no)
    (once (b ∷ c ∷ done) m (rise_tail a (b ∷ c ∷ done) rising) may)

twice_more : (done : List Moved) (m : Moved) (port : ℕ) → length (filter (of_port port) done) ≤ 2 → (m.port ≡ port → length (filter (of_port port) done) ≤ 1) → length (filter (of_port port) (done ++ m ∷ [])) ≤ 2
twice_more done m port few one =
    let by : (t : Bool) → (m.port == port) ≡ t → length (filter (of_port port) done ++ cond t (m ∷ []) []) ≤ 2 =
    λ t. elim t as (λ t. (m.port == port) ≡ t → length (filter (of_port port) done ++ cond t (m ∷ []) []) ≤ 2) [
      | true ↦ (λ is. let less : length (filter (of_port port) done) ≤ 1 = one ((Decides-eqb m.port port).0 is) in omega (arith, length-append (filter (of_port port) done) (m ∷ [])))
      | false ↦ (λ is. omega (arith, length-append (filter (of_port port) done) [], few))
    ] in
    subst (λ (all : List Moved). length all ≤ 2) (sym (filter-append (of_port port) done (m ∷ []))) (by (m.port == port) refl)

-- changes of state with one more that may stand behind them are formed
pub moves-more : (done : List Moved) (m : Moved) → AreFormedMoves done → may_follow done m ≡ true → AreFormedMoves (done ++ m ∷ [])
unfolding Rise
moves-more done m formed may = record {
  rising = all_pairs_push (λ (former later : Moved). former.port ≤ later.port) done m formed.rising (below done m formed.rising may);
  twice = λ port. twice_more done m port (formed.twice port) (λ e. subst (λ (p : ℕ). length (filter (of_port p) done) ≤ 1) e (once done m formed.rising may));
}

-- ---- the last two

-- the last two changes say whether one may stand behind them
pub may_follow-last : (moves : List Moved) (m d : Moved) → 2 ≤ length moves
    → may_follow moves m ≡ (nat_le (get_or moves (length moves - 1) d).port m.port && not ((get_or moves (length moves - 2) d).port == m.port))
may_follow-last [] m d h = absurd (omega (arith, h))
may_follow-last (a ∷ []) m d h = absurd (omega (arith, h))
may_follow-last (a ∷ b ∷ []) m d h = refl
may_follow-last (a ∷ b ∷ c ∷ moves) m d h =
    let one : suc (suc (suc (length moves))) - 1 ≡ suc (suc (suc (length moves)) - 1) = omega arith in
    let two : suc (suc (suc (length moves))) - 2 ≡ suc (suc (suc (length moves)) - 2) = omega arith in
    rw (one, two) (may_follow-last (b ∷ c ∷ moves) m d (omega arith))

le_false : (a b : ℕ) → b < a → nat_le a b ≡ false
le_false a b h = grind (arith, leb_tells a b)

-- the last is not above: the one before it says it
pub may_follow-low : (moves : List Moved) (m d : Moved) → 2 ≤ length moves → (get_or moves (length moves - 1) d).port ≤ m.port
    → not ((get_or moves (length moves - 2) d).port == m.port) ≡ may_follow moves m
may_follow-low moves m d two low =
    sym (may_follow-last moves m d two
    ∙ ap (λ (b : Bool). b && not ((get_or moves (length moves - 2) d).port == m.port)) (le_true (get_or moves (length moves - 1) d).port m.port low))

-- the last is above
pub may_follow-high : (moves : List Moved) (m d : Moved) → 2 ≤ length moves → m.port < (get_or moves (length moves - 1) d).port
    → nat_le (get_or moves (length moves - 1) d).port m.port ≡ may_follow moves m
may_follow-high moves m d two high =
    let no = le_false (get_or moves (length moves - 1) d).port m.port high in
    no ∙ sym (may_follow-last moves m d two ∙ ap (λ (b : Bool). b && not ((get_or moves (length moves - 2) d).port == m.port)) no)
