-- A scenario ends in one way.
use Rattle.std.proofs.Common.{◌≡◌, ℕ, zero, suc, ◌+◌, ◌-◌, ◌≤◌, sym, ap, ◌∙◌, arith, inl, inr}
use Rattle.std.proofs.lemmas.Bool.{cases_lt}
use Rattle.bc_history.specs.declared.scenario.Scenario.{Scenario}
use Rattle.bc_history.specs.Run.World.{End, Ended, status_after_turn, status_after, IsEnd}

-- what ended stays so
stays_ended : (s : Scenario) (n k : ℕ) (end : End) → status_after s n ≡ Ended end → status_after s (n + k) ≡ Ended end
unfolding status_after
stays_ended s n zero end h = let same : n + zero ≡ n = omega arith in rw same h
stays_ended s n (suc k) end h =
    let more : n + suc k ≡ suc (n + k) = omega arith in
    rw more (ap (status_after_turn s (n + k)) (stays_ended s n k end h))

ends_by : (s : Scenario) (m n : ℕ) (a b : End) → m ≤ n → status_after s m ≡ Ended a → status_after s n ≡ Ended b → a ≡ b
ends_by s m n a b le first second =
    let same : m + (n - m) ≡ n = omega arith in
    let later : status_after s n ≡ Ended a = rw same at (stays_ended s m (n - m) a first) in
    let both : Ended a ≡ Ended b = sym later ∙ second in
    cc

pub one_end : (s : Scenario) (a b : End) → IsEnd s a → IsEnd s b → a ≡ b
one_end s a b (m, first) (n, second) =
    elim (cases_lt m n) [
      | inl lt ↦ ends_by s m n a b (omega arith) first second
      | inr le ↦ sym (ends_by s n m b a le second first)
    ]
