-- A servo that runs: what it wants, and what it adds to its drift.
use Rattle.std.proofs.Common.{◌≡◌, ℕ, ℤ, pos, negsuc, ◌≤ℤ◌, ◌+ℤ◌, Bool, true, false, nat_lt, nat_abs, cond, ◌⊎◌, ⊎_elim, inl, inr, ap, sym, ◌∙◌, arith}
use Rattle.std.proofs.lemmas.Int.{ints}
use Rattle.std.proofs.lemmas.Bool.Decides.{nat_tests}
use Rattle.ptp_base.specs.Floor.{IsWithin}
use Rattle.ptp_profile.specs.declared.timing.ServoConf.{ServoConf}
use Rattle.ptp_profile.specs.Timing.Servo.{Sample, limit, part, counteraction, is_past_limit}
use Rattle.pi_servo.proofs.lemmas.PartLemmas.{part-rises, part-falls}

-- a magnitude that isn't above a limit
pub within_from : (most : ℕ) (z : ℤ) → nat_lt most (nat_abs z) ≡ false → IsWithin (pos most) z
within_from most (pos k) h = grind (arith, ints, nat_tests, h)
within_from most (negsuc k) h = grind (arith, ints, nat_tests, h)

-- two parts on the same side of 0: the one alone goes no further than both
pub between : (most : ℕ) (drift p i : ℤ) → IsWithin (pos most) drift → IsWithin (pos most) ((drift +ℤ p) +ℤ i)
    → (pos 0 ≤ℤ p) × (pos 0 ≤ℤ i) ⊎ (p ≤ℤ pos 0) × (i ≤ℤ pos 0) → IsWithin (pos most) (drift +ℤ i)
between most drift p i h k sides =
    ⊎_elim (λ s. (omega (arith, ints, h, k, s), omega (arith, ints, h, k, s))) (λ s. (omega (arith, ints, h, k, s), omega (arith, ints, h, k, s))) sides

-- two parts for the same offset are on the same side of 0
pub sides : (p i : ℕ) (offset : ℤ) → (pos 0 ≤ℤ part p offset) × (pos 0 ≤ℤ part i offset) ⊎ (part p offset ≤ℤ pos 0) × (part i offset ≤ℤ pos 0)
sides p i (pos k) = inl (part-rises p (pos k) (omega (arith, ints)), part-rises i (pos k) (omega (arith, ints)))
sides p i (negsuc k) = inr (part-falls p (negsuc k) (omega (arith, ints)), part-falls i (negsuc k) (omega (arith, ints)))

pub raised : (conf : ServoConf) (x : Sample) (drift : ℤ) → IsWithin (pos (limit conf)) drift → is_past_limit conf x drift ≡ false
    → IsWithin (pos (limit conf)) (drift +ℤ part conf.ki x.offset)
raised conf x drift few in_it =
    between (limit conf) drift (part conf.kp x.offset) (part conf.ki x.offset) few (within_from (limit conf) (counteraction conf x drift) in_it)
    (sides conf.kp conf.ki x.offset)

-- the test in the code, and the one of the definitions
pub same_test : (conf : ServoConf) (x : Sample) (drift freq : ℤ) (most : ℕ) (outside b : Bool) → outside ≡ b → outside ≡ nat_lt most (nat_abs freq)
    → most ≡ limit conf → freq ≡ counteraction conf x drift → is_past_limit conf x drift ≡ b
same_test conf x drift freq most outside b is test e f =
    ap (λ (z : ℤ). nat_lt (limit conf) (nat_abs z)) (sym f) ∙ ap (λ (n : ℕ). nat_lt n (nat_abs freq)) (sym e) ∙ sym test ∙ is

pub chosen_first : {A : Type 0} (b : Bool) (r p q : A) → b ≡ true → r ≡ p → r ≡ cond b p q
chosen_first true r p q is e = e
chosen_first false r p q is e = absurd cc

pub chosen_second : {A : Type 0} (b : Bool) (r p q : A) → b ≡ false → r ≡ q → r ≡ cond b p q
chosen_second true r p q is e = absurd cc
chosen_second false r p q is e = e
