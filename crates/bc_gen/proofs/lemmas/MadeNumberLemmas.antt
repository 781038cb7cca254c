-- A loop that goes from number to number.
use Rattle.std.proofs.Common.{◌≡◌, ℕ, ℤ, suc, ◌+◌, List, ◌++◌, refl, ap, ◌∙◌}
use Rattle.bc_gen.specs.MadeNumbers.{following, number, drawn_from, drift_from, delay_from}
use Rattle.bc_gen.specs.MadeRecords.{records_of}
use Rattle.bc_gen.specs.MadeText.{clock_section, clock_text, record_lines, master_text}

-- behind number k stands number k + 1
pub next : (n k m x y : ℕ) → x ≡ number n k → y ≡ following x → m ≡ suc k → y ≡ number n m
unfolding number
next n k m x y is following_is one_more = rw one_more (following_is ∙ ap following is)

-- the section of a clock whose drift its number gives
pub clock_added : (n c x : ℕ) (drift : ℤ) (out new : List ℕ) → x ≡ number n (c + 1) → drift ≡ drift_from (drawn_from x) → new ≡ out ++ clock_section c drift → new ≡ out ++ clock_text n c
clock_added n c x drift out new is drift_is added =
    added ∙ ap (λ (d : ℤ). out ++ clock_section c d) (drift_is ∙ ap (λ (y : ℕ). drift_from (drawn_from y)) is)

-- number 0 is the scenario's own
pub first_number : (n : ℕ) → n ≡ number n 0
unfolding number
first_number n = refl

-- the records of a master whose delay its number gives
pub master_added : (n e x delay : ℕ) (out new : List ℕ) → x ≡ number n (17 + e) → delay ≡ delay_from (drawn_from x) → new ≡ out ++ record_lines (records_of e delay) → new ≡ out ++ master_text n e
master_added n e x delay out new is delay_is added =
    added ∙ ap (λ (d : ℕ). out ++ record_lines (records_of e d)) (delay_is ∙ ap (λ (y : ℕ). delay_from (drawn_from y)) is)
