-- The sum of both ways less both corrections, and the floor of half of it.
use Rattle.std.proofs.Common.{◌≡◌, ℕ, ◌+◌, ◌≤◌, ℤ, pos, negsuc, ◌^◌, ◌+ℤ◌, ◌-ℤ◌, ◌*ℤ◌, arith, ap, sym, subst, ◌∙◌}
use Rattle.std.proofs.lemmas.Int.{ints}
use mir.Syntax.{w64, w128}
use mir.Val.{SFits, to_z, of_z}
use Rattle.ptp_base.specs.declared.triple.Triple.{Triple}
use Rattle.ptp_base.specs.Floor.{IsWithin, floor_of}
use Rattle.ptp_profile.specs.Timing.OffsetAndDelay.{delay_sum}

-- a number so small is kept in 128 bits
pub wide_is : (z : ℤ) → IsWithin (pos (2 ^ 84)) z → to_z w128 (of_z w128 z) ≡ z
wide_is z h = let low = h.0 in let high = h.1 in omega (arith, ints, low, high)

pub wide_fits : (z : ℤ) → IsWithin (pos (2 ^ 84)) z → SFits w128 z
wide_fits (pos k) h = record { sfits = omega (arith, ints, h) }
wide_fits (negsuc k) h = record { sfits = omega (arith, ints, h) }

-- sums and differences of small numbers
plus_within : (a b : ℤ) → IsWithin (pos (2 ^ 80)) a → IsWithin (pos (2 ^ 80)) b → IsWithin (pos (2 ^ 81)) (a +ℤ b)
plus_within a b h k = let al = h.0 in let ah = h.1 in let bl = k.0 in let bh = k.1 in (omega (arith, ints, al, bl), omega (arith, ints, ah, bh))

pub minus_within : (m n k : ℕ) (a b : ℤ) → m + n ≤ k → IsWithin (pos m) a → IsWithin (pos n) b → IsWithin (pos k) (a -ℤ b)
minus_within m n k a b le h l = let al = h.0 in let ah = h.1 in let bl = l.0 in let bh = l.1 in (omega (arith, ints, le, al, bh), omega (arith, ints, le, ah, bl))

pub within_more : (m n : ℕ) (a : ℤ) → m ≤ n → IsWithin (pos m) a → IsWithin (pos n) a
within_more m n a le h = let low = h.0 in let high = h.1 in (omega (arith, ints, le, low), omega (arith, ints, le, high))

-- the word of 128 bits that keeps a number
abbrev pub kept : ℤ → ℤ
kept z = to_z w128 (of_z w128 z)

pub sum_within : (there back c d : ℤ) → IsWithin (pos (2 ^ 80)) there → IsWithin (pos (2 ^ 80)) back → IsWithin (pos (2 ^ 64)) c → IsWithin (pos (2 ^ 64)) d →
    IsWithin (pos (2 ^ 82)) (((there +ℤ back) -ℤ c) -ℤ d)
sum_within there back c d th bk ch dh =
    minus_within (2 ^ 81 + 2 ^ 64) (2 ^ 64) (2 ^ 82) _ d (omega arith) (minus_within (2 ^ 81) (2 ^ 64) (2 ^ 81 + 2 ^ 64) _ c (omega arith) (plus_within there back th bk) ch) dh

pub last_is : (there back c d : ℤ) → IsWithin (pos (2 ^ 80)) there → IsWithin (pos (2 ^ 80)) back → IsWithin (pos (2 ^ 64)) c → IsWithin (pos (2 ^ 64)) d →
    kept (kept (kept there +ℤ kept back) -ℤ kept c) -ℤ kept d ≡ ((there +ℤ back) -ℤ c) -ℤ d
last_is there back c d th bk ch dh =
    let a = wide_is there (within_more (2 ^ 80) (2 ^ 84) there (omega arith) th) in
    let b = wide_is back (within_more (2 ^ 80) (2 ^ 84) back (omega arith) bk) in
    let e = wide_is c (within_more (2 ^ 64) (2 ^ 84) c (omega arith) ch) in
    let f = wide_is d (within_more (2 ^ 64) (2 ^ 84) d (omega arith) dh) in
    let sum = plus_within there back th bk in
    (λ i. kept (kept (a i +ℤ b i) -ℤ e i) -ℤ f i)
    ∙ ap (λ z. kept (z -ℤ c) -ℤ d) (wide_is (there +ℤ back) (within_more (2 ^ 81) (2 ^ 84) _ (omega arith) sum))
    ∙ ap (λ z. z -ℤ d) (wide_is ((there +ℤ back) -ℤ c) (minus_within (2 ^ 81) (2 ^ 64) (2 ^ 84) _ c (omega arith) sum ch))

pub sum_is : (t : Triple) (sent received c there back : ℤ) → there ≡ (t.arrived -ℤ sent) *ℤ pos 65536 → back ≡ (received -ℤ t.origin) *ℤ pos 65536 →
    ((there +ℤ back) -ℤ t.correction) -ℤ c ≡ delay_sum t sent received c
sum_is t sent received c there back p q = omega (arith, ints, p, q)

pub within_64 : (c : ℤ) → SFits w64 c → IsWithin (pos (2 ^ 64)) c
within_64 c fits = (omega (arith, ints, fits), omega (arith, ints, fits))

pub far_is : (z : ℤ) → IsWithin (pos (2 ^ 82)) z → to_z w128 (of_z w128 z) ≡ z
far_is z h = let low = h.0 in let high = h.1 in omega (arith, ints, low, high)

pub far_within : (z : ℤ) → IsWithin (pos (2 ^ 82)) z → IsWithin (pos (2 ^ 82)) (to_z w128 (of_z w128 z))
far_within z h = subst (λ y. IsWithin (pos (2 ^ 82)) y) (sym (far_is z h)) h

halved : (sum : ℤ) → IsWithin (pos (2 ^ 82)) sum → IsWithin (pos (2 ^ 82)) (floor_of sum (pos 2))
halved (pos a) s = let high = s.1 in (omega (arith, ints), omega (arith, ints, high))
halved (negsuc a) s = let low = s.0 in (omega (arith, ints, low), omega (arith, ints))

pub half_within : (sum half : ℤ) → IsWithin (pos (2 ^ 82)) sum → half ≡ floor_of sum (pos 2) → IsWithin (pos (2 ^ 82)) half
half_within sum half s h = subst (λ y. IsWithin (pos (2 ^ 82)) y) (sym h) (halved sum s)
