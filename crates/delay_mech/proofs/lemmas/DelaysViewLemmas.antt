-- The last of all delays, with one more of them.
use Rattle.std.proofs.Common.{◌≡◌, ℕ, ℤ, ◌+◌, ◌≤◌, List, [], ◌∷◌, length, take, zero, suc, arith, refl, sym, ap, ◌∙◌, subst, All, Option, Some, None, ◌<◌, ◌++◌, ◌⊎◌, get_or, set, slice_get, inl, inr}
use Rattle.std.proofs.lemmas.List.{take-take, take_more, take_more_set}
use Rattle.std.proofs.lemmas.Option.{slice_get_cases}
use Rattle.std.proofs.lemmas.List.Elements.{All-cons, All-take}
use mir.Syntax.{w128}
use mir.Val.{to_z, of_z}
use Rattle.circular_buffer.specs.Buffer.{Buffer, buffer}
use Rattle.ptp_base.specs.declared.triple.Triple.{Triple}
use Rattle.ptp_profile.specs.Timing.OffsetAndDelay.{Request, with_delay, delay_of}
use Rattle.delay_mech.proofs.lemmas.DelaySumLemmas.{far_is}
use Rattle.delay_mech.specs.DelaysView.{IsDelay, IsSound, DelaysView, DelaysRepresent, after_response}

take_pushed : (n : ℕ) (x : ℤ) (xs all : List ℤ) → xs ≡ take n all → take n (x ∷ xs) ≡ take n (x ∷ all)
take_pushed zero x xs all is = refl
take_pushed (suc n) x xs all is = ap (λ (zs : List ℤ). x ∷ zs) (ap (take n) is ∙ take-take n (suc n) all (omega arith))

-- a delay more leaves the delays sound
pub sound_pushed : (n places : ℕ) (t : Option Triple) (x : ℤ) (xs : List ℤ) (b : Buffer ℤ) →
    IsSound n t xs places → IsDelay x → b ≡ buffer (take places (x ∷ xs)) places → IsSound n t b.items b.capacity
sound_pushed n places t x xs b sound one is =
    subst (λ (z : Buffer ℤ). IsSound n t z.items z.capacity) (sym is)
    (record {
      some = sound.some;
      few = sound.few;
      reserved = sound.reserved;
      last = subst (λ k. take places (x ∷ xs) ≡ take k (take places (x ∷ xs))) sound.reserved (sym (take-take places places (x ∷ xs) (omega arith)));
      corrections = sound.corrections;
      small = All-take IsDelay places (x ∷ xs) (All-cons IsDelay x xs one sound.small);
    })

more : (n : ℕ) (t : Option Triple) (request : Request) (received correction : ℤ) (xs all : List ℤ) → xs ≡ take n all →
    take n (with_delay t (Some request) received correction xs) ≡ take n (with_delay t (Some request) received correction all)
more n None request received correction xs all is = ap (take n) is ∙ take-take n n all (omega arith)
more n (Some t) request received correction xs all is = take_pushed n (delay_of t request.sent received correction) xs all is

nothing_more : (t : Option Triple) (received correction : ℤ) (all : List ℤ) → with_delay t None received correction all ≡ all
nothing_more None received correction all = refl
nothing_more (Some t) received correction all = refl

pub DelaysRepresent-after : (view : DelaysView) (request : Option Request) (received correction : ℤ) (all : List ℤ) → DelaysRepresent view all →
    DelaysRepresent (after_response view request received correction) (with_delay view.triple request received correction all)
DelaysRepresent-after view None received correction all is = is ∙ sym (ap (take view.length) (nothing_more view.triple received correction all))
DelaysRepresent-after view (Some request) received correction all is = more view.length view.triple request received correction view.delays all is

-- the same of what is equal to what is DelaysRepresent-equal then
pub DelaysRepresent-equal : (m n : DelaysView) (request : Option Request) (received correction : ℤ) (all : List ℤ) → DelaysRepresent m all →
    n ≡ after_response m request received correction → DelaysRepresent n (with_delay m.triple request received correction all)
DelaysRepresent-equal m n request received correction all is same =
    subst (λ (x : DelaysView). DelaysRepresent x (with_delay m.triple request received correction all)) (sym same) (DelaysRepresent-after m request received correction all is)

abbrev There : List ℤ → ℕ → Type 0
There xs i = (((y : ℤ) × (i < length xs) × (slice_get xs i ≡ Some y) × (get_or xs i y ≡ y)) ⊎ ((length xs ≤ i) × (slice_get xs i ≡ None)))

same_value : (x y : ℤ) → Some x ≡ Some y → x ≡ y
same_value x y is = grind arith

none_is_some : (x : ℤ) (o : Option ℤ) → o ≡ Some x → o ≡ None → ⊥
none_is_some x o is none = grind arith

-- one delay more is copied
pub copied : (numbers xs new : List ℤ) (i : ℕ) (x : ℤ) → i < length numbers → All IsDelay xs → slice_get xs i ≡ Some x → take i numbers ≡ take i xs →
    new ≡ set numbers i (to_z w128 (of_z w128 x)) → take (i + 1) new ≡ take (i + 1) xs
copied numbers xs new i x lt all at same is = from_cases ((slice_get_cases xs i).1)
  where
    from_cases : There xs i → take (i + 1) new ≡ take (i + 1) xs
    from_cases (inl (y, h, found, here)) =
        let one : x ≡ y = same_value x y (sym at ∙ found) in
        let small : IsDelay y = subst (λ z. IsDelay z) here (all i y h) in
        let kept : to_z w128 (of_z w128 x) ≡ y = ap (λ z. to_z w128 (of_z w128 z)) one ∙ far_is y small in
        ap (take (i + 1)) is ∙ take_more_set numbers i (to_z w128 (of_z w128 x)) lt ∙ ap (λ (zs : List ℤ). zs ++ to_z w128 (of_z w128 x) ∷ []) same
        ∙ ap (λ (z : ℤ). take i xs ++ z ∷ []) (kept ∙ sym here) ∙ sym (take_more xs i y h)
    from_cases (inr (h, none)) = absurd (none_is_some x (slice_get xs i) at none)

-- there is a delay at each index
pub none_there : (xs : List ℤ) (i : ℕ) → i < length xs → slice_get xs i ≡ None → ⊥
none_there xs i h none = from_cases ((slice_get_cases xs i).1)
  where
    from_cases : There xs i → ⊥
    from_cases (inl (y, lt, found, here)) = none_is_some y (slice_get xs i) found none
    from_cases (inr (ge, gone)) = omega (arith, h, ge)

-- the copies are delays
pub small_copied : (n : ℕ) (numbers xs : List ℤ) → All IsDelay xs → take n numbers ≡ take n xs → All IsDelay (take n numbers)
small_copied n numbers xs all same = subst (λ (zs : List ℤ). All IsDelay zs) (sym same) (All-take IsDelay n xs all)
