-- A ring keeps the last of all notices.
use Rattle.std.proofs.Common.{◌≡◌, ℕ, Bool, true, false, cond, List, ◌∷◌, take, zero, suc, arith, refl, sym, ap, ◌∙◌, subst, Option}
use Rattle.std.proofs.lemmas.List.{take-take}
use Rattle.ptp_base.specs.declared.limits.TheConstants.{NOTICES_MAX}
use Rattle.ptp_profile.specs.declared.roles.Notice.{Notice}
use Rattle.notify.specs.RingView.{RingView, RingState, RingRepresents, is_subscribed, with_notice, after_post}

-- one more notice is kept, and the last of all with it
take-pushed : (n : ℕ) (x : Notice) (xs all : List Notice) → xs ≡ take n all → take n (x ∷ xs) ≡ take n (x ∷ all)
take-pushed zero x xs all is = refl
take-pushed (suc n) x xs all is = ap (λ (zs : List Notice). x ∷ zs) (ap (take n) is ∙ take-take n (suc n) all (omega arith))

-- the ring stands for one notice more, or for the same
pushed : (b : Bool) (notice : Notice) (ring : RingView) (state : RingState) → RingRepresents ring state
    → RingRepresents (cond b (with_notice notice ring) ring) (cond b (record state { notices = notice ∷ state.notices }) state)
pushed true notice ring state is = record {
  until = is.until;
  notices = take-pushed NOTICES_MAX notice ring.notices state.notices is.notices;
  put = let put = is.put in omega (arith, put);
}
pushed false notice ring state is = is

-- after a post the ring stands for all notices after it
pub post-represents : (at : ℕ) (notice : Notice) (ring new : RingView) (posted : Bool) (state : RingState) → RingRepresents ring state
    → posted ≡ is_subscribed ring.until at → new ≡ cond posted (with_notice notice ring) ring → RingRepresents new (after_post at notice state)
post-represents at notice ring new posted state is answer exact =
    let told : posted ≡ is_subscribed state.until at = answer ∙ ap (λ (u : Option ℕ). is_subscribed u at) is.until in
    subst (λ (r : RingView). RingRepresents r (after_post at notice state)) (sym exact)
    (subst (λ (b : Bool). RingRepresents (cond posted (with_notice notice ring) ring) (cond b (record state { notices = notice ∷ state.notices }) state)) told
    (pushed posted notice ring state is))
