-- Ports that take what they hear, one after another.
use Rattle.std.proofs.Common.{◌≡◌, ℕ, zero, suc, ◌<◌, List, [], ◌∷◌, ◌++◌, take, drop, length, get_or, set, refl, sym, ap, arith, Option, Some, None}
use Rattle.std.specs.Prelude.{slice_get, option_map}
use Rattle.ptp_base.specs.declared.announcement.Announcement.{Announcement}
use Rattle.ptp_profile.specs.declared.port_best.PortBest.{PortBest}
use Rattle.ptp_profile.specs.Best.StateDecision.{bests_of}

-- the first so many have what they hear, the others what they had
abbrev pub set_so_far : ℕ → (heard had : List PortBest) → List PortBest
set_so_far i heard had = take i heard ++ drop i had

pub set-next : (heard had : List PortBest) (i : ℕ) (d : PortBest) → i < length heard → length heard ≡ length had
    → set (set_so_far i heard had) i (get_or heard i d) ≡ set_so_far (suc i) heard had
set-next [] had i d lt same = absurd (omega (arith, lt))
set-next (x ∷ xs) [] i d lt same = absurd (omega (arith, same))
set-next (x ∷ xs) (y ∷ ys) zero d lt same = refl
set-next (x ∷ xs) (y ∷ ys) (suc i) d lt same = ap (λ (zs : List PortBest). x ∷ zs) (set-next xs ys i d (omega (arith, lt)) (omega (arith, same)))

-- the first of the bests
abbrev first_best : List (Option Announcement) → Option Announcement
first_best [] = None
first_best (b ∷ bests) = b

abbrev later_bests : List (Option Announcement) → List (Option Announcement)
later_bests [] = []
later_bests (b ∷ bests) = bests

-- where all hear what they heard, so does the next one
pub next-hears : (heard had : List PortBest) (i : ℕ) (d : PortBest) → i < length heard → bests_of heard ≡ bests_of had → length heard ≡ length had
    → option_map (λ (port : PortBest). port.best) (slice_get (set_so_far i heard had) i) ≡ Some (get_or heard i d).best
next-hears [] had i d lt bests same = absurd (omega (arith, lt))
next-hears (x ∷ xs) [] i d lt bests same = absurd (omega (arith, same))
next-hears (x ∷ xs) (y ∷ ys) zero d lt bests same = ap (λ (bs : List (Option Announcement)). Some (first_best bs)) (sym bests)
next-hears (x ∷ xs) (y ∷ ys) (suc i) d lt bests same = next-hears xs ys i d (omega (arith, lt)) (ap later_bests bests) (omega (arith, same))

pub so-far-length : (heard had : List PortBest) (i : ℕ) → length heard ≡ length had → length (set_so_far i heard had) ≡ length heard
so-far-length heard had zero same = sym same
so-far-length [] had (suc i) same = by had same
  where
    by : (ys : List PortBest) → 0 ≡ length ys → length (drop (suc i) ys) ≡ 0
    by [] none = refl
    by (y ∷ ys) none = absurd (omega (arith, none))
so-far-length (x ∷ xs) [] (suc i) same = absurd (omega (arith, same))
so-far-length (x ∷ xs) (y ∷ ys) (suc i) same = ap suc (so-far-length xs ys i (omega (arith, same)))

-- all have
pub set-all : (heard had : List PortBest) → length heard ≡ length had → set_so_far (length heard) heard had ≡ heard
set-all [] [] same = refl
set-all [] (y ∷ ys) same = absurd (omega (arith, same))
set-all (x ∷ xs) [] same = absurd (omega (arith, same))
set-all (x ∷ xs) (y ∷ ys) same = ap (λ (zs : List PortBest). x ∷ zs) (set-all xs ys (omega (arith, same)))
