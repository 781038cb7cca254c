-- All followers, one after another.
use Rattle.std.proofs.Common.{◌≡◌, ℕ, zero, suc, ◌+◌, ◌<◌, ◌≤◌, max, List, [], ◌∷◌, ◌++◌, length, map, drop, take, get_or, set, refl, sym, ap, ◌∙◌, subst, arith, Option, Some, None}
use Rattle.std.specs.Prelude.{replicate, slice_get}
use Rattle.std.specs.List.{range_with_len}
use Rattle.ptp_profile.specs.declared.roles.Notice.{Notice}
use Rattle.ptp_profile.specs.declared.roles.Lead.{Lead}
use Rattle.ptp_profile.specs.declared.timing.Action.{Action}
use Rattle.bc_history.specs.declared.entry.Input.TheVariants.{Sampled}
use Rattle.bc_history.specs.declared.entry.Outcome.{Outcome}
use Rattle.bc_history.specs.declared.entry.Seen.{Seen}
use Rattle.bc_history.specs.declared.scenario.Options.{Options}
use Rattle.bc_history.specs.Phases.Inputs.{changed_at}
use Rattle.bc_history.specs.Phases.NoticePhase.{after_posting, after_posting_from, after_turn, notice_for}
use Rattle.bc_history.specs.Phases.OpeningState.{open_follower}
use Rattle.bc_history.specs.Phases.State.{Core, Follower as HistoryFollower, Roles}
use Rattle.bc_history.proofs.lemmas.FollowerLemmas.{FewWait}
use Rattle.bc_notices.specs.declared.follower.Follower.{Follower}
use Rattle.bc_notices.specs.FollowerView.{FollowerRepresents}
use Rattle.bc_notices.specs.NoticesView.{FollowersRepresent, NoticesRepresent, NoticesView, most_put}

pub FollowersRepresent-length : (o : Options) (codes : List Follower) (fs : List HistoryFollower) → FollowersRepresent o codes fs → length codes ≡ length fs
FollowersRepresent-length o [] [] all = refl
FollowersRepresent-length o [] (f ∷ fs) all = absurd all
FollowersRepresent-length o (code ∷ codes) [] all = absurd all
FollowersRepresent-length o (code ∷ codes) (f ∷ fs) all = ap suc (FollowersRepresent-length o codes fs all.1)

-- one more follower at the end
pub FollowersRepresent-push : (o : Options) (codes : List Follower) (fs : List HistoryFollower) (code : Follower) (f : HistoryFollower)
    → FollowersRepresent o codes fs → FollowerRepresents o code f → FollowersRepresent o (codes ++ code ∷ []) (fs ++ f ∷ [])
FollowersRepresent-push o [] [] code f all one = (one, tt)
FollowersRepresent-push o [] (g ∷ fs) code f all one = absurd all
FollowersRepresent-push o (d ∷ codes) [] code f all one = absurd all
FollowersRepresent-push o (d ∷ codes) (g ∷ fs) code f all one = (all.0, FollowersRepresent-push o codes fs code f all.1 one)

-- the same element once more
pub replicate-push : (n : ℕ) (f : HistoryFollower) → replicate (suc n) f ≡ replicate n f ++ f ∷ []
replicate-push zero f = refl
replicate-push (suc n) f = ap (λ (fs : List HistoryFollower). f ∷ fs) (replicate-push n f)

-- the follower at an index
pub FollowersRepresent-get : (o : Options) (codes : List Follower) (fs : List HistoryFollower) (i : ℕ) (code : Follower)
    → FollowersRepresent o codes fs → i < length codes → code ≡ get_or codes i code
    → (f : HistoryFollower) × (slice_get fs i ≡ Some f) × FollowerRepresents o code f
FollowersRepresent-get o [] fs i code all lt is = absurd (omega arith)
FollowersRepresent-get o (d ∷ codes) [] i code all lt is = absurd all
FollowersRepresent-get o (d ∷ codes) (f ∷ fs) zero code all lt is = (f, refl, rw is all.0)
FollowersRepresent-get o (d ∷ codes) (f ∷ fs) (suc i) code all lt is = FollowersRepresent-get o codes fs i code all.1 (omega arith) is

-- the follower at an index is changed
pub FollowersRepresent-at : (o : Options) (codes : List Follower) (fs : List HistoryFollower) (i : ℕ) (code new : Follower) (change : HistoryFollower → HistoryFollower)
    → FollowersRepresent o codes fs → i < length codes → code ≡ get_or codes i code
    → ((f : HistoryFollower) → FollowerRepresents o code f → FollowerRepresents o new (change f))
    → FollowersRepresent o (set codes i new) (changed_at change i fs)
FollowersRepresent-at o [] fs i code new change all lt is made = absurd (omega arith)
FollowersRepresent-at o (d ∷ codes) [] i code new change all lt is made = absurd all
FollowersRepresent-at o (d ∷ codes) (f ∷ fs) zero code new change all lt is made = (made f (rw is all.0), all.1)
FollowersRepresent-at o (d ∷ codes) (f ∷ fs) (suc i) code new change all lt is made =
    (all.0, FollowersRepresent-at o codes fs i code new change all.1 (omega arith) is made)

-- a change that the code does not see
pub FollowersRepresent-changed : (o : Options) (codes : List Follower) (fs : List HistoryFollower) (i : ℕ) (change : HistoryFollower → HistoryFollower)
    → ((code : Follower) (f : HistoryFollower) → FollowerRepresents o code f → FollowerRepresents o code (change f))
    → FollowersRepresent o codes fs → FollowersRepresent o codes (changed_at change i fs)
FollowersRepresent-changed o [] [] i change kept all = tt
FollowersRepresent-changed o [] (f ∷ fs) i change kept all = absurd all
FollowersRepresent-changed o (code ∷ codes) [] i change kept all = absurd all
FollowersRepresent-changed o (code ∷ codes) (f ∷ fs) zero change kept all = (kept code f all.0, all.1)
FollowersRepresent-changed o (code ∷ codes) (f ∷ fs) (suc i) change kept all = (all.0, FollowersRepresent-changed o codes fs i change kept all.1)

-- ---- notices for all

-- a notice for each of the first followers
abbrev pub posted : Options → ℕ → List Notice → List HistoryFollower → List HistoryFollower
posted o m [] fs = fs
posted o m (notice ∷ notices) [] = []
posted o m (notice ∷ notices) (f ∷ fs) = after_posting o m notice f ∷ posted o m notices fs

-- one more of them is told
pub FollowersRepresent-posted : (o : Options) (m : ℕ) (codes : List Follower) (fs : List HistoryFollower) (notices : List Notice) (i : ℕ) (code new : Follower) (none : Notice)
    → FollowersRepresent o codes (posted o m (take i notices) fs) → i < length codes → i < length notices → code ≡ get_or codes i code
    → ((f : HistoryFollower) → FollowerRepresents o code f → FollowerRepresents o new (after_posting o m (get_or notices i none) f))
    → FollowersRepresent o (set codes i new) (posted o m (take (suc i) notices) fs)
FollowersRepresent-posted o m [] fs notices i code new none all lt within is made = absurd (omega arith)
FollowersRepresent-posted o m (d ∷ codes) fs [] i code new none all lt within is made = absurd (omega arith)
FollowersRepresent-posted o m (d ∷ codes) [] (n ∷ notices) zero code new none all lt within is made = absurd all
FollowersRepresent-posted o m (d ∷ codes) [] (n ∷ notices) (suc i) code new none all lt within is made = absurd all
FollowersRepresent-posted o m (d ∷ codes) (f ∷ fs) (n ∷ notices) zero code new none all lt within is made = (made f (rw is all.0), all.1)
FollowersRepresent-posted o m (d ∷ codes) (f ∷ fs) (n ∷ notices) (suc i) code new none all lt within is made =
    (all.0, FollowersRepresent-posted o m codes fs notices i code new none all.1 (omega arith) (omega arith) is made)

-- the notices of a generation to all followers from a clock on
pub posted-from : (o : Options) (c : Core) (r : Roles) (k : ℕ) (fs : List HistoryFollower)
    → posted o c.moment (map (notice_for c r) (range_with_len k (length fs))) fs ≡ after_posting_from o c r k fs
posted-from o c r k [] = refl
posted-from o c r k (f ∷ fs) =
    ap (λ (gs : List HistoryFollower). after_posting o c.moment (notice_for c r k) f ∷ gs) (posted-from o c r (k + 1) fs)

-- ---- how many wait

pub most-get : (codes : List Follower) (i : ℕ) (code : Follower) → i < length codes → code ≡ get_or codes i code → code.ring.put ≤ most_put codes
most-get [] i code lt is = absurd (omega arith)
most-get (d ∷ codes) zero code lt is = let put = ap (λ (x : Follower). x.ring.put) is in omega (arith, put)
most-get (d ∷ codes) (suc i) code lt is = let rest = most-get codes i code (omega arith) is in omega (arith, rest)

pub most-set : (codes : List Follower) (i : ℕ) (new : Follower) (most : ℕ) → most_put codes ≤ most → new.ring.put ≤ most → most_put (set codes i new) ≤ most
most-set [] i new most all one = all
most-set (d ∷ codes) zero new most all one = omega (arith, all, one)
most-set (d ∷ codes) (suc i) new most all one =
    let rest = most-set codes i new most (omega (arith, all)) one in omega (arith, all, rest)

pub most-push : (codes : List Follower) (new : Follower) (most : ℕ) → most_put codes ≤ most → new.ring.put ≤ most → most_put (codes ++ new ∷ []) ≤ most
most-push [] new most all one = omega (arith, one)
most-push (d ∷ codes) new most all one =
    let rest = most-push codes new most (omega (arith, all)) one in omega (arith, all, rest)

-- the rest of a list is not changed before it
pub drop-set : (codes : List Follower) (i : ℕ) (new : Follower) → drop (suc i) (set codes i new) ≡ drop (suc i) codes
drop-set [] i new = refl
drop-set (d ∷ codes) zero new = refl
drop-set (d ∷ codes) (suc i) new = drop-set codes i new

-- what is found in the same rest is the same
pub get-dropped : (codes olds : List Follower) (i : ℕ) (code : Follower) → drop i codes ≡ drop i olds → i < length codes → i < length olds → code ≡ get_or codes i code → code ≡ get_or olds i code
get-dropped [] olds i code same lt there is = absurd (omega arith)
get-dropped (d ∷ codes) [] i code same lt there is = absurd (omega arith)
get-dropped (d ∷ codes) (e ∷ olds) zero code same lt there is = let first : d ≡ e = cc in is ∙ first
get-dropped (d ∷ codes) (e ∷ olds) (suc i) code same lt there is = get-dropped codes olds i code same (omega arith) (omega arith) is

-- so it waits as it did
pub still-waiting : (codes olds : List Follower) (i : ℕ) (code : Follower) → length codes ≡ length olds → drop i codes ≡ drop i olds → i < length codes → code ≡ get_or codes i code
    → code.ring.put ≤ most_put olds
still-waiting codes olds i code long same lt is =
    let there : i < length olds = omega (arith, lt, long) in
    most-get olds i code there (get-dropped codes olds i code same lt there is)

-- and the same beyond it
pub drop-next : (codes olds : List Follower) (i : ℕ) → length codes ≡ length olds → drop i codes ≡ drop i olds → drop (suc i) codes ≡ drop (suc i) olds
drop-next [] [] i long same = refl
drop-next [] (e ∷ olds) i long same = absurd (omega (arith, long))
drop-next (d ∷ codes) [] i long same = absurd (omega (arith, long))
drop-next (d ∷ codes) (e ∷ olds) zero long same = cc
drop-next (d ∷ codes) (e ∷ olds) (suc i) long same = drop-next codes olds i (omega (arith, long)) same

-- ---- along a history

-- no more wait for any follower than the history has put
pub most-few : (o : Options) (codes : List Follower) (fs : List HistoryFollower) (k : ℕ) → FollowersRepresent o codes fs → FewWait k fs → most_put codes ≤ k
most-few o [] [] k all few = omega arith
most-few o [] (f ∷ fs) k all few = absurd all
most-few o (code ∷ codes) [] k all few = absurd all
most-few o (code ∷ codes) (f ∷ fs) k all few =
    let rest = most-few o codes fs k all.1 few.1 in
    let put = all.0.put in
    omega (arith, rest, put, few.0)

-- a sample changes nothing that is kept
pub sampled : (o : Options) (c : Core) (r : Roles) (clock tick : ℕ) (lead : Lead) (theirs own : Seen) (action : Action) (outcome : Outcome) (n : NoticesView) (fs : List HistoryFollower)
    → NoticesRepresent o n fs → NoticesRepresent o n (after_turn o c r (Sampled clock tick lead theirs own action outcome) fs)
unfolding after_turn
sampled o c r clock tick lead theirs own action outcome n fs is = record {
  terms = is.terms;
  followers = FollowersRepresent-changed o n.followers fs clock _ (λ code f one. record { until = one.until; subscribed = one.subscribed; put = one.put; last = one.last }) is.followers;
}
