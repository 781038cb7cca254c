-- Followers along a history: an entry puts one notice more for each at most, and the turn of a follower takes all of its own.
use Rattle.std.proofs.Common.{◌≡◌, ℕ, zero, suc, ◌+◌, ◌≤◌, Bool, true, false, cond, List, [], ◌∷◌, length, refl, ap, ◌∙◌, arith}
use Rattle.std.specs.Prelude.{nat_le, replicate, ◌==◌}
use Rattle.std.proofs.lemmas.List.{length-replicate}
use Rattle.bc_history.specs.declared.entry.Entry.{Entry}
use Rattle.bc_history.specs.declared.entry.Input.{Input}
use Rattle.bc_history.specs.declared.entry.Input.TheVariants.{Frame, Timed, Down, Up, Report, Turn, Sampled, Query}
use Rattle.bc_history.specs.declared.scenario.Options.{Options}
use Rattle.bc_history.specs.declared.scenario.Scenario.{Scenario}
use Rattle.ptp_profile.specs.declared.roles.Notice.{Notice}
use Rattle.bc_history.specs.Phases.Inputs.{changed_at, event_of, holds}
use Rattle.bc_history.specs.Phases.NoticePhase.{after_notices, after_posting_from, after_turn, notice_for, with_notice}
use Rattle.bc_history.specs.Phases.OpeningState.{follower_count, open_follower}
use Rattle.bc_history.specs.Phases.State.{Core, Follower, Roles, Subscription}
use Rattle.bc_history.specs.Phases.Step.{core_after, followers_between, roles_after, state_of, step}
use Rattle.bc_history.proofs.lemmas.CoreInvariantLemmas.{length-changed_at}

-- at most so many notices were put for each follower since its last turn
abbrev pub FewWait : ℕ → List Follower → Type 0
FewWait k [] = Unit {0}
FewWait k (f ∷ fs) = (f.put ≤ k) × FewWait k fs

few-opened : (n : ℕ) → FewWait 0 (replicate n open_follower)
few-opened zero = tt
few-opened (suc n) = (omega arith, few-opened n)

few-more : (k : ℕ) (fs : List Follower) → FewWait k fs → FewWait (k + 1) fs
few-more k [] few = tt
few-more k (f ∷ fs) few = (omega (arith, few.0), few-more k fs few.1)

put-by : (k : ℕ) (b : Bool) (notice : Notice) (f : Follower) → f.put ≤ k → (cond b (with_notice notice f) f).put ≤ k + 1
put-by k true notice f few = omega (arith, few)
put-by k false notice f few = omega (arith, few)

few-posted : (k : ℕ) (o : Options) (c : Core) (r : Roles) (clock : ℕ) (fs : List Follower) → FewWait k fs → FewWait (k + 1) (after_posting_from o c r clock fs)
few-posted k o c r clock [] few = tt
few-posted k o c r clock (f ∷ fs) few = (
  put-by k (holds (λ (last : Subscription). nat_le c.moment (last.moment + o.subscribe_duration)) f.subscribed) (notice_for c r clock) f few.0,
  few-posted k o c r (clock + 1) fs few.1,
)

few-by : (k : ℕ) (same : Bool) (o : Options) (c : Core) (r : Roles) (fs : List Follower) → FewWait k fs → FewWait (k + 1) (cond same fs (after_posting_from o c r 0 fs))
few-by k true o c r fs few = few-more k fs few
few-by k false o c r fs few = few-posted k o c r 0 fs few

-- after a generation that begins
few-noticed : (k : ℕ) (o : Options) (c : Core) (before r : Roles) (fs : List Follower) → FewWait k fs → FewWait (k + 1) (after_notices o c before r fs)
few-noticed k o c before r fs few = few-by k (before.gener == r.gener) o c r fs few

few-changed : (k : ℕ) (change : Follower → Follower) (i : ℕ) (fs : List Follower) → ((f : Follower) → f.put ≤ k → (change f).put ≤ k) → FewWait k fs → FewWait k (changed_at change i fs)
few-changed k change i [] kept few = tt
few-changed k change zero (f ∷ fs) kept few = (kept f few.0, few.1)
few-changed k change (suc i) (f ∷ fs) kept few = (few.0, few-changed k change i fs kept few.1)

-- after the entry's own part
few-turned : (k : ℕ) (o : Options) (c : Core) (r : Roles) (input : Input) (fs : List Follower) → FewWait k fs → FewWait k (after_turn o c r input fs)
unfolding after_turn
few-turned k o c r (Turn clock tick) fs few = few-changed k _ clock fs (λ f was. omega arith) few
few-turned k o c r (Sampled clock tick lead theirs own action outcome) fs few = few-changed k _ clock fs (λ f was. was) few
few-turned k o c r (Frame port tick octets) fs few = few
few-turned k o c r (Timed port tick timer) fs few = few
few-turned k o c r (Down port tick) fs few = few
few-turned k o c r (Up port tick) fs few = few
few-turned k o c r (Report port tick gener action outcome) fs few = few
few-turned k o c r (Query tick text) fs few = few

-- no more notices wait for a follower than there are entries
pub few-wait : (s : Scenario) (entries : List Entry) → FewWait (length entries) (state_of s entries).followers
unfolding state_of step
few-wait s [] = few-opened (follower_count s)
few-wait s (e ∷ before) =
    let h = state_of s before in
    let o = s.options in
    let ev = event_of e in
    let more : length before + 1 ≡ suc (length before) = omega arith in
    rw (← more) (few-turned (length before + 1) o (core_after o h ev) (roles_after o h ev) e.input (followers_between o h ev)
    (few-noticed (length before) o (core_after o h ev) h.roles (roles_after o h ev) h.followers (few-wait s before)))

-- ---- how many followers there are

posted-length : (o : Options) (c : Core) (r : Roles) (clock : ℕ) (fs : List Follower) → length (after_posting_from o c r clock fs) ≡ length fs
posted-length o c r clock [] = refl
posted-length o c r clock (f ∷ fs) = ap suc (posted-length o c r (clock + 1) fs)

length-by : (same : Bool) (o : Options) (c : Core) (r : Roles) (fs : List Follower) → length (cond same fs (after_posting_from o c r 0 fs)) ≡ length fs
length-by true o c r fs = refl
length-by false o c r fs = posted-length o c r 0 fs

noticed-length : (o : Options) (c : Core) (before r : Roles) (fs : List Follower) → length (after_notices o c before r fs) ≡ length fs
noticed-length o c before r fs = length-by (before.gener == r.gener) o c r fs

turned-length : (o : Options) (c : Core) (r : Roles) (input : Input) (fs : List Follower) → length (after_turn o c r input fs) ≡ length fs
unfolding after_turn
turned-length o c r (Turn clock tick) fs = length-changed_at _ clock fs
turned-length o c r (Sampled clock tick lead theirs own action outcome) fs = length-changed_at _ clock fs
turned-length o c r (Frame port tick octets) fs = refl
turned-length o c r (Timed port tick timer) fs = refl
turned-length o c r (Down port tick) fs = refl
turned-length o c r (Up port tick) fs = refl
turned-length o c r (Report port tick gener action outcome) fs = refl
turned-length o c r (Query tick text) fs = refl

-- there are as many followers as at first
pub followers-length : (s : Scenario) (entries : List Entry) → length (state_of s entries).followers ≡ follower_count s
unfolding state_of step
followers-length s [] = length-replicate (follower_count s) open_follower
followers-length s (e ∷ before) =
    let h = state_of s before in
    let o = s.options in
    let ev = event_of e in
    turned-length o (core_after o h ev) (roles_after o h ev) e.input (followers_between o h ev)
    ∙ noticed-length o (core_after o h ev) h.roles (roles_after o h ev) h.followers ∙ followers-length s before

-- no more than there are clocks
pub followers-few : (s : Scenario) → follower_count s ≤ length s.clocks
followers-few s = by (nat_le 2 (length s.clocks))
  where
    by : (two : Bool) → cond two (length s.clocks) 0 ≤ length s.clocks
    by true = omega arith
    by false = omega arith
