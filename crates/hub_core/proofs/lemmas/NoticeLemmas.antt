-- When notices are put, and what no turn changes.
use Rattle.std.proofs.Common.{◌≡◌, ◌≢◌, ℕ, Bool, cond, inl, inr, List, refl, sym, ap, None}
use Rattle.std.proofs.lemmas.Bool.Decides.{eqb_tells}
use Rattle.bc_history.specs.declared.entry.Input.{Input}
use Rattle.bc_history.specs.declared.entry.Input.TheVariants.{Frame, Timed, Down, Up, Report, Turn, Sampled, Query}
use Rattle.bc_history.specs.declared.scenario.Options.{Options}
use Rattle.bc_history.specs.Phases.EntryEffects.{told_by}
use Rattle.bc_history.specs.Phases.NoticePhase.{after_notices, after_posting_from, after_turn}
use Rattle.bc_history.specs.Phases.State.{Core, Follower, Roles}
use Rattle.bc_notices.specs.NoticesView.{NoticesRepresent, NoticesView}
use Rattle.bc_notices.proofs.lemmas.FollowersLemmas.{sampled}

-- where another generation is the present one, its notices are put
pub notices-put : (o : Options) (c : Core) (former r : Roles) (fs : List Follower) → former.gener ≢ r.gener → after_posting_from o c r 0 fs ≡ after_notices o c former r fs
notices-put o c former r fs other = elim (eqb_tells former.gener r.gener) [
  | inl same ↦ absurd (other same.1)
  | inr differ ↦ sym (ap (λ (b : Bool). cond b fs (after_posting_from o c r 0 fs)) differ.0)
]

-- else none
pub notices-kept : (o : Options) (c : Core) (former r : Roles) (fs : List Follower) → former.gener ≡ r.gener → fs ≡ after_notices o c former r fs
notices-kept o c former r fs same = elim (eqb_tells former.gener r.gener) [
  | inl equal ↦ sym (ap (λ (b : Bool). cond b fs (after_posting_from o c r 0 fs)) equal.0)
  | inr differ ↦ absurd (differ.1 same)
]

-- what is no turn is told nothing
pub untold : (o : Options) (c : Core) (r : Roles) (input : Input) (fs : List Follower) → ((clock tick : ℕ) → input ≢ Turn clock tick) → None ≡ told_by o c r input fs
untold o c r (Frame port tick octets) fs other = refl
untold o c r (Timed port tick timer) fs other = refl
untold o c r (Down port tick) fs other = refl
untold o c r (Up port tick) fs other = refl
untold o c r (Report port tick gener action outcome) fs other = refl
untold o c r (Turn clock tick) fs other = absurd (other clock tick refl)
untold o c r (Sampled clock tick lead theirs ours action outcome) fs other = refl
untold o c r (Query tick text) fs other = refl

-- and leaves what is kept
pub unturned : (o : Options) (c : Core) (r : Roles) (input : Input) (n : NoticesView) (fs : List Follower) → ((clock tick : ℕ) → input ≢ Turn clock tick) → NoticesRepresent o n fs
    → NoticesRepresent o n (after_turn o c r input fs)
unfolding after_turn
unturned o c r (Frame port tick octets) n fs other is = is
unturned o c r (Timed port tick timer) n fs other is = is
unturned o c r (Down port tick) n fs other is = is
unturned o c r (Up port tick) n fs other is = is
unturned o c r (Report port tick gener action outcome) n fs other is = is
unturned o c r (Turn clock tick) n fs other is = absurd (other clock tick refl)
unturned o c r (Sampled clock tick lead theirs ours action outcome) n fs other is = sampled o c r clock tick lead theirs ours action outcome n fs is
unturned o c r (Query tick text) n fs other is = is
