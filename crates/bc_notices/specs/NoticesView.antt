-- What contracts see of all followers, beside what a history gives (project).
use Rattle.std.specs.Prelude.{◌≡◌, ℕ, max, List, [], ◌∷◌, map}
use Rattle.std.specs.List.{range_with_len}
use Rattle.ptp_profile.specs.declared.roles.Notice.{Notice}
use Rattle.bc_history.specs.declared.scenario.Options.{Options}
use Rattle.bc_history.specs.Phases.NoticePhase.{notice_for}
use Rattle.bc_history.specs.Phases.State.{Core, Follower as HistoryFollower, Roles}
use Rattle.bc_notices.specs.declared.follower.Follower.{Follower}
use Rattle.bc_notices.specs.declared.follower.Terms.{Terms}
use Rattle.bc_notices.specs.FollowerView.{FollowerRepresents, terms_of}

-- the terms of all subscriptions, and the followers by rising clock
pub record NoticesView : Type 0 where
  pub terms : Terms
  pub followers : List Follower

-- each follower stands for the history's, in rising clock
abbrev pub FollowersRepresent : Options → List Follower → List HistoryFollower → Type 0
FollowersRepresent o [] [] = Unit {0}
FollowersRepresent o (code ∷ codes) (f ∷ fs) =
    FollowerRepresents o code f × FollowersRepresent o codes fs
FollowersRepresent o [] (f ∷ fs) = ⊥
FollowersRepresent o (code ∷ codes) [] = ⊥

-- the terms are those of the options, and the followers are the history's
pub record NoticesRepresent (o : Options) (n : NoticesView) (fs : List HistoryFollower) : Type 0 where
  pub terms : n.terms ≡ terms_of o
  pub followers : FollowersRepresent o n.followers fs

-- the most notices that one of the followers has waiting, counted since its last turn
abbrev pub most_put : List Follower → ℕ
most_put [] = 0
most_put (code ∷ codes) = max code.ring.put (most_put codes)

-- the notices of the present generation to so many followers
abbrev pub notices_for : Core → Roles → ℕ → List Notice
notices_for c r count = map (notice_for c r) (range_with_len 0 count)
