-- What is kept of a follower, beside what a history gives (project).
use Rattle.std.specs.Prelude.{◌≡◌, ℕ, ◌+◌, List, slice_get, Option, Some, None, option_map}
use Rattle.std.specs.Option.{option_and_then}
use Rattle.ptp_profile.specs.declared.roles.Lead.{Lead}
use Rattle.ptp_profile.specs.declared.roles.Notice.{Notice}
use Rattle.bc_history.specs.declared.scenario.Options.{Options}
use Rattle.bc_history.specs.Phases.State.{Follower as HistoryFollower, Subscription}
use Rattle.bc_notices.specs.declared.follower.Follower.{Follower}
use Rattle.bc_notices.specs.declared.follower.Terms.{Terms}

-- the terms of subscriptions
abbrev pub terms_of : Options → Terms
terms_of o = record { duration = o.subscribe_duration; renew = o.subscribe_renew }

-- the last moment of a subscription
abbrev pub end_of : Options → Option Subscription → Option ℕ
end_of o subscribed = option_map (λ (last : Subscription). last.moment + o.subscribe_duration) subscribed

-- the tick of a subscription
abbrev pub tick_of : Option Subscription → Option ℕ
tick_of subscribed = option_map (λ (last : Subscription). last.tick) subscribed

-- the later of a notice and the one before it
abbrev pub later : Option Notice → Option Notice → Option Notice
later (Some notice) former = Some notice
later None former = former

-- what a notice tells to copy
abbrev pub lead_in : Option Notice → Option Lead
lead_in notice = option_and_then (λ (n : Notice). n.lead) notice

-- the ring ends with the subscription and has put what was put; its newest notice, or else the last
-- one that was taken, is the last one ever put
pub record FollowerRepresents (o : Options) (code : Follower) (f : HistoryFollower) : Type 0 where
  pub until : code.ring.until ≡ end_of o f.subscribed
  pub subscribed : code.subscribed ≡ tick_of f.subscribed
  pub put : code.ring.put ≡ f.put
  pub last : later (slice_get code.ring.notices 0) code.last ≡ f.last
