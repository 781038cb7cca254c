-- What contracts see of a ring, and the whole list of notices that were put since the last take, the
-- newest first (project).
use Rattle.std.specs.Prelude.{◌≡◌, ℕ, ◌+◌, ◌-◌, min, Bool, false, nat_le, if◌then◌else◌, List, [], ◌∷◌, length, take, slice_get, Option, Some, None}
use Rattle.ptp_base.specs.declared.limits.TheConstants.{NOTICES_MAX}
use Rattle.ptp_profile.specs.declared.roles.Notice.{Notice}
use Rattle.notify.specs.declared.ring.Taken.{Taken}

-- the end of the subscription, the notices that are kept, and how many were put since the last take
pub record RingView : Type 0 where
  pub until : Option ℕ
  pub notices : List Notice
  pub put : ℕ

-- the end of the subscription, and all notices that were put since the last take
pub record RingState : Type 0 where
  pub until : Option ℕ
  pub notices : List Notice

-- the ring keeps the last of all notices, and how many there were
pub record RingRepresents (ring : RingView) (state : RingState) : Type 0 where
  pub until : ring.until ≡ state.until
  pub notices : ring.notices ≡ take NOTICES_MAX state.notices
  pub put : ring.put ≡ length state.notices

-- no subscription and no notice
abbrev pub unsubscribed : RingState
unsubscribed = record { until = None; notices = [] }

-- a subscription lasts at a moment, its last one included
abbrev pub is_subscribed : Option ℕ → ℕ → Bool
is_subscribed None at = false
is_subscribed (Some until) at = nat_le at until

-- the ring with one more notice
abbrev pub with_notice : Notice → RingView → RingView
with_notice notice ring =
    record ring { notices = take NOTICES_MAX (notice ∷ ring.notices); put = ring.put + 1 }

-- all notices after one is posted at a moment
abbrev pub after_post : ℕ → Notice → RingState → RingState
after_post at notice state =
    if is_subscribed state.until at then
    record state { notices = notice ∷ state.notices }
    else
    state

-- what is told of all notices: the last one, how many are kept, and how many are not
abbrev pub taken_of : List Notice → Taken
taken_of notices = record {
  last = slice_get notices 0;
  count = min (length notices) NOTICES_MAX;
  missed = length notices - NOTICES_MAX;
}

-- what a ring tells as it is taken
abbrev pub taken_from : RingView → Taken
taken_from ring = record {
  last = slice_get ring.notices 0;
  count = min ring.put NOTICES_MAX;
  missed = ring.put - NOTICES_MAX;
}

-- there are places for the notices, and as many are kept as were put and have one
pub record IsSound (notices : List Notice) (places put : ℕ) : Type 0 where
  pub reserved : places ≡ NOTICES_MAX
  pub kept : length notices ≡ min put NOTICES_MAX
