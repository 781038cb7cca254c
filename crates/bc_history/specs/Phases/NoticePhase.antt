-- The fourth phase of an entry: what the followers are told (own, after phc2sys).
use Rattle.std.specs.Prelude.{ℕ, ◌+◌, ◌-◌, Bool, not, ◌==◌, nat_le, nat_lt, if◌then◌else◌, List, [], ◌∷◌, Option, Some, None, option_map, option_and_then}
use Rattle.ptp_base.specs.declared.limits.TheConstants.{NOTICES_MAX}
use Rattle.ptp_profile.specs.declared.roles.Notice.{Notice}
use Rattle.ptp_profile.specs.declared.roles.Lead.{Lead}
use Rattle.ptp_profile.specs.Roles.Edges.{notice_of}
use Rattle.bc_history.specs.declared.entry.Input.{Input}
use Rattle.bc_history.specs.declared.entry.Input.TheVariants.{Frame, Timed, Down, Up, Report, Turn, Sampled, Query}
use Rattle.bc_history.specs.declared.entry.Told.{Told}
use Rattle.bc_history.specs.declared.scenario.Options.{Options}
use Rattle.bc_history.specs.Phases.Inputs.{changed_at, holds}
use Rattle.bc_history.specs.Phases.RolePhase.{states_of}
use Rattle.bc_history.specs.Phases.State.{Subscription, Follower, Core, Roles}

-- the notice of the present generation to the follower of a clock
abbrev pub notice_for : Core → Roles → ℕ → Notice
notice_for c r clock = notice_of r.gener clock (states_of c.ports) r.edges r.orders

-- one more notice for a follower
abbrev pub with_notice : Notice → Follower → Follower
with_notice notice f = record f { last = Some notice; put = f.put + 1 }

-- a follower is told of a generation that begins at moment m where its last subscription is recent
abbrev pub after_posting : Options → ℕ → Notice → Follower → Follower
after_posting o m notice f =
    if holds (λ (last : Subscription). nat_le m (last.moment + o.subscribe_duration)) f.subscribed
    then with_notice notice f else f

-- the followers from a clock on
abbrev pub after_posting_from : Options → Core → Roles → ℕ → List Follower → List Follower
after_posting_from o c r clock [] = []
after_posting_from o c r clock (f ∷ fs) =
    after_posting o c.moment (notice_for c r clock) f ∷ after_posting_from o c r (clock + 1) fs

-- the followers after a generation that began with the entry
abbrev pub after_notices : Options → Core → Roles → Roles → List Follower → List Follower
after_notices o c before r fs =
    if before.gener == r.gener then fs else after_posting_from o c r 0 fs

-- a follower subscribes at its first turn, and where its last subscription is old
abbrev pub is_subscription_due : Options → ℕ → Follower → Bool
is_subscription_due o tick f =
    not (holds (λ (last : Subscription). nat_lt tick (last.tick + o.subscribe_renew)) f.subscribed)

-- a turn that subscribes is told of the present generation at once
abbrev pub after_subscription : Options → ℕ → ℕ → Notice → Follower → Follower
after_subscription o m tick notice f =
    if is_subscription_due o tick f then
    with_notice notice (record f { subscribed = Some (record { tick = tick; moment = m }) })
    else
    f

-- the lead of the last notice that was ever put
abbrev pub lead_of : Follower → Option Lead
lead_of f = option_and_then (λ (n : Notice). n.lead) f.last

-- a turn takes all notices
abbrev pub after_taking : ℕ → Follower → Follower
after_taking tick f =
    record f {
      turns = f.turns + 1;
      put = 0;
      leading = option_map (λ lead. record { tick = tick; lead = lead }) (lead_of f);
    }

-- what a follower is told at its turn; 64 notices are kept, and the older ones are missed
abbrev pub told_at : Options → ℕ → ℕ → Notice → Follower → Told
told_at o m tick notice f = record {
  lead = lead_of (after_subscription o m tick notice f);
  missed = (after_subscription o m tick notice f).put - NOTICES_MAX;
}

-- the followers after the entry's own part
unfoldable pub after_turn : Options → Core → Roles → Input → List Follower → List Follower
after_turn o c r (Turn clock tick) fs =
    changed_at
    (λ f. after_taking tick (after_subscription o c.moment tick (notice_for c r clock) f)) clock
    fs
after_turn o c r (Sampled clock tick lead theirs own action outcome) fs =
    changed_at (λ f. record f { leading = None }) clock fs
after_turn o c r (Frame port tick octets) fs = fs
after_turn o c r (Timed port tick timer) fs = fs
after_turn o c r (Down port tick) fs = fs
after_turn o c r (Up port tick) fs = fs
after_turn o c r (Report port tick gener action outcome) fs = fs
after_turn o c r (Query tick text) fs = fs
