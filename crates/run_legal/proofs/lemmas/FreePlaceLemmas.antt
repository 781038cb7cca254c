-- Where an actor stood right, it does so as changes come and others move.
use Rattle.std.proofs.Common.{◌≡◌, ℕ, inl, inr, sym, ap, ◌∙◌, subst, List, [], ◌∷◌, Some, None}
use Rattle.std.specs.Prelude.{slice_get}
use Rattle.std.proofs.lemmas.Bool.Decides.{eqb_tells}
use Rattle.std.proofs.lemmas.List.Elements.{Contains-append_right}
use Rattle.ptp_profile.specs.declared.roles.Lead.{Lead}
use Rattle.ptp_profile.specs.declared.seats.LogEntry.{LogEntry}
use Rattle.ptp_profile.specs.declared.seats.LogEntry.TheVariants.{Order}
use Rattle.ptp_profile.specs.Roles.SeatLogs.{HasOrder, log_at}
use Rattle.bc_history.specs.declared.entry.Input.{Input}
use Rattle.bc_history.specs.declared.entry.Input.TheVariants.{Report, Sampled}
use Rattle.bc_history.specs.declared.entry.Who.TheVariants.{Follower as A_follower}
use Rattle.bc_history.specs.declared.place.FollowerPlace.{FollowerPlace}
use Rattle.bc_history.specs.declared.place.FollowerPlace.TheVariants.{Turns as Turns_next, ReadsTheirs as Reads_theirs, ReadsOwn as Reads_own, Exchanges as Exchanges_own, Samples}
use Rattle.bc_history.specs.declared.place.PortPlace.{PortPlace}
use Rattle.bc_history.specs.declared.place.PortPlace.TheVariants.{Waits, Exchanges, Reports}
use Rattle.bc_history.specs.declared.scenario.Scenario.{Scenario}
use Rattle.bc_history.specs.Phases.EntryEffects.{event}
use Rattle.bc_history.specs.Phases.Inputs.{changed_at}
use Rattle.bc_history.specs.Phases.State.{Follower}
use Rattle.bc_history.specs.Phases.Step.{state_of}
use Rattle.bc_history.specs.Run.World.{World, held_by}
use Rattle.bc_history.proofs.lemmas.CoreInvariantLemmas.{length-changed_at, option_map-some, slice_get-changed_at, slice_get-changed_elsewhere}
use Rattle.run_legal.specs.Numbers.GrownLogs.{AreSameOrChanged, IsSameOrChanged}
use Rattle.run_legal.specs.Numbers.Knowledge.{known_to}
use Rattle.run_legal.specs.Numbers.Marks.{sight_mark}
use Rattle.run_legal.specs.Runs.WorldInvariant.{AreFollowersPlaced, IsFollowerPlaced, IsLeadOrdered, IsPortPlaced, IsReady, IsRight}
use Rattle.run_legal.specs.Runs.Courses.{IsCourse}
use Rattle.run_legal.proofs.lemmas.GrownLogLemmas.{abreast-later, agreed-later, read-later, sight-later, up_to-later}

-- an order of a log is one of the later log
has-order-later : (log later : List LogEntry) (gener ctrl : ℕ) → IsSameOrChanged log later → HasOrder log gener ctrl → HasOrder later gener ctrl
has-order-later log later gener ctrl (inl same) has = subst (λ (l : List LogEntry). HasOrder l gener ctrl) (sym same) has
has-order-later log later gener ctrl (inr changed) has =
    subst (λ (l : List LogEntry). HasOrder l gener ctrl) (sym changed.2) (Contains-append_right (changed.0 ∷ []) log (Order gener ctrl) has)

module _ (s : Scenario) (w : World) (later : List (List LogEntry)) (ports : List PortPlace) (followers : List FollowerPlace) (grown : AreSameOrChanged w.logs later) where
  -- the World of later logs, with others at other places
  abbrev next : World
  next = record { entries = w.entries; logs = later; ports = ports; followers = followers }

  -- a port is still where it may be
  pub port-kept : (p : ℕ) (place : PortPlace) → IsPortPlaced s w p place → IsPortPlaced s next p place
  port-kept p Waits is = is
  port-kept p (Exchanges tick held action) is = is
  port-kept p (Reports tick gener action outcome) is = record {
    exchanges = is.exchanges;
    place = is.place;
    agreed = agreed-later s w.logs later grown (Report p tick gener action outcome) is.agreed;
    abreast = abreast-later s w.logs later grown (event (Report p tick gener action outcome) None) w.entries is.abreast;
  }

  -- a lead is still ordered
  pub ordered-kept : (c : ℕ) (lead : Lead) → IsLeadOrdered w c lead → IsLeadOrdered next c lead
  ordered-kept c lead is = has-order-later (log_at w.logs c) (log_at later c) lead.gener (held_by c lead).ctrl (grown c) is

  -- a sample is still ready
  pub ready-kept : (input : Input) → IsReady s w input → IsReady s next input
  ready-kept input is = record {
    readings = read-later s w.logs later grown (event input None) is.readings;
    action = is.action;
    abreast = abreast-later s w.logs later grown (event input None) w.entries is.abreast;
  }

  -- a follower is still where it may be
  pub follower-kept : (c : ℕ) (f : Follower) (place : FollowerPlace) → IsFollowerPlaced s w c f place → IsFollowerPlaced s next c f place
  follower-kept c f Turns_next is = is
  follower-kept c f (Reads_theirs tick lead) is = (is.0, ordered-kept c lead is.1)
  follower-kept c f (Reads_own tick lead theirs) is = (
    is.0,
    record {
      seen = sight-later s w.logs later grown tick (record { clock = lead.source; seen = theirs }) is.1.seen;
      ordered = ordered-kept c lead is.1.ordered;
      rising = is.1.rising;
      told = up_to-later s w.logs later grown (known_to (A_follower c) w.entries) (sight_mark (record { clock = lead.source; seen = theirs })) is.1.told;
    },
  )
  follower-kept c f (Exchanges_own tick lead theirs own action) is = (
    is.0,
    record { ordered = ordered-kept c lead is.1.ordered; asks = is.1.asks; ready = ready-kept (Sampled c tick lead theirs own action _) is.1.ready },
  )
  follower-kept c f (Samples tick lead theirs own action outcome) is = (
    is.0,
    record {
      ready = ready-kept (Sampled c tick lead theirs own action outcome) is.1.ready;
      agreed = agreed-later s w.logs later grown (Sampled c tick lead theirs own action outcome) is.1.agreed;
    },
  )

-- where one follower moves to a place that is right, all others stay right
followers-moved : (s : Scenario) (w : World) (later : List (List LogEntry)) (c : ℕ) (place : FollowerPlace) → AreSameOrChanged w.logs later
    → ((f : Follower) → slice_get (state_of s w.entries).followers c ≡ Some f
    → IsFollowerPlaced s (record { entries = w.entries; logs = later; ports = w.ports; followers = changed_at (λ former. place) c w.followers }) c f place)
    → AreFollowersPlaced s w
    → AreFollowersPlaced s (record { entries = w.entries; logs = later; ports = w.ports; followers = changed_at (λ former. place) c w.followers })
followers-moved s w later c place grown own placed d f at is_f is_at =
    elim (eqb_tells c d) [
      | inl same ↦
          let here = sym (ap (λ (n : ℕ). slice_get (changed_at (λ (former : FollowerPlace). place) c w.followers) n) same.1) in
          let was = option_map-some (λ (former : FollowerPlace). place) (slice_get w.followers c) at (sym (slice_get-changed_at (λ (former : FollowerPlace). place) c w.followers) ∙ (sym here ∙ is_at)) in
          let there : slice_get (state_of s w.entries).followers c ≡ Some f = ap (λ (n : ℕ). slice_get (state_of s w.entries).followers n) same.1 ∙ is_f in
          subst (λ (n : ℕ). IsFollowerPlaced s (record { entries = w.entries; logs = later; ports = w.ports; followers = changed_at (λ former. place) c w.followers }) n f at) same.1
          (subst (λ (x : FollowerPlace). IsFollowerPlaced s (record { entries = w.entries; logs = later; ports = w.ports; followers = changed_at (λ former. place) c w.followers }) c f x) was.2 (own f there))
      | inr differ ↦
          let there = sym (slice_get-changed_elsewhere (λ (former : FollowerPlace). place) c d w.followers differ.1) ∙ is_at in
          follower-kept s w later w.ports (changed_at (λ former. place) c w.followers) grown d f at (placed d f at is_f there)
    ]

-- so the World is right after a follower moved to a place that is right, where entries and logs go on belonging together
pub moved-right : (s : Scenario) (w : World) (later : List (List LogEntry)) (c : ℕ) (place : FollowerPlace) → IsRight s w → AreSameOrChanged w.logs later → IsCourse s w.entries later
    → ((f : Follower) → slice_get (state_of s w.entries).followers c ≡ Some f
    → IsFollowerPlaced s (record { entries = w.entries; logs = later; ports = w.ports; followers = changed_at (λ former. place) c w.followers }) c f place)
    → IsRight s (record { entries = w.entries; logs = later; ports = w.ports; followers = changed_at (λ former. place) c w.followers })
moved-right s w later c place right grown course there = record {
  course = course;
  port_count = right.port_count;
  ports = λ p at is_at. port-kept s w later w.ports (changed_at (λ former. place) c w.followers) grown p at (right.ports p at is_at);
  follower_count = length-changed_at (λ former. place) c w.followers ∙ right.follower_count;
  followers = followers-moved s w later c place grown there right.followers;
}
