-- Another's entry leaves each port and each follower where it may be.
use Rattle.std.proofs.Common.{◌≡◌, ◌+◌, ℕ, false, refl, sym, ap, ◌∙◌, subst, List, [], ◌∷◌, ◌++◌, None}
use Rattle.std.specs.Prelude.{All}
use Rattle.std.proofs.lemmas.List.Elements.{All-nil, All-weaker}
use Rattle.ptp_profile.specs.declared.roles.Lead.{Lead}
use Rattle.ptp_profile.specs.declared.seats.LogEntry.{LogEntry}
use Rattle.ptp_profile.specs.declared.timing.Action.{Action}
use Rattle.ptp_profile.specs.Roles.SeatLogs.{with_orders}
use Rattle.ptp_profile.specs.Timing.Servo.{Sample, newest_action}
use Rattle.bc_history.specs.declared.entry.Entry.{Entry}
use Rattle.bc_history.specs.declared.entry.Input.{Input}
use Rattle.bc_history.specs.declared.entry.Input.TheVariants.{Frame, Timed, Down, Up, Report, Turn, Sampled, Query}
use Rattle.bc_history.specs.declared.entry.Outcome.{Outcome}
use Rattle.bc_history.specs.declared.entry.Seen.{Seen}
use Rattle.bc_history.specs.declared.entry.Who.{Who}
use Rattle.bc_history.specs.declared.entry.Who.TheVariants.{Port as A_port, Follower as A_follower}
use Rattle.bc_history.specs.declared.place.FollowerPlace.{FollowerPlace}
use Rattle.bc_history.specs.declared.place.FollowerPlace.TheVariants.{Turns as Turns_next, ReadsTheirs as Reads_theirs, ReadsOwn as Reads_own, Exchanges as Exchanges_own, Samples}
use Rattle.bc_history.specs.declared.place.PortPlace.{PortPlace}
use Rattle.bc_history.specs.declared.place.PortPlace.TheVariants.{Waits, Exchanges, Reports}
use Rattle.bc_history.specs.declared.scenario.Options.{Options}
use Rattle.bc_history.specs.declared.scenario.Scenario.{Scenario}
use Rattle.bc_history.specs.Phases.EntryEffects.{event}
use Rattle.bc_history.specs.Phases.OpeningState.{servo_of}
use Rattle.bc_history.specs.Phases.State.{Follower}
use Rattle.bc_history.specs.Run.Actors.{actor_of, entries_of, is_by, is_same_actor}
use Rattle.bc_history.specs.Run.PortPlace.{after_port_exchange, place_by_entries, port_place}
use Rattle.bc_history.specs.Run.Samples.{follower_samples, sample_of}
use Rattle.bc_history.specs.Run.World.{World, held_by}
use Rattle.bc_history.proofs.lemmas.FollowerEntriesLemmas.{follower_samples-own}
use Rattle.run_legal.specs.Numbers.Knowledge.{AreRising, IsAbreast, IsUpTo, IsWithin, known_to}
use Rattle.run_legal.specs.Numbers.Marks.{Mark, Sight, hub_sights, marks_in, marks_of, sight_mark}
use Rattle.run_legal.specs.Runs.WorldInvariant.{IsFollowerPlaced, IsLeadOrdered, IsPortPlaced, IsReady}
use Rattle.run_legal.proofs.lemmas.CourseLemmas.{known_to-other}
use Rattle.run_legal.proofs.lemmas.EnteredLogLemmas.{All-known, agreed-ordered, has-ordered, read-ordered, sight-ordered, up_to-ordered, within-ordered}
use Rattle.run_legal.proofs.lemmas.NewerOrderLemmas.{AreOf, AreUpTo}

-- ---- what an entry of another leaves

-- the entries of an actor
entries_of-other : (who : Who) (e : Entry) (before : List Entry) → is_by who e ≡ false → entries_of who (e ∷ before) ≡ entries_of who before
entries_of-other who e before other = rw other refl

-- and where a port is by its entries
place-other : (o : Options) (p : ℕ) (e : Entry) (before : List Entry) → is_by (A_port p) e ≡ false → place_by_entries o p (e ∷ before) ≡ place_by_entries o p before
place-other o p e before other = rw other refl

-- and by its exchanges since
port_place-other : (o : Options) (p : ℕ) (e : Entry) (before : List Entry) → is_by (A_port p) e ≡ false → (exchanges : List Outcome)
    → port_place o p (e ∷ before) exchanges ≡ port_place o p before exchanges
port_place-other o p e before other [] = place-other o p e before other
port_place-other o p e before other (outcome ∷ exchanges) = ap (after_port_exchange outcome) (port_place-other o p e before other exchanges)

-- so are the samples of a follower
samples-other : (c : ℕ) (e : Entry) (before : List Entry) → is_by (A_follower c) e ≡ false → follower_samples c (e ∷ before) ≡ follower_samples c before
samples-other c e before other =
    follower_samples-own c (e ∷ before)
    ∙ (ap (λ (es : List Entry). follower_samples c es) (entries_of-other (A_follower c) e before other) ∙ sym (follower_samples-own c before))

-- an event without a reading has none of the hub
no_sights : (s : Scenario) (input : Input) → hub_sights s (event input None) ≡ []
no_sights s (Frame port tick octets) = refl
no_sights s (Timed port tick timer) = refl
no_sights s (Down port tick) = refl
no_sights s (Up port tick) = refl
no_sights s (Report port tick gener action outcome) = refl
no_sights s (Turn clock tick) = refl
no_sights s (Sampled clock tick lead theirs own action outcome) = refl
no_sights s (Query tick text) = refl

-- so nothing is asked of its readings
pub unread-known : (s : Scenario) (logs : List (List LogEntry)) (input : Input) (before : List Entry)
    → All (λ (sight : Sight). IsUpTo s logs before (sight_mark sight)) (hub_sights s (event input None))
unread-known s logs input before =
    subst (λ (sights : List Sight). All (λ (sight : Sight). IsUpTo s logs before (sight_mark sight)) sights) (sym (no_sights s input)) (All-nil (λ (sight : Sight). IsUpTo s logs before (sight_mark sight)))

-- the World with an entry more, wherever its actors are
abbrev pub entered : World → Entry → List PortPlace → List FollowerPlace → World
entered w e ports followers =
    record { entries = e ∷ w.entries; logs = with_orders w.logs e.effects.orders; ports = ports; followers = followers }

module _ (s : Scenario) (w : World) (g : ℕ) (e : Entry) (new : AreOf (g + 1) e.effects.orders) (former : All (AreUpTo g) w.entries) (ports : List PortPlace) (followers : List FollowerPlace) where
  -- the logs with the entry's orders
  abbrev later : List (List LogEntry)
  later = with_orders w.logs e.effects.orders

  -- what an actor knew it knows
  up_to-other : (who : Who) → is_by who e ≡ false → (mark : Mark) → IsUpTo s w.logs (known_to who w.entries) mark → IsUpTo s later (known_to who (e ∷ w.entries)) mark
  up_to-other who other mark up =
      subst (λ (es : List Entry). IsUpTo s later es mark) (sym (known_to-other who e w.entries other))
      (up_to-ordered s w.logs g e.effects.orders new (known_to who w.entries) (All-known (AreUpTo g) who w.entries former) mark up)

  -- and its numbers go on to rise
  rising-other : (who : Who) → is_by who e ≡ false → (marks : List Mark) → AreRising (marks ++ marks_in s (entries_of who w.entries)) → AreRising (marks ++ marks_in s (entries_of who (e ∷ w.entries)))
  rising-other who other marks rising =
      subst (λ (es : List Entry). AreRising (marks ++ marks_in s es)) (sym (entries_of-other who e w.entries other)) rising

  -- what another is about to report stays abreast
  abreast-other : (input : Input) → is_same_actor (actor_of input) (actor_of e.input) ≡ false → IsAbreast s w.logs (event input None) w.entries → IsAbreast s later (event input None) (e ∷ w.entries)
  abreast-other input other is = record {
    rising = rising-other (actor_of input) other (marks_of s (event input None)) is.rising;
    within = All-weaker (IsWithin w.logs) (IsWithin later) (within-ordered s w.logs g e.effects.orders new) (marks_of s (event input None)) is.within;
    told = All-weaker (IsUpTo s w.logs (known_to (actor_of input) w.entries)) (IsUpTo s later (known_to (actor_of input) (e ∷ w.entries)))
        (up_to-other (actor_of input) other) (marks_of s (event input None)) is.told;
    read = unread-known s later input (e ∷ w.entries);
  }

  -- each other port stays where it may be
  pub port-other : (p : ℕ) → is_by (A_port p) e ≡ false → (place : PortPlace) → IsPortPlaced s w p place → IsPortPlaced s (entered w e ports followers) p place
  port-other p other Waits is = place-other s.options p e w.entries other ∙ is
  port-other p other (Exchanges tick held action) is = place-other s.options p e w.entries other ∙ is
  port-other p other (Reports tick gener action outcome) is = record {
    exchanges = is.exchanges;
    place = port_place-other s.options p e w.entries other is.exchanges ∙ is.place;
    agreed = agreed-ordered s w.logs g e.effects.orders new (Report p tick gener action outcome) is.agreed;
    abreast = abreast-other (Report p tick gener action outcome) other is.abreast;
  }

  -- a follower's lead stays ordered
  lead-other : (c : ℕ) (lead : Lead) → IsLeadOrdered w c lead → IsLeadOrdered (entered w e ports followers) c lead
  lead-other c lead is = has-ordered s w.logs g e.effects.orders new c lead.gener (held_by c lead).ctrl is

  -- a sample that would be right stays so
  ready-other : (c tick : ℕ) (lead : Lead) (theirs own : Seen) (action : Action) (outcome : Outcome) → is_by (A_follower c) e ≡ false
      → IsReady s w (Sampled c tick lead theirs own action outcome) → IsReady s (entered w e ports followers) (Sampled c tick lead theirs own action outcome)
  ready-other c tick lead theirs own action outcome other is = record {
    readings = read-ordered s w.logs g e.effects.orders new (event (Sampled c tick lead theirs own action outcome) None) is.readings;
    action = subst (λ (xs : List Sample). action ≡ newest_action (servo_of s.options) (sample_of lead theirs own ∷ xs)) (sym (samples-other c e w.entries other)) is.action;
    abreast = abreast-other (Sampled c tick lead theirs own action outcome) other is.abreast;
  }

  -- each other follower stays where it may be
  pub follower-other : (c : ℕ) → is_by (A_follower c) e ≡ false → (f h : Follower) → h.leading ≡ f.leading → (place : FollowerPlace)
      → IsFollowerPlaced s w c f place → IsFollowerPlaced s (entered w e ports followers) c h place
  follower-other c other f h same Turns_next is = same ∙ is
  follower-other c other f h same (Reads_theirs tick lead) is = (same ∙ is.0, lead-other c lead is.1)
  follower-other c other f h same (Reads_own tick lead theirs) is = (
    same ∙ is.0,
    record {
      seen = sight-ordered s w.logs g e.effects.orders new tick (record { clock = lead.source; seen = theirs }) is.1.seen;
      ordered = lead-other c lead is.1.ordered;
      rising = rising-other (A_follower c) other (sight_mark (record { clock = lead.source; seen = theirs }) ∷ []) is.1.rising;
      told = up_to-other (A_follower c) other (sight_mark (record { clock = lead.source; seen = theirs })) is.1.told;
    },
  )
  follower-other c other f h same (Exchanges_own tick lead theirs own action) is = (
    same ∙ is.0,
    record {
      ordered = lead-other c lead is.1.ordered;
      asks = is.1.asks;
      ready = ready-other c tick lead theirs own action _ other is.1.ready;
    },
  )
  follower-other c other f h same (Samples tick lead theirs own action outcome) is = (
    same ∙ is.0,
    record {
      ready = ready-other c tick lead theirs own action outcome other is.1.ready;
      agreed = agreed-ordered s w.logs g e.effects.orders new (Sampled c tick lead theirs own action outcome) is.1.agreed;
    },
  )
