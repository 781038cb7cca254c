-- An exchange of a port leaves the World right.
use Rattle.std.proofs.Common.{◌≡◌, ◌≢◌, ℕ, refl, sym, ap, ◌∙◌, subst, List, [], ◌∷◌, Option, Some, None}
use Rattle.ptp_profile.specs.declared.seats.Held.{Held}
use Rattle.ptp_profile.specs.declared.seats.LogEntry.{LogEntry}
use Rattle.ptp_profile.specs.declared.timing.Action.{Action}
use Rattle.ptp_profile.specs.declared.timing.Action.TheVariants.{Unlocked, Jump, Locked}
use Rattle.ptp_profile.specs.Timing.Servo.{newest_action}
use Rattle.bc_history.specs.declared.entry.Entry.{Entry}
use Rattle.bc_history.specs.declared.entry.Outcome.{Outcome}
use Rattle.bc_history.specs.declared.place.PortPlace.{PortPlace}
use Rattle.bc_history.specs.declared.place.PortPlace.TheVariants.{Waits, Exchanges, Reports}
use Rattle.bc_history.specs.declared.scenario.Options.{Options}
use Rattle.bc_history.specs.declared.scenario.Scenario.{Scenario}
use Rattle.bc_history.specs.Phases.HubPort.{TickMeasure}
use Rattle.bc_history.specs.Phases.Inputs.{at_port, port_at}
use Rattle.bc_history.specs.Phases.OpeningState.{servo_of}
use Rattle.bc_history.specs.Run.PortEntries.{measured_by}
use Rattle.bc_history.specs.Run.PortPlace.{after_port_exchange, place_by_entries, port_job}
use Rattle.bc_history.specs.Run.Samples.{port_samples}
use Rattle.bc_history.specs.Run.World.{World}
use Rattle.bc_history.specs.Scenario.ScenarioRules.{IsScenario}
use Rattle.bc_history.proofs.lemmas.CoreInvariantLemmas.{Each-at_port, length-at_port}
use Rattle.bc_history.proofs.lemmas.MeasureLemmas.{place-by_measure, place-unmeasured}
use Rattle.run_legal.specs.Numbers.GrownLogs.{logs_after_exchange, outcome_of_exchange}
use Rattle.run_legal.specs.Runs.WorldInvariant.{IsPortPlaced, IsRight}
use Rattle.run_legal.proofs.lemmas.PortExchangeLemmas.{after_abreast, after_agreed, after_course, exchange-logs}
use Rattle.run_legal.proofs.lemmas.FreePlaceLemmas.{follower-kept, port-kept}

-- a port that is at an exchange measured, at the exchange's tick and under its stamp, and asks for a change
pub record IsAsked (p : ℕ) (entries : List Entry) (tick : ℕ) (held : Held) (action : Action) : Type 0 where
  pub m : TickMeasure
  pub measured : measured_by p entries ≡ Some m
  pub at : m.tick ≡ tick
  pub under : m.held ≡ held
  pub asks : action ≢ Unlocked

-- so does each port at an exchange
pub exchange-asked : (o : Options) (p : ℕ) (entries : List Entry) (tick : ℕ) (held : Held) (action : Action) → place_by_entries o p entries ≡ Exchanges tick held action → IsAsked p entries tick held action
exchange-asked o p entries tick held action is = by (measured_by p entries) refl
  where
    job : (m : TickMeasure) (asked : Action) → measured_by p entries ≡ Some m → port_job m.tick m.held asked ≡ Exchanges tick held action → IsAsked p entries tick held action
    job m Unlocked measured same = absurd (cc)
    job m (Jump step freq) measured same = record { m = m; measured = measured; at = cc; under = cc; asks = λ e. cc }
    job m (Locked freq) measured same = record { m = m; measured = measured; at = cc; under = cc; asks = λ e. cc }

    by : (o' : Option TickMeasure) → measured_by p entries ≡ o' → IsAsked p entries tick held action
    by None measured = let none : Waits ≡ Exchanges tick held action = sym (place-unmeasured o p entries measured) ∙ is in absurd (cc)
    by (Some m) measured =
        job m (newest_action (servo_of o) (port_samples p entries)) measured (sym (place-by_measure o p entries m measured) ∙ is)

-- the World after an exchange of port p
abbrev pub after_exchange_of : Scenario → World → ℕ → ℕ → Held → Action → World
after_exchange_of s w p tick held action = record w {
  logs = logs_after_exchange s w.logs held tick action;
  ports = at_port (after_port_exchange (outcome_of_exchange s w.logs held tick action)) p w.ports;
}

module _ (s : Scenario) (is : IsScenario s) (w : World) (p : ℕ) (m : TickMeasure) (action : Action) (right : IsRight s w) (measured : measured_by p w.entries ≡ Some m) (place : place_by_entries s.options p w.entries ≡ Exchanges m.tick m.held action) (asks : action ≢ Unlocked) where
  abbrev later : List (List LogEntry)
  later = logs_after_exchange s w.logs m.held m.tick action

  abbrev outcome : Outcome
  outcome = outcome_of_exchange s w.logs m.held m.tick action

  abbrev next : World
  next = after_exchange_of s w p m.tick m.held action

  -- the port is to report
  reports : IsPortPlaced s next p (Reports m.tick m.held.gener action outcome)
  reports = record {
    exchanges = outcome ∷ [];
    place = ap (after_port_exchange outcome) place;
    agreed = after_agreed s is w.entries w.logs p m action right.course measured asks;
    abreast = after_abreast s is w.entries w.logs p m action right.course measured asks;
  }

  -- others are still where they may be
  kept : (q : ℕ) (at : PortPlace) → IsPortPlaced s w q at → IsPortPlaced s next q at
  kept = port-kept s w later next.ports w.followers (exchange-logs s w.logs m.held m.tick action)

  -- and the port is where the exchange takes it
  own : (at : PortPlace) → IsPortPlaced s w p at → IsPortPlaced s next p (after_port_exchange outcome at)
  own Waits is_at = let none : Waits ≡ Exchanges m.tick m.held action = sym is_at ∙ place in absurd (cc)
  own (Exchanges tick held asked) is_at =
      subst (IsPortPlaced s next p) (ap (after_port_exchange outcome) (sym place ∙ is_at)) reports
  own (Reports tick gener asked former) is_at = kept p (Reports tick gener asked former) is_at

  -- so the World is right
  pub measured-exchange : IsRight s next
  measured-exchange = record {
    course = after_course s is w.entries w.logs p m action right.course measured;
    port_count = length-at_port (after_port_exchange outcome) p w.ports ∙ right.port_count;
    ports = Each-at_port (IsPortPlaced s w) (IsPortPlaced s next) (after_port_exchange outcome) p w.ports own (λ q at other is_at. kept q at is_at) right.ports;
    follower_count = right.follower_count;
    followers = λ c f at is_f is_at. follower-kept s w later next.ports w.followers (exchange-logs s w.logs m.held m.tick action) c f at (right.followers c f at is_f is_at);
  }

-- so the World is right after an exchange of a port that is at one
pub exchange-right : (s : Scenario) → IsScenario s → (w : World) (p tick : ℕ) (held : Held) (action : Action) → IsRight s w
    → port_at w.ports p ≡ Some (Exchanges tick held action) → IsRight s (after_exchange_of s w p tick held action)
exchange-right s is w p tick held action right there =
    let place : place_by_entries s.options p w.entries ≡ Exchanges tick held action = right.ports p (Exchanges tick held action) there in
    let asked = exchange-asked s.options p w.entries tick held action place in
    let put : place_by_entries s.options p w.entries ≡ Exchanges asked.m.tick asked.m.held action =
    place ∙ (ap (λ (t : ℕ). Exchanges t held action) (sym asked.at) ∙ ap (λ (h : Held). Exchanges asked.m.tick h action) (sym asked.under)) in
    let after = measured-exchange s is w p asked.m action right asked.measured put asked.asks in
    subst (λ (t : ℕ). IsRight s (after_exchange_of s w p t held action)) asked.at
    (subst (λ (h : Held). IsRight s (after_exchange_of s w p asked.m.tick h action)) asked.under after)
