-- A job that was begun goes on before the run ends: its tick is that of the entry that began it.
use Rattle.std.proofs.Common.{◌≡◌, ℕ, ◌≤◌, true, le-leb, refl, sym, subst, List, [], ◌∷◌, Option, Some, None}
use Rattle.ptp_profile.specs.declared.seats.Held.{Held}
use Rattle.ptp_profile.specs.declared.timing.Action.{Action}
use Rattle.ptp_profile.specs.declared.timing.Action.TheVariants.{Unlocked, Jump, Locked}
use Rattle.ptp_profile.specs.declared.roles.Lead.{Lead}
use Rattle.ptp_profile.specs.Timing.Servo.{Sample, newest_action}
use Rattle.bc_history.specs.declared.entry.Entry.{Entry}
use Rattle.bc_history.specs.declared.entry.Outcome.{Outcome}
use Rattle.bc_history.specs.declared.entry.Seen.{Seen}
use Rattle.bc_history.specs.declared.place.PortPlace.{PortPlace}
use Rattle.bc_history.specs.declared.place.PortPlace.TheVariants.{Waits, Exchanges as Port_exchanges, Reports}
use Rattle.bc_history.specs.declared.place.FollowerPlace.{FollowerPlace}
use Rattle.bc_history.specs.declared.place.FollowerPlace.TheVariants.{Turns, ReadsTheirs, ReadsOwn, Exchanges, Samples}
use Rattle.bc_history.specs.declared.scenario.Scenario.{Scenario}
use Rattle.bc_history.specs.Phases.HubPort.{TickMeasure}
use Rattle.bc_history.specs.Phases.OpeningState.{servo_of}
use Rattle.bc_history.specs.Phases.State.{TickLead}
use Rattle.bc_history.specs.Run.FollowerEntries.{leading_by}
use Rattle.bc_history.specs.Run.FollowerPlace.{FollowerStep, Read, Exchanged, after_follower_step, follower_job, follower_place, follower_place_by_entries}
use Rattle.bc_history.specs.Run.History.{Continues}
use Rattle.bc_history.specs.Run.PortEntries.{measured_by}
use Rattle.bc_history.specs.Run.PortPlace.{after_port_exchange, place_by_entries, port_job, port_place}
use Rattle.bc_history.specs.Run.Samples.{follower_samples, port_samples, sample_of}
use Rattle.bc_history.specs.Run.World.{Of_follower, Of_port, is_due}
use Rattle.bc_history.proofs.lemmas.FollowerEntriesLemmas.{leading_by-due, place-by_lead, place-unled}
use Rattle.bc_history.proofs.lemmas.MeasureLemmas.{measured_by-due, place-by_measure, place-unmeasured}
use Rattle.bc_steps.specs.ActorView.{IsJobDue}

due-by : (s : Scenario) (tick : ℕ) → tick ≤ s.options.duration → is_due s tick ≡ true
due-by s tick le = le-leb tick s.options.duration le

-- ---- ports

job-due : (s : Scenario) (tick : ℕ) (held : Held) (action : Action) → is_due s tick ≡ true → IsJobDue s (Of_port (port_job tick held action))
job-due s tick held Unlocked due = due
job-due s tick held (Jump step freq) due = due
job-due s tick held (Locked freq) due = due

entries-due : (s : Scenario) (p : ℕ) (entries : List Entry) (measured : Option TickMeasure) → Continues s entries → measured_by p entries ≡ measured → IsJobDue s (Of_port (place_by_entries s.options p entries))
entries-due s p entries None continues is = subst (λ (place : PortPlace). IsJobDue s (Of_port place)) (sym (place-unmeasured s.options p entries is)) tt
entries-due s p entries (Some m) continues is =
    subst (λ (place : PortPlace). IsJobDue s (Of_port place)) (sym (place-by_measure s.options p entries m is))
    (job-due s m.tick m.held (newest_action (servo_of s.options) (port_samples p entries)) (due-by s m.tick (measured_by-due s p entries m continues is)))

exchange-due : (s : Scenario) (outcome : Outcome) (place : PortPlace) → IsJobDue s (Of_port place) → IsJobDue s (Of_port (after_port_exchange outcome place))
exchange-due s outcome Waits due = tt
exchange-due s outcome (Port_exchanges tick held action) due = due
exchange-due s outcome (Reports tick gener action former) due = due

-- a port that its entries and exchanges put somewhere
pub port-due : (s : Scenario) (p : ℕ) (entries : List Entry) (exchanges : List Outcome) → Continues s entries → IsJobDue s (Of_port (port_place s.options p entries exchanges))
port-due s p entries [] continues = entries-due s p entries (measured_by p entries) continues refl
port-due s p entries (outcome ∷ exchanges) continues = exchange-due s outcome (port_place s.options p entries exchanges) (port-due s p entries exchanges continues)

-- ---- followers

led-due : (s : Scenario) (c : ℕ) (entries : List Entry) (led : Option TickLead) → Continues s entries → leading_by c entries ≡ led → IsJobDue s (Of_follower (follower_place_by_entries c entries))
led-due s c entries None continues is = subst (λ (place : FollowerPlace). IsJobDue s (Of_follower place)) (sym (place-unled c entries is)) tt
led-due s c entries (Some l) continues is =
    subst (λ (place : FollowerPlace). IsJobDue s (Of_follower place)) (sym (place-by_lead c entries l is)) (due-by s l.tick (leading_by-due s c entries l continues is))

follower_job-due : (s : Scenario) (tick : ℕ) (lead : Lead) (theirs own : Seen) (action : Action) → is_due s tick ≡ true → IsJobDue s (Of_follower (follower_job tick lead theirs own action))
follower_job-due s tick lead theirs own Unlocked due = due
follower_job-due s tick lead theirs own (Jump step freq) due = due
follower_job-due s tick lead theirs own (Locked freq) due = due

step-due : (s : Scenario) (samples : List Sample) (step : FollowerStep) (place : FollowerPlace) → IsJobDue s (Of_follower place) → IsJobDue s (Of_follower (after_follower_step s.options samples step place))
step-due s samples (Read seen) Turns due = tt
step-due s samples (Read seen) (ReadsTheirs tick lead) due = due
step-due s samples (Read seen) (ReadsOwn tick lead theirs) due = follower_job-due s tick lead theirs seen (newest_action (servo_of s.options) (sample_of lead theirs seen ∷ samples)) due
step-due s samples (Read seen) (Exchanges tick lead theirs own action) due = due
step-due s samples (Read seen) (Samples tick lead theirs own action outcome) due = due
step-due s samples (Exchanged outcome) Turns due = tt
step-due s samples (Exchanged outcome) (ReadsTheirs tick lead) due = due
step-due s samples (Exchanged outcome) (ReadsOwn tick lead theirs) due = due
step-due s samples (Exchanged outcome) (Exchanges tick lead theirs own action) due = due
step-due s samples (Exchanged outcome) (Samples tick lead theirs own action former) due = due

-- a follower that its entries and its other steps put somewhere
pub follower-due : (s : Scenario) (c : ℕ) (entries : List Entry) (steps : List FollowerStep) → Continues s entries → IsJobDue s (Of_follower (follower_place s.options c entries steps))
follower-due s c entries [] continues = led-due s c entries (leading_by c entries) continues refl
follower-due s c entries (step ∷ steps) continues = step-due s (follower_samples c entries) step (follower_place s.options c entries steps) (follower-due s c entries steps continues)
