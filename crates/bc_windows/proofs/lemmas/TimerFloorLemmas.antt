-- The timers of one port that are all set for moments above a floor: they stay so at a moment that is above it.
use Rattle.std.proofs.Common.{◌≡◌, ◌<◌, ◌+◌, ℕ, ℤ, Bool, true, false, cond, eqb, ltb, refl, subst, List, [], ◌∷◌, Option, Some, None, arith}
use Rattle.std.specs.Prelude.{filter_map, fold, option_map}
use Rattle.std.specs.List.{cons_option}
use Rattle.std.proofs.lemmas.Bool.{eqb-true, false≢true, ltb-false, ltb-true}
use Rattle.ptp_base.specs.declared.port_conf.PortConf.{PortConf}
use Rattle.ptp_base.specs.declared.code.Code.TheVariants.{M3}
use Rattle.ptp_base.specs.declared.port_state.PortState.{PortState}
use Rattle.ptp_base.specs.declared.port_state.PortState.TheVariants.{Initializing, Faulty, Disabled, Listening, PreMaster, Master, Passive, Uncalibrated, Slave}
use Rattle.ptp_base.specs.Least.{lesser}
use Rattle.ptp_profile.specs.declared.port_event.PortEvent.{PortEvent}
use Rattle.ptp_profile.specs.declared.port_event.PortEvent.TheVariants.{Decided}
use Rattle.ptp_profile.specs.declared.port_event.Timer.{Timer}
use Rattle.ptp_profile.specs.declared.port_event.Timer.TheVariants.{AnnounceReceipt, Qualification, AnnounceSend, SyncSend, DelayRequest}
use Rattle.ptp_profile.specs.Port.PortStates.{next, state_number}
use Rattle.ptp_profile.specs.Port.PortTimers.{Timers, all_timers, due_of, qualification_of, set_timer, timer_at}
use Rattle.ptp_profile.specs.Port.Port.{Port, after_clearing, after_entering, after_entering_uncalibrated, after_event, after_firing, gets_parent, is_set_for, with_receipt_renewed}

-- ---- timers above a floor

-- a timer that is set is set for a moment above the floor
abbrev pub IsSetAbove : ℕ → Option ℕ → Type 0
IsSetAbove floor None = Unit {0}
IsSetAbove floor (Some at) = floor < at

-- so is each of a port's timers
pub record AreSetAbove (floor : ℕ) (t : Timers) : Type 0 where
  pub receipt : IsSetAbove floor t.receipt
  pub qualification : IsSetAbove floor t.qualification
  pub announce : IsSetAbove floor t.announce
  pub sync : IsSetAbove floor t.sync
  pub delay : IsSetAbove floor t.delay

-- one of them
timer-above : (floor : ℕ) (timer : Timer) (t : Timers) → AreSetAbove floor t → IsSetAbove floor (timer_at t timer)
timer-above floor AnnounceReceipt t all = all.receipt
timer-above floor Qualification t all = all.qualification
timer-above floor AnnounceSend t all = all.announce
timer-above floor SyncSend t all = all.sync
timer-above floor DelayRequest t all = all.delay

-- a time behind a moment above the floor is above it
pub later-above : (floor m n : ℕ) → floor < m → floor < m + n
later-above floor m n above = omega (arith, above)

-- a timer that was set for a tick was set for one above the floor
pub set-above : (floor : ℕ) (timer : Timer) (tick : ℕ) (p : Port) → AreSetAbove floor p.timers → is_set_for timer tick p ≡ true
    → floor < tick
set-above floor timer tick p all set = by (timer_at p.timers timer) refl (timer-above floor timer p.timers all)
  where
    by : (o : Option ℕ) → timer_at p.timers timer ≡ o → IsSetAbove floor o → floor < tick
    by None is above = absurd (false≢true (rw is at set))
    by (Some at) is above = let same : at ≡ tick = eqb-true at tick (rw is at set) in subst (λ (n : ℕ). floor < n) same above

-- ---- what a port's machine makes of them

-- a timer that fires at a tick above the floor
pub fired-above : (floor tick : ℕ) (seen : ℤ) (timer : Timer) (p : Port) → floor < tick → AreSetAbove floor p.timers
    → AreSetAbove floor (after_firing tick seen timer p).timers
fired-above floor tick seen AnnounceReceipt p above all = record {
  receipt = tt;
  qualification = all.qualification;
  announce = all.announce;
  sync = all.sync;
  delay = all.delay;
}
fired-above floor tick seen Qualification p above all = record {
  receipt = all.receipt;
  qualification = tt;
  announce = all.announce;
  sync = all.sync;
  delay = all.delay;
}
fired-above floor tick seen AnnounceSend p above all = record {
  receipt = all.receipt;
  qualification = all.qualification;
  announce = later-above floor tick _ above;
  sync = all.sync;
  delay = all.delay;
}
fired-above floor tick seen SyncSend p above all = record {
  receipt = all.receipt;
  qualification = all.qualification;
  announce = all.announce;
  sync = later-above floor tick _ above;
  delay = all.delay;
}
fired-above floor tick seen DelayRequest p above all = record {
  receipt = all.receipt;
  qualification = all.qualification;
  announce = all.announce;
  sync = all.sync;
  delay = later-above floor tick _ above;
}

-- announce receipt that is set anew at a moment above the floor
pub renewed-above : (floor m : ℕ) (p : Port) → floor < m → AreSetAbove floor p.timers
    → AreSetAbove floor (with_receipt_renewed m p).timers
renewed-above floor m p above all = record {
  receipt = later-above floor m _ above;
  qualification = all.qualification;
  announce = all.announce;
  sync = all.sync;
  delay = all.delay;
}

-- when a port that enters PRE_MASTER then is qualified
qualified-above : (floor : ℕ) (conf : PortConf) (m steps : ℕ) (cause : PortEvent) → floor < m
    → floor < qualification_of conf m steps cause
qualified-above floor conf m steps (Decided M3) above = later-above floor m _ above
qualified-above floor conf m steps _ above = above

-- a port that enters UNCALIBRATED then
uncalibrated-above : (floor m : ℕ) (cause : PortEvent) (p : Port) → floor < m → AreSetAbove floor p.timers
    → AreSetAbove floor (after_entering_uncalibrated m cause p).timers
uncalibrated-above floor m (Decided code) p above all = record {
  receipt = later-above floor m _ above;
  qualification = tt;
  announce = tt;
  sync = tt;
  delay = later-above floor m _ above;
}
uncalibrated-above floor m _ p above all = all

-- a port that enters a state then
entered-above : (floor m steps : ℕ) (cause : PortEvent) (state : PortState) (p : Port) → floor < m → AreSetAbove floor p.timers
    → AreSetAbove floor (after_entering m steps cause state p).timers
entered-above floor m steps cause Listening p above all =
    record { receipt = later-above floor m _ above; qualification = tt; announce = tt; sync = tt; delay = tt }
entered-above floor m steps cause Passive p above all =
    record { receipt = later-above floor m _ above; qualification = tt; announce = tt; sync = tt; delay = tt }
entered-above floor m steps cause Uncalibrated p above all = uncalibrated-above floor m cause p above all
entered-above floor m steps cause PreMaster p above all =
    record { receipt = tt; qualification = qualified-above floor p.conf m steps cause above; announce = tt; sync = tt; delay = tt }
entered-above floor m steps cause Master p above all =
    record { receipt = tt; qualification = tt; announce = later-above floor m _ above; sync = later-above floor m _ above; delay = tt }
entered-above floor m steps cause Faulty p above all =
    record { receipt = tt; qualification = tt; announce = tt; sync = tt; delay = tt }
entered-above floor m steps cause Slave p above all = all
entered-above floor m steps cause Initializing p above all = all
entered-above floor m steps cause Disabled p above all = all

-- a port that is changed or not
pub either-above : (floor : ℕ) (b : Bool) (p q : Port) → AreSetAbove floor p.timers → AreSetAbove floor q.timers
    → AreSetAbove floor (cond b p q).timers
either-above floor true p q first later = first
either-above floor false p q first later = later

-- an event then
pub event-above : (floor m steps : ℕ) (cause : PortEvent) (is_new : Bool) (p : Port) → floor < m → AreSetAbove floor p.timers
    → AreSetAbove floor (after_event m steps cause is_new p).timers
event-above floor m steps cause is_new p above all =
    let state = next p.state cause is_new in
    let parted = record (after_clearing p) { state = Uncalibrated } in
    let entered = after_entering m steps cause state p in
    either-above floor (gets_parent cause is_new p.state) (with_receipt_renewed m parted)
    (cond (eqb (state_number state) (state_number p.state)) p entered)
    (renewed-above floor m parted above all)
    (either-above floor (eqb (state_number state) (state_number p.state)) p entered all
    (entered-above floor m steps cause state p above all))

-- ---- the timer that is due first

-- each timer of a list goes at a moment above the floor
abbrev AllAbove : ℕ → List (ℕ × Timer) → Type 0
AllAbove floor [] = Unit {0}
AllAbove floor (due ∷ dues) = (floor < due.0) × AllAbove floor dues

-- so does the timer that is due, if there is one
abbrev pub IsDueAbove : ℕ → Option (ℕ × Timer) → Type 0
IsDueAbove floor None = Unit {0}
IsDueAbove floor (Some due) = floor < due.0

-- the moment of a timer
abbrev moment : ℕ × Timer → ℕ
moment due = due.0

-- one timer more, above the floor, leaves the first above it
lesser-above : (floor : ℕ) (first : Option (ℕ × Timer)) (due : ℕ × Timer) → IsDueAbove floor first → floor < due.0
    → IsDueAbove floor (lesser moment first due)
lesser-above floor None due before here = here
lesser-above floor (Some first) due before here = by (ltb due.0 first.0)
  where
    by : (b : Bool) → IsDueAbove floor (cond b (Some due) (Some first))
    by true = here
    by false = before

-- where the first of it and one timer more is above the floor, so are both
lesser-parts : (floor : ℕ) (first : Option (ℕ × Timer)) (due : ℕ × Timer) → IsDueAbove floor (lesser moment first due)
    → IsDueAbove floor first × (floor < due.0)
lesser-parts floor None due above = (tt, above)
lesser-parts floor (Some first) due above = by (ltb due.0 first.0) refl above
  where
    by : (b : Bool) → ltb due.0 first.0 ≡ b → IsDueAbove floor (cond b (Some due) (Some first)) → (floor < first.0) × (floor < due.0)
    by true is above = let less = ltb-true due.0 first.0 is in (omega (arith, less, above), above)
    by false is above = let least = ltb-false due.0 first.0 is in (above, omega (arith, least, above))

-- where all are above the floor, so is the first
least-above : (floor : ℕ) (first : Option (ℕ × Timer)) (dues : List (ℕ × Timer)) → IsDueAbove floor first → AllAbove floor dues
    → IsDueAbove floor (fold (lesser moment) first dues)
least-above floor first [] before all = before
least-above floor first (due ∷ dues) before all =
    least-above floor (lesser moment first due) dues (lesser-above floor first due before all.0) all.1

-- where the first is above the floor, so are all
least-parts : (floor : ℕ) (first : Option (ℕ × Timer)) (dues : List (ℕ × Timer)) → IsDueAbove floor (fold (lesser moment) first dues)
    → IsDueAbove floor first × AllAbove floor dues
least-parts floor first [] above = (above, tt)
least-parts floor first (due ∷ dues) above =
    let rest = least-parts floor (lesser moment first due) dues above in
    let both = lesser-parts floor first due rest.0 in
    (both.0, (both.1, rest.1))

-- one timer more, which is set or not
cons-above : (floor : ℕ) (timer : Timer) (o : Option ℕ) (dues : List (ℕ × Timer)) → IsSetAbove floor o → AllAbove floor dues
    → AllAbove floor (cons_option (option_map (λ (at : ℕ). (at, timer)) o) dues)
cons-above floor timer None dues here rest = rest
cons-above floor timer (Some at) dues here rest = (here, rest)

-- of one timer more and the others
cons-parts : (floor : ℕ) (timer : Timer) (o : Option ℕ) (dues : List (ℕ × Timer))
    → AllAbove floor (cons_option (option_map (λ (at : ℕ). (at, timer)) o) dues) → IsSetAbove floor o × AllAbove floor dues
cons-parts floor timer None dues all = (tt, all)
cons-parts floor timer (Some at) dues all = all

-- where all timers are set above the floor, the one that is due is
pub due-above : (floor : ℕ) (t : Timers) → AreSetAbove floor t → IsDueAbove floor (due_of t)
due-above floor t all =
    least-above floor None (filter_map (set_timer t) all_timers) tt
    (cons-above floor AnnounceReceipt t.receipt _ all.receipt
    (cons-above floor Qualification t.qualification _ all.qualification
    (cons-above floor AnnounceSend t.announce _ all.announce
    (cons-above floor SyncSend t.sync _ all.sync
    (cons-above floor DelayRequest t.delay [] all.delay tt)))))

-- where the one that is due is above the floor, all are
pub timers-above : (floor : ℕ) (t : Timers) → IsDueAbove floor (due_of t) → AreSetAbove floor t
timers-above floor t due =
    let all = (least-parts floor None (filter_map (set_timer t) all_timers) due).1 in
    let receipt = cons-parts floor AnnounceReceipt t.receipt _ all in
    let qualification = cons-parts floor Qualification t.qualification _ receipt.1 in
    let announce = cons-parts floor AnnounceSend t.announce _ qualification.1 in
    let sync = cons-parts floor SyncSend t.sync _ announce.1 in
    let delay = cons-parts floor DelayRequest t.delay [] sync.1 in
    record {
      receipt = receipt.0;
      qualification = qualification.0;
      announce = announce.0;
      sync = sync.0;
      delay = delay.0;
    }
