-- The World begins right, and a World that is right is an open run.
use Rattle.std.proofs.Common.{◌≡◌, ℕ, zero, suc, ◌+◌, Bool, true, false, refl, sym, ap, ◌∙◌, subst, List, [], ◌∷◌, length, map, replicate, cond, leb, inl, inr, arith, Option, Some, None}
use Rattle.std.specs.Prelude.{option_and_then, slice_get}
use Rattle.std.proofs.lemmas.Bool.{leb-false}
use Rattle.std.proofs.lemmas.List.{reverse-reverse}
use Rattle.std.proofs.lemmas.List.Elements.{All-nil}
use Rattle.ptp_base.specs.declared.port_conf.PortConf.{PortConf}
use Rattle.ptp_base.specs.declared.limits.TheConstants.{ENTRIES_MAX}
use Rattle.model_clock.specs.declared.state.ClockState.{ClockState}
use Rattle.ptp_profile.specs.declared.seats.LogEntry.{LogEntry}
use Rattle.ptp_profile.specs.Roles.SeatLogs.{IsLawful, logs_from, no_logs}
use Rattle.bc_history.specs.declared.entry.Who.{Who}
use Rattle.bc_history.specs.declared.place.PortPlace.{PortPlace}
use Rattle.bc_history.specs.declared.place.PortPlace.TheVariants.{Waits}
use Rattle.bc_history.specs.declared.scenario.Scenario.{Scenario}
use Rattle.bc_history.specs.declared.scenario.Turner.{Turner}
use Rattle.bc_history.specs.Phases.Inputs.{port_at}
use Rattle.bc_history.specs.Phases.OpeningState.{open_follower, follower_count}
use Rattle.bc_history.specs.Phases.State.{Follower}
use Rattle.bc_history.specs.Phases.Step.{state_of}
use Rattle.bc_history.specs.declared.place.FollowerPlace.{FollowerPlace}
use Rattle.bc_history.specs.declared.place.FollowerPlace.TheVariants.{Turns as Turns_next}
use Rattle.bc_history.specs.Run.World.{World, world_opening, run_of, Step, Event, Free, End, Finished, Not_due, Events, Status, Going, Ended, take_step, next_status, status_after_turn, turner_at, turn_of, default_turn, step_of, status_after}
use Rattle.run_legal.specs.Runs.Courses.{IsCourse}
use Rattle.run_legal.specs.Runs.LegalRuns.{IsOpen, newest_first}
use Rattle.run_legal.specs.Runs.WorldInvariant.{IsRight, IsPortPlaced, IsFollowerPlaced, IsStepTo, StaysRight, IsOpenThroughout}

length-no_logs : (clocks : List ClockState) → length (no_logs clocks) ≡ length clocks
length-no_logs [] = refl
length-no_logs (clock ∷ clocks) = ap (λ n. suc n) (length-no_logs clocks)

lawful-no_logs : (clocks : List ClockState) (clock : ℕ) (log : List LogEntry) (i : ℕ) → slice_get (no_logs clocks) i ≡ Some log → IsLawful clock [] log
lawful-no_logs [] clock log i is = cc
lawful-no_logs (opening ∷ clocks) clock log zero is =
    let same : [] ≡ log = cc in subst (λ (l : List LogEntry). IsLawful clock [] l) same (record { orders_are = refl; stamped = tt })
lawful-no_logs (opening ∷ clocks) clock log (suc i) is = lawful-no_logs clocks clock log i is

length-waits : (confs : List PortConf) → length (map (λ (c : PortConf). Waits) confs) ≡ length confs
length-waits [] = refl
length-waits (conf ∷ confs) = ap (λ n. suc n) (length-waits confs)

length-replicate : {X : Type 0} (n : ℕ) (x : X) → length (replicate n x) ≡ n
length-replicate zero x = refl
length-replicate (suc n) x = ap (λ n. suc n) (length-replicate n x)

-- every port waits
waits-at : (confs : List PortConf) (i : ℕ) (place : PortPlace) → slice_get (map (λ (c : PortConf). Waits) confs) i ≡ Some place → Waits ≡ place
waits-at [] i place is = cc
waits-at (conf ∷ confs) zero place is = cc
waits-at (conf ∷ confs) (suc i) place is = waits-at confs i place is

port-placed : (s : Scenario) (p : ℕ) (place : PortPlace) → port_at (world_opening s).ports p ≡ Some place → IsPortPlaced s (world_opening s) p place
port-placed s zero place is = cc
port-placed s (suc i) place is = subst (λ (at : PortPlace). IsPortPlaced s (world_opening s) (suc i) at) (waits-at s.ports i place is) refl

-- every follower is at its turn
follower-placed : (s : Scenario) (w : World) (c n i : ℕ) (f : Follower) (place : FollowerPlace)
    → slice_get (replicate n open_follower) i ≡ Some f → slice_get (replicate n Turns_next) i ≡ Some place → IsFollowerPlaced s w c f place
follower-placed s w c zero i f place is at = cc
follower-placed s w c (suc n) zero f place is at =
    let first : open_follower ≡ f = cc in
    let there : Turns_next ≡ place = cc in
    subst (λ (x : FollowerPlace). IsFollowerPlaced s w c f x) there (ap (λ (g : Follower). g.leading) (sym first))
follower-placed s w c (suc n) (suc i) f place is at = follower-placed s w c n i f place is at

opening_course : (s : Scenario) → IsCourse s [] (no_logs s.clocks)
unfolding state_of
opening_course s = record {
  formed = record { few = omega arith; each = All-nil _ };
  history = tt;
  lawful = record { number = length-no_logs s.clocks; lawful = λ clock log is. lawful-no_logs s.clocks clock log clock is };
  readings = All-nil _;
  actions = tt;
  outcomes = record { agreed = All-nil _; once = λ i j d lt below. absurd (omega arith) };
  numbers = tt;
}

-- the World begins right
pub IsRight-opening : (s : Scenario) → IsRight s (world_opening s)
unfolding state_of
IsRight-opening s = record {
  course = opening_course s;
  port_count = length-waits s.ports;
  ports = port-placed s;
  follower_count = length-replicate (follower_count s) Turns_next ∙ sym (length-replicate (follower_count s) open_follower);
  followers = λ c f place is at. follower-placed s (world_opening s) c (follower_count s) c f place is at;
}

-- ---- a World that is right gives an open run

pub newest_first-from : (c : ℕ) (openings : List ClockState) (logs : List (List LogEntry)) → length logs ≡ length openings → newest_first (logs_from c openings logs) ≡ logs
newest_first-from c [] [] same = refl
newest_first-from c [] (log ∷ logs) same = absurd (omega (arith, same))
newest_first-from c (opening ∷ openings) [] same = absurd (omega (arith, same))
newest_first-from c (opening ∷ openings) (log ∷ logs) same =
    let rest : length logs ≡ length openings = omega (arith, same) in
    rw (reverse-reverse log, newest_first-from (c + 1) openings logs rest) refl

-- so the run so far is open
pub IsRight-open : (s : Scenario) (w : World) → IsRight s w → IsOpen s (run_of s w)
IsRight-open s w right =
    let logs = newest_first-from 0 s.clocks w.logs right.course.lawful.number in
    let entries = reverse-reverse w.entries in
    record {
      opened = ap (λ (ls : List (List LogEntry)). logs_from 0 s.clocks ls) (sym logs);
      course = rw (logs, entries) right.course;
    }

-- what is so of the World at the beginning, and stays so at each step, is so of each state that goes on
pub throughout : (s : Scenario) (P : World → Type 0) → P (world_opening s) → ((w next : World) (who : Who) → P w → IsStepTo s w who next → P next)
    → (n : ℕ) (w : World) → status_after s n ≡ Going w → P w
unfolding status_after
throughout s P opened stays zero w at = let same : world_opening s ≡ w = cc in subst P same opened
throughout s P opened stays (suc n) w at = turned_by (λ v is. throughout s P opened stays n v is) (status_after s n) refl at
  where
    stepped_by : (v : World) (who : Who) (o : Option Step) → step_of s v who ≡ o → (end : End) → P v → take_step v end o ≡ Going w → P w
    stepped_by v who None is end stands at = cc
    stepped_by v who (Some (Free next)) is end stands at =
        let same : next ≡ w = cc in
        subst P same (stays v next who stands (inr is))
    stepped_by v who (Some (Event next)) is end stands at = room (leb ENTRIES_MAX (length v.entries)) refl at
      where
        room : (b : Bool) → leb ENTRIES_MAX (length v.entries) ≡ b → cond b (Ended Events) (Going next) ≡ Going w → P w
        room true full at = cc
        room false free at =
            let same : next ≡ w = cc in
            subst P same (stays v next who stands (inl (is, leb-false ENTRIES_MAX (length v.entries) free)))

    chosen_by : (v : World) (o : Option Who) (end : End) → P v → take_step v end (option_and_then (step_of s v) o) ≡ Going w → P w
    chosen_by v None end stands at = cc
    chosen_by v (Some who) end stands at = stepped_by v who (step_of s v who) refl end stands at

    line_by : (v : World) (o : Option Turner) → P v → next_status s n v o ≡ Going w → P w
    line_by v None stands at = chosen_by v (default_turn s v) (Finished (run_of s v)) stands at
    line_by v (Some turner) stands at = chosen_by v (turn_of s v turner) (Not_due (n + 1)) stands at

    turned_by : ((v : World) → status_after s n ≡ Going v → P v) → (x : Status) → status_after s n ≡ x → status_after_turn s n x ≡ Going w → P w
    turned_by before (Going v) is at = line_by v (turner_at s.turns n) (before v is) at
    turned_by before (Ended end) is at = cc

-- by the law of one step each state of the World that goes on is right
pub IsRight-throughout : (s : Scenario) → StaysRight s → (n : ℕ) (w : World) → status_after s n ≡ Going w → IsRight s w
IsRight-throughout s stays = throughout s (IsRight s) (IsRight-opening s) (λ w next who right step. stays w next who right step)

-- so each state that goes on is an open run
pub open-throughout : (s : Scenario) → StaysRight s → IsOpenThroughout s
open-throughout s stays n w at = IsRight-open s w (IsRight-throughout s stays n w at)
