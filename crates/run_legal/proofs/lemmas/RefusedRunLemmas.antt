-- Runs in each of which one thing is wrong are not open, or not legal.
use Rattle.std.proofs.Common.{◌<◌, ◌≤◌, ℕ, false, refl, ap, List, [], length, arith, Option, Some, None, ℤ, pos}
use Rattle.std.specs.Prelude.{nat_abs}
use Rattle.std.proofs.lemmas.Bool.{false≢true}
use Rattle.ptp_profile.specs.declared.timing.Action.{Action}
use Rattle.ptp_profile.specs.declared.timing.Action.TheVariants.{Unlocked, Jump, Locked}
use Rattle.ptp_profile.specs.declared.seats.LogEntry.{LogEntry}
use Rattle.ptp_profile.specs.declared.seats.LogEntry.TheVariants.{Order, Change}
use Rattle.ptp_profile.specs.Wire.MessageFormat.{number_at, message_octets}
use Rattle.bc_history.specs.declared.entry.Entry.{Entry}
use Rattle.bc_history.specs.declared.entry.Input.{Input}
use Rattle.bc_history.specs.declared.entry.Input.TheVariants.{Frame}
use Rattle.bc_history.specs.Phases.Inputs.{tick_of}
use Rattle.bc_history.specs.Phases.PortPhase.{after_port}
use Rattle.bc_history.specs.Phases.DecisionPhase.{with_codes, after_hearing}
use Rattle.bc_history.specs.Phases.RolePhase.{after_roles}
use Rattle.bc_history.specs.Phases.NoticePhase.{after_turn}
use Rattle.bc_history.specs.Phases.Step.{step, state_of}
use Rattle.run_legal.specs.Numbers.Marks.{Mark, Sight}
use Rattle.run_legal.specs.Runs.LegalRuns.{IsOpen, IsLegal, IsWindowed}
use Rattle.bc_history.specs.Run.RunExamples.{order, announce_frame}
use Rattle.run_legal.specs.Runs.LegalExamples.{steers, first_announce, unread, out_of_turn, unordered, misread, oversteered, misreported, foreseen, unnamed, unfinished, never_steps, changed_before, two_hear, forgotten, follows, untold, backwards}
use Rattle.run_legal.proofs.lemmas.LegalTestLemmas.{other}

-- something of a kind, where one is asked for
some_entry : Entry
some_entry = first_announce None

some_sight : Sight
some_sight = record { clock = 0; seen = record { number = 0; value = pos 0; freq = pos 0 } }

some_mark : Mark
some_mark = record { clock = 0; number = 0; is_change = false }

pub unread_is_refused : IsOpen steers unread → ⊥
unread_is_refused open_run = false≢true (open_run.course.formed.each 0 some_entry (omega arith)).read

tick_in : Option Input → ℕ
tick_in None = 0
tick_in (Some input) = tick_of input

pub out_of_turn_is_refused : IsOpen steers out_of_turn → ⊥
unfolding tick_in state_of
out_of_turn_is_refused open_run =
    other 1000000000 3000000000 refl (ap tick_in open_run.course.history.0.due.0.1)

pub unordered_is_refused : IsOpen steers unordered → ⊥
unfolding number_at message_octets state_of step after_port with_codes after_hearing after_roles after_turn
unordered_is_refused open_run =
    other 0 1 refl (ap (λ (xs : List LogEntry). length xs) (open_run.course.lawful.lawful 0 [] refl).orders_are)

pub misread_is_refused : IsOpen steers misread → ⊥
misread_is_refused open_run =
    other 1000000001 1000000000 refl (ap (λ (z : ℤ). nat_abs z) (open_run.course.readings 0 some_entry (omega arith) 0 some_sight (omega arith)).value)

step_in : Action → ℕ
step_in Unlocked = 0
step_in (Jump step freq) = nat_abs step
step_in (Locked freq) = 0

pub oversteered_is_refused : IsOpen steers oversteered → ⊥
unfolding step_in
oversteered_is_refused open_run =
    other 60000 50000 refl (ap step_in open_run.course.actions.0)

logged_step : Option LogEntry → ℕ
logged_step None = 0
logged_step (Some (Order gener ctrl)) = 0
logged_step (Some (Change gener ctrl tick step freq)) = nat_abs step

pub misreported_is_refused : IsOpen steers misreported → ⊥
unfolding logged_step
misreported_is_refused open_run =
    other 60000 50000 refl (ap logged_step (open_run.course.outcomes.agreed 0 some_entry (omega arith)))

pub foreseen_is_refused : IsOpen steers foreseen → ⊥
foreseen_is_refused open_run =
    let above : 1 < 1 = open_run.course.numbers.0.ordered 0 (order 0 1 1) (omega arith) 0 0 (omega arith) 0 some_mark (omega arith) in
    omega arith

pub unnamed_is_refused : IsLegal steers unnamed → ⊥
unnamed_is_refused legal =
    let inside = (legal.named 0 2 refl).1 in
    omega arith

pub unfinished_is_refused : IsLegal steers unfinished → ⊥
unfolding state_of
unfinished_is_refused legal = legal.finished (Frame 1 1000000000 (announce_frame 0)) ((refl, refl), omega arith)

pub changed_before_is_refused : IsOpen never_steps changed_before → ⊥
changed_before_is_refused open_run =
    let above : 2 < 2 = open_run.course.numbers.0.abreast.rising.0 0 some_mark (omega arith) in
    omega arith

pub forgotten_is_refused : IsOpen two_hear forgotten → ⊥
forgotten_is_refused open_run =
    let known : 1 ≤ 0 = open_run.course.numbers.0.abreast.read 0 some_sight (omega arith) 1 0 (omega arith) in
    omega arith

pub untold_is_refused : IsOpen follows untold → ⊥
untold_is_refused open_run =
    let known : 2 ≤ 1 = open_run.course.numbers.0.abreast.told 1 some_mark (omega arith) 0 0 (omega arith) in
    omega arith

pub backwards_is_refused : IsWindowed steers backwards → ⊥
backwards_is_refused windowed =
    let rising : 24 ≤ 8 = windowed 0 1 some_entry (omega arith) (omega arith) in
    omega arith
