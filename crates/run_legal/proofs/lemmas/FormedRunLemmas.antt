-- Open runs hold nothing that a text can't show.
use Rattle.std.proofs.Common.{◌<◌, ◌≤◌, ℕ, ◌+◌, sym, subst, arith, List, [], ◌∷◌, reverse}
use Rattle.std.specs.Prelude.{All, AllPairs}
use Rattle.std.proofs.lemmas.List.{reverse-reverse}
use Rattle.std.proofs.lemmas.List.Elements.{All-nil, All-cons, All-head, All-tail, All-weaker}
use Rattle.std.proofs.lemmas.List.Kept.{AllPairs-cons}
use Rattle.model_clock.specs.declared.state.ClockState.{ClockState}
use Rattle.ptp_profile.specs.declared.seats.Log.{Log}
use Rattle.ptp_profile.specs.declared.seats.LogEntry.{LogEntry}
use Rattle.ptp_profile.specs.Roles.SeatLogs.{logs_from}
use Rattle.bc_history.specs.declared.entry.Entry.{Entry}
use Rattle.bc_history.specs.declared.entry.Run.{Run}
use Rattle.bc_history.specs.declared.scenario.Scenario.{Scenario}
use Rattle.bc_history.specs.Run.FormedRuns.{IsFormedEntry, IsFormedOpening, IsFormedRun}
use Rattle.bc_history.specs.Run.History.{Continues}
use Rattle.bc_history.specs.Scenario.ScenarioRules.{IsScenario}
use Rattle.bc_history.proofs.lemmas.FormedEntryLemmas.{formed_entry, formed_openings}
use Rattle.run_legal.specs.Runs.LegalRuns.{IsOpen, newest_first}
use Rattle.run_legal.proofs.lemmas.NewerOrderLemmas.{All-reverse}

-- ---- entries

-- the entries of a history are formed
pub formed-continues : (s : Scenario) → IsScenario s → (entries : List Entry) → Continues s entries → All IsFormedEntry entries
formed-continues s is [] continues = All-nil IsFormedEntry
formed-continues s is (e ∷ before) (f, continues) = All-cons IsFormedEntry e before (formed_entry s before e is f) (formed-continues s is before continues)

-- ---- logs

-- the logs of clocks from one on are of that and of later ones
logs_from-above : (clock : ℕ) (openings : List ClockState) (logs : List (List LogEntry)) → All (λ (log : Log). clock ≤ log.clock) (logs_from clock openings logs)
logs_from-above clock [] logs = All-nil _
logs_from-above clock (opening ∷ openings) [] = All-nil _
logs_from-above clock (opening ∷ openings) (log ∷ logs) =
    All-cons (λ (log : Log). clock ≤ log.clock) _ (logs_from (clock + 1) openings logs) (omega arith)
    (All-weaker (λ (log : Log). clock + 1 ≤ log.clock) (λ (log : Log). clock ≤ log.clock) (λ log above. omega (arith, above)) (logs_from (clock + 1) openings logs) (logs_from-above (clock + 1) openings logs))

-- they stand by rising clock
logs_from-rising : (clock : ℕ) (openings : List ClockState) (logs : List (List LogEntry)) → AllPairs (λ (former later : Log). former.clock < later.clock) (logs_from clock openings logs)
logs_from-rising clock [] logs = λ i j d lt below. absurd (omega (arith, below))
logs_from-rising clock (opening ∷ openings) [] = λ i j d lt below. absurd (omega (arith, below))
logs_from-rising clock (opening ∷ openings) (log ∷ logs) =
    AllPairs-cons (λ (former later : Log). former.clock < later.clock) _ (logs_from (clock + 1) openings logs)
    (All-weaker (λ (log : Log). clock + 1 ≤ log.clock) (λ (log : Log). clock < log.clock) (λ log above. omega (arith, above)) (logs_from (clock + 1) openings logs) (logs_from-above (clock + 1) openings logs))
    (logs_from-rising (clock + 1) openings logs)

-- each has its clock's opening
logs_from-openings : (P : ClockState → Type 0) (clock : ℕ) (openings : List ClockState) (logs : List (List LogEntry)) → All P openings
    → All (λ (log : Log). P log.opening) (logs_from clock openings logs)
logs_from-openings P clock [] logs each = All-nil _
logs_from-openings P clock (opening ∷ openings) [] each = All-nil _
logs_from-openings P clock (opening ∷ openings) (log ∷ logs) each =
    All-cons (λ (log : Log). P log.opening) _ (logs_from (clock + 1) openings logs) (All-head P opening openings each)
    (logs_from-openings P (clock + 1) openings logs (All-tail P opening openings each))

-- ---- all

-- an open run is formed
pub formed-open : (s : Scenario) → IsScenario s → (run : Run) → IsOpen s run → IsFormedRun run
formed-open s is run opened = record {
  entries = subst (All IsFormedEntry) (reverse-reverse run.entries) (All-reverse IsFormedEntry (reverse run.entries) opened.course.formed.each);
  rising = subst (AllPairs (λ (former later : Log). former.clock < later.clock)) (sym opened.opened) (logs_from-rising 0 s.clocks (newest_first run.logs));
  openings = subst (All (λ (log : Log). IsFormedOpening log.opening)) (sym opened.opened)
      (logs_from-openings IsFormedOpening 0 s.clocks (newest_first run.logs) (formed_openings s is));
}
