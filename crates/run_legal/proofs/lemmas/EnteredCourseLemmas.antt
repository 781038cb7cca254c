-- With one right entry more, and its orders in the logs, entries and logs go on belonging together.
use Rattle.std.proofs.Common.{◌<◌, arith, List, ◌∷◌, length}
use Rattle.std.proofs.lemmas.List.Elements.{All-cons, All-weaker}
use Rattle.ptp_base.specs.declared.limits.TheConstants.{ENTRIES_MAX}
use Rattle.ptp_profile.specs.declared.seats.LogEntry.{LogEntry}
use Rattle.ptp_profile.specs.Roles.SeatLogs.{with_orders}
use Rattle.bc_history.specs.declared.entry.Entry.{Entry}
use Rattle.bc_history.specs.declared.scenario.Scenario.{Scenario}
use Rattle.bc_history.specs.Phases.Inputs.{event_of}
use Rattle.bc_history.specs.Phases.Step.{state_of}
use Rattle.bc_history.specs.Run.FormedRuns.{IsFormedEntry}
use Rattle.bc_history.specs.Scenario.ScenarioRules.{IsScenario}
use Rattle.bc_history.proofs.lemmas.FormedEntryLemmas.{formed_entry}
use Rattle.run_legal.specs.Runs.Courses.{IsAgreed, IsCourse, IsReadRight}
use Rattle.run_legal.specs.Runs.RightEntries.{IsRightEntry}
use Rattle.run_legal.proofs.lemmas.EnteredLogLemmas.{abreast-ordered, agreed-ordered, numbered-ordered, read-ordered}
use Rattle.run_legal.proofs.lemmas.EnteredOnceLemmas.{once-entered}
use Rattle.run_legal.proofs.lemmas.EnteredOrderLemmas.{logs-entered, orders-entered}
use Rattle.run_legal.proofs.lemmas.NewerOrderLemmas.{entries_are_bounded, orders_are_newer}

-- by all items of a course
pub course-entered : (s : Scenario) → IsScenario s → (entries : List Entry) (logs : List (List LogEntry)) (e : Entry)
    → IsCourse s entries logs → length entries < ENTRIES_MAX → IsRightEntry s entries logs e → IsCourse s (e ∷ entries) (with_orders logs e.effects.orders)
course-entered s is entries logs e course room right =
    let g = (state_of s entries).roles.gener in
    let orders = e.effects.orders in
    let later = with_orders logs orders in
    let new = orders_are_newer s e entries right.follows in
    let former = entries_are_bounded s entries course.history in
    record {
      formed = record {
        few = omega (arith, room);
        each = All-cons IsFormedEntry e entries (formed_entry s entries e is right.follows) course.formed.each;
      };
      history = (right.follows, course.history);
      lawful = logs-entered s entries e logs right.follows course.lawful;
      readings = All-cons (λ (e : Entry). IsReadRight s later (event_of e)) e entries (read-ordered s logs g orders new (event_of e) right.readings)
          (All-weaker (λ (e : Entry). IsReadRight s logs (event_of e)) (λ (e : Entry). IsReadRight s later (event_of e)) (λ e. read-ordered s logs g orders new (event_of e)) entries course.readings);
      actions = (right.action, course.actions);
      outcomes = record {
        agreed = All-cons (λ (e : Entry). IsAgreed s later e.input) e entries (agreed-ordered s logs g orders new e.input right.agreed)
            (All-weaker (λ (e : Entry). IsAgreed s logs e.input) (λ (e : Entry). IsAgreed s later e.input) (λ e. agreed-ordered s logs g orders new e.input) entries course.outcomes.agreed);
        once = once-entered s is logs entries e course.history course.outcomes right.follows right.agreed right.abreast;
      };
      numbers = (
        record {
          abreast = abreast-ordered s logs g orders new (event_of e) entries former right.abreast;
          ordered = orders-entered s entries e logs right.follows course.lawful course.numbers;
        },
        numbered-ordered s logs g orders new entries former course.numbers,
      );
    }
