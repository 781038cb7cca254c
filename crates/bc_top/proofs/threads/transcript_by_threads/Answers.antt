use Rattle.std.proofs.Common.{rules, ◌≡◌, ℕ, List, Ok, Err, IfOk}
use Rattle.std.specs.Prelude.{Result}
use Rattle.bc_history.specs.declared.scenario.Scenario.{Scenario}
use Rattle.bc_history.specs.declared.entry.Run.{Run}
use Rattle.bc_history.specs.Scenario.LineFaults.{Stands}
use Rattle.bc_history.specs.Run.Transcript.{text_of}
use Rattle.run_legal.specs.Runs.LegalRuns.{IsLegal, IsWindowed}
use Rattle.bc_top.specs.Call.{IsTranscriptOf}
use Rattle.bc_top.specs.declared.outcome.NoTranscript.{NoTranscript}
use Rattle.bc_top.specs.declared.words.Command.TheVariants.{Run as By_threads}
use Rattle.bc_top.proofs.threads.transcript_by_threads.Goals as goal

-- the text of a legal and windowed run is a transcript
transcript : (text : List ℕ) (s : Scenario) (run : Run) (out : Result (List ℕ) NoTranscript) → Stands text s → IsLegal s run → IsWindowed s run → IfOk out (λ t. t ≡ text_of run) → IfOk out (λ t. IsTranscriptOf By_threads text t)
transcript text s run (Ok t) stands legal windowed spelled = record {
  scenario = s;
  run = run;
  stands = stands;
  made = (legal, windowed);
  spelled = spelled;
}
transcript text s run (Err why) stands legal windowed spelled = tt

pub returns-in_err-s-clause-without : goal.returns-in_err-s-clause-without
returns-in_err-s-clause-without g c = let without = c.in_err-s.ensures.without By_threads in search rules

pub returns-in-Ok-clause-transcript : goal.returns-in-Ok-clause-transcript
returns-in-Ok-clause-transcript g c =
    let value = c.deref.ensures.value in
    transcript c.args.text.items _ c.in-Ok.run' _ (rw value at c.in_ok-s.ensures.stands) c.in-Ok.ensures.legal c.in-Ok.ensures.windowed c.text_of.ensures.text
