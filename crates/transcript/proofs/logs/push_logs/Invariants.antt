use Rattle.std.proofs.Common.{◌≡◌, ◌++◌, take}
use Rattle.bc_history.specs.Run.Transcript.{logs_text}
use Rattle.transcript.proofs.logs.push_logs.Given as goal

abbrev pub invariant-loop-log : goal.invariant-loop-log
invariant-loop-log l = l.out ≡ l.initial.out ++ logs_text (take l.log-index l.logs)
