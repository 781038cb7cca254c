use Rattle.std.proofs.Common.{◌≡◌, ◌++◌, take}
use Rattle.bc_history.specs.Run.Transcript.{log_entries_text}
use Rattle.transcript.proofs.logs.push_log_entries.Given as goal

abbrev pub invariant-loop-i : goal.invariant-loop-i
invariant-loop-i l = l.out ≡ l.initial.out ++ log_entries_text l.clock 1 (take l.i l.entries)
