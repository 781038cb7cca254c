use Rattle.std.proofs.Common.{◌≡◌, ◌++◌, take}
use Rattle.bc_history.specs.Run.Transcript.{entries_text}
use Rattle.transcript.proofs.entry.push_entries.Given as goal

abbrev pub invariant-loop-i : goal.invariant-loop-i
invariant-loop-i l = l.out ≡ l.initial.out ++ entries_text 1 (take l.i l.entries)
