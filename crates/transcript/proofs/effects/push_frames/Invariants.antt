use Rattle.std.proofs.Common.{◌≡◌, ◌++◌, take}
use Rattle.bc_history.specs.Run.Transcript.{frames_text}
use Rattle.transcript.proofs.effects.push_frames.Given as goal

abbrev pub invariant-loop-sent : goal.invariant-loop-sent
invariant-loop-sent l = l.out ≡ l.initial.out ++ frames_text (take l.sent-index l.frames)
