use Rattle.std.proofs.Common.{◌<◌, length, refl, arith}
use Rattle.bc_history.specs.Run.Transcript.{frames_text}
use Rattle.transcript.specs.PrintedLines.{frame_text}
use Rattle.transcript.proofs.lemmas.TextLemmas.{met}
use Rattle.transcript.proofs.lemmas.PrintedLineLemmas.{frames_text-more}
use Rattle.transcript.proofs.effects.push_frames.Goals as goal

pub loop-sent-preserved : goal.loop-sent-preserved
loop-sent-preserved c =
    let lt : c.loop-sent.sent-index < length c.args.frames.now = omega arith in
    met frame_text frames_text refl frames_text-more c.args.frames.now c.loop-sent.sent-index c.sent-item.result c.args.out.now c.loop-sent.out c.push_frame.new.out lt c.sent-item.is c.loop-sent.invariant c.in_ok-push_frame.ensures
