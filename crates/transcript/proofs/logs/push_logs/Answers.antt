use Rattle.std.proofs.Common.{◌<◌, length, refl, arith}
use Rattle.bc_history.specs.Run.Transcript.{log_text, logs_text}
use Rattle.transcript.proofs.lemmas.TextLemmas.{met}
use Rattle.transcript.proofs.logs.push_logs.Goals as goal

pub loop-log-preserved : goal.loop-log-preserved
loop-log-preserved c =
    let lt : c.loop-log.log-index < length c.args.logs.now = omega arith in
    met log_text logs_text refl (λ x xs. refl) c.args.logs.now c.loop-log.log-index c.log-item.result c.args.out.now c.loop-log.out c.push_log.new.out lt c.log-item.is c.loop-log.invariant c.in_ok-push_log.ensures
