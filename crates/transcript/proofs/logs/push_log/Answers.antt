use Rattle.transcript.proofs.lemmas.PrintedLineLemmas.{log_lines}
use Rattle.transcript.proofs.logs.push_log.Goals as goal

pub returns : goal.returns
returns c =
    log_lines c.args.log.now c.args.out.now c.push_clock.new.out c.write.new.self c.push_log_entries.new.out
    c.in_ok-push_clock.ensures c.in_ok-write.ensures (rw c.items.ensures at c.in_ok-push_log_entries.ensures)
