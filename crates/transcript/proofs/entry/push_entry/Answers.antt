use Rattle.transcript.proofs.lemmas.PrintedLineLemmas.{entry_lines}
use Rattle.transcript.proofs.entry.push_entry.Goals as goal

pub returns : goal.returns
returns c =
    entry_lines c.args.number c.args.entry.now c.args.out.now c.push_event.new.out c.write.new.self c.push_effects.new.out
    c.in_ok-push_event.ensures c.in_ok-write.ensures c.in_ok-push_effects.ensures
