use Rattle.std.proofs.Common.{◌≡◌, ◌+◌, ◌<◌, length, refl, arith}
use Rattle.bc_history.specs.Run.Transcript.{log_entry_text, log_entries_text}
use Rattle.transcript.proofs.lemmas.TextLemmas.{numbered-grown}
use Rattle.transcript.proofs.logs.push_log_entries.Goals as goal

pub loop-i-preserved : goal.loop-i-preserved
loop-i-preserved c =
    let lt : c.loop-i.i < length c.args.entries.now = omega arith in
    let number : c.loop-i.i + 1 ≡ 1 + c.loop-i.i = omega arith in
    numbered-grown (log_entry_text c.args.clock) (log_entries_text c.args.clock) (record { none = λ n. refl; more = λ n x xs. refl }) 1 c.args.entries.now c.loop-i.i (c.loop-i.i + 1) _ c.args.out.now c.loop-i.out c.push_log_entry.new.out lt number c.loop-i.invariant c.in_ok-push_log_entry.ensures
