use Rattle.std.proofs.Common.{◌≡◌, ◌+◌, ◌<◌, length, refl, arith}
use Rattle.bc_history.specs.Run.Transcript.{entry_text, entries_text}
use Rattle.transcript.proofs.lemmas.TextLemmas.{numbered-met}
use Rattle.transcript.proofs.entry.push_entries.Goals as goal

pub loop-i-preserved : goal.loop-i-preserved
loop-i-preserved c =
    let lt : c.loop-i.i < length c.args.entries.now = omega arith in
    let number : c.loop-i.i + 1 ≡ 1 + c.loop-i.i = omega arith in
    numbered-met entry_text entries_text (record { none = λ n. refl; more = λ n x xs. refl }) 1 c.args.entries.now c.loop-i.i (c.loop-i.i + 1) c.index-entries-i.result c.args.out.now c.loop-i.out c.push_entry.new.out lt number c.index-entries-i.is c.loop-i.invariant c.in_ok-push_entry.ensures
