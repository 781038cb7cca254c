use Rattle.std.proofs.Common.{arith, refl, suc, sym, ◌≡◌, ◌-◌, subst, List, drop, filter}
use Rattle.std.specs.Prelude.{◌==◌}
use Rattle.std.proofs.lemmas.Option.{slice_get_read}
use Rattle.bc_history.specs.declared.scenario.Record.{Record}
use Rattle.bc_steps.specs.RecordQueue.{QueueRepresents}
use Rattle.bc_steps.proofs.lemmas.QueueLemmas.{queued-more}
use Rattle.bc_steps.proofs.port.record_queue.queue_of.Goals as goal

pub loop-left-preserved-in_ok-push : goal.loop-left-preserved-in_ok-push
loop-left-preserved-in_ok-push c =
    let i = c.loop-left.left - 1 in
    let records : List Record = c.args.records.now in
    let there =
    slice_get_read records _ i c.index-records-left.result refl (omega (arith, c.loop-left.invariant.0, c.loop-left-test.true)) c.index-records-left.is in
    let next : c.loop-left.left ≡ suc i = omega (arith, c.loop-left-test.true) in (
      omega (arith, c.loop-left.invariant.0),
      subst (λ (q : List Record). QueueRepresents q (filter (λ (x : Record). x.port == c.args.port) (drop i records))) (sym c.in_ok-push.ensures.items)
          (queued-more c.args.port records i c.index-records-left.result c.in_ok-copy_of.field-0 c.loop-left.queue.items there c.if-next-port.true c.in_ok-copy_of.ensures
          (subst (λ n. QueueRepresents c.loop-left.queue.items (filter (λ (x : Record). x.port == c.args.port) (drop n records))) next c.loop-left.invariant.1)),
    )
