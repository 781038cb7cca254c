use Rattle.std.proofs.Common.{◌<◌, length, refl, arith}
use Rattle.bc_history.specs.Run.Transcript.{orders_text}
use Rattle.transcript.specs.PrintedLines.{order_text}
use Rattle.transcript.proofs.lemmas.TextLemmas.{grown}
use Rattle.transcript.proofs.lemmas.PrintedLineLemmas.{orders_text-more}
use Rattle.transcript.proofs.effects.push_orders.Goals as goal

pub loop-order-preserved : goal.loop-order-preserved
loop-order-preserved c =
    let lt : c.loop-order.order-index < length c.args.orders.now = omega arith in
    grown order_text orders_text refl orders_text-more c.args.orders.now c.loop-order.order-index _ c.args.out.now c.loop-order.out c.push_order.new.out lt c.loop-order.invariant c.in_ok-push_order.ensures
