use Rattle.std.proofs.Common.{◌≡◌, ◌++◌, take}
use Rattle.bc_history.specs.Run.Transcript.{orders_text}
use Rattle.transcript.proofs.effects.push_orders.Given as goal

abbrev pub invariant-loop-order : goal.invariant-loop-order
invariant-loop-order l = l.out ≡ l.initial.out ++ orders_text (take l.order-index l.orders)
