use Rattle.std.specs.Prelude.{◌≤◌, ◌==◌, drop, filter, length}
use Rattle.bc_history.specs.declared.scenario.Record.{Record}
use Rattle.bc_steps.specs.RecordQueue.{QueueRepresents}
use Rattle.bc_steps.proofs.port.record_queue.queue_of.Given as goal

-- the records from `left` on are queued
abbrev pub invariant-loop-left : goal.invariant-loop-left
invariant-loop-left l =
    (l.left ≤ length l.records) × QueueRepresents l.queue.items (filter (λ (r : Record). r.port == l.port) (drop l.left l.records))

abbrev pub decreases-loop-left : goal.decreases-loop-left
decreases-loop-left l = l.left
