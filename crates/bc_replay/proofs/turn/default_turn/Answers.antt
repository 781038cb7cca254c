use Rattle.std.proofs.Common.{◌≡◌, length, slice_get, Some, None, ap, refl, sym, ◌∙◌, arith}
use Rattle.std.proofs.lemmas.Option.{slice_get_read}
use Rattle.bc_steps.specs.ActorView.{ActorState, due_tick}
use Rattle.bc_replay.proofs.lemmas.ActorTurnLemmas.{best-more, best-same, busy-passed, busy-taken, due-none, due-some, turn-some, busy_of}
use Rattle.bc_replay.proofs.turn.default_turn.Goals.{in-Some+then-is_busy, in-Some+else-is_busy, in_default}
use Rattle.bc_replay.proofs.turn.default_turn.Goals as goal

pub due-requires : goal.due-requires
due-requires c = record { level = c.requires.level c.actors.i c.index-actors-i.result (slice_get_read c.args.actors.now (length c.args.actors.now) c.actors.i c.index-actors-i.result refl (omega arith) c.index-actors-i.is) }

pub actors-preserved : goal.actors-preserved
actors-preserved c =
    let hub = c.args.hub.now in
    let all = c.args.actors.now in
    let i = c.actors.i in
    let a : ActorState = c.index-actors-i.result in
    let there : slice_get all i ≡ Some a = slice_get_read all (length all) i a refl (omega arith) c.index-actors-i.is in
    elim c.match-due.branch [
      | in-Some+then-is_busy w ↦
          let t = w.in-Some.tick in
          let due : due_tick hub a ≡ Some t = sym c.due.ensures.tick ∙ w.in-Some.is in
          record {
            busy = best-more hub all _ _ c.actors.busy c.match-due.busy i t a there due (busy-taken hub all i t a there due (sym w.is_busy.ensures ∙ w.if-is_busy.true)) (w.busy-is ∙ w.earlier-busy.ensures) c.actors.invariant.busy;
            first = best-more hub all _ _ c.actors.first c.match-due.first i t a there due (due-some hub all i t a there due) (w.first-is ∙ w.earlier-first.ensures) c.actors.invariant.first;
          }
      | in-Some+else-is_busy w ↦
          let t = w.in-Some.tick in
          let due : due_tick hub a ≡ Some t = sym c.due.ensures.tick ∙ w.in-Some.is in
          record {
            busy = best-same hub all _ _ c.actors.busy c.match-due.busy (busy-passed hub all i t a there due (sym w.is_busy.ensures ∙ w.if-is_busy.false)) w.busy-is c.actors.invariant.busy;
            first = best-more hub all _ _ c.actors.first c.match-due.first i t a there due (due-some hub all i t a there due) (w.first-is ∙ w.earlier-first.ensures) c.actors.invariant.first;
          }
      | in_default w ↦
          let none : due_tick hub a ≡ None = sym c.due.ensures.tick ∙ w.in_default.is in
          let same = due-none hub all i a there none in
          record {
            busy = best-same hub all _ _ c.actors.busy c.match-due.busy (ap busy_of same) w.busy-is c.actors.invariant.busy;
            first = best-same hub all _ _ c.actors.first c.match-due.first same w.first-is c.actors.invariant.first;
          }
    ]

pub returns-in-Some-or : goal.returns-in-Some-or
returns-in-Some-or c =
    turn-some c.args.hub.now c.args.actors.now c.actors.i c.in-Some-or.i c.in-Some-or.field-0-1 c.actors.busy c.actors.first c.or.result
    (omega (arith, c.actors-test.false)) c.actors.invariant.busy c.actors.invariant.first c.or.ensures c.in-Some-or.is
