use Rattle.std.proofs.Common.{◌≡◌, ℕ, List, ◌+◌, ap, subst, sym, arith}
use Rattle.bc_steps.specs.ActorView.{ActorState}
use Rattle.bc_replay.specs.ActorLoop.{AreLevel, LoopRepresents}
use Rattle.bc_replay.specs.ActorTurns.{turner_or_default}
use Rattle.bc_replay.specs.ReplayError.{IsReplayError, by_hub}
use Rattle.bc_replay.proofs.lemmas.ActorLoopLemmas.{Loop-stops, found-none, found-turn, handed-on, taken-error, taken-step}
use Rattle.bc_replay.proofs.run.take_line.Goals as goal

pub turn_of-requires-clause-level : goal.turn_of-requires-clause-level
turn_of-requires-clause-level c = subst (λ (actors : List ActorState). AreLevel c.loop-k.hub actors) (sym c.deref.ensures.value) c.loop-k.invariant.all.level

pub returns-in_default-clause-error : goal.returns-in_default-clause-error
returns-in_default-clause-error c =
    let none = found-none c.loop-k.hub c.loop-k.actors.items c.deref.result.now c.args.line.who c.turn_of.result c.in_default.is c.deref.ensures.value c.turn_of.ensures in
    Loop-stops c.args.s.now (c.args.taken + c.loop-k.k) c.loop-k.hub c.loop-k.actors.items c.args.line.who c.loop-k.invariant
    (c.requires.turns c.loop-k.k c.loop-k-test.true) c.requires.there none

pub returns-in_err-take_turn-clause-error : goal.returns-in_err-take_turn-clause-error
returns-in_err-take_turn-clause-error c =
    let turn = found-turn c.loop-k.hub c.loop-k.actors.items c.deref.result.now c.args.line.who c.in-Some.i c.turn_of.result c.in-Some.is c.deref.ensures.value c.turn_of.ensures in
    handed-on (IsReplayError c.args.s.now) c.from_residual.result (by_hub c.in_err-take_turn.field-0.0) c.from_residual.ensures.1
    (taken-error c.args.s.now (c.args.taken + c.loop-k.k) c.loop-k.hub c.loop-k.actors.items c.args.line.who c.in-Some.i c.in_err-take_turn.field-0.0 turn c.loop-k.invariant
    (ap turner_or_default (c.requires.turns c.loop-k.k c.loop-k-test.true)) c.in_err-take_turn.ensures.error)

pub loop-k-preserved : goal.loop-k-preserved
loop-k-preserved c =
    let turn = found-turn c.loop-k.hub c.loop-k.actors.items c.deref.result.now c.args.line.who c.in-Some.i c.turn_of.result c.in-Some.is c.deref.ensures.value c.turn_of.ensures in
    let next : c.args.taken + c.loop-k.k + 1 ≡ c.args.taken + (c.loop-k.k + 1) = omega arith in
    subst (λ (n : ℕ). LoopRepresents c.args.s.now n c.take_turn.new.hub c.take_turn.new.actors.items) next
    (taken-step c.args.s.now (c.args.taken + c.loop-k.k) c.loop-k.hub c.take_turn.new.hub c.loop-k.actors.items c.take_turn.new.actors.items c.args.line.who c.in-Some.i turn c.loop-k.invariant
    (ap turner_or_default (c.requires.turns c.loop-k.k c.loop-k-test.true)) c.in_ok-take_turn.ensures.step)
