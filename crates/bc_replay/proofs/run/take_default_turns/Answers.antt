use Rattle.std.proofs.Common.{List, ◌+◌, ap, subst, sym, arith}
use Rattle.bc_history.specs.declared.scenario.Turner.TheVariants.{Default}
use Rattle.bc_steps.specs.ActorView.{ActorState}
use Rattle.bc_replay.specs.ActorLoop.{AreLevel}
use Rattle.bc_replay.specs.ActorTurns.{turner_or_default}
use Rattle.bc_replay.specs.ReplayError.{IsReplayError, by_hub}
use Rattle.bc_replay.proofs.lemmas.ActorLoopLemmas.{found-turn, handed-on, taken-error, taken-fewer, taken-step}
use Rattle.bc_replay.proofs.run.take_default_turns.Goals as goal

pub default_turn-requires : goal.default_turn-requires
default_turn-requires c = record { level = subst (λ (actors : List ActorState). AreLevel c.turns.hub actors) (sym c.deref.ensures.value) c.turns.invariant.loop.all.level }

pub turns-smaller : goal.turns-smaller
turns-smaller c = taken-fewer c.turns.hub c.take_turn.new.hub c.turns.actors.items c.take_turn.new.actors.items c.in-Some.i c.in_ok-take_turn.ensures.step

pub turns-preserved : goal.turns-preserved
turns-preserved c =
    let at = c.turns.invariant in
    let turn = found-turn c.turns.hub c.turns.actors.items c.deref.result.now Default c.in-Some.i c.default_turn.result c.in-Some.is c.deref.ensures.value c.default_turn.ensures in
    record {
      taken = at.taken + 1;
      loop = taken-step c.args.s.now at.taken c.turns.hub c.take_turn.new.hub c.turns.actors.items c.take_turn.new.actors.items Default c.in-Some.i turn at.loop
          (ap turner_or_default (at.past at.taken (omega arith))) c.in_ok-take_turn.ensures.step;
      past = λ n behind. at.past n (omega (arith, behind));
    }

pub returns-in_err-take_turn-clause-error : goal.returns-in_err-take_turn-clause-error
returns-in_err-take_turn-clause-error c =
    let at = c.turns.invariant in
    let turn = found-turn c.turns.hub c.turns.actors.items c.deref.result.now Default c.in-Some.i c.default_turn.result c.in-Some.is c.deref.ensures.value c.default_turn.ensures in
    handed-on (IsReplayError c.args.s.now) c.from_residual.result (by_hub c.in_err-take_turn.field-0.0) c.from_residual.ensures.1
    (taken-error c.args.s.now at.taken c.turns.hub c.turns.actors.items Default c.in-Some.i c.in_err-take_turn.field-0.0 turn at.loop
    (ap turner_or_default (at.past at.taken (omega arith))) c.in_err-take_turn.ensures.error)
