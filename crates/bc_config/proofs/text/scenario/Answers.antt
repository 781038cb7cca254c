use Rattle.std.proofs.Common.{refl, sym, arith}
use Rattle.bc_history.specs.Scenario.Draft.{scenario_of}
use Rattle.bc_history.proofs.lemmas.ScenarioRuleLemmas.{scenario_keeps}
use Rattle.bc_config.proofs.lemmas.LineReadingLemmas.{step, refused, end_faulty, stands, number_fits}
use Rattle.bc_config.proofs.text.scenario.Goals as goal

pub overflow_add-number : goal.overflow_add-number
overflow_add-number c = omega (arith, number_fits c.args.text.now c.loop-line.lines c.loop-line.number c.loop-line.draft c.requires c.loop-line.invariant)

pub loop-line-preserved : goal.loop-line-preserved
loop-line-preserved c =
    step c.args.text.now c.loop-line.lines c.loop-line.number c.loop-line.draft c.in-Some.line.now c.next.new.self c.take_line.new.self c.loop-line.invariant c.in-Some.ensures.steps
    c.in_default-take_line.ensures.ok.0 c.in_default-take_line.ensures.ok.1

pub overflow_add-result : goal.overflow_add-result
overflow_add-result c = omega (arith, number_fits c.args.text.now c.loop-line.lines c.loop-line.number c.loop-line.draft c.requires c.loop-line.invariant)

pub returns-in-Some-end_fault-clause-refused : goal.returns-in-Some-end_fault-clause-refused
returns-in-Some-end_fault-clause-refused c =
    end_faulty c.args.text.now c.loop-line.lines c.loop-line.number c.loop-line.draft c.in-Some-end_fault.reason c.loop-line.invariant c.in_default.ensures.steps.0 (sym c.in-Some-end_fault.ensures)

pub finish-requires : goal.finish-requires
finish-requires c =
    scenario_keeps c.args.text.now (scenario_of c.loop-line.draft)
    (stands c.args.text.now c.loop-line.lines c.loop-line.number c.loop-line.draft (scenario_of c.loop-line.draft) c.loop-line.invariant c.in_default.ensures.steps.0 (sym c.in_default-end_fault.ensures) refl)

pub returns-in-Err-clause-refused : goal.returns-in-Err-clause-refused
returns-in-Err-clause-refused c =
    rw c.refused.ensures (refused c.args.text.now c.loop-line.lines c.loop-line.number c.loop-line.draft c.in-Some.line.now c.next.new.self c.in-Err.error c.loop-line.invariant c.in-Some.ensures.steps c.in-Err.ensures.err)

pub returns-in-Ok-clause-stands : goal.returns-in-Ok-clause-stands
returns-in-Ok-clause-stands c =
    stands c.args.text.now c.loop-line.lines c.loop-line.number c.loop-line.draft c.in-Ok.scenario c.loop-line.invariant c.in_default.ensures.steps.0 (sym c.in_default-end_fault.ensures) c.in-Ok.ensures
