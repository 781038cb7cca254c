use Rattle.std.proofs.Common.{ap, ◌∙◌}
use Rattle.bc_history.specs.declared.scenario.Scenario.{Scenario}
use Rattle.bc_top.proofs.lemmas.ScheduleLemmas.{always_due, made-no_turns}
use Rattle.bc_top.proofs.made.made_summary.Goals as goal

pub returns-clause-without : goal.returns-clause-without
returns-clause-without c =
    let none = ap (λ (s : Scenario). s.turns) c.in_ok-s.ensures.scenario ∙ made-no_turns c.args.n in
    let undue = rw c.in-Err-NotDue.field-0-is at c.in-Err-NotDue.ensures.error in
    always_due _ c.in-Err-NotDue.turn none undue
