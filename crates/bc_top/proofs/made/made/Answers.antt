use Rattle.bc_gen.specs.MadeScenario.{made_scenario}
use Rattle.bc_gen.specs.MadeText.{made_text}
use Rattle.bc_top.proofs.lemmas.CallLemmas.{if_stands}
use Rattle.bc_top.proofs.made.made.Goals as goal

pub returns-in-Ok-clause-error : goal.returns-in-Ok-clause-error
returns-in-Ok-clause-error c =
    let n = c.args.n in
    if_stands (made_text n) (made_scenario n) _ (c.texts_stand_for_scenarios.ensures.stands n c.ranges.n.fits) (rw (c.items.ensures, c.in-Ok.ensures) at c.scenario_of.ensures.without)
