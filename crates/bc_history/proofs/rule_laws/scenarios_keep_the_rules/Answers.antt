use Rattle.bc_history.proofs.lemmas.ScenarioRuleLemmas.{scenario_keeps}
use Rattle.bc_history.proofs.rule_laws.scenarios_keep_the_rules.Goals as goal

pub returns : goal.returns
returns c = scenario_keeps
