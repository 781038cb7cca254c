use Rattle.pmc_query.proofs.lemmas.QueryWordLemmas.{asked_from}
use Rattle.pmc_query.proofs.asking.ask.Goals as goal

pub returns : goal.returns
returns c = asked_from c.args.text.now _ _ _ _ c.first_word.ensures c.action_named.ensures c.action_asked.ensures
