use Rattle.pmc_query.proofs.lemmas.AnswerLemmas.{last_bytes}
use Rattle.pmc_query.proofs.values.add_number.Goals as goal

pub returns : goal.returns
returns c = rw (last_bytes c.args.width c.args.value c.requires) at (rw c.to_be_bytes-octets.ensures at c.append.ensures.ok)
