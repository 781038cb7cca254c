use Rattle.transcript.proofs.lemmas.FirstSpaceLemmas.{behind_found, behind_missed}
use Rattle.transcript.proofs.line_event.behind.Goals as goal

pub returns-in-Some : goal.returns-in-Some
returns-in-Some c = behind_found c.args.text.now _ c.in-Some.ensures.value

pub returns-in-None : goal.returns-in-None
returns-in-None c = behind_missed c.args.text.now c.in-None.ensures.value
