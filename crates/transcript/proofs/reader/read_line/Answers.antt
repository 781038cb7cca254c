use Rattle.std.proofs.Common.{sym, ◌∙◌}
use Rattle.transcript.proofs.lemmas.ReadBackLemmas.{none_found, other_found}
use Rattle.transcript.proofs.reader.read_line.Goals as goal

pub returns-in_default : goal.returns-in_default
returns-in_default c = none_found c.args.line.now (sym c.in_default.is ∙ c.in_ok-read.ensures)

pub returns-else-is_it : goal.returns-else-is_it
returns-else-is_it c = other_found c.args.line.now c.in-Some.read (sym c.in-Some.is ∙ c.in_ok-read.ensures) (rw c.if-is_it.false at c.in_ok-is_it.ensures)
