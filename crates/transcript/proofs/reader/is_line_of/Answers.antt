use Rattle.std.proofs.Common.{sym, ◌∙◌}
use Rattle.transcript.proofs.lemmas.ReadBackLemmas.{unformed, printed_so}
use Rattle.transcript.proofs.reader.is_line_of.Goals as goal

pub returns-then-not-is_formed : goal.returns-then-not-is_formed
returns-then-not-is_formed c = unformed c.args.octets.now c.args.line.now (sym c.if-not-is_formed.ensures)

pub returns : goal.returns
returns c =
    printed_so c.is_same.result c.args.octets.now c.items.result.now c.args.line.now c.is_same.ensures (c.items.ensures ∙ c.in_ok-text.ensures) (sym c.if-not-is_formed.ensures) c.line_typed.ensures
