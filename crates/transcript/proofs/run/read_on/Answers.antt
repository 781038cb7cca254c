use Rattle.std.proofs.Common.{Option, subst}
use Rattle.transcript.specs.declared.line.Line.{Line}
use Rattle.transcript.specs.TranscriptLines.{IsReadOf}
use Rattle.transcript.proofs.lemmas.ReadingLemmas.{read_on_is}
use Rattle.transcript.proofs.run.read_on.Goals as goal

pub returns-in_ok-after-in-Some : goal.returns-in_ok-after-in-Some
returns-in_ok-after-in-Some c =
    read_on_is c.args.octets.now c.args.before c.in-Some.line (subst (λ (read : Option Line). IsReadOf c.args.octets.now read) c.in-Some.is c.in_ok-read_line.ensures)
    c.in_ok-after-in-Some.after c.in_ok-after-in-Some.ensures
