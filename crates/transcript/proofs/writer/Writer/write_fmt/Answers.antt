use Rattle.transcript.proofs.lemmas.TextLemmas.{appended}
use Rattle.transcript.proofs.writer.Writer.write_fmt.Goals as goal

pub returns-in-Ok : goal.returns-in-Ok
returns-in-Ok g c = appended (g.D.Display.output c.args.format) c.args.self.now c.write.new.self c.in-Ok.ensures.writes
