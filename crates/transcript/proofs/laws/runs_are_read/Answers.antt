use Rattle.std.proofs.Common.{refl}
use Rattle.transcript.proofs.laws.runs_are_read.Goals as goal

pub returns : goal.returns
returns c = λ run line formed typed fault. fault.unfinished run (record { formed = formed; typed = typed; spelled = refl })
