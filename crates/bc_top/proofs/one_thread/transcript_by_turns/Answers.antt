use Rattle.std.proofs.Common.{rules}
use Rattle.bc_top.specs.declared.words.Command.TheVariants.{Replay}
use Rattle.bc_top.proofs.one_thread.transcript_by_turns.Goals as goal

pub returns-in_err-s-clause-without : goal.returns-in_err-s-clause-without
returns-in_err-s-clause-without c = let without = c.in_err-s.ensures.without Replay in search rules
