use Rattle.bc_history.proofs.lemmas.EffectKindLemmas.{follows-tells, follows-there, tells_by_kind}
use Rattle.bc_history.proofs.laws.entries_tell_by_their_kind.Goals as goal

pub returns : goal.returns
returns c = record { made = tells_by_kind; follows = follows-tells; there = follows-there }
