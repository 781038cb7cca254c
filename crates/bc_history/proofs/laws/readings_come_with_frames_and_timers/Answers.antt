use Rattle.bc_history.proofs.lemmas.MomentLemmas.{read_follows, unread_follows}
use Rattle.bc_history.proofs.laws.readings_come_with_frames_and_timers.Goals as goal

pub returns : goal.returns
returns c = record { unread = unread_follows; read = read_follows }
