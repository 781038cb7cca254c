use Rattle.std.proofs.Common.{arith, ap}
use Rattle.ptp_base.specs.Room.{Reserved}
use Rattle.std.specs.Prelude.{ℕ}
use Rattle.port_engine.proofs.lemmas.FrameLengthLemmas.{written_fits}
use Rattle.port_engine.proofs.frames.Frames.put.Goals as goal

pub encode_reserved-requires-clause-room : goal.encode_reserved-requires-clause-room
encode_reserved-requires-clause-room c =
    let places = ap (λ (r : Reserved ℕ). r.spare) c.take-frame.ensures.blank in
    let few = written_fits c.args.m.now in
    omega (arith, places, few)
