use Rattle.std.proofs.Common.{◌<◌, length, arith}
use Rattle.notify.proofs.lemmas.RingCallLemmas.{run-more}
use Rattle.notify.proofs.ring.Ring.run.Goals as goal

pub loop-i-preserved : goal.loop-i-preserved
loop-i-preserved c =
    let within : c.loop-i.i < length c.args.calls.now = c.loop-i-test.true in
    let room : c.loop-i.i < length c.loop-i.answers = omega (arith, c.loop-i.auto.answers, c.requires.same_length, within) in
    record {
      runs = λ state is.
          run-more state c.args.calls.now c.loop-i.i _ c.loop-i.answers c.loop-i.self c.call.new.self c.call.result within room
          (c.loop-i.invariant.runs state is) c.call.ensures.answer c.call.ensures.represents;
      put = omega (arith, c.call.ensures.put, c.loop-i.invariant.put);
    }
