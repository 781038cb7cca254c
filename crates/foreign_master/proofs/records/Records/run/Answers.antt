use Rattle.std.proofs.Common.{◌<◌, length, arith, ◌∙◌}
use Rattle.foreign_master.proofs.lemmas.RecordCallLemmas.{run_more}
use Rattle.foreign_master.proofs.records.Records.run.Goals as goal

pub loop-i-preserved : goal.loop-i-preserved
loop-i-preserved g c =
    let within : c.loop-i.i < length c.args.calls.now = c.loop-i-test.true in
    let room : c.loop-i.i < length c.loop-i.answers = omega (arith, c.loop-i.auto.answers, c.requires.same_length, within) in
    record {
      runs = λ kept keeps in_time.
          run_more _ c.loop-i.self.window kept c.args.calls.now c.loop-i.i _ c.loop-i.answers c.loop-i.self c.call.new.self c.call.result c.loop-i.invariant.window within room
          (c.loop-i.invariant.runs kept keeps in_time) c.call.ensures.answer c.call.ensures.kept;
      window = c.call.ensures.window ∙ c.loop-i.invariant.window;
      counted = (let more = c.call.ensures.counted in let so_far = c.loop-i.invariant.counted in omega (arith, more, so_far));
      receiver = c.call.ensures.receiver ∙ c.loop-i.invariant.receiver;
    }
