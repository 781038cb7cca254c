use Rattle.std.proofs.Common.{◌+◌, ap, sym, ◌∙◌, arith}
use Rattle.bc_replay.proofs.lemmas.ScheduleLemmas.{line-there, line-turns, past-schedule, turns-more}
use Rattle.bc_replay.proofs.run.take_schedule.Goals as goal

pub take_line-requires-clause-there : goal.take_line-requires-clause-there
take_line-requires-clause-there c = line-there c.args.s.now c.loop-i.i c.line_at-line.result c.rules.ensures c.line_at-line.ensures

pub take_line-requires-clause-turns : goal.take_line-requires-clause-turns
take_line-requires-clause-turns c = line-turns c.args.s.now c.loop-i.taken c.loop-i.i c.line_at-line.result c.line_at-line.ensures c.loop-i.invariant.taken

pub returns-clause-going : goal.returns-clause-going
returns-clause-going c =
    let all = c.loop-i-test.false in
    let count = c.line_count-i-end.ensures in
    record { taken = c.loop-i.taken; loop = c.loop-i.invariant.loop; past = past-schedule c.args.s.now c.loop-i.taken c.loop-i.i c.loop-i.invariant.taken (omega (arith, all, count)) }

pub loop-i-preserved : goal.loop-i-preserved
loop-i-preserved c = record {
  loop = c.in_ok-take_line.ensures.going;
  taken = ap (λ n. n + c.line_at-line.result.count) c.loop-i.invariant.taken ∙ sym (turns-more c.args.s.now.turns c.loop-i.i c.line_at-line.result c.line_at-line.ensures);
}
