use Rattle.std.proofs.Common.{◌≡◌, refl, arith}
use Rattle.bc_gen.specs.MadeRecords.{announces_in, syncs_in, delay_resps_in, records_in}
use Rattle.bc_gen.proofs.lemmas.MadeTextLemmas.{three_added}
use Rattle.bc_gen.proofs.scenario_text.push_master.Goals as goal

pub loop-s-preserved : goal.loop-s-preserved
loop-s-preserved c =
    three_added (records_in c.args.e c.args.delay) c.loop-s.s (announces_in c.args.e c.loop-s.s) (syncs_in c.args.e c.args.delay c.loop-s.s) (delay_resps_in c.args.e c.args.delay c.loop-s.s) c.args.out.now c.loop-s.out c.push_announce.new.out c.push_sync.new.out c.push_delay_resp.new.out refl c.loop-s.invariant
    c.in_ok-push_announce.ensures c.in_ok-push_sync.ensures c.in_ok-push_delay_resp.ensures

pub returns : goal.returns
returns c =
    let count : c.loop-s.s ≡ 20 = omega arith in
    rw count at c.loop-s.invariant
