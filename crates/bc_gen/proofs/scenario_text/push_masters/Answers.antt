use Rattle.std.proofs.Common.{◌≡◌, ℕ, suc, ◌+◌, arith}
use Rattle.bc_gen.specs.MadeText.{master_text}
use Rattle.bc_gen.proofs.lemmas.MadeNumberLemmas.{next, master_added}
use Rattle.bc_gen.proofs.lemmas.MadeTextLemmas.{added}
use Rattle.bc_gen.proofs.scenario_text.push_masters.Goals as goal

pub loop-e-preserved : goal.loop-e-preserved
loop-e-preserved c = λ n begun.
    let e = c.loop-e.e in
    let before = c.loop-e.invariant n begun in
    let here : 17 + c.loop-e.e ≡ suc (16 + c.loop-e.e) = omega arith in
    let after : 16 + (c.loop-e.e + 1) ≡ suc (16 + c.loop-e.e) = omega arith in
    let zero_more : 0 + c.loop-e.e ≡ c.loop-e.e = omega arith in
    let reached = λ (m : ℕ) (same : m ≡ suc (16 + c.loop-e.e)). next n (16 + c.loop-e.e) m c.loop-e.x c.following-x.result (before.0) c.following-x.ensures same in
    let one = master_added n e c.following-x.result c.delay.result c.loop-e.out c.push_master.new.out (reached (17 + c.loop-e.e) here) c.delay.ensures c.in_ok-push_master.ensures in
    (reached (16 + (c.loop-e.e + 1)) after, added (master_text n) 0 e e c.args.out.now c.loop-e.out c.push_master.new.out zero_more (before.1) one)
