use Rattle.std.proofs.Common.{◌≡◌, ◌+◌, arith}
use Rattle.bc_gen.specs.MadeText.{port_header}
use Rattle.bc_gen.proofs.lemmas.MadeTextLemmas.{added}
use Rattle.bc_gen.proofs.scenario_text.push_ports.Goals as goal

pub loop-i-preserved : goal.loop-i-preserved
loop-i-preserved c =
    let number : 1 + c.loop-i.i ≡ c.loop-i.i + 1 = omega arith in
    added port_header 1 c.loop-i.i (c.loop-i.i + 1) c.args.out.now c.loop-i.out c.push_port.new.out number c.loop-i.invariant c.in_ok-push_port.ensures

pub returns : goal.returns
returns c =
    let count : c.loop-i.i ≡ 32 = omega arith in
    rw count at c.loop-i.invariant
