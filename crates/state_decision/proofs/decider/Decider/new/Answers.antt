use Rattle.std.proofs.Common.{rules, ◌≡◌, ◌+◌, None, true, false, replicate, arith}
use Rattle.state_decision.specs.DeciderView.{unset}
use Rattle.state_decision.proofs.lemmas.DeciderLemmas.{decider-unset}
use Rattle.state_decision.proofs.decider.Decider.new.Goals as goal

pub invariant_of-result : goal.invariant_of-result
invariant_of-result c =
    let ports : c.in_ok-vec.field-0.items ≡ replicate c.from-count.result unset = search rules in
    let pass : c.in_ok-vec-2.field-0.items ≡ replicate (c.from-count.result + 1) None = search rules in
    let over : c.in_ok-vec-3.field-0.items ≡ replicate c.from-count.result true = search rules in
    let topology : c.in_ok-vec-4.field-0.items ≡ replicate c.from-count.result false = search rules in
    decider-unset c.args.own c.from-count.result c.in_ok-vec.field-0.items c.in_ok-vec-2.field-0.items c.in_ok-vec-3.field-0.items c.in_ok-vec-4.field-0.items
    (omega (arith, c.requires, c.from-count.ensures)) ports pass over topology
