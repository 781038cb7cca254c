use Rattle.std.proofs.Common.{◌≡◌, ◌<◌, ◌+◌, ℤ, List, arith, take, length, Some, sym, ap, ◌∙◌, slice_get, option_copied}
use Rattle.std.proofs.lemmas.List.{length-set}
use Rattle.delay_mech.specs.DelaysView.{DelaysView}
use Rattle.delay_mech.proofs.lemmas.DelaysViewLemmas.{copied, small_copied, none_there}
use Rattle.delay_mech.proofs.delays.Delays.mean.Goals as goal
use Rattle.delay_mech.proofs.delays.Delays.mean.Goals.{in-Some, in_default}

abbrev delays_of : DelaysView → List ℤ
delays_of m = m.delays

pub loop-i-preserved : goal.loop-i-preserved
loop-i-preserved c =
    let few = c.self.invariant.few in
    let reserved = c.self.invariant.reserved in
    let within = c.len-count.ensures.within.0 in
    let long = c.loop-i.invariant.0 in
    let lt : c.loop-i.i < length c.loop-i.numbers = omega (arith, c.loop-i-test.true, few, reserved, within, long) in
    let same = c.loop-i.invariant.1 ∙ ap (λ m. take c.loop-i.i (delays_of m)) (sym c.self.view_is) in
    elim c.match-get.branch [
      | in-Some w ↦
          let at : slice_get c.self.inside.delays.items c.loop-i.i ≡ Some w.in-Some.delay.now = sym c.get.ensures ∙ ap option_copied w.in-Some.is in (
            ap length w.numbers-is ∙ length-set _ _ _ ∙ long,
            copied c.loop-i.numbers c.self.inside.delays.items c.match-get.numbers c.loop-i.i w.in-Some.delay.now lt c.self.invariant.small at same w.numbers-is
                ∙ ap (λ m. take (c.loop-i.i + 1) (delays_of m)) c.self.view_is,
          )
      | in_default w ↦ absurd (none_there c.self.inside.delays.items c.loop-i.i (omega (arith, c.loop-i-test.true, c.len-count.ensures.len)) (sym c.get.ensures ∙ ap option_copied w.in_default.is))
    ]

pub median-requires : goal.median-requires
median-requires c =
    let end : c.loop-i.i ≡ c.len-count.result = omega arith in
    let same : take c.len-count.result c.loop-i.numbers ≡ take c.len-count.result c.args.self.now.delays = rw end at c.loop-i.invariant.1 in
    small_copied c.len-count.result c.loop-i.numbers c.self.inside.delays.items c.self.invariant.small (same ∙ ap (λ m. take c.len-count.result (delays_of m)) (sym c.self.view_is))
