use Rattle.std.proofs.Common.{pos, ap, ◌∙◌}
use Rattle.ptp_base.specs.Floor.{floor_of}
use Rattle.delay_mech.proofs.lemmas.DelaySumLemmas.{far_is, far_within, half_within}
use Rattle.delay_mech.proofs.arithmetic.delay.Goals as goal

pub returns-clause-within : goal.returns-clause-within
returns-clause-within c =
    far_within _ (half_within c.delay_sum.result _ c.delay_sum.ensures.within (c.half.ensures ∙ ap (λ z. floor_of z (pos 2)) (far_is _ c.delay_sum.ensures.within)))
