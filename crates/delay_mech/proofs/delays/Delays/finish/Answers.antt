use Rattle.delay_mech.proofs.lemmas.DelaysViewLemmas.{sound_pushed}
use Rattle.delay_mech.proofs.lemmas.DelaySumLemmas.{far_within}
use Rattle.delay_mech.proofs.delays.Delays.finish.Goals as goal

pub invariant_of-self : goal.invariant_of-self
invariant_of-self c = sound_pushed _ _ _ _ _ _ c.self.invariant (far_within _ c.delay.ensures.within) c.push_front.ensures.items
