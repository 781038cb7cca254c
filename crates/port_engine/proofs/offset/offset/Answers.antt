use Rattle.std.proofs.Common.{◌≡◌, ℤ, pos, ◌+◌, ◌^◌, ◌-ℤ◌, ◌*ℤ◌, ◌∙◌, arith, ap}
use Rattle.std.proofs.lemmas.Int.{ints}
use Rattle.ptp_base.specs.Floor.{IsWithin}
use Rattle.ptp_profile.specs.Timing.OffsetAndDelay.{offset_of}
use Rattle.delay_mech.proofs.lemmas.DelaySumLemmas.{kept, wide_is, within_more, minus_within}
use Rattle.port_engine.proofs.offset.offset.Goals as goal

-- two differences of small numbers, which nothing cuts
differences_are : (between mean correction : ℤ) → IsWithin (pos (2 ^ 80)) between → IsWithin (pos (2 ^ 82)) mean → IsWithin (pos (2 ^ 64)) correction →
    kept (kept (kept between -ℤ kept mean) -ℤ kept correction) ≡ (between -ℤ mean) -ℤ correction
differences_are between mean correction b m k =
    let bs = wide_is between (within_more (2 ^ 80) (2 ^ 84) between (omega arith) b) in
    let ms = wide_is mean (within_more (2 ^ 82) (2 ^ 84) mean (omega arith) m) in
    let ks = wide_is correction (within_more (2 ^ 64) (2 ^ 84) correction (omega arith) k) in
    let first : IsWithin (pos (2 ^ 83)) (between -ℤ mean) = minus_within (2 ^ 80) (2 ^ 82) (2 ^ 83) between mean (omega arith) b m in
    let second : IsWithin (pos (2 ^ 84)) ((between -ℤ mean) -ℤ correction) = minus_within (2 ^ 83) (2 ^ 64) (2 ^ 84) (between -ℤ mean) correction (omega arith) first k in
    (λ i. kept (kept (bs i -ℤ ms i) -ℤ ks i))
    ∙ ap (λ z. kept (z -ℤ correction)) (wide_is (between -ℤ mean) (within_more (2 ^ 83) (2 ^ 84) _ (omega arith) first))
    ∙ wide_is _ second

pub returns : goal.returns
returns c =
    let between : c.time_between.result ≡ (c.args.t.now.arrived -ℤ c.args.t.now.origin) *ℤ pos 65536 = omega (arith, ints, c.time_between.ensures.exact) in
    differences_are _ _ _ c.time_between.ensures.within c.requires.mean c.requires.correction
    ∙ ap (λ z. (z -ℤ c.args.mean) -ℤ c.args.t.now.correction) between
