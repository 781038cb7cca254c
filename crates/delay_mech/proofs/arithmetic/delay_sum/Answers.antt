use Rattle.std.proofs.Common.{◌≡◌, pos, ◌^◌, ◌+ℤ◌, ◌-ℤ◌, ◌*ℤ◌, ◌∙◌, arith, ap, sym, subst, SFits}
use Rattle.std.proofs.lemmas.Int.{ints}
use Rattle.std.specs.Int.{w128}
use Rattle.ptp_base.specs.Floor.{IsWithin}
use Rattle.delay_mech.proofs.lemmas.DelaySumLemmas.{kept, last_is, sum_is, sum_within, within_64, far_is, far_within, wide_fits, within_more}
use Rattle.delay_mech.proofs.arithmetic.delay_sum.Goals as goal

correction_within : (c : goal.After-from) → IsWithin (pos (2 ^ 64)) c.from.result
correction_within c = subst (IsWithin (pos (2 ^ 64))) (omega (arith, ints, c.from.ensures)) (within_64 _ c.ranges.correction)

-- the last difference, in numbers that nothing cuts
last : (c : goal.After-from) → kept (kept (kept c.time_between-there.result +ℤ kept c.time_between-back.result) -ℤ kept c.args.t.now.correction) -ℤ kept c.from.result
    ≡ ((c.time_between-there.result +ℤ c.time_between-back.result) -ℤ c.args.t.now.correction) -ℤ c.from.result
last c = last_is _ _ _ _ c.time_between-there.ensures.within c.time_between-back.ensures.within c.requires (correction_within c)

small : (c : goal.After-from) → IsWithin (pos (2 ^ 82)) (((c.time_between-there.result +ℤ c.time_between-back.result) -ℤ c.args.t.now.correction) -ℤ c.from.result)
small c = sum_within _ _ _ _ c.time_between-there.ensures.within c.time_between-back.ensures.within c.requires (correction_within c)

pub overflow_sub-result-2 : goal.overflow_sub-result-2
overflow_sub-result-2 c = subst (SFits w128) (sym (last c)) (wide_fits _ (within_more (2 ^ 82) (2 ^ 84) _ (omega arith) (small c)))

pub returns-clause-exact : goal.returns-clause-exact
returns-clause-exact c =
    let there : c.time_between-there.result ≡ (c.args.t.now.arrived -ℤ c.args.sent) *ℤ pos 65536 = omega (arith, ints, c.time_between-there.ensures.exact) in
    let back : c.time_between-back.result ≡ (c.args.received -ℤ c.args.t.now.origin) *ℤ pos 65536 = omega (arith, ints, c.time_between-back.ensures.exact) in
    let from : c.from.result ≡ c.args.correction = omega (arith, ints, c.from.ensures) in
    ap kept (last c) ∙ far_is _ (small c)
    ∙ ap (λ z. ((c.time_between-there.result +ℤ c.time_between-back.result) -ℤ c.args.t.now.correction) -ℤ z) from
    ∙ sum_is c.args.t.now c.args.sent c.args.received c.args.correction _ _ there back

pub returns-clause-within : goal.returns-clause-within
returns-clause-within c = subst (IsWithin (pos (2 ^ 82))) (sym (ap kept (last c))) (far_within _ (small c))
