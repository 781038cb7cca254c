-- What a follower asks of its clock is within limits.
use Rattle.std.proofs.Common.{◌≡◌, Bool, true, false, cond, sym, subst, arith, List, [], ◌∷◌}
use Rattle.std.proofs.lemmas.Int.{ints}
use Rattle.std.specs.Prelude.{ℤ, neg_ℤ, int_lt}
use Rattle.ptp_base.specs.Floor.{IsWithin}
use Rattle.ptp_base.specs.declared.time.TheConstants.{TIME_MAX}
use Rattle.ptp_profile.specs.declared.timing.Action.{Action}
use Rattle.ptp_profile.specs.declared.timing.Action.TheVariants.{Unlocked, Jump, Locked}
use Rattle.ptp_profile.specs.declared.timing.ServoConf.{ServoConf}
use Rattle.ptp_profile.specs.Timing.Servo.{Sample, Phase, NoSample, OneSample, Running, drift_after, first_sample, locked_after, newest_action, phase_after, run_before, action_at, estimate, first_action, is_beyond, is_stepped_away, IsGentle}
use Rattle.pi_servo.specs.SteererView.{SteererRepresents, SteererView}
use Rattle.phc_follow.specs.FollowerView.{IsWithinLimits}

-- the opposite is within too
within-neg : (most z : ℤ) → IsWithin most z → IsWithin most (neg_ℤ z)
within-neg most z h = (omega (arith, ints, h), omega (arith, ints, h))

-- a step that is asked for is one that a clock takes
IsStepWithin : Action → Type 0
IsStepWithin Unlocked = Unit {0}
IsStepWithin (Jump step freq) = IsWithin TIME_MAX step
IsStepWithin (Locked freq) = Unit {0}

-- the first action of a run steps the offset away, or nothing
step-first : (x : Sample) (freq : ℤ) (b : Bool) → IsWithin TIME_MAX x.offset
    → IsStepWithin (cond b (Jump (neg_ℤ x.offset) freq) (Locked freq))
unfolding IsStepWithin
step-first x freq true h = within-neg TIME_MAX x.offset h
step-first x freq false h = tt

-- by whether the second sample is a later one
step-second : (conf : ServoConf) (x : Sample) (locked : Bool) (drift : ℤ) (b : Bool) → IsWithin TIME_MAX x.offset
    → IsStepWithin (cond b (first_action conf x locked drift) Unlocked)
unfolding IsStepWithin
step-second conf x locked drift true h = step-first x (neg_ℤ drift) (is_stepped_away conf x locked) h
step-second conf x locked drift false h = tt

-- a servo that runs asks for no step
step-running : (freq : ℤ) (b : Bool) → IsStepWithin (cond b Unlocked (Locked freq))
unfolding IsStepWithin
step-running freq true = tt
step-running freq false = tt

-- the step of an action is the opposite of the offset, or there is none
step-within : (conf : ServoConf) (x : Sample) (phase : Phase) (locked : Bool) (drift : ℤ) → IsWithin TIME_MAX x.offset
    → IsStepWithin (action_at conf x phase locked drift)
unfolding IsStepWithin
step-within conf x NoSample locked drift h = tt
step-within conf x (OneSample offset local) locked drift h =
    step-second conf x locked (estimate conf x offset local drift) (int_lt local x.local) h
step-within conf x Running locked drift h = step-running _ (is_beyond conf.step x.offset)

-- step and frequency
within-both : (conf : ServoConf) (a : Action) → IsStepWithin a → IsGentle conf a → IsWithinLimits conf a
unfolding IsStepWithin
within-both conf Unlocked step gentle = tt
within-both conf (Jump s f) step gentle = (step, gentle)
within-both conf (Locked f) step gentle = gentle

-- a steerer that represents samples has their configuration
steerer-conf : (steerer : SteererView) (conf : ServoConf) (samples : List Sample) → SteererRepresents steerer conf samples → steerer.conf ≡ conf
steerer-conf steerer conf [] is = is.0
steerer-conf steerer conf (x ∷ before) is = is.configured

-- the action of a steerer at a sample whose offset is that of two clocks is within limits
pub steered-within : (steerer : SteererView) (conf : ServoConf) (samples : List Sample) (x : Sample) (a : Action)
    → SteererRepresents steerer conf samples → a ≡ newest_action conf (x ∷ samples) → IsWithin TIME_MAX x.offset
    → IsGentle steerer.conf a → IsWithinLimits conf a
steered-within steerer conf samples x a rep is within gentle =
    let run = run_before x samples in
    within-both conf a
    (subst IsStepWithin (sym is) (step-within conf x (phase_after conf run) (locked_after conf run) (drift_after conf (first_sample x run).freq run) within))
    (subst (λ (o : ServoConf). IsGentle o a) (steerer-conf steerer conf samples rep) gentle)
