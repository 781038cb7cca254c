-- What a servo asks of a clock is within what a clock takes.
use Rattle.std.proofs.Common.{of_z, to_z, w64, ◌≡◌, Bool, true, false, cond, sym, subst, arith, List, [], ◌∷◌}
use Rattle.std.proofs.lemmas.Int.{ints, to_z-of_z}
use Rattle.pi_servo.proofs.lemmas.WordSizeLemmas.{fits}
use Rattle.std.specs.Prelude.{ℤ, pos, neg_ℤ, ◌≤ℤ◌, int_lt}
use Rattle.ptp_base.specs.Floor.{IsWithin, floor_of, held_ns, ns_of}
use Rattle.ptp_base.specs.declared.time.TheConstants.{FREQ_MAX, TIME_MAX}
use Rattle.ptp_profile.specs.declared.timing.Action.{Action}
use Rattle.ptp_profile.specs.declared.timing.Action.TheVariants.{Unlocked, Jump, Locked}
use Rattle.ptp_profile.specs.declared.timing.ServoConf.{ServoConf}
use Rattle.ptp_profile.specs.Timing.Servo.{Sample, drift_after, first_sample, locked_after, newest_action, phase_after, run_before, Phase, NoSample, OneSample, Running, action_at, estimate, first_action, is_beyond, is_stepped_away, limit, IsGentle}
use Rattle.pi_servo.specs.SteererView.{SteererRepresents, SteererView}
use Rattle.bc_steps.specs.ExchangeBounds.{IsAskable, IsWithinClock}

-- the opposite is within too
within-neg : (most z : ℤ) → IsWithin most z → IsWithin most (neg_ℤ z)
within-neg most z h = (omega (arith, ints, h), omega (arith, ints, h))

-- what is within a magnitude is within a greater one
pub within-more : (most more z : ℤ) → most ≤ℤ more → IsWithin most z → IsWithin more z
within-more most more z le h = (omega (arith, ints, le, h), omega (arith, ints, le, h))

-- a step that is asked for is one that a clock takes
IsStepWithin : Action → Type 0
IsStepWithin Unlocked = Unit {0}
IsStepWithin (Jump step freq) = IsWithin TIME_MAX step
IsStepWithin (Locked freq) = Unit {0}

-- the first action of a run steps the offset away, or nothing
step-first : (x : Sample) (freq : ℤ) (b : Bool) → IsWithin TIME_MAX x.offset
    → IsStepWithin (cond b (Jump (neg_ℤ x.offset) freq) (Locked freq))
unfolding IsStepWithin
step-first x freq true h = within-neg TIME_MAX x.offset h
step-first x freq false h = tt

-- by whether the second sample is a later one
step-second : (conf : ServoConf) (x : Sample) (locked : Bool) (drift : ℤ) (b : Bool) → IsWithin TIME_MAX x.offset
    → IsStepWithin (cond b (first_action conf x locked drift) Unlocked)
unfolding IsStepWithin
step-second conf x locked drift true h = step-first x (neg_ℤ drift) (is_stepped_away conf x locked) h
step-second conf x locked drift false h = tt

-- a servo that runs asks for no step
step-running : (freq : ℤ) (b : Bool) → IsStepWithin (cond b Unlocked (Locked freq))
unfolding IsStepWithin
step-running freq true = tt
step-running freq false = tt

-- the step of an action is the opposite of the offset, or there is none
step-within : (conf : ServoConf) (x : Sample) (phase : Phase) (locked : Bool) (drift : ℤ) → IsWithin TIME_MAX x.offset
    → IsStepWithin (action_at conf x phase locked drift)
unfolding IsStepWithin
step-within conf x NoSample locked drift h = tt
step-within conf x (OneSample offset local) locked drift h =
    step-second conf x locked (estimate conf x offset local drift) (int_lt local x.local) h
step-within conf x Running locked drift h = step-running _ (is_beyond conf.step x.offset)

-- step and frequency
askable : (conf : ServoConf) (a : Action) → IsWithinClock conf → IsStepWithin a → IsGentle conf a → IsAskable a
unfolding IsStepWithin
askable conf Unlocked few step gentle = tt
askable conf (Jump s f) few step gentle = (step, within-more (pos (limit conf)) FREQ_MAX f few gentle)
askable conf (Locked f) few step gentle = within-more (pos (limit conf)) FREQ_MAX f few gentle

-- an action of the servo at a sample may be asked of a clock
pub action-askable : (conf : ServoConf) (x : Sample) (phase : Phase) (locked : Bool) (drift : ℤ) (a : Action)
    → a ≡ action_at conf x phase locked drift → IsWithin TIME_MAX x.offset → IsWithinClock conf → IsGentle conf a → IsAskable a
action-askable conf x phase locked drift a is h few gentle =
    askable conf a few (subst IsStepWithin (sym is) (step-within conf x phase locked drift h)) gentle

-- a steerer that represents samples has their configuration
pub steerer-conf : (steerer : SteererView) (conf : ServoConf) (samples : List Sample) → SteererRepresents steerer conf samples
    → steerer.conf ≡ conf
steerer-conf steerer conf [] is = is.0
steerer-conf steerer conf (x ∷ before) is = is.configured

-- the action of a steerer at a sample may be asked of a clock
pub steered-askable : (steerer : SteererView) (conf : ServoConf) (samples : List Sample) (x : Sample) (a : Action)
    → SteererRepresents steerer conf samples → a ≡ newest_action conf (x ∷ samples) → IsWithin TIME_MAX x.offset
    → IsGentle steerer.conf a → IsWithinClock conf → IsAskable a
steered-askable steerer conf samples x a rep is within gentle few =
    let run = run_before x samples in
    action-askable conf x (phase_after conf run) (locked_after conf run) (drift_after conf (first_sample x run).freq run) a is
    within few (subst (λ (o : ServoConf). IsGentle o a) (steerer-conf steerer conf samples rep) gentle)

-- a number of ns is held within what a clock counts
held-within : (z : ℤ) → IsWithin TIME_MAX (held_ns z)
held-within z = grind (arith, ints)

-- an offset in ns is within that
pub ns_of-within : (s offset : ℤ) → offset ≡ ns_of s → IsWithin TIME_MAX offset
ns_of-within s offset is = subst (IsWithin TIME_MAX) (sym is) (held-within (floor_of s (pos 65536)))

-- so is one that went through a machine's word
pub word-within : (s offset : ℤ) → offset ≡ ns_of s → IsWithin TIME_MAX (to_z w64 (of_z w64 offset))
word-within s offset is =
    let within = ns_of-within s offset is in
    rw (to_z-of_z w64 offset (fits 8589934591999999999 offset (omega arith) within)) within
