-- How far a servo goes, and what its drift is made of.
use Rattle.std.proofs.Common.{◌≡◌, ◌≢◌, ℕ, ℤ, pos, ◌+ℤ◌, Bool, true, false, cond, List, [], ◌∷◌, length, refl, ap, arith, rules, suc}
use Rattle.std.proofs.lemmas.Int.{ints}
use Rattle.std.proofs.lemmas.List.Elements.{All-cons}
use Rattle.std.proofs.lemmas.Bool.Decides.{nat_tests}
use Rattle.std.specs.Prelude.{neg_ℤ, int_lt, ◌||◌, All}
use Rattle.ptp_base.specs.Floor.{IsWithin}
use Rattle.ptp_profile.specs.declared.timing.Action.{Action}
use Rattle.ptp_profile.specs.declared.timing.Action.TheVariants.{Unlocked, Jump, Locked}
use Rattle.ptp_profile.specs.declared.timing.ServoConf.{ServoConf}
use Rattle.ptp_profile.specs.Timing.Servo.{Sample, Phase, NoSample, OneSample, Running, limit, held_within, part, is_beyond, is_past_limit, counteraction, estimate, makes_estimate, newer_estimate, gain, next_drift, is_stepped_away, first_action, action_at, phase_after, drift_after, last_estimate, gains_since, newest_action, steer, IsGentle}

-- ---- the drift

-- one more sample
drift_step : (conf : ServoConf) (x : Sample) (phase : Phase) (drift former gains : ℤ) → drift ≡ former +ℤ gains
    → next_drift conf x phase drift ≡ newer_estimate conf x phase drift former +ℤ cond (makes_estimate x phase) (pos 0) (gains +ℤ gain conf x phase drift)
drift_step conf x NoSample drift former gains sum = omega (arith, ints, sum)
drift_step conf x (OneSample offset local) drift former gains sum = made (int_lt local x.local) (estimate conf x offset local drift)
  where
    made : (b : Bool) (e : ℤ) → cond b e drift ≡ cond b e former +ℤ cond b (pos 0) (gains +ℤ pos 0)
    made true e = omega (arith, ints)
    made false e = omega (arith, ints, sum)
drift_step conf x Running drift former gains sum = added (is_beyond conf.step x.offset || is_past_limit conf x drift) (part conf.ki x.offset)
  where
    added : (b : Bool) (i : ℤ) → cond b drift (drift +ℤ i) ≡ former +ℤ (gains +ℤ cond b (pos 0) i)
    added true i = omega (arith, ints, sum)
    added false i = omega (arith, ints, sum)

pub drift_after-sum : (conf : ServoConf) (freq : ℤ) (samples : List Sample)
    → drift_after conf freq samples ≡ last_estimate conf freq samples +ℤ gains_since conf freq samples
drift_after-sum conf freq [] = omega (arith, ints)
drift_after-sum conf freq (x ∷ before) =
    drift_step conf x (phase_after conf before) (drift_after conf freq before) (last_estimate conf freq before)
    (gains_since conf freq before) (drift_after-sum conf freq before)

-- ---- the frequency

neg-held_within : (most : ℕ) (z : ℤ) → IsWithin (pos most) (neg_ℤ (held_within most z))
neg-held_within most z = grind (arith, ints)

chosen : (conf : ServoConf) (b : Bool) (p q : Action) → IsGentle conf p → IsGentle conf q → IsGentle conf (cond b p q)
chosen conf true p q one other = one
chosen conf false p q one other = other

action_gentle : (conf : ServoConf) (x : Sample) (phase : Phase) (locked : Bool) (drift : ℤ) → IsGentle conf (action_at conf x phase locked drift)
action_gentle conf x NoSample locked drift = search rules
action_gentle conf x (OneSample offset local) locked drift =
    let e : ℤ = estimate conf x offset local drift in
    let few : IsWithin (pos (limit conf)) (neg_ℤ e) = neg-held_within (limit conf) _ in
    chosen conf (int_lt local x.local) (first_action conf x locked e) Unlocked
    (chosen conf (is_stepped_away conf x locked) (Jump (neg_ℤ x.offset) (neg_ℤ e)) (Locked (neg_ℤ e)) few few) (search rules)
action_gentle conf x Running locked drift =
    chosen conf (is_beyond conf.step x.offset) Unlocked (Locked (neg_ℤ (held_within (limit conf) (counteraction conf x drift)))) (search rules)
    (neg-held_within (limit conf) (counteraction conf x drift))

pub newest_gentle : (conf : ServoConf) (samples : List Sample) → IsGentle conf (newest_action conf samples)
newest_gentle conf [] = search rules
newest_gentle conf (x ∷ before) = action_gentle conf x _ _ _

pub length-steer : (conf : ServoConf) (samples : List Sample) → length (steer conf samples) ≡ length samples
length-steer conf [] = refl
length-steer conf (x ∷ before) = ap suc (length-steer conf before)

pub All-steer : (conf : ServoConf) (samples : List Sample) → All (IsGentle conf) (steer conf samples)
All-steer conf [] = search rules
All-steer conf (x ∷ before) =
    All-cons (IsGentle conf) (newest_action conf (x ∷ before)) (steer conf before) (newest_gentle conf (x ∷ before)) (All-steer conf before)

-- ---- a new generation

pub newest_action-new : (conf : ServoConf) (x y : Sample) (before : List Sample) → y.gener ≢ x.gener → newest_action conf (x ∷ y ∷ before) ≡ Unlocked
newest_action-new conf x y before other = grind (arith, nat_tests, other)
