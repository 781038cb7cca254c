-- The servo, and what it asks of a clock (project) The servo is the project's own: IEEE 1588-2019
-- has none. Offsets, steps and local times are in ns, frequencies and drifts in ppb times 65,536.
-- The lists have the newest sample first.
use Rattle.std.specs.Prelude.{ℕ, ℤ, pos, ◌*◌, ◌+ℤ◌, ◌-ℤ◌, ◌*ℤ◌, neg_ℤ, nat_abs, int_lt, Bool, false, not, ◌==◌, ◌&&◌, ◌||◌, nat_lt, if◌then◌else◌, ⊤, List, [], ◌∷◌, take_while}
use Rattle.ptp_base.specs.Floor.{floor_of}
use Rattle.ptp_base.specs.Floor.{IsWithin}
use Rattle.ptp_profile.specs.declared.timing.Action.{Action}
use Rattle.ptp_profile.specs.declared.timing.Action.TheVariants.{Unlocked, Jump, Locked}
use Rattle.ptp_profile.specs.declared.timing.ServoConf.{ServoConf}

-- an offset that a clock had at a local time, under a generation, while it ran at a frequency
pub record Sample : Type 0 where
  pub gener : ℕ
  pub freq : ℤ
  pub offset : ℤ
  pub local : ℤ

-- where a servo is: before its first offset, after it, or past both
pub data Phase : Type 0 where
  NoSample : Phase
  OneSample : (offset local : ℤ) → Phase
  Running : Phase

-- ---- limits and gains

-- the greatest magnitude of a frequency
abbrev pub limit : ServoConf → ℕ
limit conf = conf.max * 65536

-- a number held within a magnitude
abbrev pub held_within : ℕ → ℤ → ℤ
held_within most z =
    if int_lt (pos most) z then
    pos most
    else
    if int_lt z (neg_ℤ (pos most)) then neg_ℤ (pos most) else z

-- a part of the frequency: a ppb for each ns of the offset, times a gain in thousandths
abbrev pub part : ℕ → ℤ → ℤ
part gain offset = floor_of ((pos gain *ℤ offset) *ℤ pos 65536) (pos 1000)

-- an offset is above a threshold, of which 0 stands for none
abbrev pub is_beyond : ℕ → ℤ → Bool
is_beyond threshold offset = not (threshold == 0) && nat_lt threshold (nat_abs offset)

-- ---- one sample

-- a sample from which, after the first offset, a drift is estimated
abbrev pub makes_estimate : Sample → Phase → Bool
makes_estimate x NoSample = false
makes_estimate x (OneSample offset local) = int_lt local x.local
makes_estimate x Running = false

-- where a servo is after a sample
abbrev pub next_phase : ServoConf → Sample → Phase → Phase
next_phase conf x NoSample = OneSample x.offset x.local
next_phase conf x (OneSample offset local) = if int_lt local x.local then Running else NoSample
next_phase conf x Running = if is_beyond conf.step x.offset then NoSample else Running

-- the drift that the change of the offset since the first one shows
abbrev pub estimate : ServoConf → Sample → ℤ → ℤ → ℤ → ℤ
estimate conf x offset local drift =
    held_within (limit conf)
    (drift +ℤ floor_of ((x.offset -ℤ offset) *ℤ (pos 65536000000000 -ℤ drift))
    (x.local -ℤ local))

-- what is counteracted, before it is held: the drift, the proportional part and the integral part
abbrev pub counteraction : ServoConf → Sample → ℤ → ℤ
counteraction conf x drift = (drift +ℤ part conf.kp x.offset) +ℤ part conf.ki x.offset

-- that passes an end
abbrev pub is_past_limit : ServoConf → Sample → ℤ → Bool
is_past_limit conf x drift = nat_lt (limit conf) (nat_abs (counteraction conf x drift))

-- a servo that runs, and begins not anew, holds the frequency at an end
abbrev pub is_held : ServoConf → Sample → Phase → ℤ → Bool
is_held conf x NoSample drift = false
is_held conf x (OneSample offset local) drift = false
is_held conf x Running drift = not (is_beyond conf.step x.offset) && is_past_limit conf x drift

-- what a sample adds to the drift without an estimate: the integral part, where the servo runs and
-- isn't held
abbrev pub gain : ServoConf → Sample → Phase → ℤ → ℤ
gain conf x NoSample drift = pos 0
gain conf x (OneSample offset local) drift = pos 0
gain conf x Running drift =
    if is_beyond conf.step x.offset || is_past_limit conf x drift then
    pos 0
    else
    part conf.ki x.offset

-- the drift after a sample
abbrev pub next_drift : ServoConf → Sample → Phase → ℤ → ℤ
next_drift conf x NoSample drift = drift
next_drift conf x (OneSample offset local) drift =
    if int_lt local x.local then estimate conf x offset local drift else drift
next_drift conf x Running drift =
    if is_beyond conf.step x.offset || is_past_limit conf x drift then
    drift
    else
    drift +ℤ part conf.ki x.offset

-- an offset that is stepped away as an estimate is made: beyond the one threshold, or as the servo
-- first locks beyond the other
abbrev pub is_stepped_away : ServoConf → Sample → Bool → Bool
is_stepped_away conf x locked =
    (not locked && is_beyond conf.first_step x.offset) || is_beyond conf.step x.offset

-- the action at a sample, after whose estimate the drift is as said
abbrev pub first_action : ServoConf → Sample → Bool → ℤ → Action
first_action conf x locked drift =
    if is_stepped_away conf x locked then
    Jump (neg_ℤ x.offset) (neg_ℤ drift)
    else
    Locked (neg_ℤ drift)

-- the action at a sample, by where the servo was before it, whether it had locked, and its drift
abbrev pub action_at : ServoConf → Sample → Phase → Bool → ℤ → Action
action_at conf x NoSample locked drift = Unlocked
action_at conf x (OneSample offset local) locked drift =
    if int_lt local x.local then
    first_action conf x locked (estimate conf x offset local drift)
    else
    Unlocked
action_at conf x Running locked drift =
    if is_beyond conf.step x.offset then
    Unlocked
    else
    Locked (neg_ℤ (held_within (limit conf) (counteraction conf x drift)))

-- ---- one run

-- the drift that a servo begins with
abbrev pub opening_drift : ServoConf → ℤ → ℤ
opening_drift conf freq = held_within (limit conf) (neg_ℤ freq)

-- where the servo is after the samples of a run
abbrev pub phase_after : ServoConf → List Sample → Phase
phase_after conf [] = NoSample
phase_after conf (x ∷ before) = next_phase conf x (phase_after conf before)

-- the servo has locked: at some sample it made an estimate
abbrev pub locked_after : ServoConf → List Sample → Bool
locked_after conf [] = false
locked_after conf (x ∷ before) =
    makes_estimate x (phase_after conf before) || locked_after conf before

-- the drift after the samples of a run that began at a frequency
abbrev pub drift_after : ServoConf → ℤ → List Sample → ℤ
drift_after conf freq [] = opening_drift conf freq
drift_after conf freq (x ∷ before) =
    next_drift conf x (phase_after conf before) (drift_after conf freq before)

-- the action at a sample, after those of its run before it
abbrev pub action_after : ServoConf → ℤ → Sample → List Sample → Action
action_after conf freq x before =
    action_at conf x (phase_after conf before) (locked_after conf before)
    (drift_after conf freq before)

-- the estimate that a sample makes, and where it makes none the former one
abbrev pub newer_estimate : ServoConf → Sample → Phase → ℤ → ℤ → ℤ
newer_estimate conf x NoSample drift former = former
newer_estimate conf x (OneSample offset local) drift former =
    if int_lt local x.local then estimate conf x offset local drift else former
newer_estimate conf x Running drift former = former

-- the last estimate of a run, and before the first the drift that it began with
abbrev pub last_estimate : ServoConf → ℤ → List Sample → ℤ
last_estimate conf freq [] = opening_drift conf freq
last_estimate conf freq (x ∷ before) =
    newer_estimate conf x (phase_after conf before) (drift_after conf freq before)
    (last_estimate conf freq before)

-- the sum of the integral parts since then that weren't held
abbrev pub gains_since : ServoConf → ℤ → List Sample → ℤ
gains_since conf freq [] = pos 0
gains_since conf freq (x ∷ before) =
    if makes_estimate x (phase_after conf before) then pos 0
    else gains_since conf freq before +ℤ gain conf x (phase_after conf before) (drift_after conf freq before)

-- ---- all samples

-- those of the samples before one that belong to its run, which is of one generation
abbrev pub run_before : Sample → List Sample → List Sample
run_before x before = take_while (λ (y : Sample). y.gener == x.gener) before

-- the first sample of a run, of which one and those before it are given
abbrev pub first_sample : Sample → List Sample → Sample
first_sample x [] = x
first_sample x (y ∷ before) = first_sample y before

-- the action at the newest sample: each run has a servo of its own, begun at the frequency of the
-- run's first sample
abbrev pub newest_action : ServoConf → List Sample → Action
newest_action conf [] = Unlocked
newest_action conf (x ∷ before) =
    action_after conf (first_sample x (run_before x before)).freq x (run_before x before)

-- the actions at all samples
abbrev pub steer : ServoConf → List Sample → List Action
steer conf [] = []
steer conf (x ∷ before) = newest_action conf (x ∷ before) ∷ steer conf before

-- an action asks for no frequency beyond the limit
abbrev pub IsGentle : ServoConf → Action → Type 0
IsGentle conf Unlocked = ⊤
IsGentle conf (Jump step freq) = IsWithin (pos (limit conf)) freq
IsGentle conf (Locked freq) = IsWithin (pos (limit conf)) freq
