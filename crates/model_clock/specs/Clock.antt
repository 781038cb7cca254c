-- A clock that drifts, is stepped and is tuned (project) It is the project's own model of a clock.
-- Ticks, times and steps are in ns, the ticks those of the scenario; frequencies and drifts are in
-- ppb times 65,536.
use Rattle.std.specs.Prelude.{ℕ, ℤ, pos, ◌-◌, ◌+ℤ◌, ◌*ℤ◌, ◌≤◌, int_lt, max, if◌then◌else◌, List, slice_index_or}
use Rattle.ptp_base.specs.Floor.{IsWithin, floor_of}
use Rattle.ptp_base.specs.declared.time.TheConstants.{FREQ_MAX, TICK_MAX, TIME_MAX}
use Rattle.model_clock.specs.declared.state.ClockState.{ClockState}

-- a state that a clock may be in: its tick is at most 100,000 s, and its frequency within
-- 900,000,000 ppb
pub record IsClock (s : ClockState) : Type 0 where
  pub tick : s.tick ≤ TICK_MAX
  pub freq : IsWithin FREQ_MAX s.freq

-- a time held within 0 and one nanosecond less than 2^33 seconds
abbrev pub held_time : ℤ → ℤ
held_time z = if int_lt TIME_MAX z then TIME_MAX else if int_lt z (pos 0) then pos 0 else z

-- how much time a clock counts at a rate while so many ns pass
abbrev pub time_gained : ℤ → ℕ → ℤ
time_gained rate elapsed = pos elapsed +ℤ floor_of (pos elapsed *ℤ rate) (pos 65536000000000)

-- what a clock in a state reads at a tick; at a tick that isn't later than the state's, what it
-- read there
abbrev pub reading : ClockState → ℕ → ℤ
reading s tick = held_time (s.time +ℤ time_gained (s.drift +ℤ s.freq) (tick - s.tick))

-- the state once the time was stepped and a new frequency set, at the greater of the tick and the
-- state's own
abbrev pub after_change : ClockState → ℕ → ℤ → ℤ → ClockState
after_change s tick step freq = record {
  tick = max tick s.tick;
  time = held_time (reading s (max tick s.tick) +ℤ step);
  freq = freq;
  drift = s.drift;
}

-- a clock at time 0 that does not drift
abbrev pub plain_clock : ClockState
plain_clock = record { tick = 0; time = pos 0; freq = pos 0; drift = pos 0 }

-- the clock of an index; a clock that is not there is a plain one
abbrev pub clock_at : List ClockState → ℕ → ClockState
clock_at clocks clock = slice_index_or clocks clock plain_clock
