-- Worked examples of pairs, delays, offsets, the servo and a clock.
use Rattle.std.specs.Prelude.{ℕ, ℤ, pos, negsuc, neg_ℤ, ◌*ℤ◌}
use Rattle.ptp_base.specs.declared.identity.PortId.{PortId}
use Rattle.ptp_base.specs.declared.triple.Triple.{Triple}
use Rattle.model_clock.specs.declared.state.ClockState.{ClockState}
use Rattle.model_clock.specs.Clock.{after_change}
use Rattle.ptp_profile.specs.declared.timing.ServoConf.{ServoConf}
use Rattle.ptp_profile.specs.Timing.Servo.{Sample}
use Rattle.ptp_profile.specs.Timing.OffsetAndDelay.{Piece, Sync, Follow_up, Request}

-- pieces of which only the sequence matters
abbrev pub sync : ℕ → Piece
sync seq = Sync seq (pos 110) (pos 2)

-- a Follow_Up of a sequence
abbrev pub follow_up : ℕ → Piece
follow_up seq = Follow_up seq (pos 100) (negsuc 2)

-- what a Sync and a Follow_Up of one sequence give: sent at 100 ns, arrived at 110 ns, with
-- corrections of 2 and of -3
abbrev pub example_triple : Triple
example_triple = record { origin = pos 100; arrived = pos 110; correction = negsuc 0 }

-- the second port of a clock, the first, and a request of the second: of sequence 5, sent at 200 ns
abbrev pub own_port : PortId
own_port = record { clock = record { id = 0x0200_00ff_fe00_0001 }; port = 2 }

-- the first port of the clock
abbrev pub other_port : PortId
other_port = record { clock = record { id = 0x0200_00ff_fe00_0001 }; port = 1 }

-- the request of the second port
abbrev pub example_request : Request
example_request = record { seq = 5; sent = pos 200 }

-- at most 1,000 ppb, gains of 700 and 300 thousandths, and a first step beyond 20,000 ns
abbrev pub example_servo : ServoConf
example_servo = record { kp = 700; ki = 300; max = 1000; step = 0; first_step = 20000 }

-- the same, and any offset beyond so many ns is a step
abbrev pub stepping_servo : ℕ → ServoConf
stepping_servo threshold = record example_servo { step = threshold }

-- an offset after so many seconds, in a generation that began at a frequency
abbrev pub sample_in : ℕ → ℤ → ℤ → ℕ → Sample
sample_in gener freq offset seconds =
    record { gener = gener; freq = freq; offset = offset; local = pos seconds *ℤ pos 1000000000 }

-- one in a generation that began at no frequency
abbrev pub sample : ℤ → ℕ → Sample
sample offset seconds = sample_in 1 (pos 0) offset seconds

-- a clock that is 1,000 ppb fast, and what a step back and a frequency against it make of it after
-- a second
abbrev pub fast_clock : ClockState
fast_clock = record { tick = 0; time = pos 0; freq = pos 0; drift = pos 65536000 }

-- that clock, stepped back by 1,000 ns and slowed down by 1,000 ppb at one second
abbrev pub tuned_clock : ClockState
tuned_clock = after_change fast_clock 1000000000 (neg_ℤ (pos 1000)) (neg_ℤ (pos 65536000))
