-- Pairs of Sync and Follow_Up, delays, their mean, and offsets. Times are in ns, corrections,
-- delays and offsets in ns times 65,536. The lists have the newest first.
use Rattle.std.specs.Prelude.{ℕ, ℤ, pos, ◌+ℤ◌, ◌-ℤ◌, ◌*ℤ◌, int_le, ◌-◌, ◌/◌, ◌%◌, ◌==◌, ◌&&◌, if◌then◌else◌, List, [], ◌∷◌, length, take, slice_index_or, Option, Some, None, is_none}
use Rattle.std.specs.Option.{option_or}
use Rattle.ptp_base.specs.Floor.{floor_of}
use Rattle.ptp_base.specs.declared.identity.PortId.{PortId}
use Rattle.ptp_base.specs.declared.triple.Triple.{Triple}
use Rattle.ptp_profile.specs.declared.timing.Measure.{Measure}
use Rattle.ptp_profile.specs.Best.PortIdentity.{is_same_port}

-- ---- pairs

-- a Sync that bears its own origin, one whose origin comes in a Follow_Up, and a Follow_Up with
-- that origin (9.5.4, 9.5.5)
pub data Piece : Type 0 where
  One_step : (origin arrived correction : ℤ) → Piece
  Sync : (seq : ℕ) (arrived correction : ℤ) → Piece
  Follow_up : (seq : ℕ) (precise correction : ℤ) → Piece

-- the two times of a Sync and all corrections (11.2)
abbrev pub triple_from : ℤ → ℤ → ℤ → Triple
triple_from origin arrived correction =
    record { origin = origin; arrived = arrived; correction = correction }

-- what two pieces of one sequence and of both kinds give, in either order (11.2)
abbrev pub triple_of_pieces : Piece → Piece → Option Triple
triple_of_pieces (Sync seq arrived c) (Follow_up other precise d) =
    if seq == other then Some (triple_from precise arrived (c +ℤ d)) else None
triple_of_pieces (Follow_up other precise d) (Sync seq arrived c) =
    if seq == other then Some (triple_from precise arrived (c +ℤ d)) else None
triple_of_pieces (Sync seq arrived c) (Sync other later d) = None
triple_of_pieces (Sync seq arrived c) (One_step origin later d) = None
triple_of_pieces (Follow_up seq precise c) (Follow_up other origin d) = None
triple_of_pieces (Follow_up seq precise c) (One_step origin arrived d) = None
triple_of_pieces (One_step origin arrived c) piece = None

-- what a piece gives after those before it since the pairing was last cleared (project) A one-step
-- Sync gives its triple by itself, and any other piece with the one just before it, if that gave
-- nothing.
abbrev pub triple_after : Piece → List Piece → Option Triple
triple_after (One_step origin arrived c) before = Some (triple_from origin arrived c)
triple_after (Sync seq arrived c) [] = None
triple_after (Sync seq arrived c) (former ∷ before) =
    if is_none (triple_after former before) then
    triple_of_pieces former (Sync seq arrived c)
    else
    None
triple_after (Follow_up seq precise c) [] = None
triple_after (Follow_up seq precise c) (former ∷ before) =
    if is_none (triple_after former before) then
    triple_of_pieces former (Follow_up seq precise c)
    else
    None

-- the last that the pieces gave
abbrev pub last_triple : List Piece → Option Triple
last_triple [] = None
last_triple (piece ∷ before) = option_or (triple_after piece before) (last_triple before)

-- ---- delays

-- a Delay_Req of the port, and its departure (9.5.11)
pub record Request : Type 0 where
  pub seq : ℕ
  pub sent : ℤ

-- the request that a Delay_Resp answers: the one that waits, if it has that sequence, and the own
-- port is the one that is named (9.5.7)
abbrev pub request_answered : PortId → ℕ → PortId → Option Request → Option Request
request_answered own seq requesting None = None
request_answered own seq requesting (Some request) =
    if (request.seq == seq) && is_same_port requesting own then Some request else None

-- twice the delay: (t2 - t3) + (t4 - t1), less all corrections (11.3.2)
abbrev pub delay_sum : Triple → ℤ → ℤ → ℤ → ℤ
delay_sum t sent received correction =
    ((((t.arrived -ℤ sent) +ℤ (received -ℤ t.origin)) *ℤ pos 65536) -ℤ t.correction) -ℤ correction

-- the delay that a Sync, a Delay_Req and its Delay_Resp show (11.3.2)
abbrev pub delay_of : Triple → ℤ → ℤ → ℤ → ℤ
delay_of t sent received correction = floor_of (delay_sum t sent received correction) (pos 2)

-- the delays with the one of an request_answered request, where a Sync and its origin are there
-- (11.3.2)
abbrev pub with_delay : Option Triple → Option Request → ℤ → ℤ → List ℤ → List ℤ
with_delay None request received correction delays = delays
with_delay (Some t) None received correction delays = delays
with_delay (Some t) (Some request) received correction delays =
    delay_of t request.sent received correction ∷ delays

-- ---- the mean

-- one more number, in rising order
abbrev pub with_number : ℤ → List ℤ → List ℤ
with_number x [] = x ∷ []
with_number x (y ∷ ys) = if int_le x y then x ∷ y ∷ ys else y ∷ with_number x ys

-- the numbers in rising order
abbrev pub in_rising_order : List ℤ → List ℤ
in_rising_order [] = []
in_rising_order (x ∷ xs) = with_number x (in_rising_order xs)

-- of numbers in rising order the middle one, or the floor of half the sum of the middle two
abbrev pub middle : List ℤ → ℤ
middle xs =
    if length xs % 2 == 1 then slice_index_or xs (length xs / 2) (pos 0)
    else floor_of (slice_index_or xs (length xs / 2 - 1) (pos 0) +ℤ slice_index_or xs (length xs / 2) (pos 0)) (pos 2)

-- the median, where there is a number (project)
abbrev pub median : List ℤ → Option ℤ
median [] = None
median (x ∷ xs) = Some (middle (in_rising_order (x ∷ xs)))

-- the mean delay: the median of the last so many (project)
-- The standard leaves the filter to the clock (11.3.2).
abbrev pub mean_of : ℕ → List ℤ → Option ℤ
mean_of kept delays = median (take kept delays)

-- ---- offsets

-- offsetFromMaster: t2 - t1 less the mean delay and all corrections (11.2)
abbrev pub offset_of : Triple → ℤ → ℤ
offset_of t mean = (((t.arrived -ℤ t.origin) *ℤ pos 65536) -ℤ mean) -ℤ t.correction

-- what a Sync and its origin show once there is a mean delay (11.2)
abbrev pub measure_of : Triple → Option ℤ → Option Measure
measure_of t None = None
measure_of t (Some mean) =
    Some (record { offset = offset_of t mean; delay = mean; local = t.arrived })
