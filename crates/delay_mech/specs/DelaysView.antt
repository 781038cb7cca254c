-- What contracts see of Delays, and the whole list of delays since they were last cleared, the
-- newest first.
use Rattle.std.specs.Prelude.{◌≡◌, ℕ, ℤ, pos, ◌≤◌, ◌^◌, List, [], take, All, Option, Some, None, IfSome}
use Rattle.ptp_base.specs.Floor.{IsWithin}
use Rattle.ptp_base.specs.declared.identity.PortId.{PortId}
use Rattle.ptp_base.specs.declared.limits.TheConstants.{DELAYS_MAX}
use Rattle.ptp_base.specs.declared.triple.Triple.{Triple}
use Rattle.ptp_profile.specs.Timing.OffsetAndDelay.{Request, request_answered, with_delay}
use Rattle.delay_mech.specs.declared.request.Request as code
use Rattle.delay_mech.specs.declared.delays.Response.{Response}
use Rattle.delay_mech.specs.declared.delays.Response.TheVariants.{Matched, Unmatched}

-- the own port, the most delays that count, the last Sync with its origin, the request that waits,
-- and the last delays
pub record DelaysView : Type 0 where
  pub own : PortId
  pub length : ℕ
  pub triple : Option Triple
  pub request : Option Request
  pub delays : List ℤ

-- no Sync, no request and no delay
abbrev pub empty : PortId → ℕ → DelaysView
empty own length = record { own = own; length = length; triple = None; request = None; delays = [] }

-- the last of all delays are kept
abbrev pub DelaysRepresent : DelaysView → List ℤ → Type 0
DelaysRepresent view delays = view.delays ≡ take view.length delays

-- the request that a Delay_Resp answers
abbrev pub answered_by : DelaysView → ℕ → PortId → Option Request
answered_by view seq requesting = request_answered view.own seq requesting view.request

-- what is kept after a Delay_Resp that answers this request, if any
abbrev pub after_response : DelaysView → Option Request → ℤ → ℤ → DelaysView
after_response view None received correction = view
after_response view (Some request) received correction =
    record view {
      request = None;
      delays = take view.length
          (with_delay view.triple (Some request) received correction view.delays);
    }

-- whether a Delay_Resp answers a request
abbrev pub response_to : Option Request → Response
response_to None = Unmatched
response_to (Some request) = Matched

-- the request that the code keeps
abbrev pub request_of : code.Request → Request
request_of request = record { seq = request.seq; sent = request.sent }

-- the correction of a Sync and its Follow_Up, in ns times 65,536
abbrev pub IsCorrection : ℤ → Type 0
IsCorrection c = IsWithin (pos (2 ^ 64)) c

-- a delay is far from the ends of 128 bits
abbrev pub IsDelay : ℤ → Type 0
IsDelay d = IsWithin (pos (2 ^ 82)) d

-- there are places for the delays that count, and what is kept is small enough to be added up
pub record IsSound (most : ℕ) (triple : Option Triple) (delays : List ℤ) (places : ℕ) : Type 0 where
  pub some : 1 ≤ most
  pub few : most ≤ DELAYS_MAX
  pub reserved : places ≡ most
  pub last : delays ≡ take most delays
  pub corrections : IfSome triple (λ t. IsCorrection t.correction)
  pub small : All IsDelay delays
