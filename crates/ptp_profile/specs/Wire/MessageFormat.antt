-- The five messages as octets (IEEE 1588-2019, clause 13). Numbers stand with the high octet first.
--
--   octets   field                                  clause   written as            read as
--   0        majorSdoId, messageType                13.3     0, the type           majorSdoId 0, or dropped
--   1        minorVersionPTP, versionPTP            13.3     1, 2                  versionPTP 2, or dropped
--   2..3     messageLength                          13.3     the type's length     no less than it, no more than the octets, or dropped
--   4        domainNumber                           13.3     domain                the own domain, or dropped
--   5        minorSdoId                             13.3     0                     free
--   6..7     flagField                              13.3     flags                 flags, without the bits outside 0x073F
--   8..15    correctionField                        13.3     correction            correction
--   16..19   messageTypeSpecific                    13.3     0                     free
--   20..29   sourcePortIdentity                     13.3     sender                sender
--   30..31   sequenceId                             13.3     seq                   seq
--   32       controlField                           13.3     by the type           free
--   33       logMessageInterval                     13.3     log_interval          log_interval
--
--   type 0   Sync, 44 octets                        13.6     34..43 originTimestamp
--   type 1   Delay_Req, 44 octets                   13.6     34..43 originTimestamp
--   type 8   Follow_Up, 44 octets                   13.7     34..43 preciseOriginTimestamp
--   type 9   Delay_Resp, 54 octets                  13.8     34..43 receiveTimestamp, 44..53 requestingPortIdentity
--   type 11  Announce, 64 octets                    13.5     34..43 originTimestamp, 44..45 currentUtcOffset, 46 reserved,
--                                                            47 grandmasterPriority1, 48..51 grandmasterClockQuality,
--                                                            52 grandmasterPriority2, 53..60 grandmasterIdentity,
--                                                            61..62 stepsRemoved, 63 timeSource
--
-- What stands behind the type's length is free.
use Rattle.std.specs.Prelude.{ℕ, ℤ, pos, ◌+◌, ◌*◌, ◌/◌, ◌%◌, ◌^◌, ◌≡◌, ◌≢◌, ◌⊎◌, ◌<◌, ◌≤◌, ◌≤ℤ◌, Bool, not, ◌==◌, ◌||◌, nat_lt, nat_le, if◌then◌else◌, List, [], ◌∷◌, ◌++◌, length, drop, slice_index, bit_and, unsigned_abs, Option, Some, None, Result, Ok, Err}
use Rattle.std.specs.Int.{w16, w64, cast_signed, w8, cast_unsigned}
use Rattle.byteorder.specs.Endian.{big_bytes, big_number}
use Rattle.ptp_base.specs.declared.identity.PortId.{PortId}
use Rattle.ptp_base.specs.declared.header.Head.{Head}
use Rattle.ptp_base.specs.Header.{header_octets, port_octets}
use Rattle.ptp_profile.specs.declared.message.Message.{Message}
use Rattle.ptp_profile.specs.declared.message.Said.{Said}
use Rattle.ptp_profile.specs.declared.message.Body.{Body}
use Rattle.ptp_profile.specs.declared.message.Body.TheVariants.{Sync, DelayReq, FollowUp, DelayResp, Announce}
use Rattle.ptp_profile.specs.declared.message.Reject.{Reject}
use Rattle.ptp_profile.specs.declared.message.Reject.TheVariants.{Short, Version, Domain, Type_, Length, Nanos, TimeRange}

-- ---- what stands at a place

-- n octets from place i on, as a number (13.1)
unfoldable pub number_at : ℕ → ℕ → List ℕ → ℕ
number_at i n b = big_number n (drop i b)

-- clockIdentity and portNumber (5.3.5)
abbrev pub port_at : ℕ → List ℕ → PortId
port_at i b = record { clock = record { id = number_at i 8 b }; port = number_at (i + 8) 2 b }

-- the message's timestamp: 6 octets of seconds and 4 of nanoseconds, in ns (5.3.3)
abbrev pub time_at : List ℕ → ℤ
time_at b = pos (number_at 34 6 b * 1000000000 + number_at 40 4 b)

-- what an Announce says of its grandmaster (13.5)
abbrev pub said_at : List ℕ → Said
said_at b = record {
  grandmaster = record { id = number_at 53 8 b };
  quality = record {
    priority1 = slice_index b 47;
    class = slice_index b 48;
    accuracy = slice_index b 49;
    variance = number_at 50 2 b;
    priority2 = slice_index b 52;
  };
  steps = number_at 61 2 b;
  utc_offset = cast_signed w16 (number_at 44 2 b);
  source = slice_index b 63;
}

-- messageType (13.3)
abbrev pub kind_at : List ℕ → ℕ
kind_at b = slice_index b 0 % 16

-- the length of a message of a type, 0 where it is none of the five (13.5 to 13.8)
abbrev pub length_of : ℕ → ℕ
length_of kind =
    if (kind == 0) || (kind == 1) || (kind == 8) then 44
    else if kind == 9 then 54
    else if kind == 11 then 64
    else 0

-- the body of a message of a type (13.5 to 13.8)
abbrev pub body_at : ℕ → List ℕ → Body
body_at kind b =
    if kind == 0 then Sync (time_at b)
    else if kind == 1 then DelayReq (time_at b)
    else if kind == 8 then FollowUp (time_at b)
    else if kind == 9 then DelayResp (time_at b) (port_at 44 b)
    else Announce (time_at b) (said_at b)

-- the message that stands there, if one does (13.3)
abbrev pub message_at : List ℕ → Message
message_at b = record {
  domain = slice_index b 4;
  flags = bit_and (number_at 6 2 b) 0x073F;
  correction = cast_signed w64 (number_at 8 8 b);
  sender = port_at 20 b;
  seq = number_at 30 2 b;
  log_interval = cast_signed w8 (slice_index b 33);
  body = body_at (kind_at b) b;
}

-- what can be wrong, in the order in which it is looked for (project)
abbrev pub tests : ℕ → List ℕ → List (Bool × Reject)
tests domain b =
    (nat_lt (length b) 34, Short)
    ∷ (not (slice_index b 1 % 16 == 2), Version)
    ∷ (not (slice_index b 4 == domain) || not (slice_index b 0 / 16 == 0), Domain)
    ∷ (length_of (kind_at b) == 0, Type_)
    ∷ (
      nat_lt (length b) (number_at 2 2 b)
          || nat_lt (number_at 2 2 b) (length_of (kind_at b)),
      Length,
    )
    ∷ (nat_le 1000000000 (number_at 40 4 b), Nanos)
    ∷ (nat_le (2 ^ 33) (number_at 34 6 b), TimeRange)
    ∷ []

-- the first that holds
abbrev pub first_of : List (Bool × Reject) → Option Reject
first_of [] = None
first_of (test ∷ rest) = if test.0 then Some test.1 else first_of rest

-- what is wrong first (project)
abbrev pub first_fault : ℕ → List ℕ → Option Reject
first_fault domain b = first_of (tests domain b)

-- the message, or what is wrong first
abbrev pub answer : Message → Option Reject → Result Message Reject
answer m None = Ok m
answer m (Some fault) = Err fault

-- what a port of a domain makes of octets
abbrev pub decode_result : ℕ → List ℕ → Result Message Reject
decode_result domain b = answer (message_at b) (first_fault domain b)

-- the octets that are read whole, where the message is of a type: all but those of version and
-- flags, and the free ones
abbrev pub IsRead : ℕ → ℕ → Type 0
IsRead kind i =
    (i ≡ 0) ⊎ ((2 ≤ i) × (i < 5)) ⊎ ((8 ≤ i) × (i < 16)) ⊎ ((20 ≤ i) × (i < 32))
    ⊎ ((33 ≤ i) × (i < length_of kind) × ((kind ≡ 11) → i ≢ 46))

-- two lists of octets differ only in what is free
pub record SameRead (b c : List ℕ) : Type 0 where
  pub long : length b ≡ length c
  pub version : slice_index b 1 % 16 ≡ slice_index c 1 % 16
  pub flags : bit_and (number_at 6 2 b) 0x073F ≡ bit_and (number_at 6 2 c) 0x073F
  pub others : (i : ℕ) → IsRead (kind_at b) i → slice_index b i ≡ slice_index c i

-- nothing is wrong: the octets are a message of the domain
pub record IsFaultless (domain : ℕ) (b : List ℕ) : Type 0 where
  pub long : 34 ≤ length b
  pub version : slice_index b 1 % 16 ≡ 2
  pub domain_is : slice_index b 4 ≡ domain
  pub standard : slice_index b 0 / 16 ≡ 0
  pub kind : length_of (kind_at b) ≢ 0
  pub whole : number_at 2 2 b ≤ length b
  pub enough : length_of (kind_at b) ≤ number_at 2 2 b
  pub nanos : number_at 40 4 b < 1000000000
  pub seconds : number_at 34 6 b < 2 ^ 33

-- the octets read as the message, in a domain
pub record Reads (b : List ℕ) (domain : ℕ) (m : Message) : Type 0 where
  pub faultless : IsFaultless domain b
  pub fields : m ≡ message_at b

-- ---- the one spelling

-- a time in ns as seconds and nanoseconds (5.3.3)
abbrev pub time_octets : ℕ → List ℕ
time_octets ns = big_bytes 6 (ns / 1000000000) ++ big_bytes 4 (ns % 1000000000)

-- from currentUtcOffset on, with the reserved octet 0 (13.5)
abbrev pub said_octets : Said → List ℕ
said_octets s =
    big_bytes 2 (cast_unsigned w16 s.utc_offset)
    ++ 0 ∷ s.quality.priority1 ∷ s.quality.class ∷ s.quality.accuracy ∷ []
    ++ big_bytes 2 s.quality.variance ++ s.quality.priority2 ∷ [] ++ big_bytes 8 s.grandmaster.id
    ++ big_bytes 2 s.steps ++ s.source ∷ []

-- what stands behind the header (13.5 to 13.8)
abbrev pub body_octets : Body → List ℕ
body_octets (Sync origin) = time_octets (unsigned_abs origin)
body_octets (DelayReq origin) = time_octets (unsigned_abs origin)
body_octets (FollowUp precise) = time_octets (unsigned_abs precise)
body_octets (DelayResp receive requesting) =
    time_octets (unsigned_abs receive) ++ port_octets requesting
body_octets (Announce origin said) = time_octets (unsigned_abs origin) ++ said_octets said

-- messageType (13.3)
abbrev pub kind_number : Body → ℕ
kind_number (Sync origin) = 0
kind_number (DelayReq origin) = 1
kind_number (FollowUp precise) = 8
kind_number (DelayResp receive requesting) = 9
kind_number (Announce origin said) = 11

-- controlField (13.3)
abbrev pub control_of : Body → ℕ
control_of (Sync origin) = 0
control_of (DelayReq origin) = 1
control_of (FollowUp precise) = 2
control_of (DelayResp receive requesting) = 3
control_of (Announce origin said) = 5

-- the timestamp that a message bears (13.5 to 13.8)
abbrev pub time_in : Body → ℤ
time_in (Sync origin) = origin
time_in (DelayReq origin) = origin
time_in (FollowUp precise) = precise
time_in (DelayResp receive requesting) = receive
time_in (Announce origin said) = origin

-- the header of a message (13.3)
abbrev pub head_of : Message → Head
head_of m = record {
  kind = kind_number m.body;
  length = length_of (kind_number m.body);
  domain = m.domain;
  flags = m.flags;
  correction = m.correction;
  sender = m.sender;
  seq = m.seq;
  control = control_of m.body;
  log_interval = m.log_interval;
}

-- the one spelling of a message
unfoldable pub message_octets : Message → List ℕ
message_octets m = header_octets (head_of m) ++ body_octets m.body

-- what has a spelling: a timestamp of at most one nanosecond less than 2^33 seconds, and no flag
-- outside the profile's
pub record IsSpelled (m : Message) : Type 0 where
  pub early : pos 0 ≤ℤ time_in m.body
  pub late : time_in m.body ≤ℤ pos 8589934591999999999
  pub flags : bit_and m.flags 0x073F ≡ m.flags
