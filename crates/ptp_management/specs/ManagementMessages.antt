-- Management messages as octets (IEEE 1588-2019, clause 15). Numbers stand with the high octet
-- first.
--
--   octets   field                                  clause    written as            read as
--   0..33    the header                             13.3      type 13, control 4,   version 2, majorSdoId 0, the domain, type 13,
--                                                             logMessageInterval    messageLength from 54 to the number of octets;
--                                                             0x7F, no flag, no     sender and sequence; the rest is free
--                                                             correction
--   34..43   targetPortIdentity                     15.4.1    target                target
--   44..45   startingBoundaryHops, boundaryHops     15.4.1    0, 0                  free
--   46       reserved, actionField                  15.4.1    0, action             its low four bits, at most 4
--   47       reserved                               15.4.1    0                     free
--   48..     one TLV, which ends at messageLength
--
--   TLV MANAGEMENT (15.5.2): tlvType 1, lengthField 2 + n, managementId, n octets
--   TLV MANAGEMENT_ERROR_STATUS (15.5.4): tlvType 2, lengthField 8, managementErrorId, managementId, four octets 0,
--   which are free where they are read, and no text
--
-- Octets behind messageLength are free.
use Rattle.std.specs.Prelude.{ℕ, pos, ◌+◌, ◌/◌, ◌%◌, ◌^◌, ◌≡◌, ◌<◌, ◌≤◌, ◌⊎◌, Bool, ◌==◌, ◌&&◌, ◌||◌, nat_le, if◌then◌else◌, List, [], ◌∷◌, ◌++◌, length, take, drop, replicate, slice_index, Option, Some, None}
use Rattle.byteorder.specs.Endian.{big_bytes}
use Rattle.ptp_base.specs.declared.header.Head.{Head}
use Rattle.ptp_base.specs.Header.{header_octets, port_octets}
use Rattle.ptp_management.specs.declared.managed.Action.{Action}
use Rattle.ptp_management.specs.declared.managed.Action.TheVariants.{Get, Set, Response, Command, Acknowledge}
use Rattle.ptp_management.specs.declared.managed.Managed.{Managed}
use Rattle.ptp_management.specs.declared.managed.Tlv.{Tlv}
use Rattle.ptp_management.specs.declared.managed.Tlv.TheVariants.{Management, Error}
use Rattle.ptp_profile.specs.Wire.MessageFormat.{number_at, port_at}
use Rattle.ptp_profile.specs.Wire.MessageRanges.{FitsPort}

-- ---- the one spelling

-- actionField (15.4.1.6)
abbrev pub action_number : Action → ℕ
action_number Get = 0
action_number Set = 1
action_number Response = 2
action_number Command = 3
action_number Acknowledge = 4

-- MANAGEMENT, or MANAGEMENT_ERROR_STATUS without a text (15.5.2 and 15.5.4)
abbrev pub tlv_octets : Tlv → List ℕ
tlv_octets (Management id octets) =
    big_bytes 2 1 ++ big_bytes 2 (2 + length octets) ++ big_bytes 2 id ++ octets
tlv_octets (Error error id) =
    big_bytes 2 2 ++ big_bytes 2 8 ++ big_bytes 2 error ++ big_bytes 2 id ++ replicate 4 0

-- how many octets the TLV has, its type and length included (15.5.2 and 15.5.4)
abbrev pub tlv_length : Tlv → ℕ
tlv_length (Management id octets) = 6 + length octets
tlv_length (Error error id) = 12

-- the header of a management message in a domain (13.3)
abbrev pub managed_head : ℕ → Managed → Head
managed_head domain m = record {
  kind = 13;
  length = 48 + tlv_length m.tlv;
  domain = domain;
  flags = 0;
  correction = pos 0;
  sender = m.sender;
  seq = m.seq;
  control = 4;
  log_interval = pos 0x7F;
}

-- behind the header: whom it is for, no boundary hops, what it is for (15.4.1)
abbrev pub purpose_octets : Managed → List ℕ
purpose_octets m = port_octets m.target ++ 0 ∷ 0 ∷ action_number m.action ∷ 0 ∷ []

-- the one spelling of a management message in a domain (15.4.1)
unfoldable pub managed_octets : ℕ → Managed → List ℕ
managed_octets domain m =
    header_octets (managed_head domain m) ++ purpose_octets m ++ tlv_octets m.tlv

-- ---- what is read

-- actionField (15.4.1.6)
abbrev pub action_numbered : ℕ → Action
action_numbered n =
    if n == 0 then Get
    else if n == 1 then Set
    else if n == 2 then Response
    else if n == 3 then Command
    else Acknowledge

-- the TLV that stands at octet 48 and ends at messageLength (15.5.2 and 15.5.4)
abbrev pub tlv_at : List ℕ → Tlv
tlv_at b =
    if number_at 48 2 b == 1 then Management (number_at 52 2 b) (drop 54 (take (number_at 2 2 b) b))
    else Error (number_at 52 2 b) (number_at 54 2 b)

-- the management message that stands there, if one does (15.4.1)
abbrev pub managed_at : List ℕ → Managed
managed_at b = record {
  sender = port_at 20 b;
  target = port_at 34 b;
  seq = number_at 30 2 b;
  action = action_numbered (slice_index b 46 % 16);
  tlv = tlv_at b;
}

-- a tlvType with a lengthField that it may have (15.5.2 and 15.5.4)
abbrev pub is_tlv : ℕ → ℕ → Bool
is_tlv kind long = ((kind == 1) && nat_le 2 long) || ((kind == 2) && (long == 8))

-- whether the octets are a management message of the domain
unfoldable pub is_managed : ℕ → List ℕ → Bool
is_managed domain b =
    nat_le 54 (length b) && (slice_index b 1 % 16 == 2) && (slice_index b 4 == domain)
    && (slice_index b 0 == 13)
    && nat_le 54 (number_at 2 2 b) && nat_le (number_at 2 2 b) (length b)
    && nat_le (slice_index b 46 % 16) 4
    && is_tlv (number_at 48 2 b) (number_at 50 2 b) && (52 + number_at 50 2 b == number_at 2 2 b)

-- the same in the words of the standard: a header that a port takes, a known action, one TLV that
-- ends where the message does
pub record IsManaged (domain : ℕ) (b : List ℕ) : Type 0 where
  pub version : slice_index b 1 % 16 ≡ 2
  pub domain_is : slice_index b 4 ≡ domain
  pub standard : slice_index b 0 / 16 ≡ 0
  pub kind : slice_index b 0 % 16 ≡ 13
  pub enough : 54 ≤ number_at 2 2 b
  pub whole : number_at 2 2 b ≤ length b
  pub action : slice_index b 46 % 16 ≤ 4
  pub tlv : ((number_at 48 2 b ≡ 1) × (2 ≤ number_at 50 2 b)) ⊎ ((number_at 48 2 b ≡ 2) × (number_at 50 2 b ≡ 8))
  pub end : 52 + number_at 50 2 b ≡ number_at 2 2 b

-- the octets read as the message, in a domain
pub record ReadsManaged (b : List ℕ) (domain : ℕ) (m : Managed) : Type 0 where
  pub managed : IsManaged domain b
  pub fields : m ≡ managed_at b

-- the message, where the octets are one
abbrev pub managed_read : ℕ → List ℕ → Option Managed
managed_read domain b = if is_managed domain b then Some (managed_at b) else None

-- ---- the ranges of the numbers: in memory each holds by its type, and a law over all messages names them

-- the data of a TLV are few enough for messageLength (15.5.2)
abbrev pub FitsTlv : Tlv → Type 0
FitsTlv (Management id octets) = (id < 2 ^ 16) × (length octets ≤ 65481)
FitsTlv (Error error id) = (error < 2 ^ 16) × (id < 2 ^ 16)

-- the numbers of a management message fit their fields (15.4.1)
pub record FitsManaged (m : Managed) : Type 0 where
  pub sender : FitsPort m.sender
  pub target : FitsPort m.target
  pub seq : m.seq < 2 ^ 16
  pub tlv_fits : FitsTlv m.tlv

-- a management TLV has at most 65,481 octets: more have no messageLength
abbrev pub IsShort : Tlv → Type 0
IsShort (Management id octets) = length octets ≤ 65481
IsShort (Error error id) = Unit {0}
