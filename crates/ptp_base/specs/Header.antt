-- The 34 octets that begin each message (IEEE 1588-2019, 13.3).
use Rattle.std.specs.Prelude.{ℕ, List, [], ◌∷◌, ◌++◌, replicate}
use Rattle.std.specs.Int.{w64, w8, cast_unsigned}
use Rattle.byteorder.specs.Endian.{big_bytes}
use Rattle.ptp_base.specs.declared.identity.PortId.{PortId}
use Rattle.ptp_base.specs.declared.header.Head.{Head}

-- clockIdentity and portNumber (5.3.5)
abbrev pub port_octets : PortId → List ℕ
port_octets p = big_bytes 8 p.clock.id ++ big_bytes 2 p.port

-- messageType behind majorSdoId 0, versionPTP 2 behind minorVersionPTP 1, messageLength,
-- domainNumber, minorSdoId 0, flagField, correctionField, messageTypeSpecific 0,
-- sourcePortIdentity, sequenceId, controlField, logMessageInterval
abbrev pub header_octets : Head → List ℕ
header_octets h =
    h.kind ∷ 0x12 ∷ [] ++ big_bytes 2 h.length ++ h.domain ∷ 0 ∷ [] ++ big_bytes 2 h.flags
    ++ big_bytes 8 (cast_unsigned w64 h.correction) ++ replicate 4 0 ++ port_octets h.sender
    ++ big_bytes 2 h.seq
    ++ h.control ∷ cast_unsigned w8 h.log_interval ∷ []
