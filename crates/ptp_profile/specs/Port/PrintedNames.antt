-- How texts name what they speak of: states, identities of clocks and of ports (project; the names
-- are the standard's)
use Rattle.std.specs.Prelude.{ℕ, List, ◌++◌, take, drop, codes}
use Rattle.std.specs.Fmt.{decimal}
use Rattle.byteorder.specs.Endian.{big_bytes}
use Rattle.hex.specs.Hex.{encode_lower}
use Rattle.ptp_base.specs.declared.identity.PortId.{PortId}
use Rattle.ptp_base.specs.declared.port_state.PortState.{PortState}
use Rattle.ptp_base.specs.declared.port_state.PortState.TheVariants.{Initializing, Faulty, Disabled, Listening, PreMaster, Master, Passive, Uncalibrated, Slave}

infixr 30 ◌<>◌
-- one text, and then another: it groups to the right, as the pieces of a format do
abbrev pub ◌<>◌ : List ℕ → List ℕ → List ℕ
a <> b = a ++ b

-- portState (8.2.15.3.1)
abbrev pub state_name : PortState → List ℕ
state_name Initializing = codes "INITIALIZING"
state_name Faulty = codes "FAULTY"
state_name Disabled = codes "DISABLED"
state_name Listening = codes "LISTENING"
state_name PreMaster = codes "PRE_MASTER"
state_name Master = codes "MASTER"
state_name Passive = codes "PASSIVE"
state_name Uncalibrated = codes "UNCALIBRATED"
state_name Slave = codes "SLAVE"

-- a clock's identity, from its sixteen hex digits: six, four and six of them
abbrev pub identity_text : List ℕ → List ℕ
identity_text digits =
    take 6 digits <> codes "." <> take 4 (drop 6 digits) <> codes "." <> drop 10 digits

-- a port's identity: that of its clock, and its number
abbrev pub port_text : PortId → List ℕ
port_text p = identity_text (encode_lower (big_bytes 8 p.clock.id)) <> codes "-" <> decimal p.port
