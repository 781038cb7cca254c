-- The table of management messages: their names, numbers and fields, and how each field is printed
-- (IEEE 1588-2019, 15.5.2.3 and 15.5.3; the printed names are linuxptp's).
use Rattle.std.specs.Prelude.{ℕ, ◌+◌, ◌%◌, ◌==◌, ◌&&◌, nat_le, Bool, true, if◌then◌else◌, List, [], ◌∷◌, ◌++◌, length, take, drop, slice_index, codes, Option}
use Rattle.std.specs.List.{find}
use Rattle.std.specs.Fmt.{decimal, signed_decimal}
use Rattle.byteorder.specs.Endian.{big_bytes, big_number, twos_complement}
use Rattle.hex.specs.Hex.{encode_lower}
use Rattle.ptp_base.specs.declared.port_state.PortState.{PortState}
use Rattle.ptp_base.specs.declared.port_state.PortState.TheVariants.{Initializing, Faulty, Disabled, Listening, PreMaster, Master, Passive, Uncalibrated, Slave}
use Rattle.ptp_management.specs.declared.table.ManagementId.{ManagementId}
use Rattle.ptp_management.specs.declared.table.ManagementId.TheVariants.{NullManagement, DefaultDataSet, CurrentDataSet, ParentDataSet, TimePropertiesDataSet, PortDataSet, Priority1 as Priority1_id, Priority2 as Priority2_id, Domain as Domain_id}
use Rattle.ptp_management.specs.declared.table.TheConstants.{MANAGEMENT_IDS}
use Rattle.ptp_management.specs.declared.table.Field.{Field}
use Rattle.ptp_management.specs.declared.table.Field.TheVariants.{Reserved, TwoStepFlag, NumberPorts, Priority1, ClockClass, ClockAccuracy, OffsetScaledLogVariance, Priority2, ClockIdentity, DomainNumber, StepsRemoved, OffsetFromMaster, MeanPathDelay, ParentPortIdentity, ParentStats, ObservedVariance, ObservedPhaseChangeRate, GrandmasterPriority1, GrandmasterClass, GrandmasterAccuracy, GrandmasterVariance, GrandmasterPriority2, GrandmasterIdentity, CurrentUtcOffset, TimeFlags, TimeSource, PortIdentity, PortState as PortState_field, LogMinDelayReqInterval, PeerMeanPathDelay, LogAnnounceInterval, AnnounceReceiptTimeout, LogSyncInterval, DelayMechanism, LogMinPdelayReqInterval, VersionNumber}
use Rattle.ptp_management.specs.declared.table.Form.{Form}
use Rattle.ptp_management.specs.declared.table.Form.TheVariants.{Silent, Flag, Decimal, Signed, Hex, Clock, Port, State}
use Rattle.ptp_profile.specs.Port.PrintedNames.{◌<>◌, state_name, identity_text, port_text}
use Rattle.ptp_profile.specs.Wire.MessageFormat.{port_at}

-- ---- the rows: number, name and fields

-- managementId (15.5.2.3)
abbrev pub id_number : ManagementId → ℕ
id_number NullManagement = 0x0000
id_number DefaultDataSet = 0x2000
id_number CurrentDataSet = 0x2001
id_number ParentDataSet = 0x2002
id_number TimePropertiesDataSet = 0x2003
id_number PortDataSet = 0x2004
id_number Priority1_id = 0x2005
id_number Priority2_id = 0x2006
id_number Domain_id = 0x2007

-- its name (15.5.2.3)
abbrev pub id_name : ManagementId → List ℕ
id_name NullManagement = codes "NULL_MANAGEMENT"
id_name DefaultDataSet = codes "DEFAULT_DATA_SET"
id_name CurrentDataSet = codes "CURRENT_DATA_SET"
id_name ParentDataSet = codes "PARENT_DATA_SET"
id_name TimePropertiesDataSet = codes "TIME_PROPERTIES_DATA_SET"
id_name PortDataSet = codes "PORT_DATA_SET"
id_name Priority1_id = codes "PRIORITY1"
id_name Priority2_id = codes "PRIORITY2"
id_name Domain_id = codes "DOMAIN"

-- its fields, in the order of the octets (15.5.3)
abbrev pub id_fields : ManagementId → List Field
id_fields NullManagement = []
id_fields DefaultDataSet =
    TwoStepFlag ∷ Reserved ∷ NumberPorts ∷ Priority1 ∷ ClockClass ∷ ClockAccuracy
    ∷ OffsetScaledLogVariance ∷ Priority2 ∷ ClockIdentity
    ∷ DomainNumber ∷ Reserved ∷ []
id_fields CurrentDataSet = StepsRemoved ∷ OffsetFromMaster ∷ MeanPathDelay ∷ []
id_fields ParentDataSet =
    ParentPortIdentity ∷ ParentStats ∷ Reserved ∷ ObservedVariance ∷ ObservedPhaseChangeRate
    ∷ GrandmasterPriority1 ∷ GrandmasterClass
    ∷ GrandmasterAccuracy ∷ GrandmasterVariance ∷ GrandmasterPriority2 ∷ GrandmasterIdentity ∷ []
id_fields TimePropertiesDataSet = CurrentUtcOffset ∷ TimeFlags ∷ TimeSource ∷ []
id_fields PortDataSet =
    PortIdentity ∷ PortState_field ∷ LogMinDelayReqInterval ∷ PeerMeanPathDelay
    ∷ LogAnnounceInterval ∷ AnnounceReceiptTimeout
    ∷ LogSyncInterval ∷ DelayMechanism ∷ LogMinPdelayReqInterval ∷ VersionNumber ∷ []
id_fields Priority1_id = Priority1 ∷ Reserved ∷ []
id_fields Priority2_id = Priority2 ∷ Reserved ∷ []
id_fields Domain_id = DomainNumber ∷ Reserved ∷ []

-- ---- the fields: printed name, width in octets, form

-- how a field stands and is printed
pub record Shape : Type 0 where
  pub name : List ℕ
  pub width : ℕ
  pub form : Form

-- a field that is printed by its name
abbrev pub printed : List ℕ → ℕ → Form → Shape
printed name width form = record { name = name; width = width; form = form }

-- a field that is not printed
abbrev pub silent : ℕ → Shape
silent width = record { name = []; width = width; form = Silent }

-- the printed name, the width in octets and the form of each field
abbrev pub shape_of : Field → Shape
shape_of Reserved = silent 1
shape_of TwoStepFlag = printed (codes "twoStepFlag") 1 Flag
shape_of NumberPorts = printed (codes "numberPorts") 2 Decimal
shape_of Priority1 = printed (codes "priority1") 1 Decimal
shape_of ClockClass = printed (codes "clockClass") 1 Decimal
shape_of ClockAccuracy = printed (codes "clockAccuracy") 1 Hex
shape_of OffsetScaledLogVariance = printed (codes "offsetScaledLogVariance") 2 Hex
shape_of Priority2 = printed (codes "priority2") 1 Decimal
shape_of ClockIdentity = printed (codes "clockIdentity") 8 Clock
shape_of DomainNumber = printed (codes "domainNumber") 1 Decimal
shape_of StepsRemoved = printed (codes "stepsRemoved") 2 Decimal
shape_of OffsetFromMaster = printed (codes "offsetFromMaster") 8 Signed
shape_of MeanPathDelay = printed (codes "meanPathDelay") 8 Signed
shape_of ParentPortIdentity = printed (codes "parentPortIdentity") 10 Port
shape_of ParentStats = silent 1
shape_of ObservedVariance = silent 2
shape_of ObservedPhaseChangeRate = silent 4
shape_of GrandmasterPriority1 = printed (codes "grandmasterPriority1") 1 Decimal
shape_of GrandmasterClass = printed (codes "gm.ClockClass") 1 Decimal
shape_of GrandmasterAccuracy = printed (codes "gm.ClockAccuracy") 1 Hex
shape_of GrandmasterVariance = printed (codes "gm.OffsetScaledLogVariance") 2 Hex
shape_of GrandmasterPriority2 = printed (codes "grandmasterPriority2") 1 Decimal
shape_of GrandmasterIdentity = printed (codes "grandmasterIdentity") 8 Clock
shape_of CurrentUtcOffset = printed (codes "currentUtcOffset") 2 Signed
shape_of TimeFlags = printed (codes "timeFlags") 1 Decimal
shape_of TimeSource = printed (codes "timeSource") 1 Hex
shape_of PortIdentity = printed (codes "portIdentity") 10 Port
shape_of PortState_field = printed (codes "portState") 1 State
shape_of LogMinDelayReqInterval = printed (codes "logMinDelayReqInterval") 1 Signed
shape_of PeerMeanPathDelay = silent 8
shape_of LogAnnounceInterval = printed (codes "logAnnounceInterval") 1 Signed
shape_of AnnounceReceiptTimeout = printed (codes "announceReceiptTimeout") 1 Decimal
shape_of LogSyncInterval = printed (codes "logSyncInterval") 1 Signed
shape_of DelayMechanism = silent 1
shape_of LogMinPdelayReqInterval = silent 1
shape_of VersionNumber = silent 1

-- ---- what follows of the table

-- how many octets fields have
abbrev pub width_of : List Field → ℕ
width_of [] = 0
width_of (field ∷ fields) = (shape_of field).width + width_of fields

-- values in the octets of fields, each with the high octet first
abbrev pub fields_octets : List Field → List ℕ → List ℕ
fields_octets [] values = []
fields_octets (field ∷ fields) [] = []
fields_octets (field ∷ fields) (value ∷ values) =
    big_bytes (shape_of field).width value ++ fields_octets fields values

-- the message of a number, if there is one
unfoldable pub id_numbered : ℕ → Option ManagementId
id_numbered n = find (λ id. id_number id == n) MANAGEMENT_IDS

-- ---- how a field's octets are printed (project)

-- the state of a number from 1 to 9
abbrev pub state_numbered : ℕ → PortState
state_numbered n =
    if n == 1 then Initializing
    else if n == 2 then Faulty
    else if n == 3 then Disabled
    else if n == 4 then Listening
    else if n == 5 then PreMaster
    else if n == 6 then Master
    else if n == 7 then Passive
    else if n == 8 then Uncalibrated
    else Slave

-- the widths of fields that are printed so
abbrev pub fits_form : Form → ℕ → Bool
fits_form Silent width = true
fits_form Flag width = width == 1
fits_form Decimal width = nat_le 1 width && nat_le width 8
fits_form Signed width = nat_le 1 width && nat_le width 8
fits_form Hex width = true
fits_form Clock width = width == 8
fits_form Port width = width == 10
fits_form State width = width == 1

-- the octets of a field as text
abbrev pub form_text : Form → List ℕ → List ℕ
form_text Silent piece = []
form_text Flag piece = decimal (slice_index piece 0 % 2)
form_text Decimal piece = decimal (big_number (length piece) piece)
form_text Signed piece =
    signed_decimal (twos_complement (length piece) (big_number (length piece) piece))
form_text Hex piece = codes "0x" <> encode_lower piece
form_text Clock piece = identity_text (encode_lower piece)
form_text Port piece = port_text (port_at 0 piece)
form_text State piece = state_name (state_numbered (slice_index piece 0))

-- the line of a field, if it is printed: its name and its value
abbrev pub form_lines : List ℕ → Form → List ℕ → List (List ℕ)
form_lines name Silent piece = []
form_lines name form piece = (name <> codes " " <> form_text form piece) ∷ []

-- the printed lines of a field
abbrev pub shape_lines : Shape → List ℕ → List (List ℕ)
shape_lines shape octets = form_lines shape.name shape.form (take shape.width octets)

-- the lines of fields, from their octets
abbrev pub fields_lines : List Field → List ℕ → List (List ℕ)
fields_lines [] octets = []
fields_lines (field ∷ fields) octets =
    shape_lines (shape_of field) octets ++ fields_lines fields (drop (shape_of field).width octets)
