-- The options of a scenario text: how each is written, its range and its default, and what it sets.
-- All values are whole numbers: times in ns, drifts in ppb. The defaults are those of linuxptp
-- where it has the option; the rest is the project's. An option is meant by the number of its row.
use Rattle.std.specs.Prelude.{◌≡◌, ℕ, ℤ, pos, negsuc, ◌*ℤ◌, ◌≤◌, ◌≤ℤ◌, Bool, true, false, ◌&&◌, nat_eq, int_le, nat_abs, if◌then◌else◌, List, [], ◌∷◌, codes, Option, Some, None, slice_get, option_map}
use Rattle.std.specs.Cmp.Lexicographic.{pointwise}
use Rattle.std.specs.List.{fold, position}
use Rattle.std.specs.Option.{option_map_or, option_or}
use Rattle.text_io.specs.Numerals.{number_of, signed_of, hex_of, seconds_of, identity_of}
use Rattle.ptp_base.specs.declared.limits.TheConstants.{DELAYS_MAX, ROWS_MAX}
use Rattle.ptp_base.specs.declared.time.TheConstants.{TICK_MAX, TIME_MAX}
use Rattle.ptp_base.specs.declared.port_conf.PortConf.{PortConf}
use Rattle.model_clock.specs.declared.state.ClockState.{ClockState}
use Rattle.bc_history.specs.declared.scenario.Options.{Options}
use Rattle.bc_history.specs.declared.option.Form.{Form}
use Rattle.bc_history.specs.declared.option.Form.TheVariants.{Decimal, Hex, Seconds, Signed, Identity}
use Rattle.bc_history.specs.declared.option.Scope.{Scope}
use Rattle.bc_history.specs.declared.option.Scope.TheVariants.{Global, Clock, Port}

-- ---- the fields that options set

-- a field that holds an option's value, by how it is read and set: as a natural number, as a whole
-- number, as whether the value is 1, or as so many times the value
pub data Field (T : Type 0) : Type 0 where
  Natural : (get : T → ℕ) → (set : ℕ → T → T) → Field T
  Whole : (get : T → ℤ) → (set : ℤ → T → T) → Field T
  Flag : (set : Bool → T → T) → Field T
  Multiple : (unit : ℕ) → (get : T → ℤ) → (set : ℤ → T → T) → Field T

-- what has the field: the options of the whole, a port or a clock
pub data Place : Type 0 where
  Options_place : Field Options → Place
  Port_place : Field PortConf → Place
  Clock_place : Field ClockState → Place

-- the value in the field
abbrev pub put : {T : Type 0} → Field T → ℤ → T → T
put (Natural get set) value x = set (nat_abs value) x
put (Whole get set) value x = set value x
put (Flag set) value x = set (nat_eq (nat_abs value) 1) x
put (Multiple unit get set) value x = set (value *ℤ pos unit) x

-- no less than the least and no more than the greatest
abbrev pub IsFrom : (least most n : ℕ) → Type 0
IsFrom least most n = (least ≤ n) × (n ≤ most)

-- a whole number no less than the least and no more than the greatest
abbrev pub IsBetween : (least most z : ℤ) → Type 0
IsBetween least most z = (least ≤ℤ z) × (z ≤ℤ most)

-- the field holds a value from the least to the greatest
abbrev pub Holds : {T : Type 0} → (least most : ℤ) → Field T → T → Type 0
Holds least most (Natural get set) x = IsFrom (nat_abs least) (nat_abs most) (get x)
Holds least most (Whole get set) x = IsBetween least most (get x)
Holds least most (Flag set) x = Unit {0}
Holds least most (Multiple unit get set) x =
    IsBetween (least *ℤ pos unit) (most *ℤ pos unit) (get x)
    × ((value : ℤ) × (get x ≡ value *ℤ pos unit))

-- ---- the table

-- what the table says of an option: what it is one of, its name, how its value is written, the
-- least and the greatest value, and the default
pub record Row : Type 0 where
  pub scope : Scope
  pub name : List ℕ
  pub form : Form
  pub least : ℤ
  pub most : ℤ
  pub default : ℤ

-- a row with the field that the option sets
pub record PlacedRow : Type 0 where
  pub row : Row
  pub place : Place

-- what the option that sets a field is one of
abbrev pub scope_of : Place → Scope
scope_of (Options_place field) = Global
scope_of (Port_place field) = Port
scope_of (Clock_place field) = Clock

-- an option's row with its field
abbrev pub option : List ℕ → Form → (least most default : ℤ) → Place → PlacedRow
option name form least most default place = record {
  row =
      record
      { scope = scope_of place; name = name; form = form; least = least; most = most; default = default };
  place = place;
}

-- all options
abbrev pub option_table : List PlacedRow
option_table =
    option (codes "clockIdentity") Identity (pos 0) (pos 18446744073709551615)
    (pos 0x020000fffe000001)
    (Options_place
    (Natural (λ (o : Options). o.clock_identity.id)
    (λ n o. record o { clock_identity = record { id = n } })))
    ∷ option (codes "domainNumber") Decimal (pos 0) (pos 127) (pos 0)
    (Options_place
    (Natural (λ (o : Options). o.domain_number) (λ n o. record o { domain_number = n })))
    ∷ option (codes "priority1") Decimal (pos 0) (pos 255) (pos 128)
    (Options_place (Natural (λ (o : Options). o.priority1) (λ n o. record o { priority1 = n })))
    ∷ option (codes "priority2") Decimal (pos 0) (pos 255) (pos 128)
    (Options_place (Natural (λ (o : Options). o.priority2) (λ n o. record o { priority2 = n })))
    ∷ option (codes "clockClass") Decimal (pos 0) (pos 255) (pos 248)
    (Options_place (Natural (λ (o : Options). o.clock_class) (λ n o. record o { clock_class = n })))
    ∷ option (codes "clockAccuracy") (Hex 2) (pos 0) (pos 255) (pos 0xFE)
    (Options_place
    (Natural (λ (o : Options). o.clock_accuracy) (λ n o. record o { clock_accuracy = n })))
    ∷ option (codes "offsetScaledLogVariance") (Hex 4) (pos 0) (pos 65535) (pos 0xFFFF)
    (Options_place
    (Natural (λ (o : Options). o.offset_scaled_log_variance)
    (λ n o. record o { offset_scaled_log_variance = n })))
    ∷ option (codes "utc_offset") Decimal (pos 0) (pos 32767) (pos 37)
    (Options_place (Whole (λ (o : Options). o.utc_offset) (λ z o. record o { utc_offset = z })))
    ∷ option (codes "time_flags") Decimal (pos 0) (pos 63) (pos 8)
    (Options_place (Natural (λ (o : Options). o.time_flags) (λ n o. record o { time_flags = n })))
    ∷ option (codes "timeSource") (Hex 2) (pos 0) (pos 255) (pos 0xA0)
    (Options_place (Natural (λ (o : Options). o.time_source) (λ n o. record o { time_source = n })))
    ∷ option (codes "boundary_clock_jbod") Decimal (pos 0) (pos 1) (pos 0)
    (Options_place (Flag (λ b o. record o { boundary_clock_jbod = b })))
    ∷ option (codes "max_frequency") Decimal (pos 1) (pos 900000000) (pos 900000000)
    (Options_place
    (Natural (λ (o : Options). o.max_frequency) (λ n o. record o { max_frequency = n })))
    ∷ option (codes "step_threshold") Seconds (pos 0) (pos 1000000000000000) (pos 0)
    (Options_place
    (Natural (λ (o : Options). o.step_threshold) (λ n o. record o { step_threshold = n })))
    ∷ option (codes "first_step_threshold") Seconds (pos 0) (pos 1000000000000000) (pos 20000)
    (Options_place
    (Natural (λ (o : Options). o.first_step_threshold)
    (λ n o. record o { first_step_threshold = n })))
    ∷ option (codes "servo_kp") Decimal (pos 0) (pos 10000) (pos 700)
    (Options_place (Natural (λ (o : Options). o.servo_kp) (λ n o. record o { servo_kp = n })))
    ∷ option (codes "servo_ki") Decimal (pos 0) (pos 10000) (pos 300)
    (Options_place (Natural (λ (o : Options). o.servo_ki) (λ n o. record o { servo_ki = n })))
    ∷ option (codes "delay_filter_length") Decimal (pos 1) (pos DELAYS_MAX) (pos 10)
    (Options_place
    (Natural (λ (o : Options). o.delay_filter_length)
    (λ n o. record o { delay_filter_length = n })))
    ∷ option (codes "duration") Seconds (pos 0) (pos TICK_MAX) (pos 20000000000)
    (Options_place (Natural (λ (o : Options). o.duration) (λ n o. record o { duration = n })))
    ∷ option (codes "window") Seconds (pos 1000000) (pos 1000000000000) (pos 125000000)
    (Options_place (Natural (λ (o : Options). o.window) (λ n o. record o { window = n })))
    ∷ option (codes "follow_interval") Seconds (pos 10000000) (pos 1000000000000) (pos 1000000000)
    (Options_place
    (Natural (λ (o : Options). o.follow_interval) (λ n o. record o { follow_interval = n })))
    ∷ option (codes "subscribe_duration") Seconds (pos 0) (pos TICK_MAX) (pos 180000000000)
    (Options_place
    (Natural (λ (o : Options). o.subscribe_duration)
    (λ n o. record o { subscribe_duration = n })))
    ∷ option (codes "subscribe_renew") Seconds (pos 0) (pos TICK_MAX) (pos 60000000000)
    (Options_place
    (Natural (λ (o : Options). o.subscribe_renew) (λ n o. record o { subscribe_renew = n })))
    ∷ option (codes "seat_rows") Decimal (pos 1) (pos ROWS_MAX) (pos 65536)
    (Options_place (Natural (λ (o : Options). o.seat_rows) (λ n o. record o { seat_rows = n })))
    ∷ option (codes "logAnnounceInterval") Signed (negsuc 6) (pos 10) (pos 1)
    (Port_place (Whole (λ (p : PortConf). p.log_announce) (λ z p. record p { log_announce = z })))
    ∷ option (codes "logSyncInterval") Signed (negsuc 6) (pos 10) (pos 0)
    (Port_place (Whole (λ (p : PortConf). p.log_sync) (λ z p. record p { log_sync = z })))
    ∷ option (codes "logMinDelayReqInterval") Signed (negsuc 6) (pos 10) (pos 0)
    (Port_place (Whole (λ (p : PortConf). p.log_delay) (λ z p. record p { log_delay = z })))
    ∷ option (codes "announceReceiptTimeout") Decimal (pos 2) (pos 255) (pos 3)
    (Port_place (Natural (λ (p : PortConf). p.receipt) (λ n p. record p { receipt = n })))
    ∷ option (codes "time") Decimal (pos 0) TIME_MAX (pos 0)
    (Clock_place (Whole (λ (c : ClockState). c.time) (λ z c. record c { time = z })))
    ∷ option (codes "drift") Signed (negsuc 9999999) (pos 10000000) (pos 0)
    (Clock_place (Multiple 65536 (λ (c : ClockState). c.drift) (λ z c. record c { drift = z })))
    ∷ []

-- the row of a number, with its field
abbrev pub placed_row : ℕ → Option PlacedRow
placed_row number = slice_get option_table number

-- the row of a number
abbrev pub row_of : ℕ → Option Row
row_of number = option_map (λ (p : PlacedRow). p.row) (placed_row number)

-- ---- names

-- whether a section takes an option: its own, and the global one also those of a port, as defaults
-- of all ports
abbrev pub takes : Scope → Scope → Bool
takes Global Global = true
takes Global Port = true
takes Global Clock = false
takes Clock Clock = true
takes Clock Global = false
takes Clock Port = false
takes Port Port = true
takes Port Global = false
takes Port Clock = false

-- whether a word names the option in a section
abbrev pub is_named : Scope → List ℕ → Row → Bool
is_named section word row = takes section row.scope && pointwise nat_eq word row.name

-- the number of the option that a word names in a section
abbrev pub option_named : Scope → List ℕ → Option ℕ
option_named section word = position (λ (p : PlacedRow). is_named section word p.row) option_table

-- ---- values

-- what a word stands for in a form, whatever the range
abbrev pub read_as : Form → List ℕ → Option ℤ
read_as Decimal word = option_map pos (number_of word)
read_as (Hex most) word = option_map pos (option_or (number_of word) (hex_of most word))
read_as Seconds word = option_map pos (seconds_of word)
read_as Signed word = signed_of word
read_as Identity word = option_map pos (identity_of word)

-- whether a value is one that the option may have
abbrev pub is_in_range : Row → ℤ → Bool
is_in_range row value = int_le row.least value && int_le value row.most

-- a value that the option may have, or none
abbrev pub in_range : Row → Option ℤ → Option ℤ
in_range row None = None
in_range row (Some value) = if is_in_range row value then Some value else None

-- the value that a word stands for in a row, where there is one
abbrev pub value_in : Option Row → List ℕ → Option ℤ
value_in None word = None
value_in (Some row) word = in_range row (read_as row.form word)

-- the value that a word stands for: none where it isn't of the option's form, or out of its range
abbrev pub value_of : ℕ → List ℕ → Option ℤ
value_of number word = value_in (row_of number) word

-- ---- what an option sets

-- the options with a value at its place; the place of a port or of a clock leaves them as they are
abbrev pub options_with : Place → ℤ → Options → Options
options_with (Options_place field) value o = put field value o
options_with (Port_place field) value o = o
options_with (Clock_place field) value o = o

-- a port with a value at its place; the place of the options or of a clock leaves it as it is
abbrev pub port_with : Place → ℤ → PortConf → PortConf
port_with (Options_place field) value p = p
port_with (Port_place field) value p = put field value p
port_with (Clock_place field) value p = p

-- a clock with a value at its place; the place of the options or of a port leaves it as it is
abbrev pub clock_with : Place → ℤ → ClockState → ClockState
clock_with (Options_place field) value c = c
clock_with (Port_place field) value c = c
clock_with (Clock_place field) value c = put field value c

-- the options with one of them set
abbrev pub with_option : ℕ → ℤ → Options → Options
with_option number value o =
    option_map_or (λ (p : PlacedRow). options_with p.place value o) (placed_row number) o

-- a port with one of its options set
abbrev pub with_port_option : ℕ → ℤ → PortConf → PortConf
with_port_option number value conf =
    option_map_or (λ (p : PlacedRow). port_with p.place value conf) (placed_row number) conf

-- a clock with one of its options set
abbrev pub with_clock_option : ℕ → ℤ → ClockState → ClockState
with_clock_option number value c =
    option_map_or (λ (p : PlacedRow). clock_with p.place value c) (placed_row number) c

-- every option at its default, whatever stood before
abbrev pub with_defaults : Options → Options
with_defaults o =
    fold (λ so_far (p : PlacedRow). options_with p.place p.row.default so_far) o option_table

-- every option of a port at its default, whatever stood before
abbrev pub with_port_defaults : PortConf → PortConf
with_port_defaults conf =
    fold (λ so_far (p : PlacedRow). port_with p.place p.row.default so_far) conf option_table

-- every option of a clock at its default, whatever stood before
abbrev pub with_clock_defaults : ClockState → ClockState
with_clock_defaults c =
    fold (λ so_far (p : PlacedRow). clock_with p.place p.row.default so_far) c option_table

-- ---- ranges

-- a fact of each row
abbrev pub EachRow : (PlacedRow → Type 0) → List PlacedRow → Type 0
EachRow P [] = Unit {0}
EachRow P (row ∷ rows) = P row × EachRow P rows

-- the value of an option of the whole is in its row's range
abbrev pub OptionIsFrom : Options → PlacedRow → Type 0
OptionIsFrom o p = by p.place
  where
    by : Place → Type 0
    by (Options_place field) = Holds p.row.least p.row.most field o
    by (Port_place field) = Unit {0}
    by (Clock_place field) = Unit {0}

-- the value of a port's option is in its row's range
abbrev pub PortOptionIsFrom : PortConf → PlacedRow → Type 0
PortOptionIsFrom conf p = by p.place
  where
    by : Place → Type 0
    by (Options_place field) = Unit {0}
    by (Port_place field) = Holds p.row.least p.row.most field conf
    by (Clock_place field) = Unit {0}

-- the value of a clock's option is in its row's range
abbrev pub ClockOptionIsFrom : ClockState → PlacedRow → Type 0
ClockOptionIsFrom c p = by p.place
  where
    by : Place → Type 0
    by (Options_place field) = Unit {0}
    by (Port_place field) = Unit {0}
    by (Clock_place field) = Holds p.row.least p.row.most field c
