-- The lines that print an answer have no newline in them, so they can be told from their text.
use Rattle.std.proofs.Common.{◌≡◌, ◌≢◌, ℕ, zero, suc, ◌+◌, ◌/◌, ◌%◌, ◌<◌, ℤ, pos, negsuc, Bool, true, false, cond, eqb, ltb, refl, sym, ap, ◌∙◌, arith, List, [], ◌∷◌, ◌++◌, length, take, drop, Option, Some, None, codes, eq-eqb, ne_eqb, append_assoc}
use Rattle.std.specs.Prelude.{slice_index}
use Rattle.std.specs.Fmt.{decimal, signed_decimal, digits, digits_onto, digit_glyph}
use Rattle.std.proofs.lemmas.Bool.{false≢true, cond-false, ltb-true}
use Rattle.bstr.specs.Text.{line_len, lines_of}
use Rattle.bstr.proofs.lemmas.LineLemmas.{lines-nil, lines-step}
use Rattle.byteorder.specs.Endian.{big_bytes, big_number, twos_complement}
use Rattle.hex.specs.Hex.{encode_with, encode_lower, lower_digits}
use Rattle.ptp_base.specs.declared.identity.PortId.{PortId}
use Rattle.ptp_base.specs.declared.port_state.PortState.{PortState}
use Rattle.ptp_base.specs.declared.port_state.PortState.TheVariants.{Initializing, Faulty, Disabled, Listening, PreMaster, Master, Passive, Uncalibrated, Slave}
use Rattle.ptp_management.specs.declared.managed.Action.{Action}
use Rattle.ptp_management.specs.declared.managed.Action.TheVariants.{Get, Set, Response, Command, Acknowledge}
use Rattle.ptp_management.specs.declared.table.Field.{Field}
use Rattle.ptp_management.specs.declared.table.Field.TheVariants.{Reserved, TwoStepFlag, NumberPorts, Priority1, ClockClass, ClockAccuracy, OffsetScaledLogVariance, Priority2, ClockIdentity, DomainNumber, StepsRemoved, OffsetFromMaster, MeanPathDelay, ParentPortIdentity, ParentStats, ObservedVariance, ObservedPhaseChangeRate, GrandmasterPriority1, GrandmasterClass, GrandmasterAccuracy, GrandmasterVariance, GrandmasterPriority2, GrandmasterIdentity, CurrentUtcOffset, TimeFlags, TimeSource, PortIdentity, PortState as PortState_field, LogMinDelayReqInterval, PeerMeanPathDelay, LogAnnounceInterval, AnnounceReceiptTimeout, LogSyncInterval, DelayMechanism, LogMinPdelayReqInterval, VersionNumber}
use Rattle.ptp_management.specs.declared.table.Form.{Form}
use Rattle.ptp_management.specs.declared.table.Form.TheVariants.{Silent, Flag, Decimal, Signed, Hex, Clock, Port, State}
use Rattle.ptp_management.specs.declared.managed.Managed.{Managed}
use Rattle.ptp_management.specs.declared.table.ManagementId.{ManagementId}
use Rattle.ptp_management.specs.declared.table.ManagementId.TheVariants.{NullManagement, DefaultDataSet, CurrentDataSet, ParentDataSet, TimePropertiesDataSet, PortDataSet, Priority1 as Priority1_id, Priority2 as Priority2_id, Domain as Domain_id}
use Rattle.ptp_management.specs.declared.managed.Tlv.{Tlv}
use Rattle.ptp_management.specs.declared.managed.Tlv.TheVariants.{Management, Error}
use Rattle.ptp_management.specs.ManagementFields.{fields_lines, form_lines, form_text, id_fields, id_name, id_numbered, shape_lines, shape_of, state_numbered}
use Rattle.ptp_management.specs.ManagementMessages.{managed_read}
use Rattle.ptp_profile.specs.Port.PrintedNames.{◌<>◌, identity_text, port_text, state_name}
use Rattle.ptp_management.specs.ManagementQueries.{action_text, lines_text, message_lines, name_text, origin_text, printed_lines, shows, title_line, tlv_lines, values_lines}
use Rattle.ptp_profile.specs.Wire.MessageFormat.{port_at}
use Rattle.bc_history.specs.Run.Transcript.{answer_lines, indented}
use Rattle.transcript.specs.PrintedLines.{margined}

-- ---- lines

-- an octet other than a newline
abbrev pub IsLineOctet : ℕ → Type 0
IsLineOctet x = (x ≢ 10) × (x < 256)

-- octets, and no newline
abbrev pub IsLine : List ℕ → Type 0
IsLine [] = Unit {0}
IsLine (x ∷ xs) = IsLineOctet x × IsLine xs

abbrev pub AreLines : List (List ℕ) → Type 0
AreLines [] = Unit {0}
AreLines (line ∷ lines) = IsLine line × AreLines lines

-- the same as a test
abbrev pub is_line : List ℕ → Bool
is_line [] = true
is_line (x ∷ xs) = cond (eqb x 10) false (cond (ltb x 256) (is_line xs) false)

line_by : (b c : Bool) (x : ℕ) (xs : List ℕ) → eqb x 10 ≡ b → ltb x 256 ≡ c → (is_line xs ≡ true → IsLine xs) → cond b false (cond c (is_line xs) false) ≡ true
    → IsLine (x ∷ xs)
line_by true c x xs is below rest h = absurd (false≢true h)
line_by false false x xs is below rest h = absurd (false≢true h)
line_by false true x xs is below rest h = (((λ e. false≢true (sym is ∙ eq-eqb x 10 e)), ltb-true x 256 below), rest h)

pub line-tested : (xs : List ℕ) → is_line xs ≡ true → IsLine xs
line-tested [] h = tt
line-tested (x ∷ xs) h = line_by (eqb x 10) (ltb x 256) x xs refl refl (line-tested xs) h

pub line-append : (xs ys : List ℕ) → IsLine xs → IsLine ys → IsLine (xs ++ ys)
line-append [] ys a b = b
line-append (x ∷ xs) ys a b = (a.0, line-append xs ys a.1 b)

lines-append : (xs ys : List (List ℕ)) → AreLines xs → AreLines ys → AreLines (xs ++ ys)
lines-append [] ys a b = b
lines-append (x ∷ xs) ys a b = (a.0, lines-append xs ys a.1 b)

line-take : (n : ℕ) (xs : List ℕ) → IsLine xs → IsLine (take n xs)
line-take zero xs a = tt
line-take (suc n) [] a = tt
line-take (suc n) (x ∷ xs) a = (a.0, line-take n xs a.1)

line-drop : (n : ℕ) (xs : List ℕ) → IsLine xs → IsLine (drop n xs)
line-drop zero xs a = a
line-drop (suc n) [] a = tt
line-drop (suc n) (x ∷ xs) a = line-drop n xs a.1

-- ---- numbers

glyph-plain : (b : Bool) (d : ℕ) → d < 100 → IsLineOctet (cond b (48 + d) (87 + d))
glyph-plain true d small = ((λ e. absurd (omega (arith, e))), omega (arith, small))
glyph-plain false d small = ((λ e. absurd (omega (arith, e))), omega (arith, small))

line-if : (b : Bool) (xs ys : List ℕ) → IsLine xs → IsLine ys → IsLine (cond b xs ys)
line-if true xs ys a b = a
line-if false xs ys a b = b

line-digits_onto : (k n : ℕ) (acc : List ℕ) → IsLine acc → IsLine (digits_onto k 10 false n acc)
line-digits_onto zero n acc a = a
line-digits_onto (suc k) n acc a =
    let small : n % 10 < 100 = omega arith in
    let more : IsLine (digit_glyph false (n % 10) ∷ acc) = (glyph-plain (ltb (n % 10) 10) (n % 10) small, a) in
    line-if (eqb (n / 10) 0) _ _ more (line-digits_onto k (n / 10) (digit_glyph false (n % 10) ∷ acc) more)

pub line-decimal : (n : ℕ) → IsLine (decimal n)
unfolding digits
line-decimal n = line-digits_onto 64 n [] tt

pub line-signed : (z : ℤ) → IsLine (signed_decimal z)
line-signed (pos n) = line-decimal n
line-signed (negsuc n) = (((λ e. absurd (omega (arith, e))), omega arith), line-decimal (suc n))

index-plain : (xs : List ℕ) (i : ℕ) → IsLine xs → IsLineOctet (slice_index xs i)
index-plain [] i a = ((λ e. absurd (omega (arith, e))), omega arith)
index-plain (x ∷ xs) zero a = a.0
index-plain (x ∷ xs) (suc i) a = index-plain xs i a.1

line-encode_with : (table xs : List ℕ) → IsLine table → IsLine (encode_with table xs)
unfolding encode_with
line-encode_with table [] a = tt
line-encode_with table (x ∷ xs) a = (index-plain table (x / 16) a, (index-plain table (x % 16) a, line-encode_with table xs a))

pub line-hex : (xs : List ℕ) → IsLine (encode_lower xs)
line-hex xs = line-encode_with lower_digits xs (line-tested lower_digits refl)

-- ---- names

line-identity : (octets : List ℕ) → IsLine (identity_text (encode_lower octets))
line-identity octets =
    let hex = line-hex octets in
    let digits = encode_lower octets in
    let dot : IsLine (codes ".") = line-tested (codes ".") refl in
    line-append (take 6 digits) _ (line-take 6 digits hex) (line-append (codes ".") _ dot
    (line-append (take 4 (drop 6 digits)) _ (line-take 4 (drop 6 digits) (line-drop 6 digits hex))
    (line-append (codes ".") _ dot (line-drop 10 digits hex))))

pub line-port : (p : PortId) → IsLine (port_text p)
line-port p =
    line-append (identity_text (encode_lower (big_bytes 8 p.clock.id))) _ (line-identity (big_bytes 8 p.clock.id))
    (line-append (codes "-") _ (line-tested (codes "-") refl) (line-decimal p.port))

pub line-state : (s : PortState) → IsLine (state_name s)
line-state Initializing = line-tested (codes "INITIALIZING") refl
line-state Faulty = line-tested (codes "FAULTY") refl
line-state Disabled = line-tested (codes "DISABLED") refl
line-state Listening = line-tested (codes "LISTENING") refl
line-state PreMaster = line-tested (codes "PRE_MASTER") refl
line-state Master = line-tested (codes "MASTER") refl
line-state Passive = line-tested (codes "PASSIVE") refl
line-state Uncalibrated = line-tested (codes "UNCALIBRATED") refl
line-state Slave = line-tested (codes "SLAVE") refl

line-action : (a : Action) → IsLine (action_text a)
line-action Get = line-tested (codes "GET") refl
line-action Set = line-tested (codes "SET") refl
line-action Response = line-tested (codes "RESPONSE") refl
line-action Command = line-tested (codes "COMMAND") refl
line-action Acknowledge = line-tested (codes "ACKNOWLEDGE") refl

line-id : (id : ManagementId) → IsLine (id_name id)
line-id NullManagement = line-tested (codes "NULL_MANAGEMENT") refl
line-id DefaultDataSet = line-tested (codes "DEFAULT_DATA_SET") refl
line-id CurrentDataSet = line-tested (codes "CURRENT_DATA_SET") refl
line-id ParentDataSet = line-tested (codes "PARENT_DATA_SET") refl
line-id TimePropertiesDataSet = line-tested (codes "TIME_PROPERTIES_DATA_SET") refl
line-id PortDataSet = line-tested (codes "PORT_DATA_SET") refl
line-id Priority1_id = line-tested (codes "PRIORITY1") refl
line-id Priority2_id = line-tested (codes "PRIORITY2") refl
line-id Domain_id = line-tested (codes "DOMAIN") refl

line-name : (n : ℕ) (id : Option ManagementId) → IsLine (name_text n id)
unfolding name_text
line-name n None = line-append (codes "0x") _ (line-tested (codes "0x") refl) (line-hex (big_bytes 2 n))
line-name n (Some id) = line-id id

-- ---- fields

is_line-field : (field : Field) → is_line (shape_of field).name ≡ true
is_line-field Reserved = refl
is_line-field TwoStepFlag = refl
is_line-field NumberPorts = refl
is_line-field Priority1 = refl
is_line-field ClockClass = refl
is_line-field ClockAccuracy = refl
is_line-field OffsetScaledLogVariance = refl
is_line-field Priority2 = refl
is_line-field ClockIdentity = refl
is_line-field DomainNumber = refl
is_line-field StepsRemoved = refl
is_line-field OffsetFromMaster = refl
is_line-field MeanPathDelay = refl
is_line-field ParentPortIdentity = refl
is_line-field ParentStats = refl
is_line-field ObservedVariance = refl
is_line-field ObservedPhaseChangeRate = refl
is_line-field GrandmasterPriority1 = refl
is_line-field GrandmasterClass = refl
is_line-field GrandmasterAccuracy = refl
is_line-field GrandmasterVariance = refl
is_line-field GrandmasterPriority2 = refl
is_line-field GrandmasterIdentity = refl
is_line-field CurrentUtcOffset = refl
is_line-field TimeFlags = refl
is_line-field TimeSource = refl
is_line-field PortIdentity = refl
is_line-field PortState_field = refl
is_line-field LogMinDelayReqInterval = refl
is_line-field PeerMeanPathDelay = refl
is_line-field LogAnnounceInterval = refl
is_line-field AnnounceReceiptTimeout = refl
is_line-field LogSyncInterval = refl
is_line-field DelayMechanism = refl
is_line-field LogMinPdelayReqInterval = refl
is_line-field VersionNumber = refl

line-form : (form : Form) (piece : List ℕ) → IsLine (form_text form piece)
line-form Silent piece = tt
line-form Flag piece = line-decimal (slice_index piece 0 % 2)
line-form Decimal piece = line-decimal (big_number (length piece) piece)
line-form Signed piece = line-signed (twos_complement (length piece) (big_number (length piece) piece))
line-form Hex piece = line-append (codes "0x") _ (line-tested (codes "0x") refl) (line-hex piece)
line-form Clock piece = line-identity piece
line-form Port piece = line-port (port_at 0 piece)
line-form State piece = line-state (state_numbered (slice_index piece 0))

-- a name, a space and a value
line-value : (name value : List ℕ) → IsLine name → IsLine value → AreLines ((name <> codes " " <> value) ∷ [])
line-value name value a b = (line-append name _ a (line-append (codes " ") value (line-tested (codes " ") refl) b), tt)

lines-form : (name : List ℕ) (form : Form) (piece : List ℕ) → IsLine name → AreLines (form_lines name form piece)
lines-form name Silent piece a = tt
lines-form name Flag piece a = line-value name _ a (line-form Flag piece)
lines-form name Decimal piece a = line-value name _ a (line-form Decimal piece)
lines-form name Signed piece a = line-value name _ a (line-form Signed piece)
lines-form name Hex piece a = line-value name _ a (line-form Hex piece)
lines-form name Clock piece a = line-value name _ a (line-form Clock piece)
lines-form name Port piece a = line-value name _ a (line-form Port piece)
lines-form name State piece a = line-value name _ a (line-form State piece)

lines-fields : (fields : List Field) (octets : List ℕ) → AreLines (fields_lines fields octets)
lines-fields [] octets = tt
lines-fields (field ∷ fields) octets =
    let shape = shape_of field in
    lines-append (shape_lines shape octets) _
    (lines-form shape.name shape.form (take shape.width octets) (line-tested shape.name (is_line-field field)))
    (lines-fields fields (drop shape.width octets))

-- ---- answers

line-origin : (m : Managed) → IsLine (origin_text m)
unfolding origin_text
line-origin m =
    line-append (port_text m.sender) _ (line-port m.sender) (line-append (codes " seq ") _ (line-tested (codes " seq ") refl)
    (line-append (decimal m.seq) _ (line-decimal m.seq) (line-append (codes " ") _ (line-tested (codes " ") refl) (line-action m.action))))

line-title : (m : Managed) (n : ℕ) → IsLine (title_line m n)
line-title m n =
    line-append (origin_text m) _ (line-origin m)
    (line-append (codes " MANAGEMENT ") _ (line-tested (codes " MANAGEMENT ") refl) (line-name n (id_numbered n)))

lines-values : (id : Option ManagementId) (octets : List ℕ) → AreLines (values_lines id octets)
lines-values None octets = tt
lines-values (Some id) octets = lines-fields (id_fields id) octets

lines-tlv : (m : Managed) (tlv : Tlv) → AreLines (tlv_lines m tlv)
lines-tlv m (Management n octets) = (line-title m n, lines-values (id_numbered n) octets)
lines-tlv m (Error error n) = (
  line-append (origin_text m) _ (line-origin m) (line-append (codes " ERROR ") _ (line-tested (codes " ERROR ") refl)
      (line-append (decimal error) _ (line-decimal error)
      (line-append (codes " ") _ (line-tested (codes " ") refl) (line-name n (id_numbered n))))),
  tt,
)

lines-message : (m : Option Managed) → AreLines (message_lines m)
lines-message None = tt
lines-message (Some m) = lines-tlv m m.tlv

pub lines-printed : (b : List ℕ) → AreLines (printed_lines b)
unfolding printed_lines
lines-printed b = lines-message (managed_read (slice_index b 4) b)

-- ---- the margin

-- the first line of a text, and what is left
line_len-line : (line rest : List ℕ) → IsLine line → line_len (line ++ 10 ∷ rest) ≡ suc (length line)
unfolding line_len
line_len-line [] rest a = refl
line_len-line (x ∷ line) rest a = cond-false _ _ _ (ne_eqb x 10 a.0.0) ∙ ap suc (line_len-line line rest a.1)

take-line : (line rest : List ℕ) → take (suc (length line)) (line ++ 10 ∷ rest) ≡ line ++ 10 ∷ []
take-line [] rest = refl
take-line (x ∷ line) rest = ap (λ (xs : List ℕ). x ∷ xs) (take-line line rest)

drop-line : (line rest : List ℕ) → drop (suc (length line)) (line ++ 10 ∷ rest) ≡ rest
drop-line [] rest = refl
drop-line (x ∷ line) rest = drop-line line rest

some-line : (line rest : List ℕ) → 0 < length (line ++ 10 ∷ rest)
some-line [] rest = omega arith
some-line (x ∷ line) rest = omega arith

lines_of-line : (line rest : List ℕ) → IsLine line → lines_of (line ++ 10 ∷ rest) ≡ (line ++ 10 ∷ []) ∷ lines_of rest
lines_of-line line rest a =
    let text = line ++ 10 ∷ rest in
    lines-step text (some-line line rest)
    ∙ (ap (λ (n : ℕ). take n text ∷ lines_of (drop n text)) (line_len-line line rest a)
    ∙ (ap (λ (xs : List ℕ). xs ∷ lines_of (drop (suc (length line)) text)) (take-line line rest)
    ∙ ap (λ (xs : List ℕ). (line ++ 10 ∷ []) ∷ lines_of xs) (drop-line line rest)))

margined-lines : (lines : List (List ℕ)) → AreLines lines → margined (lines_of (lines_text lines)) ≡ indented lines
margined-lines [] a = ap margined lines-nil
margined-lines (line ∷ lines) a =
    ap margined (lines_of-line line (lines_text lines) a.0)
    ∙ ap (λ (xs : List ℕ). codes "    " ++ xs)
    (append_assoc line (10 ∷ []) (margined (lines_of (lines_text lines)))
    ∙ ap (λ (xs : List ℕ). line ++ 10 ∷ xs) (margined-lines lines a.1))

-- the lines of an answer, from their text
pub margined-printed : (b : List ℕ) → margined (lines_of (lines_text (printed_lines b))) ≡ indented (printed_lines b)
margined-printed b = margined-lines (printed_lines b) (lines-printed b)

-- of an answer that can be printed
pub shown_by : (b : List ℕ) (can : Bool) → can ≡ true → printed_lines b ≡ cond can (printed_lines b) []
shown_by b true is = refl
shown_by b false is = absurd (false≢true is)

-- an answer that can be printed has these lines
pub indented-shown : (b : List ℕ) → shows b ≡ true → margined (lines_of (lines_text (printed_lines b))) ≡ indented (answer_lines b)
indented-shown b is = margined-printed b ∙ ap indented (shown_by b (shows b) is)

hidden_by : (b : List ℕ) (can : Bool) → can ≡ false → cond can (printed_lines b) [] ≡ []
hidden_by b true is = absurd (false≢true (sym is))
hidden_by b false is = refl

-- and another none
pub indented-hidden : (b : List ℕ) → shows b ≡ false → indented (answer_lines b) ≡ []
indented-hidden b is = ap indented (hidden_by b (shows b) is)
