-- Queries: what a text asks, the request that it makes, what answers a request, and how an answer
-- is printed. Which error answers a request, and with which action, is the project's choice, and so
-- is the form of the texts.
use Rattle.std.specs.Prelude.{ℕ, ℤ, ◌+◌, ◌-◌, ◌*◌, ◌^◌, Bool, true, false, ◌==◌, ◌&&◌, ◌||◌, nat_le, if◌then◌else◌, List, [], ◌∷◌, length, slice_index, codes, map, filter, fold, Option, Some, None, Result, Ok, Err}
use Rattle.std.specs.Int.{w8, w16, w64, cast_unsigned}
use Rattle.std.specs.Char.{is_ascii_digit}
use Rattle.std.specs.Str.{str_eq_ignore_ascii_case, bytes_eq}
use Rattle.std.specs.List.{find, list_all, slice_split}
use Rattle.std.specs.Fmt.{decimal}
use Rattle.byteorder.specs.Endian.{big_bytes}
use Rattle.hex.specs.Hex.{encode_lower}
use Rattle.ptp_base.specs.declared.identity.PortId.{PortId}
use Rattle.ptp_base.specs.declared.port_state.PortState.{PortState}
use Rattle.ptp_base.specs.declared.announcement.Announcement.{Announcement}
use Rattle.ptp_management.specs.declared.managed.Action.{Action}
use Rattle.ptp_management.specs.declared.managed.Action.TheVariants.{Get, Set, Response, Command, Acknowledge}
use Rattle.ptp_management.specs.declared.managed.Managed.{Managed}
use Rattle.ptp_management.specs.declared.managed.Tlv.{Tlv}
use Rattle.ptp_management.specs.declared.managed.Tlv.TheVariants.{Management, Error}
use Rattle.ptp_management.specs.declared.query.Request.{Request}
use Rattle.ptp_management.specs.declared.query.AskError.{AskError}
use Rattle.ptp_management.specs.declared.query.AskError.TheVariants.{Action as Ask_action, Unknown as Ask_unknown, Target as Ask_target}
use Rattle.ptp_management.specs.declared.table.ManagementId.{ManagementId}
use Rattle.ptp_management.specs.declared.table.ManagementId.TheVariants.{NullManagement, DefaultDataSet, CurrentDataSet, ParentDataSet, TimePropertiesDataSet, PortDataSet, Priority1, Priority2, Domain}
use Rattle.ptp_management.specs.declared.table.TheConstants.{MANAGEMENT_IDS}
use Rattle.ptp_profile.specs.Best.MasterData.{Master}
use Rattle.ptp_profile.specs.Port.PrintedNames.{◌<>◌, port_text}
use Rattle.ptp_management.specs.ManagementMessages.{managed_octets, managed_read}
use Rattle.ptp_management.specs.ManagementFields.{id_number, id_name, id_fields, id_numbered, width_of, fields_octets, fields_lines}
use Rattle.ptp_profile.specs.Port.PortStates.{state_number}

-- ---- what a text asks: `GET|SET|COMMAND NAME [TARGET]`, words parted by one space (project)

-- the port number that stands for all ports (15.4.1.3)
abbrev pub all_ports : ℕ
all_ports = 65535

-- the words of a text: what stands before, between and behind its spaces
abbrev pub words_of : List ℕ → List (List ℕ)
words_of text = slice_split (λ c. c == 32) text

-- what a word asks to be done, in any case of letters
abbrev pub action_named : List ℕ → Option Action
action_named word =
    if str_eq_ignore_ascii_case word (codes "GET") then Some Get
    else if str_eq_ignore_ascii_case word (codes "SET") then Some Set
    else if str_eq_ignore_ascii_case word (codes "COMMAND") then Some Command
    else None

-- the management message of a name, in any case of letters
unfoldable pub id_named : List ℕ → Option ManagementId
id_named word = find (λ id. str_eq_ignore_ascii_case word (id_name id)) MANAGEMENT_IDS

-- a number from its digits
abbrev pub number_of_digits : List ℕ → ℕ
number_of_digits word = fold (λ n c. 10 * n + (c - 48)) 0 word

-- one to twenty digits, leading zeros among them
abbrev pub is_number : List ℕ → Bool
is_number word = nat_le 1 (length word) && nat_le (length word) 20 && list_all is_ascii_digit word

-- the port that a word names: `*` for all, or a number from 1 on
abbrev pub target_named : List ℕ → Option ℕ
target_named word =
    if bytes_eq word (codes "*") then Some all_ports
    else if is_number word && nat_le 1 (number_of_digits word)
    && nat_le (number_of_digits word) 65535 then Some (number_of_digits word)
    else None

-- the port that the words behind the name ask: all, where there are none
abbrev pub target_asked : List (List ℕ) → Option ℕ
target_asked [] = Some all_ports
target_asked (word ∷ []) = target_named word
target_asked (word ∷ more ∷ rest) = None

-- a request of an id, where there is a target
abbrev pub aimed : Action → ManagementId → Option ℕ → Result Request AskError
aimed action id None = Err Ask_target
aimed action id (Some target) = Ok (record { action = action; id = id_number id; target = target })

-- Get looks at the target, the others ask all ports whatever follows
abbrev pub asked_of : Action → List (List ℕ) → ManagementId → Result Request AskError
asked_of Get rest id = aimed Get id (target_asked rest)
asked_of Set rest id = aimed Set id (Some all_ports)
asked_of Response rest id = aimed Response id (Some all_ports)
asked_of Command rest id = aimed Command id (Some all_ports)
asked_of Acknowledge rest id = aimed Acknowledge id (Some all_ports)

-- a request for the message that is named, where there is one
abbrev pub named_asked : Action → List (List ℕ) → Option ManagementId → Result Request AskError
named_asked action rest None = Err Ask_unknown
named_asked action rest (Some id) = asked_of action rest id

-- what the words behind the action ask for
abbrev pub name_asked : Action → List (List ℕ) → Result Request AskError
name_asked action [] = Err Ask_unknown
name_asked action (name ∷ rest) = named_asked action rest (id_named name)

-- what an action asks for with the words behind it
abbrev pub action_asked : Option Action → List (List ℕ) → Result Request AskError
action_asked None rest = Err Ask_action
action_asked (Some action) rest = name_asked action rest

-- what the words of a query ask for
abbrev pub words_asked : List (List ℕ) → Result Request AskError
words_asked [] = Err Ask_action
words_asked (word ∷ rest) = action_asked (action_named word) rest

-- the request of a text, or why there is none: the action is looked at first, then the name, then
-- the target
unfoldable pub asked_by : List ℕ → Result Request AskError
asked_by text = words_asked (words_of text)

-- ---- the request

-- the clock identity that stands for all clocks (15.4.1.3)
abbrev pub all_clocks : ℕ
all_clocks = 0xFFFFFFFFFFFFFFFF

-- the request, of a sequence: from port 1 of clock 0, to all clocks, without data
abbrev pub request_of : Request → ℕ → Managed
request_of r seq = record {
  sender = record { clock = record { id = 0 }; port = 1 };
  target = record { clock = record { id = all_clocks }; port = r.target };
  seq = seq;
  action = r.action;
  tlv = Management r.id [];
}

-- the octets of a request, in a domain
abbrev pub request_octets : ℕ → ℕ → Request → List ℕ
request_octets domain seq r = managed_octets domain (request_of r seq)

-- ---- what the data sets answer

-- portDS of a port (8.2.15)
pub record AnsweringPort : Type 0 where
  pub id : PortId
  pub state : PortState
  pub log_announce : ℤ
  pub log_sync : ℤ
  pub log_delay : ℤ
  pub receipt : ℕ

-- the data sets that answers are made from: defaultDS as the clock announces itself, by a port of
-- its own, and its domain; what a decision sets; offsetFromMaster and meanDelay, in ns times
-- 65,536, within 64 bits; the ports, by rising number (8.2)
pub record AnsweringSets : Type 0 where
  pub own : Announcement
  pub domain : ℕ
  pub master : Master
  pub offset : ℤ
  pub delay : ℤ
  pub ports : List AnsweringPort

-- a port's identity as one number of ten octets
abbrev pub port_value : PortId → ℕ
port_value p = p.clock.id * 2 ^ 16 + p.port

-- the values of a management message's fields, in their order; those of portDS are a port's own
-- (15.5.3)
abbrev pub clock_values : AnsweringSets → ManagementId → List ℕ
clock_values d NullManagement = []
clock_values d DefaultDataSet =
    1 ∷ 0 ∷ length d.ports ∷ d.own.quality.priority1 ∷ d.own.quality.class ∷ d.own.quality.accuracy
    ∷ d.own.quality.variance
    ∷ d.own.quality.priority2 ∷ d.own.sender.clock.id ∷ d.domain ∷ 0 ∷ []
clock_values d CurrentDataSet =
    d.master.steps ∷ cast_unsigned w64 d.offset ∷ cast_unsigned w64 d.delay ∷ []
clock_values d ParentDataSet =
    port_value d.master.parent ∷ 0 ∷ 0 ∷ 0xFFFF ∷ 0x7FFFFFFF ∷ d.master.quality.priority1
    ∷ d.master.quality.class
    ∷ d.master.quality.accuracy ∷ d.master.quality.variance ∷ d.master.quality.priority2
    ∷ d.master.grandmaster.id ∷ []
clock_values d TimePropertiesDataSet =
    cast_unsigned w16 d.master.time.utc_offset ∷ d.master.time.flags ∷ d.master.time.source ∷ []
clock_values d PortDataSet = []
clock_values d Priority1 = d.own.quality.priority1 ∷ 0 ∷ []
clock_values d Priority2 = d.own.quality.priority2 ∷ 0 ∷ []
clock_values d Domain = d.domain ∷ 0 ∷ []

-- the values of PORT_DATA_SET: the delay mechanism is 1, end to end, and the version 2 (15.5.3.7.1)
abbrev pub port_values : AnsweringPort → List ℕ
port_values p =
    port_value p.id ∷ state_number p.state ∷ cast_unsigned w8 p.log_delay ∷ 0
    ∷ cast_unsigned w8 p.log_announce ∷ p.receipt
    ∷ cast_unsigned w8 p.log_sync ∷ 1 ∷ 0 ∷ 2 ∷ []

-- managementErrorId (15.5.4.3)
abbrev pub no_such_id : ℕ
no_such_id = 2

-- managementErrorId WRONG_LENGTH (15.5.4.1.4)
abbrev pub wrong_length : ℕ
wrong_length = 3

-- managementErrorId NOT_SETABLE (15.5.4.1.4)
abbrev pub not_setable : ℕ
not_setable = 5

-- managementErrorId NOT_SUPPORTED (15.5.4.1.4)
abbrev pub not_supported : ℕ
not_supported = 6

-- an answer goes back to the sender of the request, with its sequence, from a port of the own clock
abbrev pub answer_to : AnsweringSets → Managed → ℕ → Action → Tlv → Managed
answer_to d r port action tlv =
    record {
      sender = record { clock = d.own.sender.clock; port = port };
      target = r.sender;
      seq = r.seq;
      action = action;
      tlv = tlv;
    }

-- a response with the values of a management message
abbrev pub response_to : AnsweringSets → Managed → ℕ → ManagementId → List ℕ → Managed
response_to d r port id values =
    answer_to d r port Response (Management (id_number id) (fields_octets (id_fields id) values))

-- an error, which acknowledges a command and is else a response
abbrev pub error_action : Action → Action
error_action Get = Response
error_action Set = Response
error_action Response = Response
error_action Command = Acknowledge
error_action Acknowledge = Response

-- the one answer that tells an error
abbrev pub error_to : AnsweringSets → Managed → ℕ → ℕ → List Managed
error_to d r id error = answer_to d r 0 (error_action r.action) (Error error id) ∷ []

-- the request is for all clocks, or for this one
abbrev pub is_for : AnsweringSets → Managed → Bool
is_for d r = (r.target.clock.id == all_clocks) || (r.target.clock.id == d.own.sender.clock.id)

-- the ports that the request is for, rising
abbrev pub ports_asked : AnsweringSets → Managed → List AnsweringPort
ports_asked d r = filter (λ p. (r.target.port == all_ports) || (r.target.port == p.id.port)) d.ports

-- whether the values are a port's own
abbrev pub is_of_ports : ManagementId → Bool
is_of_ports PortDataSet = true
is_of_ports NullManagement = false
is_of_ports DefaultDataSet = false
is_of_ports CurrentDataSet = false
is_of_ports ParentDataSet = false
is_of_ports TimePropertiesDataSet = false
is_of_ports Priority1 = false
is_of_ports Priority2 = false
is_of_ports Domain = false

-- the responses to a request for the values of a management message: of the clock, or of each port
-- that is asked
abbrev pub responses : AnsweringSets → Managed → ManagementId → List Managed
responses d r id =
    if is_of_ports id then map (λ p. response_to d r p.id.port id (port_values p)) (ports_asked d r)
    else response_to d r 0 id (clock_values d id) ∷ []

-- whether a clock of the standard lets it be set
abbrev pub can_be_set : ManagementId → Bool
can_be_set NullManagement = false
can_be_set DefaultDataSet = false
can_be_set CurrentDataSet = false
can_be_set ParentDataSet = false
can_be_set TimePropertiesDataSet = false
can_be_set PortDataSet = false
can_be_set Priority1 = true
can_be_set Priority2 = true
can_be_set Domain = true

-- the answers to a request for a management message, with so many octets behind the id, by its
-- action: a command is not supported, nothing is set, and a request for values has no octets there
-- or as many as the answer
abbrev pub known_answers : AnsweringSets → Managed → ManagementId → ℕ → Action → List Managed
known_answers d r id long Command = error_to d r (id_number id) not_supported
known_answers d r id long Set =
    error_to d r (id_number id) (if can_be_set id then not_supported else not_setable)
known_answers d r id long Get =
    if (long == 0) || (long == width_of (id_fields id)) then responses d r id
    else error_to d r (id_number id) wrong_length
known_answers d r id long Response = []
known_answers d r id long Acknowledge = []

-- the same for any id
abbrev pub id_answers : AnsweringSets → Managed → ℕ → ℕ → Option ManagementId → List Managed
id_answers d r n long None = error_to d r n no_such_id
id_answers d r n long (Some id) = known_answers d r id long r.action

-- what asks for an answer
abbrev pub is_request : Action → Bool
is_request Get = true
is_request Set = true
is_request Response = false
is_request Command = true
is_request Acknowledge = false

-- the answers to a request by its TLV
abbrev pub tlv_answers : AnsweringSets → Managed → Tlv → List Managed
tlv_answers d r (Error error id) = []
tlv_answers d r (Management n octets) = id_answers d r n (length octets) (id_numbered n)

-- the answers to a management message: none, where it is no request or not for this clock
unfoldable pub answers_to : AnsweringSets → Managed → List Managed
answers_to d r = if is_request r.action && is_for d r then tlv_answers d r r.tlv else []

-- the same as octets
abbrev pub answers_octets : AnsweringSets → Managed → List (List ℕ)
answers_octets d r = map (managed_octets d.domain) (answers_to d r)

-- ---- how an answer is printed

-- portState of a response is from 1 to 9 (8.2.15.3.1)
abbrev pub has_state : ManagementId → List ℕ → Bool
has_state PortDataSet octets = nat_le 1 (slice_index octets 10) && nat_le (slice_index octets 10) 9
has_state NullManagement octets = true
has_state DefaultDataSet octets = true
has_state CurrentDataSet octets = true
has_state ParentDataSet octets = true
has_state TimePropertiesDataSet octets = true
has_state Priority1 octets = true
has_state Priority2 octets = true
has_state Domain octets = true

-- the data are those of a known message
abbrev pub is_known : Option ManagementId → List ℕ → Bool
is_known None octets = false
is_known (Some id) octets = (length octets == width_of (id_fields id)) && has_state id octets

-- what can be printed: the values of a response, or an error of either action
abbrev pub can_show : Action → Tlv → Bool
can_show Response (Management n octets) = is_known (id_numbered n) octets
can_show Response (Error error id) = true
can_show Acknowledge (Error error id) = true
can_show Acknowledge (Management n octets) = false
can_show Get tlv = false
can_show Set tlv = false
can_show Command tlv = false

-- whether an answer is one that is printed
abbrev pub message_shows : Option Managed → Bool
message_shows None = false
message_shows (Some m) = can_show m.action m.tlv

-- whether octets can be printed: they are a management message of the domain in their own octet 4,
-- and it can be
unfoldable pub shows : List ℕ → Bool
shows b = message_shows (managed_read (slice_index b 4) b)

-- the name of an id, or its four hex digits
unfoldable pub name_text : ℕ → Option ManagementId → List ℕ
name_text n None = codes "0x" <> encode_lower (big_bytes 2 n)
name_text n (Some id) = id_name id

-- an action
abbrev pub action_text : Action → List ℕ
action_text Get = codes "GET"
action_text Set = codes "SET"
action_text Response = codes "RESPONSE"
action_text Command = codes "COMMAND"
action_text Acknowledge = codes "ACKNOWLEDGE"

-- the lines of the values
abbrev pub values_lines : Option ManagementId → List ℕ → List (List ℕ)
values_lines None octets = []
values_lines (Some id) octets = fields_lines (id_fields id) octets

-- who says it, and of which request
unfoldable pub origin_text : Managed → List ℕ
origin_text m =
    port_text m.sender <> codes " seq " <> decimal m.seq <> codes " " <> action_text m.action

-- the first line of a response
abbrev pub title_line : Managed → ℕ → List ℕ
title_line m n = origin_text m <> codes " MANAGEMENT " <> name_text n (id_numbered n)

-- the printed lines of an answer by its TLV
abbrev pub tlv_lines : Managed → Tlv → List (List ℕ)
tlv_lines m (Management n octets) = title_line m n ∷ values_lines (id_numbered n) octets
tlv_lines m (Error error n) =
    (origin_text m <> codes " ERROR " <> decimal error <> codes " " <> name_text n (id_numbered n))
    ∷ []

-- the printed lines of an answer
abbrev pub message_lines : Option Managed → List (List ℕ)
message_lines None = []
message_lines (Some m) = tlv_lines m m.tlv

-- the printed lines of octets that can be printed
unfoldable pub printed_lines : List ℕ → List (List ℕ)
printed_lines b = message_lines (managed_read (slice_index b 4) b)

-- each line with its end
abbrev pub lines_text : List (List ℕ) → List ℕ
lines_text [] = []
lines_text (line ∷ lines) = line <> codes "\n" <> lines_text lines
