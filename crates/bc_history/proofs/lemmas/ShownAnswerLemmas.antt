-- The answers of a query can be printed: each is read again as the message that was written, and it is one that is shown.
use Rattle.std.proofs.Common.{◌≡◌, ℕ, zero, suc, ◌%◌, ◌^◌, ◌<◌, ◌≤◌, Bool, true, false, cond, List, [], ◌∷◌, length, Option, Some, None, Result, Ok, Err, refl, sym, ap, ◌∙◌, subst, arith, append-nil, lit≤, lit<}
use Rattle.std.specs.Prelude.{IsTrue, map, nat_le, ◌==◌, ◌&&◌, ◌||◌, slice_index}
use Rattle.std.specs.List.{All}
use Rattle.std.specs.Int.{bytes_high_first}
use Rattle.std.proofs.lemmas.Bool.Decides.{nat_tests}
use Rattle.std.proofs.lemmas.Nat.{mod_below}
use Rattle.std.proofs.lemmas.List.{length-append}
use Rattle.std.proofs.lemmas.List.Elements.{All-nil, All-cons, All-filter, All-map, All-weaker}
use Rattle.ptp_base.specs.declared.port_state.PortState.{PortState}
use Rattle.ptp_base.specs.declared.port_state.PortState.TheVariants.{Initializing, Faulty, Disabled, Listening, PreMaster, Master, Passive, Uncalibrated, Slave}
use Rattle.ptp_profile.specs.Port.PortStates.{state_number}
use Rattle.ptp_profile.specs.Wire.MessageRanges.{FitsPort}
use Rattle.ptp_management.specs.declared.managed.Action.{Action}
use Rattle.ptp_management.specs.declared.managed.Action.TheVariants.{Get, Set, Response, Command, Acknowledge}
use Rattle.ptp_management.specs.declared.managed.Managed.{Managed}
use Rattle.ptp_management.specs.declared.managed.Tlv.{Tlv}
use Rattle.ptp_management.specs.declared.managed.Tlv.TheVariants.{Management, Error}
use Rattle.ptp_management.specs.declared.query.AskError.{AskError}
use Rattle.ptp_management.specs.declared.query.Request.{Request}
use Rattle.ptp_management.specs.declared.table.Field.{Field}
use Rattle.ptp_management.specs.declared.table.ManagementId.{ManagementId}
use Rattle.ptp_management.specs.declared.table.ManagementId.TheVariants.{NullManagement, DefaultDataSet, CurrentDataSet, ParentDataSet, TimePropertiesDataSet, PortDataSet, Priority1, Priority2, Domain}
use Rattle.ptp_management.specs.ManagementMessages.{FitsManaged, FitsTlv, managed_octets, managed_read}
use Rattle.ptp_management.specs.ManagementFields.{fields_octets, id_fields, id_number, id_numbered, shape_of, width_of}
use Rattle.ptp_management.specs.ManagementQueries.{AnsweringPort, AnsweringSets, action_asked, action_named, aimed, all_ports, answer_to, answers_octets, answers_to, asked_by, asked_of, can_be_set, can_show, clock_values, error_action, error_to, has_state, id_answers, id_named, is_for, is_known, is_of_ports, is_request, known_answers, message_shows, name_asked, named_asked, no_such_id, not_setable, not_supported, port_values, ports_asked, request_of, response_to, responses, shows, target_asked, tlv_answers, words_asked, words_of, wrong_length}
use Rattle.ptp_management.proofs.lemmas.ManagementMessageLemmas.{managed_again, managed_to}
use Rattle.bc_history.specs.Phases.QueryAnswers.{answers_of}

-- ---- how many octets and values there are

-- so many octets of a number
length-number : (n x : ℕ) → length (bytes_high_first n x) ≡ n
length-number zero x = refl
length-number (suc n) x = let e = length-number n x in omega (arith, e)

-- values of fields take their widths
length-fields : (fields : List Field) (values : List ℕ) → length values ≡ length fields → length (fields_octets fields values) ≡ width_of fields
length-fields [] values e = refl
length-fields (field ∷ fields) [] e = absurd (omega arith)
length-fields (field ∷ fields) (value ∷ values) e =
    let same : length values ≡ length fields = omega arith in
    let rest = length-fields fields values same in
    omega (arith, length-append (bytes_high_first (shape_of field).width value) (fields_octets fields values), length-number (shape_of field).width value, rest)

-- no message has more than 32 octets of them
width_most : (id : ManagementId) → width_of (id_fields id) ≤ 32
width_most NullManagement = lit≤ tt
width_most DefaultDataSet = lit≤ tt
width_most CurrentDataSet = lit≤ tt
width_most ParentDataSet = lit≤ tt
width_most TimePropertiesDataSet = lit≤ tt
width_most PortDataSet = lit≤ tt
width_most Priority1 = lit≤ tt
width_most Priority2 = lit≤ tt
width_most Domain = lit≤ tt

-- each number of a message fits its field
number_fits : (id : ManagementId) → id_number id < 2 ^ 16
number_fits NullManagement = lit< tt
number_fits DefaultDataSet = lit< tt
number_fits CurrentDataSet = lit< tt
number_fits ParentDataSet = lit< tt
number_fits TimePropertiesDataSet = lit< tt
number_fits PortDataSet = lit< tt
number_fits Priority1 = lit< tt
number_fits Priority2 = lit< tt
number_fits Domain = lit< tt

-- a number that a message has is that message's
numbered_back : (id : ManagementId) → id_numbered (id_number id) ≡ Some id
unfolding id_numbered
numbered_back NullManagement = refl
numbered_back DefaultDataSet = refl
numbered_back CurrentDataSet = refl
numbered_back ParentDataSet = refl
numbered_back TimePropertiesDataSet = refl
numbered_back PortDataSet = refl
numbered_back Priority1 = refl
numbered_back Priority2 = refl
numbered_back Domain = refl

-- the clock's own values are as many as the fields
clock_long : (d : AnsweringSets) (id : ManagementId) → is_of_ports id ≡ false → length (clock_values d id) ≡ length (id_fields id)
clock_long d NullManagement e = refl
clock_long d DefaultDataSet e = refl
clock_long d CurrentDataSet e = refl
clock_long d ParentDataSet e = refl
clock_long d TimePropertiesDataSet e = refl
clock_long d PortDataSet e = cc
clock_long d Priority1 e = refl
clock_long d Priority2 e = refl
clock_long d Domain e = refl

-- they need no state of a port
clock_state : (id : ManagementId) (octets : List ℕ) → is_of_ports id ≡ false → IsTrue (has_state id octets)
clock_state NullManagement octets e = refl
clock_state DefaultDataSet octets e = refl
clock_state CurrentDataSet octets e = refl
clock_state ParentDataSet octets e = refl
clock_state TimePropertiesDataSet octets e = refl
clock_state PortDataSet octets e = cc
clock_state Priority1 octets e = refl
clock_state Priority2 octets e = refl
clock_state Domain octets e = refl

-- only PORT_DATA_SET is of ports
of_ports : (id : ManagementId) → is_of_ports id ≡ true → id ≡ PortDataSet
of_ports NullManagement e = cc
of_ports DefaultDataSet e = cc
of_ports CurrentDataSet e = cc
of_ports ParentDataSet e = cc
of_ports TimePropertiesDataSet e = cc
of_ports PortDataSet e = refl
of_ports Priority1 e = cc
of_ports Priority2 e = cc
of_ports Domain e = cc

-- the number of a state is from 1 to 9
state_from : (s : PortState) → (nat_le 1 (state_number s % 256) && nat_le (state_number s % 256) 9) ≡ true
state_from Initializing = refl
state_from Faulty = refl
state_from Disabled = refl
state_from Listening = refl
state_from PreMaster = refl
state_from Master = refl
state_from Passive = refl
state_from Uncalibrated = refl
state_from Slave = refl

-- so the state of a port is one that is printed
port_state : (p : AnsweringPort) → IsTrue (has_state PortDataSet (fields_octets (id_fields PortDataSet) (port_values p)))
port_state p = state_from p.state

-- ---- one answer

-- a message whose numbers fit, and that is shown
record IsAnswer (m : Managed) : Type 0 where
  fits : FitsManaged m
  shown : IsTrue (can_show m.action m.tlv)

-- the domain stands in octet 4
domain_at : (domain : ℕ) (m : Managed) → slice_index (managed_octets domain m) 4 ≡ domain
unfolding managed_octets
domain_at domain m = refl

-- its octets can be printed
answer_shows : (domain : ℕ) (m : Managed) → IsAnswer m → IsTrue (shows (managed_octets domain m))
unfolding shows
answer_shows domain m is =
    let again : managed_read domain (managed_octets domain m) ≡ Some m =
    ap (managed_read domain) (sym (append-nil (managed_octets domain m))) ∙ managed_to domain _ m (managed_again domain m [] is.fits) in
    let itself : managed_read (slice_index (managed_octets domain m) 4) (managed_octets domain m) ≡ Some m =
    ap (λ (k : ℕ). managed_read k (managed_octets domain m)) (domain_at domain m) ∙ again in
    subst (λ (o : Option Managed). IsTrue (message_shows o)) (sym itself) is.shown

-- ---- what is asked, and by whom it is answered

-- the numbers of data sets fit their fields: the clock's identity and the ports' numbers
pub record FitsSets (d : AnsweringSets) : Type 0 where
  pub clock : d.own.sender.clock.id < 2 ^ 64
  pub ports : All (λ (p : AnsweringPort). p.id.port < 2 ^ 16) d.ports

-- what an answer has of its request fits: whom it goes to, and which message it is about
pub record FitsAsking (r : Managed) : Type 0 where
  pub sender : FitsPort r.sender
  pub seq : r.seq < 2 ^ 16
  pub tlv_fits : FitsTlv r.tlv

-- so do the numbers of an answer, where those of its TLV do
answer_fits : (d : AnsweringSets) (r : Managed) (port : ℕ) (action : Action) (tlv : Tlv) → FitsSets d → FitsAsking r → port < 2 ^ 16 → FitsTlv tlv
    → FitsManaged (answer_to d r port action tlv)
answer_fits d r port action tlv sets asks low fits = record {
  sender = record { clock = sets.clock; port = low };
  target = asks.sender;
  seq = asks.seq;
  tlv_fits = fits;
}

-- an error is shown, whatever it answers
error_shown : (action : Action) (error id : ℕ) → IsTrue (can_show (error_action action) (Error error id))
error_shown Get error id = refl
error_shown Set error id = refl
error_shown Response error id = refl
error_shown Command error id = refl
error_shown Acknowledge error id = refl

-- an error is an answer
error_answers : (d : AnsweringSets) (r : Managed) (id error : ℕ) → FitsSets d → FitsAsking r → id < 2 ^ 16 → error < 2 ^ 16 → All IsAnswer (error_to d r id error)
error_answers d r id error sets asks small few =
    All-cons IsAnswer _ [] (record {
      fits = answer_fits d r 0 (error_action r.action) (Error error id) sets asks (lit< tt) (few, small);
      shown = error_shown r.action error id;
    }) (All-nil IsAnswer)

-- two tests that pass, the first of them of numbers
both : (n k : ℕ) (b : Bool) → n ≡ k → b ≡ true → ((n == k) && b) ≡ true
both n k true e h = grind (arith, nat_tests)
both n k false e h = cc

-- so is a response with as many values as fields, and a state where there is one
response_answers : (d : AnsweringSets) (r : Managed) (port : ℕ) (id : ManagementId) (values : List ℕ) → FitsSets d → FitsAsking r → port < 2 ^ 16
    → length values ≡ length (id_fields id) → IsTrue (has_state id (fields_octets (id_fields id) values)) → IsAnswer (response_to d r port id values)
response_answers d r port id values sets asks low same state =
    let octets = fields_octets (id_fields id) values in
    let long = length-fields (id_fields id) values same in
    let known : IsTrue (is_known (Some id) octets) = both (length octets) (width_of (id_fields id)) (has_state id octets) long state in
    record {
      fits = answer_fits d r port Response (Management (id_number id) octets) sets asks low (number_fits id, omega (arith, long, width_most id));
      shown = subst (λ (o : Option ManagementId). IsTrue (is_known o octets)) (sym (numbered_back id)) known;
    }

-- ---- the answers

-- those of the ports that are asked
port_answers : (d : AnsweringSets) (r : Managed) → FitsSets d → FitsAsking r
    → All IsAnswer (map (λ (p : AnsweringPort). response_to d r p.id.port PortDataSet (port_values p)) (ports_asked d r))
port_answers d r sets asks =
    All-map IsAnswer (λ (p : AnsweringPort). response_to d r p.id.port PortDataSet (port_values p)) (ports_asked d r)
    (All-weaker (λ (p : AnsweringPort). p.id.port < 2 ^ 16) (λ (p : AnsweringPort). IsAnswer (response_to d r p.id.port PortDataSet (port_values p)))
    (λ p low. response_answers d r p.id.port PortDataSet (port_values p) sets asks low refl (port_state p)) (ports_asked d r)
    (All-filter (λ (p : AnsweringPort). (r.target.port == all_ports) || (r.target.port == p.id.port)) (λ (p : AnsweringPort). p.id.port < 2 ^ 16) d.ports sets.ports))

-- those to a request for values
value_answers : (d : AnsweringSets) (r : Managed) (id : ManagementId) → FitsSets d → FitsAsking r → All IsAnswer (responses d r id)
value_answers d r id sets asks = by (is_of_ports id) refl
  where
    by : (b : Bool) → is_of_ports id ≡ b
        → All IsAnswer (cond b (map (λ (p : AnsweringPort). response_to d r p.id.port id (port_values p)) (ports_asked d r)) (response_to d r 0 id (clock_values d id) ∷ []))
    by true e =
        subst (λ (i : ManagementId). All IsAnswer (map (λ (p : AnsweringPort). response_to d r p.id.port i (port_values p)) (ports_asked d r))) (sym (of_ports id e))
        (port_answers d r sets asks)
    by false e =
        All-cons IsAnswer _ [] (response_answers d r 0 id (clock_values d id) sets asks (lit< tt) (clock_long d id e)
        (clock_state id (fields_octets (id_fields id) (clock_values d id)) e)) (All-nil IsAnswer)

-- those of either kind
either : {X : Type 0} (P : X → Type 0) (b : Bool) (xs ys : List X) → All P xs → All P ys → All P (cond b xs ys)
either P true xs ys one other = one
either P false xs ys one other = other

-- errors of an action that sets, by whether there is something to set
set_error : (b : Bool) → cond b not_supported not_setable < 2 ^ 16
set_error true = lit< tt
set_error false = lit< tt

-- those to a request for a known message
known-answers : (d : AnsweringSets) (r : Managed) (id : ManagementId) (long : ℕ) (action : Action) → FitsSets d → FitsAsking r → All IsAnswer (known_answers d r id long action)
known-answers d r id long Command sets asks = error_answers d r (id_number id) not_supported sets asks (number_fits id) (lit< tt)
known-answers d r id long Set sets asks = error_answers d r (id_number id) (cond (can_be_set id) not_supported not_setable) sets asks (number_fits id) (set_error (can_be_set id))
known-answers d r id long Get sets asks =
    either IsAnswer ((long == 0) || (long == width_of (id_fields id))) (responses d r id) (error_to d r (id_number id) wrong_length) (value_answers d r id sets asks)
    (error_answers d r (id_number id) wrong_length sets asks (number_fits id) (lit< tt))
known-answers d r id long Response sets asks = All-nil IsAnswer
known-answers d r id long Acknowledge sets asks = All-nil IsAnswer

-- those for any id
id-answers : (d : AnsweringSets) (r : Managed) (n long : ℕ) (id : Option ManagementId) → FitsSets d → FitsAsking r → n < 2 ^ 16 → All IsAnswer (id_answers d r n long id)
id-answers d r n long None sets asks small = error_answers d r n no_such_id sets asks small (lit< tt)
id-answers d r n long (Some id) sets asks small = known-answers d r id long r.action sets asks

-- those by the TLV
tlv-answers : (d : AnsweringSets) (r : Managed) (tlv : Tlv) → FitsSets d → FitsAsking r → FitsTlv tlv → All IsAnswer (tlv_answers d r tlv)
tlv-answers d r (Error error id) sets asks fits = All-nil IsAnswer
tlv-answers d r (Management n octets) sets asks fits = id-answers d r n (length octets) (id_numbered n) sets asks fits.0

-- all of a message whose numbers fit
answers-to : (d : AnsweringSets) (r : Managed) → FitsSets d → FitsAsking r → All IsAnswer (answers_to d r)
unfolding answers_to
answers-to d r sets asks = either IsAnswer (is_request r.action && is_for d r) (tlv_answers d r r.tlv) [] (tlv-answers d r r.tlv sets asks asks.tlv_fits) (All-nil IsAnswer)

-- their octets can be printed
octets-shown : (d : AnsweringSets) (r : Managed) → FitsSets d → FitsAsking r → All (λ (answer : List ℕ). IsTrue (shows answer)) (answers_octets d r)
octets-shown d r sets asks =
    All-map (λ (answer : List ℕ). IsTrue (shows answer)) (managed_octets d.domain) (answers_to d r)
    (All-weaker IsAnswer (λ (m : Managed). IsTrue (shows (managed_octets d.domain m))) (answer_shows d.domain) (answers_to d r) (answers-to d r sets asks))

-- ---- the request of a query

-- a request is of a message whose number fits
abbrev pub IsSmall : Result Request AskError → Type 0
IsSmall (Ok r) = r.id < 2 ^ 16
IsSmall (Err error) = Unit {0}

-- a request that has a target
small-aimed : (action : Action) (id : ManagementId) (target : Option ℕ) → IsSmall (aimed action id target)
small-aimed action id None = tt
small-aimed action id (Some target) = number_fits id

-- a request by its action
small-asked_of : (action : Action) (rest : List (List ℕ)) (id : ManagementId) → IsSmall (asked_of action rest id)
small-asked_of Get rest id = small-aimed Get id (target_asked rest)
small-asked_of Set rest id = small-aimed Set id (Some all_ports)
small-asked_of Response rest id = small-aimed Response id (Some all_ports)
small-asked_of Command rest id = small-aimed Command id (Some all_ports)
small-asked_of Acknowledge rest id = small-aimed Acknowledge id (Some all_ports)

-- a request by the message that is named
small-named : (action : Action) (rest : List (List ℕ)) (id : Option ManagementId) → IsSmall (named_asked action rest id)
small-named action rest None = tt
small-named action rest (Some id) = small-asked_of action rest id

-- a request by the words behind the action
small-name : (action : Action) (rest : List (List ℕ)) → IsSmall (name_asked action rest)
small-name action [] = tt
small-name action (name ∷ rest) = small-named action rest (id_named name)

-- a request by its action and the words behind
small-action : (action : Option Action) (rest : List (List ℕ)) → IsSmall (action_asked action rest)
small-action None rest = tt
small-action (Some action) rest = small-name action rest

-- a request by all words
small-words : (words : List (List ℕ)) → IsSmall (words_asked words)
small-words [] = tt
small-words (word ∷ rest) = small-action (action_named word) rest

-- a request by its text
pub small-text : (text : List ℕ) → IsSmall (asked_by text)
unfolding asked_by
small-text text = small-words (words_of text)

-- what answers a query can be printed
pub shown_answers : (d : AnsweringSets) (requests : ℕ) (asked : Result Request AskError) → FitsSets d → IsSmall asked
    → All (λ (answer : List ℕ). IsTrue (shows answer)) (answers_of d requests asked)
shown_answers d requests (Ok r) sets small = octets-shown d (request_of r (requests % 65536)) sets (record {
  sender = record { clock = lit< tt; port = lit< tt };
  seq = mod_below requests 65536 (lit< tt);
  tlv_fits = (small, omega arith);
})
shown_answers d requests (Err error) sets small = All-nil _
