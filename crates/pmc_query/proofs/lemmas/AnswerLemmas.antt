-- Answers can be printed, and those of ports come one by one.
use Rattle.std.proofs.Common.{◌≡◌, ℕ, zero, suc, ◌+◌, ◌-◌, ◌%◌, ◌<◌, ◌≤◌, List, [], ◌∷◌, ◌++◌, length, take, drop, get_or, refl, sym, ap, subst, ◌∙◌, arith, append-nil, append_assoc, Bool, true, false, lit≤, add-one, drop-cons}
use Rattle.std.proofs.lemmas.Bool.Decides.{nat_tests}
use Rattle.std.proofs.lemmas.List.{length-append, take_rest}
use Rattle.std.proofs.lemmas.List.Folds.{list_all-append}
use Rattle.std.specs.List.{list_all}
use Rattle.std.specs.Prelude.{IsTrue, slice_index, Option, Some, nat_le, ◌==◌, ◌&&◌, ◌||◌}
use Rattle.byteorder.specs.Endian.{big_bytes}
use Rattle.byteorder.specs.Numbers.{length-bytes_high_first}
use Rattle.std.specs.Int.{bytes_high_first}
use Rattle.ptp_base.specs.declared.port_state.PortState.{PortState}
use Rattle.ptp_base.specs.declared.port_state.PortState.TheVariants.{Initializing, Faulty, Disabled, Listening, PreMaster, Master, Passive, Uncalibrated, Slave}
use Rattle.data_sets.specs.declared.port_set.PortSet.{PortSet}
use Rattle.ptp_management.specs.declared.managed.Action.TheVariants.{Response}
use Rattle.ptp_management.specs.declared.managed.Managed.{Managed}
use Rattle.ptp_management.specs.declared.managed.Tlv.TheVariants.{Management}
use Rattle.ptp_management.specs.declared.table.Field.{Field}
use Rattle.ptp_management.specs.declared.table.ManagementId.{ManagementId}
use Rattle.ptp_management.specs.declared.table.ManagementId.TheVariants.{NullManagement, DefaultDataSet, CurrentDataSet, ParentDataSet, TimePropertiesDataSet, PortDataSet, Priority1, Priority2, Domain}
use Rattle.ptp_management.specs.ManagementMessages.{managed_octets, managed_read}
use Rattle.ptp_management.specs.ManagementFields.{fields_octets, id_fields, id_number, id_numbered, shape_of, width_of}
use Rattle.ptp_profile.specs.Port.PortStates.{state_number}
use Rattle.ptp_management.specs.ManagementQueries.{AnsweringPort, AnsweringSets, all_ports, can_show, clock_values, has_state, is_known, is_of_ports, message_shows, port_values, response_to, shows}
use Rattle.pmc_query.specs.AnsweredSets.{answering_port, ports_answers}

-- ---- how many octets and values there are

pub length-fields : (fields : List Field) (values : List ℕ) → length values ≡ length fields → length (fields_octets fields values) ≡ width_of fields
length-fields [] values e = refl
length-fields (field ∷ fields) [] e = absurd (omega arith)
length-fields (field ∷ fields) (value ∷ values) e =
    let same : length values ≡ length fields = omega arith in
    let rest = length-fields fields values same in
    omega (arith, length-append (big_bytes (shape_of field).width value) (fields_octets fields values), length-bytes_high_first (shape_of field).width value, rest)

pub width_most : (id : ManagementId) → width_of (id_fields id) ≤ 32
width_most NullManagement = lit≤ tt
width_most DefaultDataSet = lit≤ tt
width_most CurrentDataSet = lit≤ tt
width_most ParentDataSet = lit≤ tt
width_most TimePropertiesDataSet = lit≤ tt
width_most PortDataSet = lit≤ tt
width_most Priority1 = lit≤ tt
width_most Priority2 = lit≤ tt
width_most Domain = lit≤ tt

pub clock_long : (d : AnsweringSets) (id : ManagementId) → is_of_ports id ≡ false → length (clock_values d id) ≡ length (id_fields id)
clock_long d NullManagement e = refl
clock_long d DefaultDataSet e = refl
clock_long d CurrentDataSet e = refl
clock_long d ParentDataSet e = refl
clock_long d TimePropertiesDataSet e = refl
clock_long d PortDataSet e = cc
clock_long d Priority1 e = refl
clock_long d Priority2 e = refl
clock_long d Domain e = refl

pub clock_state : (id : ManagementId) (octets : List ℕ) → is_of_ports id ≡ false → IsTrue (has_state id octets)
clock_state NullManagement octets e = refl
clock_state DefaultDataSet octets e = refl
clock_state CurrentDataSet octets e = refl
clock_state ParentDataSet octets e = refl
clock_state TimePropertiesDataSet octets e = refl
clock_state PortDataSet octets e = cc
clock_state Priority1 octets e = refl
clock_state Priority2 octets e = refl
clock_state Domain octets e = refl

state_of : (s : PortState) → (nat_le 1 (state_number s % 256) && nat_le (state_number s % 256) 9) ≡ true
state_of Initializing = refl
state_of Faulty = refl
state_of Disabled = refl
state_of Listening = refl
state_of PreMaster = refl
state_of Master = refl
state_of Passive = refl
state_of Uncalibrated = refl
state_of Slave = refl

pub port_state : (p : AnsweringPort) → IsTrue (has_state PortDataSet (fields_octets (id_fields PortDataSet) (port_values p)))
port_state p = state_of p.state

-- ---- what an answer shows

numbered_back : (id : ManagementId) → id_numbered (id_number id) ≡ Some id
unfolding id_numbered
numbered_back NullManagement = refl
numbered_back DefaultDataSet = refl
numbered_back CurrentDataSet = refl
numbered_back ParentDataSet = refl
numbered_back TimePropertiesDataSet = refl
numbered_back PortDataSet = refl
numbered_back Priority1 = refl
numbered_back Priority2 = refl
numbered_back Domain = refl

both : (n k : ℕ) (b : Bool) → n ≡ k → b ≡ true → ((n == k) && b) ≡ true
both n k true e h = grind (arith, nat_tests)
both n k false e h = cc

pub response_shows : (id : ManagementId) (values : List ℕ) → length values ≡ length (id_fields id) → IsTrue (has_state id (fields_octets (id_fields id) values))
    → IsTrue (can_show Response (Management (id_number id) (fields_octets (id_fields id) values)))
response_shows id values same state =
    let known : IsTrue (is_known (Some id) (fields_octets (id_fields id) values)) =
    both (length (fields_octets (id_fields id) values)) (width_of (id_fields id)) (has_state id (fields_octets (id_fields id) values)) (length-fields (id_fields id) values same) state in
    let P : Option ManagementId → Type 0 = λ o. IsTrue (is_known o (fields_octets (id_fields id) values)) in
    subst P (sym (numbered_back id)) known

pub response_short : (id : ManagementId) (values : List ℕ) → length values ≡ length (id_fields id) → length (fields_octets (id_fields id) values) ≤ 65481
response_short id values same = omega (arith, length-fields (id_fields id) values same, width_most id)

octet_is : (domain : ℕ) (m : Managed) → slice_index (managed_octets domain m) 4 ≡ domain
unfolding managed_octets
octet_is domain m = refl

pub answer_shows : (domain : ℕ) (m : Managed) → managed_read domain (managed_octets domain m ++ []) ≡ Some m → IsTrue (can_show m.action m.tlv)
    → IsTrue (shows (managed_octets domain m))
unfolding shows
answer_shows domain m again h =
    let read : managed_read domain (managed_octets domain m) ≡ Some m = ap (managed_read domain) (sym (append-nil (managed_octets domain m))) ∙ again in
    let itself : managed_read (slice_index (managed_octets domain m) 4) (managed_octets domain m) ≡ Some m =
    ap (λ (k : ℕ). managed_read k (managed_octets domain m)) (octet_is domain m) ∙ read in
    let P : Option Managed → Type 0 = λ o. IsTrue (message_shows o) in
    subst P (sym itself) h

pub all_pushed : (made : List (List ℕ)) (x : List ℕ) → IsTrue (list_all shows made) → IsTrue (shows x) → IsTrue (list_all shows (made ++ x ∷ []))
all_pushed made x h k = list_all-append shows made (x ∷ []) ∙ two (list_all shows made) (shows x) h k
  where
    two : (a b : Bool) → a ≡ true → b ≡ true → (a && (b && true)) ≡ true
    two a b p q = λ i. p i && (q i && true)

-- ---- the answers of ports

first_port : (d : AnsweringSets) (r : Managed) (p : PortSet) (ports : List PortSet) (t : Bool) → ((r.target.port == all_ports) || (r.target.port == p.id.port)) ≡ t
    → ports_answers d r (p ∷ ports) ≡ ports_answers d r (p ∷ []) ++ ports_answers d r ports
first_port d r p ports true e = rw e refl
first_port d r p ports false e = rw e refl

-- one port further
pub port_answered : (d : AnsweringSets) (r : Managed) (ports : List PortSet) (i : ℕ) (p : PortSet) (made new whole : List (List ℕ)) → i < length ports
    → made ++ ports_answers d r (drop i ports) ≡ whole → new ≡ made ++ ports_answers d r (get_or ports i p ∷ []) → new ++ ports_answers d r (drop (i + 1) ports) ≡ whole
port_answered d r ports i p made new whole lt so is =
    let q : PortSet = get_or ports i p in
    let split : drop i ports ≡ q ∷ drop (i + 1) ports = rw add-one (drop-cons ports i p lt) in
    let parts : ports_answers d r (drop i ports) ≡ ports_answers d r (q ∷ []) ++ ports_answers d r (drop (i + 1) ports) =
    ap (ports_answers d r) split ∙ first_port d r q (drop (i + 1) ports) ((r.target.port == all_ports) || (r.target.port == q.id.port)) refl in
    ap (λ (l : List (List ℕ)). l ++ ports_answers d r (drop (i + 1) ports)) is
    ∙ append_assoc made (ports_answers d r (q ∷ [])) (ports_answers d r (drop (i + 1) ports))
    ∙ ap (λ (l : List (List ℕ)). made ++ l) (sym parts) ∙ so

pub port_asked : (d : AnsweringSets) (r : Managed) (p : PortSet) → ((r.target.port == all_ports) || (r.target.port == p.id.port)) ≡ true
    → ports_answers d r (p ∷ []) ≡ managed_octets d.domain (response_to d r p.id.port PortDataSet (port_values (answering_port p))) ∷ []
port_asked d r p e = rw e refl

pub port_passed : (d : AnsweringSets) (r : Managed) (p : PortSet) → ((r.target.port == all_ports) || (r.target.port == p.id.port)) ≡ false
    → ports_answers d r (p ∷ []) ≡ []
port_passed d r p e = rw e refl

-- ---- values in octets

low_bytes : (k n w x : ℕ) → n ≡ k + w → drop k (bytes_high_first n x) ≡ bytes_high_first w x
low_bytes zero n w x e = let same : n ≡ w = omega arith in ap (λ (m : ℕ). bytes_high_first m x) same
low_bytes (suc k) zero w x e = absurd (omega arith)
low_bytes (suc k) (suc n) w x e = let less : n ≡ k + w = omega arith in low_bytes k n w x less

-- the last octets of sixteen
pub last_bytes : (w x : ℕ) → w ≤ 16 → take (16 - (16 - w)) (drop (16 - w) (bytes_high_first 16 x)) ≡ big_bytes w x
last_bytes w x h =
    let whole : 16 ≡ (16 - w) + w = omega arith in
    take_rest (bytes_high_first 16 x) (16 - w) ∙ low_bytes (16 - w) 16 w x whole

-- one value further
pub value_written : (fields : List Field) (values : List ℕ) (i : ℕ) (f : Field) (out new whole : List ℕ) → i < length fields → length values ≡ length fields
    → out ++ fields_octets (drop i fields) (drop i values) ≡ whole → new ≡ out ++ big_bytes (shape_of (get_or fields i f)).width (get_or values i 0)
    → new ++ fields_octets (drop (i + 1) fields) (drop (i + 1) values) ≡ whole
value_written fields values i f out new whole lt same so is =
    let within : i < length values = omega arith in
    let split : drop i fields ≡ get_or fields i f ∷ drop (i + 1) fields = rw add-one (drop-cons fields i f lt) in
    let split_values : drop i values ≡ get_or values i 0 ∷ drop (i + 1) values = rw add-one (drop-cons values i 0 within) in
    let octets : List ℕ = big_bytes (shape_of (get_or fields i f)).width (get_or values i 0) in
    let after : List ℕ = fields_octets (drop (i + 1) fields) (drop (i + 1) values) in
    let parts : fields_octets (drop i fields) (drop i values) ≡ octets ++ after = λ j. fields_octets (split j) (split_values j) in
    ap (λ (l : List ℕ). l ++ after) is ∙ append_assoc out octets after ∙ ap (λ (l : List ℕ). out ++ l) (sym parts) ∙ so
