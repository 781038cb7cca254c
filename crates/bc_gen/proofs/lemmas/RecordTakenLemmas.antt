-- Lines of records: what they add to a draft.
use Rattle.std.proofs.Common.{◌≡◌, ◌≢◌, ℕ, zero, suc, ◌/◌, ◌%◌, ◌^◌, ◌<◌, ◌≤◌, Bool, true, false, not, ◌&&◌, ◌==◌, nat_eq, nat_lt, nat_le, if◌then◌else◌, List, [], ◌∷◌, ◌++◌, All, codes, length, map, Some, None, refl, sym, ap, ◌∙◌, subst, arith, append_assoc, append-nil, lt-ltb}
use Rattle.std.specs.List.{list_all, slice_index}
use Rattle.std.specs.Fmt.{decimal}
use Rattle.std.proofs.lemmas.Bool.{and_from, and_parts, and_left, and_right, le-ltb, eq-eqb, ne_eqb, leb-true}
use Rattle.std.proofs.lemmas.List.Elements.{All-head, All-tail}
use Rattle.std.proofs.lemmas.List.Sums.{fold-append}
use Rattle.hex.specs.Hex.{IsBytes, encode_lower, encode_with, lower_digits}
use Rattle.hex.proofs.HexLemmas.{decode_of-encode_lower, length-encode_with}
use Rattle.ptp_base.specs.declared.port_conf.PortConf.{PortConf}
use Rattle.ptp_profile.specs.Wire.MessageFormat.{message_octets}
use Rattle.bc_history.specs.declared.section.Section.TheVariants.{Records as In_records}
use Rattle.bc_history.specs.declared.section.Role.TheVariants.{Says}
use Rattle.bc_history.specs.declared.scenario.Record.{Record}
use Rattle.bc_history.specs.declared.scenario.Happening.TheVariants.{Frame}
use Rattle.bc_history.specs.Scenario.Draft.{Draft}
use Rattle.bc_history.specs.Scenario.SectionHeaders.{is_word}
use Rattle.bc_history.specs.Scenario.SectionLines.{is_port, record_of, is_early_record, former_tick, happening_of}
use Rattle.bc_history.specs.Scenario.LineFaults.{first_of, record_tests, role_of}
use Rattle.bc_gen.specs.declared.records.MadeRecord.{MadeRecord}
use Rattle.bc_gen.specs.MadeRecords.{ticks}
use Rattle.bc_gen.specs.MadeScenario.{heard_record}
use Rattle.bc_gen.specs.MadeText.{record_line, record_lines}
use Rattle.bc_gen.proofs.lemmas.HeardRecordLemmas.{IsHeard, climbs, octets_below}
use Rattle.bc_gen.proofs.lemmas.JoinedWordLemmas.{is_solid, are_solid, are_whole, is_whole, joined}
use Rattle.bc_gen.proofs.lemmas.NumeralWordLemmas.{whole-decimal, number_of-decimal, decimal-no_comment, decimal-no_header}
use Rattle.bc_gen.proofs.lemmas.TakenTextLemmas.{IsTaken, ended, line_taken, nothing_taken, taken_on}

-- ---- hex digits

-- a digit of a hex text is solid, and neither an o nor a u
abbrev is_hex : ℕ → Bool
is_hex c = is_solid c && not (nat_eq c 111) && not (nat_eq c 117)

indexed : (xs : List ℕ) (k : ℕ) → list_all is_hex xs ≡ true → k < length xs → is_hex (slice_index xs k) ≡ true
indexed [] k all less = absurd (omega arith)
indexed (x ∷ xs) zero all less = (and_parts (is_hex x) (list_all is_hex xs) all).0
indexed (x ∷ xs) (suc k) all less = indexed xs k ((and_parts (is_hex x) (list_all is_hex xs) all).1) (omega arith)

digit_is : (k : ℕ) → k < 16 → is_hex (slice_index lower_digits k) ≡ true
digit_is k less = indexed lower_digits k refl less

hex_solid : (c : ℕ) → is_hex c ≡ true → is_solid c ≡ true
hex_solid c is = grind arith

hex_no_o : (c : ℕ) → is_hex c ≡ true → nat_eq c 111 ≡ false
hex_no_o c is = grind arith

hex_no_u : (c : ℕ) → is_hex c ≡ true → nat_eq c 117 ≡ false
hex_no_u c is = grind arith

encoded_solid : (octets : List ℕ) → IsBytes octets → are_solid (encode_lower octets) ≡ true
unfolding encode_with
encoded_solid [] below = refl
encoded_solid (x ∷ xs) below =
    let small : x < 256 = below 0 in
    rw (hex_solid (slice_index lower_digits (x / 16)) (digit_is (x / 16) (omega arith)), hex_solid (slice_index lower_digits (x % 16)) (digit_is (x % 16) (omega arith))) (encoded_solid xs (λ i. below (suc i)))

encoded_whole : (octets : List ℕ) → IsBytes octets → 1 ≤ length octets → is_whole (encode_lower octets) ≡ true
encoded_whole octets below some =
    let long = length-encode_with lower_digits octets in
    and_from (nat_lt 0 (length (encode_lower octets))) (are_solid (encode_lower octets)) (lt-ltb _ _ (omega (arith, long))) (encoded_solid octets below)

not_down : (x : ℕ) (xs : List ℕ) → x < 256 → is_word (encode_lower (x ∷ xs)) (codes "down") ≡ false
unfolding encode_with
not_down x xs small = and_right (nat_eq (slice_index lower_digits (x / 16)) 100) _ (and_left (nat_eq (slice_index lower_digits (x % 16)) 111) _ (hex_no_o _ (digit_is (x % 16) (omega arith))))

not_up : (x : ℕ) (xs : List ℕ) → x < 256 → is_word (encode_lower (x ∷ xs)) (codes "up") ≡ false
unfolding encode_with
not_up x xs small = and_left (nat_eq (slice_index lower_digits (x / 16)) 117) _ (hex_no_u _ (digit_is (x / 16) (omega arith)))

-- the hex digits of octets are the frame of these
frame_is : (octets : List ℕ) → IsBytes octets → 1 ≤ length octets → happening_of (encode_lower octets) ≡ Some (Frame octets)
frame_is [] below some = absurd (omega arith)
frame_is (x ∷ xs) below some = rw (not_down x xs (below 0), not_up x xs (below 0), decode_of-encode_lower (x ∷ xs) below) refl

-- ---- the former tick of a port

former_more : (records : List Record) (r : Record) (p : ℕ) → former_tick (records ++ r ∷ []) p ≡ (if r.port == p then r.tick else former_tick records p)
former_more records r p = fold-append (λ former (x : Record). if x.port == p then x.tick else former) 0 records (r ∷ [])

-- behind a record of the port it is that of the record
former_same : (records : List Record) (r : Record) (p : ℕ) → r.port ≡ p → former_tick (records ++ r ∷ []) p ≡ r.tick
former_same records r p same = former_more records r p ∙ rw (eq-eqb r.port p same) refl

former_other : (records : List Record) (r : Record) (p : ℕ) → r.port ≢ p → former_tick (records ++ r ∷ []) p ≡ former_tick records p
former_other records r p other = former_more records r p ∙ rw (ne_eqb r.port p other) refl

-- records of another port leave it as it is
pub former_kept : (made : List MadeRecord) (records : List Record) (q p : ℕ) → All (IsHeard q) made → q ≢ p → former_tick (records ++ map heard_record made) p ≡ former_tick records p
former_kept [] records q p heard other = ap (λ rs. former_tick rs p) (append-nil records)
former_kept (r ∷ made) records q p heard other =
    let first = All-head (IsHeard q) r made heard in
    let apart : r.port ≢ p = λ (e : r.port ≡ p). other (sym first.port ∙ e) in
    ap (λ rs. former_tick rs p) (sym (append_assoc records (heard_record r ∷ []) (map heard_record made)))
    ∙ former_kept made (records ++ heard_record r ∷ []) q p (All-tail (IsHeard q) r made heard) other
    ∙ former_other records (heard_record r) p apart

-- ---- a record

-- a draft with records more
abbrev pub with_records : Draft → List Record → Draft
with_records d records = record d { records = d.records ++ records }

-- the words of a record's line
abbrev record_words : MadeRecord → List (List ℕ)
record_words r = decimal r.tick ∷ decimal r.port ∷ encode_lower (message_octets r.message) ∷ []

record_spelled : (r : MadeRecord) → record_line r ≡ ended (joined (record_words r))
unfolding record_line
record_spelled r =
    let hex = encode_lower (message_octets r.message) in
    rw (append_assoc (decimal r.tick) (32 ∷ (decimal r.port ++ (32 ∷ hex))) (codes "\n"), append_assoc (decimal r.port) (32 ∷ hex) (codes "\n")) refl

record_is : (r : MadeRecord) → r.tick < 2 ^ 64 → r.port < 2 ^ 64 → IsBytes (message_octets r.message) → 1 ≤ length (message_octets r.message) → record_of (record_words r) ≡ Some (heard_record r)
record_is r tick port below some = rw (number_of-decimal r.tick tick, number_of-decimal r.port port, frame_is (message_octets r.message) below some) refl

early_is : (ports : List PortConf) (records : List Record) (r : MadeRecord) → r.tick < 2 ^ 64 → r.port < 2 ^ 64 → is_early_record ports records (record_words r) ≡ (is_port ports r.port && nat_lt r.tick (former_tick records r.port))
early_is ports records r tick port = rw (number_of-decimal r.tick tick, number_of-decimal r.port port) refl

-- the line of a record adds it
pub record_taken : (d : Draft) (r : MadeRecord) (p : ℕ) → d.section ≡ Some In_records → is_port d.ports p ≡ true → p < 2 ^ 16 → former_tick d.records p ≤ r.tick → IsHeard p r
    → IsTaken d (record_line r) (with_records d (heard_record r ∷ []))
record_taken d r p section there few later heard =
    let port_is : r.port ≡ p = heard.port in
    let tick : r.tick < 2 ^ 64 = omega (arith, heard.tick) in
    let port : r.port < 2 ^ 64 = omega (arith, port_is) in
    let below : IsBytes (message_octets r.message) = octets_below (message_octets r.message) heard.octets in
    let is : record_of (record_words r) ≡ Some (heard_record r) = record_is r tick port below heard.some in
    let at : is_port d.ports r.port ≡ true = ap (is_port d.ports) port_is ∙ there in
    let in_time : nat_lt r.tick (former_tick d.records r.port) ≡ false = ap (λ q. nat_lt r.tick (former_tick d.records q)) port_is ∙ le-ltb _ _ later in
    let on_time : is_early_record d.ports d.records (record_words r) ≡ false = early_is d.ports d.records r tick port ∙ rw (at, in_time) refl in
    let within : nat_lt 100000000000000 r.tick ≡ false = le-ltb _ _ heard.tick in
    let small : nat_lt 1500 (length (message_octets r.message)) ≡ false = le-ltb _ _ (omega (arith, heard.few)) in
    let role : role_of d.section (record_words r) ≡ Says In_records = rw (decimal-no_comment r.tick tick, decimal-no_header r.tick tick, section) refl in
    let whole : are_whole (record_words r) ≡ true = rw (whole-decimal r.tick tick, whole-decimal r.port port, encoded_whole (message_octets r.message) below heard.some) refl in
    let good : first_of (record_tests d true (record_words r)) ≡ None = rw (is, on_time, at, within, small) refl in
    subst (λ (text : List ℕ). IsTaken d text (with_records d (heard_record r ∷ []))) (sym (record_spelled r))
    (line_taken d (with_records d (heard_record r ∷ [])) (record_words r) whole (rw role good) (rw (role, is) refl))

-- the lines of records of one port, whose ticks do not fall, add them
pub records_taken : (made : List MadeRecord) (d : Draft) (p t : ℕ) → d.section ≡ Some In_records → is_port d.ports p ≡ true → p < 2 ^ 16 → former_tick d.records p ≤ t → climbs t (ticks made) ≡ true → All (IsHeard p) made
    → IsTaken d (record_lines made) (with_records d (map heard_record made))
records_taken [] d p t section there few former order heard = nothing_taken d (with_records d []) (ap (λ (rs : List Record). record d { records = rs }) (sym (append-nil d.records)))
records_taken (r ∷ made) d p t section there few former order heard =
    let first = All-head (IsHeard p) r made heard in
    let both = and_parts (nat_le t r.tick) (climbs r.tick (ticks made)) order in
    let later : t ≤ r.tick = leb-true t r.tick both.0 in
    let next = with_records d (heard_record r ∷ []) in
    let here : former_tick next.records p ≤ r.tick = subst (λ (n : ℕ). n ≤ r.tick) (sym (former_same d.records (heard_record r) p first.port)) (omega arith) in
    let rest = records_taken made next p r.tick section there few here both.1 (All-tail (IsHeard p) r made heard) in
    let whole = taken_on d next (with_records next (map heard_record made)) (record_line r) (record_lines made) (record_taken d r p section there few (omega (arith, former, later)) first) rest in
    subst (λ (rs : List Record). IsTaken d (record_lines (r ∷ made)) (record d { records = rs })) (append_assoc d.records (heard_record r ∷ []) (map heard_record made)) whole
