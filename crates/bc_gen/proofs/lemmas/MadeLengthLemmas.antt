-- How long a made text is at most.
use Rattle.std.proofs.Common.{◌≡◌, ℕ, zero, suc, ℤ, pos, negsuc, ◌+◌, ◌-◌, ◌*◌, ◌%◌, ◌^◌, ◌<◌, ◌≤◌, List, [], ◌∷◌, ◌++◌, All, codes, length, refl, arith, length-append}
use Rattle.std.specs.Fmt.{decimal, signed_decimal}
use Rattle.std.specs.List.{flat_map, range_with_len}
use Rattle.std.proofs.lemmas.Fmt.{length-decimal-le}
use Rattle.std.proofs.lemmas.List.Elements.{All-head, All-tail}
use Rattle.hex.specs.Hex.{encode_lower, lower_digits}
use Rattle.hex.proofs.HexLemmas.{length-encode_with}
use Rattle.ptp_base.specs.declared.limits.TheConstants.{TEXT_MAX}
use Rattle.ptp_profile.specs.Wire.MessageFormat.{message_octets}
use Rattle.bc_gen.specs.declared.records.MadeRecord.{MadeRecord}
use Rattle.bc_gen.specs.MadeNumbers.{drawn, made_drift, made_delay}
use Rattle.bc_gen.specs.MadeRecords.{made_records, records_of}
use Rattle.bc_gen.specs.MadeText.{clock_section, clock_text, clock_texts, global_text, made_text, master_text, master_texts, port_header, port_headers, record_line, record_lines}
use Rattle.bc_gen.proofs.lemmas.HeardRecordLemmas.{IsHeard, master_heard}
use Rattle.bc_gen.proofs.lemmas.MadeTakenLemmas.{drift_near}
use Rattle.bc_gen.proofs.lemmas.NumeralWordLemmas.{IsNear}

-- texts of so many numbers, each no longer than b
flat_short : (f : ℕ → List ℕ) (b a k : ℕ) → ((x : ℕ) → x < a + k → length (f x) ≤ b) → length (flat_map f (range_with_len a k)) ≤ b * k
flat_short f b a zero each = omega arith
flat_short f b a (suc k) each =
    let first : length (f a) ≤ b = each a (omega arith) in
    let rest : length (flat_map f (range_with_len (a + 1) k)) ≤ b * k = flat_short f b (a + 1) k (λ x less. each x (omega arith)) in
    omega (arith, length-append (f a) (flat_map f (range_with_len (a + 1) k)), first, rest)

decimal_short : (n : ℕ) → n < 2 ^ 64 → length (decimal n) ≤ 20
decimal_short n small = length-decimal-le 20 n (omega arith) (omega arith) small

signed_short : (z : ℤ) → IsNear z → length (signed_decimal z) ≤ 21
signed_short (pos n) near = omega (arith, decimal_short n (omega arith))
signed_short (negsuc n) near = omega (arith, decimal_short (suc n) (omega arith))

section_short : (c : ℕ) (z : ℤ) → c < 16 → IsNear z → length (clock_section c z) ≤ 100
unfolding clock_section
section_short c z few near =
    omega (arith, length-append (decimal c) (codes "]\ntime 0\ndrift " ++ (signed_decimal z ++ codes "\n")), length-append (signed_decimal z) (codes "\n"), decimal_short c (omega arith), signed_short z near)

header_short : (p : ℕ) → p < 33 → length (port_header p) ≤ 100
unfolding port_header
header_short p few =
    let small : (p - 1) % 16 < 2 ^ 64 = omega arith in
    omega (arith, length-append (decimal p) (codes " clock " ++ (decimal ((p - 1) % 16) ++ codes "]\n")), length-append (decimal ((p - 1) % 16)) (codes "]\n"), decimal_short p (omega arith), decimal_short ((p - 1) % 16) small)

line_short : (p : ℕ) (r : MadeRecord) → p < 33 → IsHeard p r → length (record_line r) ≤ 200
unfolding record_line
line_short p r few heard =
    let hex = encode_lower (message_octets r.message) in
    let port : r.port < 2 ^ 64 = omega (arith, heard.port) in
    let tick : r.tick < 2 ^ 64 = omega (arith, heard.tick) in
    omega (arith, length-append (decimal r.tick) (codes " " ++ (decimal r.port ++ (codes " " ++ (hex ++ codes "\n")))), length-append (decimal r.port) (codes " " ++ (hex ++ codes "\n")), length-append hex (codes "\n"), length-encode_with lower_digits (message_octets r.message), decimal_short r.tick tick, decimal_short r.port port, heard.few)

lines_short : (p : ℕ) (made : List MadeRecord) → p < 33 → All (IsHeard p) made → length (record_lines made) ≤ 200 * length made
lines_short p [] few heard = omega arith
lines_short p (r ∷ made) few heard =
    let first = line_short p r few (All-head (IsHeard p) r made heard) in
    let rest = lines_short p made few (All-tail (IsHeard p) r made heard) in
    omega (arith, length-append (record_line r) (record_lines made), first, rest)

count_is : (e delay : ℕ) → length (records_of e delay) ≡ 44
count_is e delay = refl

master_short : (n e : ℕ) → e < 32 → length (master_text n e) ≤ 8800
master_short n e few =
    let lines = lines_short (e + 1) (made_records n e) (omega arith) (master_heard e (made_delay n e) few) in
    omega (arith, lines, count_is e (made_delay n e))

-- a made text has at most TEXT_MAX octets
pub made_short : (n : ℕ) → length (made_text n) ≤ TEXT_MAX
unfolding made_text
made_short n =
    let clocks : length (clock_texts n) ≤ 1600 = flat_short (clock_text n) 100 0 16 (λ c less. section_short c (made_drift n c) less (drift_near (drawn n (c + 1)))) in
    let ports : length port_headers ≤ 3200 = flat_short port_header 100 1 32 header_short in
    let masters : length (master_texts n) ≤ 281600 = flat_short (master_text n) 8800 0 32 (master_short n) in
    omega (arith, clocks, ports, masters, length-append global_text (clock_texts n ++ (port_headers ++ (codes "[records]\n" ++ master_texts n))), length-append (clock_texts n) (port_headers ++ (codes "[records]\n" ++ master_texts n)), length-append port_headers (codes "[records]\n" ++ master_texts n), length-append (codes "[records]\n") (master_texts n))
