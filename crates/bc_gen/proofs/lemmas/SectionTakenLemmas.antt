-- Sections of clocks and ports, and the header of the records: what they add to a draft.
use Rattle.std.proofs.Common.{◌≡◌, ℕ, ℤ, pos, negsuc, ◌+◌, ◌-◌, ◌*ℤ◌, ◌%◌, ◌^◌, ◌<◌, ◌≤◌, true, false, ◌&&◌, ◌==◌, List, [], ◌∷◌, ◌++◌, codes, length, Some, None, refl, sym, ap, subst, arith, append_assoc, lt-ltb, eq-eqb, ne_eqb}
use Rattle.std.specs.Prelude.{slice_set, int_le}
use Rattle.std.specs.Fmt.{decimal, signed_decimal}
use Rattle.std.proofs.lemmas.Bool.{eq-eqb, ne_eqb}
use Rattle.std.proofs.lemmas.List.{length_push}
use Rattle.ptp_base.specs.declared.port_conf.PortConf.{PortConf}
use Rattle.model_clock.specs.declared.state.ClockState.{ClockState}
use Rattle.model_clock.specs.Clock.{plain_clock}
use Rattle.bc_history.specs.declared.section.Section.TheVariants.{Options as In_options, Records as In_records}
use Rattle.bc_history.specs.declared.option.Scope.TheVariants.{Clock as A_clock, Port as A_port}
use Rattle.bc_history.specs.declared.section.Header.{Header}
use Rattle.bc_history.specs.declared.section.Header.TheVariants.{Clock, Port, Records}
use Rattle.bc_history.specs.declared.section.Role.TheVariants.{Begins}
use Rattle.bc_history.specs.Scenario.SectionHeaders.{may_follow}
use Rattle.bc_history.specs.Scenario.SectionLines.{is_clock}
use Rattle.bc_history.specs.Scenario.Draft.{Draft, with_last}
use Rattle.bc_history.specs.Scenario.LineFaults.{first_of, header_tests, role_of, with_header}
use Rattle.bc_history.proofs.lemmas.ListRuleLemmas.{last_of_push}
use Rattle.bc_gen.specs.MadeText.{clock_section, port_header}
use Rattle.bc_gen.proofs.lemmas.JoinedWordLemmas.{are_whole, is_whole, joined}
use Rattle.bc_gen.proofs.lemmas.NumeralWordLemmas.{IsNear, whole-decimal, whole-closed, whole-signed, number_of-decimal, closed_of-decimal, signed_of-signed}
use Rattle.bc_gen.proofs.lemmas.TakenTextLemmas.{IsTaken, ended, line_taken, taken_on}

-- ---- the last of a list

set-push : {T : Type 0} (xs : List T) (x y : T) → slice_set (xs ++ x ∷ []) (length xs) y ≡ xs ++ y ∷ []
set-push [] x y = refl
set-push (z ∷ xs) x y = ap (λ zs. z ∷ zs) (set-push xs x y)

-- the last one is changed
with_last-push : {T : Type 0} (f : T → T) (xs : List T) (x : T) → with_last f (xs ++ x ∷ []) ≡ xs ++ f x ∷ []
with_last-push f xs x =
    let last : length (xs ++ x ∷ []) - 1 ≡ length xs = omega (arith, length_push xs x) in
    rw (last_of_push xs x, last) (set-push xs x (f x))

-- ---- headers

-- a line that is a header, by that header
header_taken : (d e : Draft) (words : List (List ℕ)) (header : Header) → are_whole words ≡ true → role_of d.section words ≡ Begins header → first_of (header_tests d true header) ≡ None → with_header d header ≡ e
    → IsTaken d (ended (joined words)) e
header_taken d e words header whole role good made = line_taken d e words whole (rw role good) (rw role made)

-- ---- a clock

-- a draft with a clock more, and its options named
abbrev pub with_clock : Draft → ClockState → Draft
with_clock d clock = record d {
  section = Some (In_options A_clock);
  named = 27 ∷ 28 ∷ [];
  clocks = d.clocks ++ clock ∷ [];
}

-- with the header alone, and with the time too
abbrev begun : Draft → Draft
begun d = record d { section = Some (In_options A_clock); named = []; clocks = d.clocks ++ plain_clock ∷ [] }

abbrev timed : Draft → Draft
timed d = record d { section = Some (In_options A_clock); named = 27 ∷ []; clocks = d.clocks ++ plain_clock ∷ [] }

clock_begun : (d : Draft) (c : ℕ) → may_follow d.section (In_options A_clock) ≡ true → length d.clocks ≡ c → c < 16
    → IsTaken d (ended (joined (codes "[clock" ∷ (decimal c ++ codes "]") ∷ []))) (begun d)
clock_begun d c follows count few =
    let small : c < 2 ^ 64 = omega arith in
    let whole : is_whole (decimal c ++ codes "]") ≡ true = whole-closed c small in
    let here : (c == length d.clocks) ≡ true = eq-eqb c (length d.clocks) (sym count) in
    let room : (c == 16) ≡ false = ne_eqb c 16 (λ (e : c ≡ 16). omega arith) in
    header_taken d (begun d) (codes "[clock" ∷ (decimal c ++ codes "]") ∷ []) (Clock c) (rw whole refl) (rw (closed_of-decimal c small) refl) (rw (follows, here, room) refl) refl

clock_timed : (d : Draft) → IsTaken (begun d) (ended (joined (codes "time" ∷ codes "0" ∷ []))) (timed d)
clock_timed d = line_taken (begun d) (timed d) (codes "time" ∷ codes "0" ∷ []) refl refl (rw (with_last-push _ d.clocks plain_clock) refl)

clock_drifts : (d : Draft) (z : ℤ) → IsNear z → (int_le (negsuc 9999999) z && int_le z (pos 10000000)) ≡ true
    → IsTaken (timed d) (ended (joined (codes "drift" ∷ signed_decimal z ∷ []))) (with_clock d (record plain_clock { drift = z *ℤ pos 65536 }))
clock_drifts d z near within =
    let whole : is_whole (signed_decimal z) ≡ true = whole-signed z near in
    line_taken (timed d) (with_clock d (record plain_clock { drift = z *ℤ pos 65536 })) (codes "drift" ∷ signed_decimal z ∷ []) (rw whole refl)
    (rw (signed_of-signed z near, within) refl)
    (rw (signed_of-signed z near, within, with_last-push _ d.clocks plain_clock) refl)

clock_spelled : (c : ℕ) (z : ℤ) → clock_section c z ≡ ended (joined (codes "[clock" ∷ (decimal c ++ codes "]") ∷ [])) ++ (ended (joined (codes "time" ∷ codes "0" ∷ [])) ++ ended (joined (codes "drift" ∷ signed_decimal z ∷ [])))
unfolding clock_section
clock_spelled c z = rw (append_assoc (decimal c) (codes "]") (codes "\n"), append_assoc (decimal c) (codes "]\n") (ended (joined (codes "time" ∷ codes "0" ∷ [])) ++ ended (joined (codes "drift" ∷ signed_decimal z ∷ [])))) refl

-- the section of a clock adds that clock
pub clock_taken : (d : Draft) (c : ℕ) (z : ℤ) → may_follow d.section (In_options A_clock) ≡ true → length d.clocks ≡ c → c < 16 → IsNear z → (int_le (negsuc 9999999) z && int_le z (pos 10000000)) ≡ true
    → IsTaken d (clock_section c z) (with_clock d (record plain_clock { drift = z *ℤ pos 65536 }))
clock_taken d c z follows count few near within =
    let last = with_clock d (record plain_clock { drift = z *ℤ pos 65536 }) in
    subst (λ (text : List ℕ). IsTaken d text last) (sym (clock_spelled c z))
    (taken_on d (begun d) last _ _ (clock_begun d c follows count few) (taken_on (begun d) (timed d) last _ _ (clock_timed d) (clock_drifts d z near within)))

-- ---- a port

-- a draft with a port more
abbrev pub with_port : Draft → PortConf → Draft
with_port d port = record d { section = Some (In_options A_port); named = []; ports = d.ports ++ port ∷ [] }

is_there : (clocks : List ClockState) (c : ℕ) → c < length clocks → is_clock clocks c ≡ true
is_there [] c less = absurd (omega arith)
is_there (clock ∷ clocks) c less = lt-ltb _ _ less

port_spelled : (p : ℕ) → port_header p ≡ ended (joined (codes "[port" ∷ decimal p ∷ codes "clock" ∷ (decimal ((p - 1) % 16) ++ codes "]") ∷ []))
unfolding port_header
port_spelled p = rw (append_assoc (decimal p) (codes " clock " ++ (decimal ((p - 1) % 16) ++ codes "]")) (codes "\n"), append_assoc (decimal ((p - 1) % 16)) (codes "]") (codes "\n")) refl

-- the header of a port adds that port
pub port_taken : (d : Draft) (p : ℕ) → may_follow d.section (In_options A_port) ≡ true → length d.ports + 1 ≡ p → p ≤ 32 → length d.clocks ≡ 16 → d.options.boundary_clock_jbod ≡ true
    → IsTaken d (port_header p) (with_port d (record d.defaults { clock = (p - 1) % 16 }))
port_taken d p follows count few clocks jbod =
    let c = (p - 1) % 16 in
    let below : (p - 1) % 16 < 16 = omega arith in
    let small : p < 2 ^ 64 = omega arith in
    let small_c : (p - 1) % 16 < 2 ^ 64 = omega arith in
    let here : (p == length d.ports + 1) ≡ true = eq-eqb p (length d.ports + 1) (sym count) in
    let there : is_clock d.clocks ((p - 1) % 16) ≡ true = is_there d.clocks ((p - 1) % 16) (omega arith) in
    let room : (p == 33) ≡ false = ne_eqb p 33 (λ (e : p ≡ 33). omega arith) in
    subst (λ (text : List ℕ). IsTaken d text (with_port d (record d.defaults { clock = (p - 1) % 16 }))) (sym (port_spelled p))
    (header_taken d _ (codes "[port" ∷ decimal p ∷ codes "clock" ∷ (decimal ((p - 1) % 16) ++ codes "]") ∷ []) (Port p ((p - 1) % 16))
    (rw (whole-decimal p small, whole-closed ((p - 1) % 16) small_c) refl)
    (rw (number_of-decimal p small, closed_of-decimal ((p - 1) % 16) small_c) refl)
    (rw (follows, here, there, room, jbod) refl) refl)

-- ---- the records

-- the header of the records
pub records_begun : (d : Draft) → may_follow d.section In_records ≡ true → IsTaken d (codes "[records]\n") (record d { section = Some In_records; named = [] })
records_begun d follows = header_taken d _ (codes "[records]" ∷ []) Records refl refl (rw follows refl) refl
