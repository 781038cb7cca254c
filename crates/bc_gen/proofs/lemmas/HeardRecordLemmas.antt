-- What the ports of a made scenario hear: records of one port, whose frames are octets.
use Rattle.std.proofs.Common.{◌≡◌, ℕ, zero, suc, ◌+◌, ◌-◌, ◌/◌, ◌%◌, ◌<◌, ◌≤◌, Bool, true, false, ◌&&◌, ◌==◌, nat_le, nat_lt, if◌then◌else◌, List, [], ◌∷◌, ◌++◌, All, length, map, refl, arith, lt-ltb, le-leb}
use Rattle.std.specs.List.{flat_map, list_all, range_with_len}
use Rattle.std.proofs.lemmas.Bool.{and_parts, and_from, ltb-true, leb-true}
use Rattle.std.proofs.lemmas.List.Elements.{All-nil, All-cons, All-append}
use Rattle.hex.specs.Hex.{IsBytes}
use Rattle.ptp_base.specs.declared.time.TheConstants.{TICK_MAX}
use Rattle.ptp_profile.specs.Wire.MessageFormat.{message_octets}
use Rattle.ptp_wire.proofs.lemmas.MessageLengthLemmas.{length_written}
use Rattle.bc_gen.specs.declared.records.MadeRecord.{MadeRecord}
use Rattle.bc_gen.specs.MadeRecords.{announce, sync, delay_resp, announces_in, syncs_in, delay_resps_in, records_in, records_of, beginning, ticks}

-- ---- octets

-- a number that an octet holds
abbrev pub is_octet : ℕ → Bool
is_octet n = nat_lt n 256

remainder_is : (n : ℕ) → nat_lt (n % 256) 256 ≡ true
remainder_is n = lt-ltb _ _ (omega arith)

priority_is : (e : ℕ) → nat_lt (127 - e) 256 ≡ true
priority_is e = lt-ltb _ _ (omega arith)

announce_octets : (e j : ℕ) → list_all is_octet (message_octets (announce e j).message) ≡ true
unfolding message_octets
announce_octets e j = simp (remainder_is, priority_is) refl

sync_octets : (e delay j : ℕ) → list_all is_octet (message_octets (sync e delay j).message) ≡ true
unfolding message_octets
sync_octets e delay j = simp remainder_is refl

delay_resp_octets : (e delay j : ℕ) → list_all is_octet (message_octets (delay_resp e delay j).message) ≡ true
unfolding message_octets
delay_resp_octets e delay j = simp remainder_is refl

-- octets, by the index
pub octets_below : (octets : List ℕ) → list_all is_octet octets ≡ true → IsBytes octets
octets_below [] all i = omega arith
octets_below (x ∷ xs) all zero = ltb-true x 256 ((and_parts (is_octet x) (list_all is_octet xs) all).0)
octets_below (x ∷ xs) all (suc i) = octets_below xs ((and_parts (is_octet x) (list_all is_octet xs) all).1) i

-- ---- what is so of each record

-- a record of port p: its tick and its frame are within their limits
pub record IsHeard (p : ℕ) (r : MadeRecord) : Type 0 where
  pub port : r.port ≡ p
  pub tick : r.tick ≤ TICK_MAX
  pub octets : list_all is_octet (message_octets r.message) ≡ true
  pub some : 1 ≤ length (message_octets r.message)
  pub few : length (message_octets r.message) ≤ 64

announce_heard : (e j : ℕ) → e < 32 → j < 20 → IsHeard (e + 1) (announce e j)
announce_heard e j master second = record {
  port = refl;
  tick = omega arith;
  octets = announce_octets e j;
  some = omega (arith, length_written (announce e j).message);
  few = omega (arith, length_written (announce e j).message);
}

sync_heard : (e delay j : ℕ) → e < 32 → j < 20 → IsHeard (e + 1) (sync e delay j)
sync_heard e delay j master second = record {
  port = refl;
  tick = omega arith;
  octets = sync_octets e delay j;
  some = omega (arith, length_written (sync e delay j).message);
  few = omega (arith, length_written (sync e delay j).message);
}

delay_resp_heard : (e delay j : ℕ) → e < 32 → j < 20 → IsHeard (e + 1) (delay_resp e delay j)
delay_resp_heard e delay j master second = record {
  port = refl;
  tick = omega arith;
  octets = delay_resp_octets e delay j;
  some = omega (arith, length_written (delay_resp e delay j).message);
  few = omega (arith, length_written (delay_resp e delay j).message);
}

all_where : {X : Type 0} (P : X → Type 0) (test : Bool) (x : X) → P x → All P (if test then x ∷ [] else [])
all_where P true x holds = All-cons P x [] holds (All-nil P)
all_where P false x holds = All-nil P

-- the records of a second are heard by the master's port
heard_in : (e delay s : ℕ) → e < 32 → s < 20 → All (IsHeard (e + 1)) (records_in e delay s)
heard_in e delay s master second =
    let announces : All (IsHeard (e + 1)) (announces_in e s) = all_where (IsHeard (e + 1)) (s % 2 == 0) (announce e (s / 2)) (announce_heard e (s / 2) master (omega arith)) in
    let syncs : All (IsHeard (e + 1)) (syncs_in e delay s) = all_where (IsHeard (e + 1)) (nat_le 2 s) (sync e delay (s - 2)) (sync_heard e delay (s - 2) master (omega arith)) in
    let responses : All (IsHeard (e + 1)) (delay_resps_in e delay s) = all_where (IsHeard (e + 1)) (nat_le 3 s && nat_le s 18) (delay_resp e delay (s - 3)) (delay_resp_heard e delay (s - 3) master (omega arith)) in
    All-append (IsHeard (e + 1)) (announces_in e s ++ syncs_in e delay s) (delay_resps_in e delay s)
    (All-append (IsHeard (e + 1)) (announces_in e s) (syncs_in e delay s) announces syncs) responses

heard_from : (e delay a k : ℕ) → e < 32 → a + k ≤ 20 → All (IsHeard (e + 1)) (flat_map (records_in e delay) (range_with_len a k))
heard_from e delay a zero master seconds = All-nil (IsHeard (e + 1))
heard_from e delay a (suc k) master seconds =
    All-append (IsHeard (e + 1)) (records_in e delay a) (flat_map (records_in e delay) (range_with_len (a + 1) k))
    (heard_in e delay a master (omega arith)) (heard_from e delay (a + 1) k master (omega arith))

-- the records of a master are heard by its port
pub master_heard : (e delay : ℕ) → e < 32 → All (IsHeard (e + 1)) (records_of e delay)
master_heard e delay master = heard_from e delay 0 20 master (omega arith)

-- ---- their order

-- no number is below the one before, and the first is not below t
abbrev pub climbs : ℕ → List ℕ → Bool
climbs t [] = true
climbs t (x ∷ xs) = nat_le t x && climbs x xs

moved : (b t : ℕ) (xs : List ℕ) → climbs t xs ≡ true → climbs (b + t) (map (λ x. b + x) xs) ≡ true
moved b t [] is = refl
moved b t (x ∷ xs) is =
    let both = and_parts (nat_le t x) (climbs x xs) is in
    let first : t ≤ x = leb-true t x both.0 in
    and_from (nat_le (b + t) (b + x)) (climbs (b + x) (map (λ y. b + y) xs)) (le-leb _ _ (omega (arith, first))) (moved b x xs both.1)

-- the ticks of a master's records do not fall
pub master_climbs : (e delay : ℕ) → climbs (beginning e + 0) (ticks (records_of e delay)) ≡ true
master_climbs e delay = moved (beginning e) 0 (ticks (records_of 0 0)) refl
