-- What reading passes over is free.
use Rattle.std.proofs.Common.{◌≡◌, ◌≢◌, ◌⊎◌, inl, inr, ℕ, zero, suc, ◌+◌, ◌*◌, ◌/◌, ◌%◌, ◌^◌, ◌<◌, ◌≤◌, List, length, drop, refl, sym, ap, subst, ◌∙◌, arith, lit<, eq-eqb, pos, Bool, true, false, cond}
use Rattle.std.proofs.lemmas.List.{get_or-drop}
use Rattle.std.proofs.lemmas.Bool.{cases_eq}
use Rattle.std.proofs.lemmas.Bool.Decides.{nat_tests}
use Rattle.std.specs.Prelude.{slice_index, Option, Some, None, nat_lt, nat_le, not, ◌==◌, ◌||◌}
use Rattle.std.specs.Int.{w8, w16, w64, cast_signed}
use Rattle.byteorder.specs.Endian.{big_from}
use Rattle.ptp_profile.specs.declared.message.Message.{Message}
use Rattle.ptp_profile.specs.declared.message.Body.TheVariants.{Sync, DelayReq, FollowUp, DelayResp, Announce}
use Rattle.ptp_profile.specs.declared.message.Reject.{Reject}
use Rattle.ptp_profile.specs.declared.message.Reject.TheVariants.{Short, Version, Domain, Type_, Length, Nanos, TimeRange}
use Rattle.ptp_profile.specs.Wire.MessageFormat.{number_at, port_at, time_at, said_at, kind_at, length_of, body_at, message_at, first_fault, answer, decode_result, IsRead, SameRead}

big_same : (j n : ℕ) (xs ys : List ℕ) → ((k : ℕ) → j ≤ k → k < j + n → slice_index xs k ≡ slice_index ys k) → big_from j n xs ≡ big_from j n ys
big_same j zero xs ys h = refl
big_same j (suc n) xs ys h =
    let first : slice_index xs j ≡ slice_index ys j = h j (omega arith) (omega arith) in
    let others = big_same (suc j) n xs ys (λ k lo hi. h k (omega arith) (omega arith)) in
    λ i. first i * 256 ^ n + others i

pub number_same : (i n : ℕ) (b c : List ℕ) → ((k : ℕ) → i ≤ k → k < i + n → slice_index b k ≡ slice_index c k) → number_at i n b ≡ number_at i n c
unfolding number_at
number_same i n b c h =
    big_same 0 n (drop i b) (drop i c) (λ k lo hi. get_or-drop i b k 0 ∙ h (i + k) (omega arith) (omega arith) ∙ sym (get_or-drop i c k 0))

in_body : (k i : ℕ) → 33 ≤ i → i < length_of k → ((k ≡ 11) → i ≢ 46) → IsRead k i
in_body k i lo hi gap = inr (inr (inr (inr (lo, hi, gap))))

-- b and c agree where a message of kind k is read
abbrev Agree : ℕ → List ℕ → List ℕ → Type 0
Agree k b c = (i : ℕ) → IsRead k i → slice_index b i ≡ slice_index c i

time_same : (k : ℕ) (b c : List ℕ) → 44 ≤ length_of k → Agree k b c → time_at b ≡ time_at c
time_same k b c long h =
    let seconds = number_same 34 6 b c (λ i lo hi. h i (in_body k i (omega arith) (omega arith) (λ e. λ at. absurd (omega arith)))) in
    let nanos = number_same 40 4 b c (λ i lo hi. h i (in_body k i (omega arith) (omega arith) (λ e. λ at. absurd (omega arith)))) in
    λ i. pos (seconds i * 1000000000 + nanos i)

port_same : (b c : List ℕ) → Agree 9 b c → port_at 44 b ≡ port_at 44 c
port_same b c h =
    let here : (i : ℕ) → 44 ≤ i → i < 54
    → slice_index b i ≡ slice_index c i = λ i lo hi. h i (in_body 9 i (omega arith) hi (λ e. absurd (omega (arith, e)))) in
    let clock = number_same 44 8 b c (λ i lo hi. here i (omega arith) (omega arith)) in
    let port = number_same 52 2 b c (λ i lo hi. here i (omega arith) (omega arith)) in
    λ i. record { clock = record { id = clock i }; port = port i }

said_same : (b c : List ℕ) → Agree 11 b c → said_at b ≡ said_at c
said_same b c h =
    let here : (i : ℕ) → 44 ≤ i → i < 64 → i ≢ 46
    → slice_index b i ≡ slice_index c i = λ i lo hi off. h i (in_body 11 i (omega arith) hi (λ e. off)) in
    let grandmaster = number_same 53 8 b c (λ i lo hi. here i (omega arith) (omega arith) (λ at. absurd (omega arith))) in
    let variance = number_same 50 2 b c (λ i lo hi. here i (omega arith) (omega arith) (λ at. absurd (omega arith))) in
    let steps = number_same 61 2 b c (λ i lo hi. here i (omega arith) (omega arith) (λ at. absurd (omega arith))) in
    let offset = number_same 44 2 b c (λ i lo hi. here i (omega arith) (omega arith) (λ at. absurd (omega arith))) in
    let at47 = here 47 (lit< tt) (lit< tt) (λ e. absurd (omega (arith, e))) in
    let at48 = here 48 (lit< tt) (lit< tt) (λ e. absurd (omega (arith, e))) in
    let at49 = here 49 (lit< tt) (lit< tt) (λ e. absurd (omega (arith, e))) in
    let at52 = here 52 (lit< tt) (lit< tt) (λ e. absurd (omega (arith, e))) in
    let at63 = here 63 (lit< tt) (lit< tt) (λ e. absurd (omega (arith, e))) in
    λ i. record {
      grandmaster = record { id = grandmaster i };
      quality = record { priority1 = at47 i; class = at48 i; accuracy = at49 i; variance = variance i; priority2 = at52 i };
      steps = steps i;
      utc_offset = cast_signed w16 (offset i);
      source = at63 i;
    }

kinds : (k : ℕ) → length_of k ≢ 0 → (k ≡ 0) ⊎ (k ≡ 1) ⊎ (k ≡ 8) ⊎ (k ≡ 9) ⊎ (k ≡ 11)
kinds k h = grind (arith, nat_tests)

-- a kind that is known
pub body_same : (k : ℕ) (b c : List ℕ) → length_of k ≢ 0 → Agree k b c → body_at k b ≡ body_at k c
body_same k b c known h =
    let Goal : ℕ → Type 0 = λ n. Agree n b c → body_at n b ≡ body_at n c in
    elim (kinds k known) [
      | inl e ↦ subst Goal (sym e) (λ g. ap Sync (time_same 0 b c (lit< tt) g)) h
      | inr (inl e) ↦ subst Goal (sym e) (λ g. ap DelayReq (time_same 1 b c (lit< tt) g)) h
      | inr (inr (inl e)) ↦ subst Goal (sym e) (λ g. ap FollowUp (time_same 8 b c (lit< tt) g)) h
      | inr (inr (inr (inl e))) ↦ subst Goal (sym e) (λ g. λ i. DelayResp (time_same 9 b c (lit< tt) g i) (port_same b c g i)) h
      | inr (inr (inr (inr e))) ↦ subst Goal (sym e) (λ g. λ i. Announce (time_same 11 b c (lit< tt) g i) (said_same b c g i)) h
    ]

-- the first fault, by what the tests look at
abbrev chain : ℕ → ℕ → ℕ → ℕ → ℕ → ℕ → ℕ → ℕ → Option Reject
chain domain long version fourth zeroth said nanos seconds =
    cond (nat_lt long 34) (Some Short)
    (cond (not (version == 2)) (Some Version) (cond (not (fourth == domain) || not (zeroth / 16 == 0)) (Some Domain)
    (cond (length_of (zeroth % 16) == 0) (Some Type_) (cond (nat_lt long said || nat_lt said (length_of (zeroth % 16))) (Some Length)
    (cond (nat_le 1000000000 nanos) (Some Nanos) (cond (nat_le (2 ^ 33) seconds) (Some TimeRange) None))))))

is_chain : (domain : ℕ) (b : List ℕ)
    → first_fault domain b ≡ chain domain (length b) (slice_index b 1 % 16) (slice_index b 4) (slice_index b 0) (number_at 2 2 b)
    (number_at 40 4 b) (number_at 34 6 b)
is_chain domain b = refl

-- a type that is unknown is refused, whatever stands behind it
unknown : (p q r t : Bool) (m n : Message) (x y : Option Reject) → t ≡ true
    → answer m (cond p (Some Short) (cond q (Some Version) (cond r (Some Domain) (cond t (Some Type_) x)))) ≡ answer n
    (cond p (Some Short) (cond q (Some Version) (cond r (Some Domain) (cond t (Some Type_) y))))
unknown true q r t m n x y e = refl
unknown false true r t m n x y e = refl
unknown false false true t m n x y e = refl
unknown false false false t m n x y e = rw e refl

pub decoded_same : (domain : ℕ) (b c : List ℕ) → SameRead b c → decode_result domain b ≡ decode_result domain c
decoded_same domain b c s =
    let zeroth : slice_index b 0 ≡ slice_index c 0 = s.others 0 (inl refl) in
    let kind : kind_at b ≡ kind_at c = ap (λ x. x % 16) zeroth in
    let fourth : slice_index b 4 ≡ slice_index c 4 = s.others 4 (inr (inl (lit< tt, lit< tt))) in
    let said : number_at 2 2 b ≡ number_at 2 2 c = number_same 2 2 b c (λ i lo hi. s.others i (inr (inl (lo, omega arith)))) in
    elim (cases_eq (length_of (kind_at b)) 0) [
      | inl none ↦
          let test : (length_of (kind_at b) == 0) ≡ true = eq-eqb _ _ none in
          let front : decode_result domain b ≡ answer (message_at b)
          (chain domain (length c) (slice_index c 1 % 16) (slice_index c 4) (slice_index c 0) (number_at 2 2 c) (number_at 40 4 b)
          (number_at 34 6 b)) =
          λ i. answer (message_at b) (chain domain (s.long i) (s.version i) (fourth i) (zeroth i) (said i) (number_at 40 4 b) (number_at 34 6 b)) in
          front ∙ unknown _ _ _ _ (message_at b) (message_at c) _ _ (ap (λ k. length_of k == 0) (sym kind) ∙ test)
      | inr some ↦
          let long : 44 ≤ length_of (kind_at b) = known_long (kind_at b) some in
          let body : body_at (kind_at b) b ≡ body_at (kind_at c) c = body_same (kind_at b) b c some s.others ∙ ap (λ k. body_at k c) kind in
          let behind : (i : ℕ) → 33 ≤ i → i < 44
          → slice_index b i ≡ slice_index c i =
          λ i lo hi. s.others i (in_body (kind_at b) i lo (omega arith) (λ e. λ at. absurd (omega arith))) in
          let nanos : number_at 40 4 b ≡ number_at 40 4 c = number_same 40 4 b c (λ i lo hi. behind i (omega arith) (omega arith)) in
          let seconds : number_at 34 6 b ≡ number_at 34 6 c = number_same 34 6 b c (λ i lo hi. behind i (omega arith) (omega arith)) in
          let sender : (i : ℕ) → 20 ≤ i → i < 32 → slice_index b i ≡ slice_index c i = λ i lo hi. s.others i (inr (inr (inr (inl (lo, hi))))) in
          let clock = number_same 20 8 b c (λ i lo hi. sender i (omega arith) (omega arith)) in
          let port = number_same 28 2 b c (λ i lo hi. sender i (omega arith) (omega arith)) in
          let seq = number_same 30 2 b c (λ i lo hi. sender i (omega arith) (omega arith)) in
          let correction = number_same 8 8 b c (λ i lo hi. s.others i (inr (inr (inl (lo, omega arith))))) in
          let log_interval = behind 33 (lit< tt) (lit< tt) in
          let same : message_at b ≡ message_at c = λ i. record {
            domain = fourth i;
            flags = s.flags i;
            correction = cast_signed w64 (correction i);
            sender = record { clock = record { id = clock i }; port = port i };
            seq = seq i;
            log_interval = cast_signed w8 (log_interval i);
            body = body i;
          } in
          λ i. answer (same i) (chain domain (s.long i) (s.version i) (fourth i) (zeroth i) (said i) (nanos i) (seconds i))
    ]
  where
    known_long : (k : ℕ) → length_of k ≢ 0 → 44 ≤ length_of k
    known_long k h = grind (arith, nat_tests)
