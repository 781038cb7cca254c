-- What is decoded is what the octets read as.
use Rattle.std.proofs.Common.{◌≡◌, ◌≢◌, ℕ, ◌/◌, ◌%◌, ◌^◌, ◌<◌, ◌≤◌, List, length, refl, sym, ap, ◌∙◌, arith, Bool, true, false, cond}
use Rattle.std.proofs.lemmas.Bool.Decides.{nat_tests}
use Rattle.std.specs.Prelude.{slice_index, Option, Some, None, Ok, nat_lt, nat_le, not, ◌==◌, ◌||◌}
use Rattle.ptp_profile.specs.declared.message.Message.{Message}
use Rattle.ptp_profile.specs.declared.message.Reject.{Reject}
use Rattle.ptp_profile.specs.declared.message.Reject.TheVariants.{Short, Version, Domain, Type_, Length, Nanos, TimeRange}
use Rattle.ptp_profile.specs.Wire.MessageFormat.{number_at, kind_at, length_of, message_at, first_fault, answer, decode_result, IsFaultless, Reads}

-- none of the tests holds
record AllFalse (p q r s t u v : Bool) : Type 0 where
  long : p ≡ false
  version : q ≡ false
  domain : r ≡ false
  kind : s ≡ false
  whole : t ≡ false
  nanos : u ≡ false
  seconds : v ≡ false

abbrev chosen : Bool → Bool → Bool → Bool → Bool → Bool → Bool → Option Reject
chosen p q r s t u v =
    cond p (Some Short)
    (cond q (Some Version)
    (cond r (Some Domain) (cond s (Some Type_) (cond t (Some Length) (cond u (Some Nanos) (cond v (Some TimeRange) None))))))

all_false : (p q r s t u v : Bool) → chosen p q r s t u v ≡ None → AllFalse p q r s t u v
all_false true q r s t u v e = cc
all_false false true r s t u v e = cc
all_false false false true s t u v e = cc
all_false false false false true t u v e = cc
all_false false false false false true u v e = cc
all_false false false false false false true v e = cc
all_false false false false false false false true e = cc
all_false false false false false false false false e =
    record { long = refl; version = refl; domain = refl; kind = refl; whole = refl; nanos = refl; seconds = refl }

none_chosen : (p q r s t u v : Bool) → AllFalse p q r s t u v → chosen p q r s t u v ≡ None
none_chosen p q r s t u v f = λ i. chosen (f.long i) (f.version i) (f.domain i) (f.kind i) (f.whole i) (f.nanos i) (f.seconds i)

answer_ok : (m n : Message) (fault : Option Reject) → answer m fault ≡ Ok n → (fault ≡ None) × (n ≡ m)
answer_ok m n None e = (refl, cc)
answer_ok m n (Some fault) e = cc

faultless : (domain : ℕ) (b : List ℕ) → first_fault domain b ≡ None → IsFaultless domain b
faultless domain b e =
    let f =
    all_false (nat_lt (length b) 34) (not (slice_index b 1 % 16 == 2))
    (not (slice_index b 4 == domain) || not (slice_index b 0 / 16 == 0)) (length_of (kind_at b) == 0)
    (nat_lt (length b) (number_at 2 2 b) || nat_lt (number_at 2 2 b) (length_of (kind_at b)))
    (nat_le 1000000000 (number_at 40 4 b)) (nat_le (2 ^ 33) (number_at 34 6 b)) e in
    record {
      long = long (length b) f.long;
      version = same _ _ f.version;
      domain_is = (both _ _ _ _ f.domain).0;
      standard = (both _ _ _ _ f.domain).1;
      kind = other _ f.kind;
      whole = (neither _ _ _ f.whole).0;
      enough = (neither _ _ _ f.whole).1;
      nanos = below _ _ f.nanos;
      seconds = below _ _ f.seconds;
    }
  where
    long : (n : ℕ) → nat_lt n 34 ≡ false → 34 ≤ n
    long n h = grind (arith, nat_tests)

    same : (n k : ℕ) → not (n == k) ≡ false → n ≡ k
    same n k h = grind (arith, nat_tests)

    both : (n k l j : ℕ) → (not (n == k) || not (l == j)) ≡ false → (n ≡ k) × (l ≡ j)
    both n k l j h = grind (arith, nat_tests)

    other : (n : ℕ) → (n == 0) ≡ false → n ≢ 0
    other n h = grind (arith, nat_tests)

    neither : (a n k : ℕ) → (nat_lt a n || nat_lt n k) ≡ false → (n ≤ a) × (k ≤ n)
    neither a n k h = grind (arith, nat_tests)

    below : (k n : ℕ) → nat_le k n ≡ false → n < k
    below k n h = grind (arith, nat_tests)

no_fault : (domain : ℕ) (b : List ℕ) → IsFaultless domain b → first_fault domain b ≡ None
no_fault domain b f =
    none_chosen (nat_lt (length b) 34) (not (slice_index b 1 % 16 == 2))
    (not (slice_index b 4 == domain) || not (slice_index b 0 / 16 == 0)) (length_of (kind_at b) == 0)
    (nat_lt (length b) (number_at 2 2 b) || nat_lt (number_at 2 2 b) (length_of (kind_at b)))
    (nat_le 1000000000 (number_at 40 4 b)) (nat_le (2 ^ 33) (number_at 34 6 b))
    (record {
      long = long (length b) f.long;
      version = same _ _ f.version;
      domain = both _ _ _ _ f.domain_is f.standard;
      kind = other _ f.kind;
      whole = neither _ _ _ f.whole f.enough;
      nanos = below _ _ f.nanos;
      seconds = below _ _ f.seconds;
    })
  where
    long : (n : ℕ) → 34 ≤ n → nat_lt n 34 ≡ false
    long n h = grind (arith, nat_tests)

    same : (n k : ℕ) → n ≡ k → not (n == k) ≡ false
    same n k h = grind (arith, nat_tests)

    both : (n k l j : ℕ) → n ≡ k → l ≡ j → (not (n == k) || not (l == j)) ≡ false
    both n k l j h g = grind (arith, nat_tests)

    other : (n : ℕ) → n ≢ 0 → (n == 0) ≡ false
    other n h = grind (arith, nat_tests)

    neither : (a n k : ℕ) → n ≤ a → k ≤ n → (nat_lt a n || nat_lt n k) ≡ false
    neither a n k h g = grind (arith, nat_tests)

    below : (k n : ℕ) → n < k → nat_le k n ≡ false
    below k n h = grind (arith, nat_tests)

pub reads_from : (domain : ℕ) (b : List ℕ) (m : Message) → decode_result domain b ≡ Ok m → Reads b domain m
reads_from domain b m e =
    let is = answer_ok (message_at b) m (first_fault domain b) e in
    record { faultless = faultless domain b is.0; fields = is.1 }

pub decoded_from : (domain : ℕ) (b : List ℕ) (m : Message) → Reads b domain m → decode_result domain b ≡ Ok m
decoded_from domain b m r = ap (answer (message_at b)) (no_fault domain b r.faultless) ∙ ap Ok (sym r.fields)
