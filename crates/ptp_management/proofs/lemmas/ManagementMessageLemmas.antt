-- Management messages: what was written is read again, and what is read is what the octets say.
use Rattle.std.proofs.Common.{◌≡◌, ℕ, ◌+◌, ◌/◌, ◌%◌, ◌^◌, ◌<◌, ◌≤◌, ◌⊎◌, inl, inr, List, [], ◌∷◌, ◌++◌, length, take, drop, refl, sym, ap, ◌∙◌, arith, rules, lit<, lit≤, Bool, true, false, cond}
use Rattle.std.proofs.lemmas.Bool.Decides.{nat_tests}
use Rattle.std.proofs.lemmas.List.{take_at, drop_at, length-append, drop-take}
use Rattle.std.specs.Prelude.{slice_index, Some, None, nat_le, ◌==◌, ◌&&◌, ◌||◌}
use Rattle.byteorder.specs.Endian.{big_bytes}
use Rattle.byteorder.specs.Numbers.{big_number-reads_back}
use Rattle.ptp_base.specs.declared.header.Head.{Head}
use Rattle.ptp_base.specs.declared.identity.PortId.{PortId}
use Rattle.ptp_base.specs.Header.{header_octets, port_octets}
use Rattle.ptp_management.specs.declared.managed.Action.{Action}
use Rattle.ptp_management.specs.declared.managed.Action.TheVariants.{Get, Set, Response, Command, Acknowledge}
use Rattle.ptp_management.specs.declared.managed.Managed.{Managed}
use Rattle.ptp_management.specs.declared.managed.Tlv.{Tlv}
use Rattle.ptp_management.specs.declared.managed.Tlv.TheVariants.{Management, Error}
use Rattle.ptp_profile.specs.Wire.MessageFormat.{number_at, port_at}
use Rattle.ptp_profile.specs.Wire.MessageRanges.{FitsPort}
use Rattle.ptp_management.specs.ManagementMessages.{action_number, action_numbered, tlv_octets, tlv_length, managed_head, managed_octets, tlv_at, managed_at, is_tlv, is_managed, managed_read, IsManaged, ReadsManaged, FitsTlv, FitsManaged}
use Rattle.ptp_profile.proofs.lemmas.MessageRoundTripLemmas.{HeadReads, head_reads}

-- ---- what is read

record AllHold (long version domain kind enough whole action tlv end : Bool) : Type 0 where
  long_is : long ≡ true
  version_is : version ≡ true
  domain_is : domain ≡ true
  kind_is : kind ≡ true
  enough_is : enough ≡ true
  whole_is : whole ≡ true
  action_is : action ≡ true
  tlv_is : tlv ≡ true
  end_is : end ≡ true

all_hold : (p q r s t u v w x : Bool) → (p && q && r && s && t && u && v && w && x) ≡ true → AllHold p q r s t u v w x
all_hold false q r s t u v w x e = cc
all_hold true false r s t u v w x e = cc
all_hold true true false s t u v w x e = cc
all_hold true true true false t u v w x e = cc
all_hold true true true true false u v w x e = cc
all_hold true true true true true false v w x e = cc
all_hold true true true true true true false w x e = cc
all_hold true true true true true true true false x e = cc
all_hold true true true true true true true true false e = cc
all_hold true true true true true true true true true e =
    record { long_is = refl; version_is = refl; domain_is = refl; kind_is = refl; enough_is = refl; whole_is = refl; action_is = refl; tlv_is = refl; end_is = refl }

each_holds : (p q r s t u v w x : Bool) → AllHold p q r s t u v w x → (p && q && r && s && t && u && v && w && x) ≡ true
each_holds p q r s t u v w x h =
    λ i. h.long_is i && h.version_is i && h.domain_is i && h.kind_is i && h.enough_is i && h.whole_is i && h.action_is i && h.tlv_is i && h.end_is i

equal : (n k : ℕ) → (n == k) ≡ true → n ≡ k
equal n k h = grind (arith, nat_tests)

at_most : (n k : ℕ) → nat_le n k ≡ true → n ≤ k
at_most n k h = grind (arith, nat_tests)

is_equal : (n k : ℕ) → n ≡ k → (n == k) ≡ true
is_equal n k h = grind (arith, nat_tests)

is_at_most : (n k : ℕ) → n ≤ k → nat_le n k ≡ true
is_at_most n k h = grind (arith, nat_tests)

tlv_from : (kind long : ℕ) → is_tlv kind long ≡ true → ((kind ≡ 1) × (2 ≤ long)) ⊎ ((kind ≡ 2) × (long ≡ 8))
tlv_from kind long h = either (kind == 1) (nat_le 2 long) (kind == 2) (long == 8) refl refl refl refl h
  where
    either : (a b c d : Bool) → (kind == 1) ≡ a → nat_le 2 long ≡ b → (kind == 2) ≡ c → (long == 8) ≡ d → ((a && b) || (c && d)) ≡ true
        → ((kind ≡ 1) × (2 ≤ long)) ⊎ ((kind ≡ 2) × (long ≡ 8))
    either true true c d p q r s e = inl (equal kind 1 p, at_most 2 long q)
    either true false true true p q r s e = inr (equal kind 2 r, equal long 8 s)
    either true false true false p q r s e = cc
    either true false false d p q r s e = cc
    either false b true true p q r s e = inr (equal kind 2 r, equal long 8 s)
    either false b true false p q r s e = cc
    either false b false d p q r s e = cc

tlv_to : (kind long : ℕ) → ((kind ≡ 1) × (2 ≤ long)) ⊎ ((kind ≡ 2) × (long ≡ 8)) → is_tlv kind long ≡ true
tlv_to kind long (inl h) = let one = is_equal kind 1 h.0 in let two = is_at_most 2 long h.1 in rw (one, two) refl
tlv_to kind long (inr h) = let two = is_equal kind 2 h.0 in let eight = is_equal long 8 h.1 in rw (two, eight) (or_true ((kind == 1) && nat_le 2 long))
  where
    or_true : (b : Bool) → (b || true) ≡ true
    or_true true = refl
    or_true false = refl

pub is_managed-from : (domain : ℕ) (b : List ℕ) → is_managed domain b ≡ true → IsManaged domain b
unfolding is_managed
is_managed-from domain b e =
    let h =
    all_hold (nat_le 54 (length b)) (slice_index b 1 % 16 == 2) (slice_index b 4 == domain) (slice_index b 0 == 13) (nat_le 54 (number_at 2 2 b))
    (nat_le (number_at 2 2 b) (length b)) (nat_le (slice_index b 46 % 16) 4) (is_tlv (number_at 48 2 b) (number_at 50 2 b))
    (52 + number_at 50 2 b == number_at 2 2 b) e in
    let kind : slice_index b 0 ≡ 13 = equal _ _ h.kind_is in
    record {
      version = equal _ _ h.version_is;
      domain_is = equal _ _ h.domain_is;
      standard = rw kind refl;
      kind = rw kind refl;
      enough = at_most _ _ h.enough_is;
      whole = at_most _ _ h.whole_is;
      action = at_most _ _ h.action_is;
      tlv = tlv_from _ _ h.tlv_is;
      end = equal _ _ h.end_is;
    }

thirteen : (n : ℕ) → n / 16 ≡ 0 → n % 16 ≡ 13 → n ≡ 13
thirteen n h k = omega arith

pub is_managed-to : (domain : ℕ) (b : List ℕ) → IsManaged domain b → is_managed domain b ≡ true
unfolding is_managed
is_managed-to domain b m =
    each_holds (nat_le 54 (length b)) (slice_index b 1 % 16 == 2) (slice_index b 4 == domain) (slice_index b 0 == 13) (nat_le 54 (number_at 2 2 b))
    (nat_le (number_at 2 2 b) (length b)) (nat_le (slice_index b 46 % 16) 4) (is_tlv (number_at 48 2 b) (number_at 50 2 b))
    (52 + number_at 50 2 b == number_at 2 2 b)
    (record {
      long_is = is_at_most _ _ (omega (arith, m.enough, m.whole));
      version_is = is_equal _ _ m.version;
      domain_is = is_equal _ _ m.domain_is;
      kind_is = is_equal _ _ (thirteen _ m.standard m.kind);
      enough_is = is_at_most _ _ m.enough;
      whole_is = is_at_most _ _ m.whole;
      action_is = is_at_most _ _ m.action;
      tlv_is = tlv_to _ _ m.tlv;
      end_is = is_equal _ _ m.end;
    })

some_of : (domain : ℕ) (b : List ℕ) (m : Managed) (test : Bool) → is_managed domain b ≡ test → cond test (Some (managed_at b)) None ≡ Some m
    → ReadsManaged b domain m
some_of domain b m true t e = record { managed = is_managed-from domain b t; fields = cc }
some_of domain b m false t e = cc

pub managed_from : (domain : ℕ) (b : List ℕ) (m : Managed) → managed_read domain b ≡ Some m → ReadsManaged b domain m
managed_from domain b m e = some_of domain b m (is_managed domain b) refl e

pub managed_to : (domain : ℕ) (b : List ℕ) (m : Managed) → ReadsManaged b domain m → managed_read domain b ≡ Some m
managed_to domain b m r = rw (is_managed-to domain b r.managed) (ap Some (sym r.fields))

-- ---- the round trip

action_back : (a : Action) → action_numbered (action_number a % 16) ≡ a
action_back Get = refl
action_back Set = refl
action_back Response = refl
action_back Command = refl
action_back Acknowledge = refl

action_known : (a : Action) → action_number a % 16 ≤ 4
action_known Get = lit≤ tt
action_known Set = lit≤ tt
action_known Response = lit≤ tt
action_known Command = lit≤ tt
action_known Acknowledge = lit≤ tt

target_is : (h : Head) (p : PortId) (t : List ℕ) → FitsPort p → port_at 34 (header_octets h ++ (port_octets p ++ t)) ≡ p
unfolding number_at
target_is h p t fits =
    λ i. record { clock = record { id = big_number-reads_back 8 p.clock.id [] fits.clock i }; port = big_number-reads_back 2 p.port [] fits.port i }

-- the octets of a message with a TLV, and what stands behind them
abbrev behind : Head → PortId → ℕ → Tlv → List ℕ → List ℕ
behind h target action tlv t = header_octets h ++ ((port_octets target ++ 0 ∷ 0 ∷ action ∷ 0 ∷ [] ++ tlv_octets tlv) ++ t)

record TlvReads (h : Head) (target : PortId) (action : ℕ) (tlv : Tlv) (t : List ℕ) : Type 0 where
  known : ((number_at 48 2 (behind h target action tlv t) ≡ 1) × (2 ≤ number_at 50 2 (behind h target action tlv t)))
      ⊎ ((number_at 48 2 (behind h target action tlv t) ≡ 2) × (number_at 50 2 (behind h target action tlv t) ≡ 8))
  end : 52 + number_at 50 2 (behind h target action tlv t) ≡ 48 + tlv_length tlv
  back : number_at 2 2 (behind h target action tlv t) ≡ 48 + tlv_length tlv → tlv_at (behind h target action tlv t) ≡ tlv

data_back : (front octets t : List ℕ) (n : ℕ) → length front ≡ 54 → n ≡ 54 + length octets → drop 54 (take n (front ++ (octets ++ t))) ≡ octets
data_back front octets t n h e =
    let split : drop 54 (take (54 + length octets) (front ++ (octets ++ t))) ≡ take (length octets) (drop 54 (front ++ (octets ++ t))) = drop-take 54 (length octets) (front ++ (octets ++ t)) in
    rw (e, split, drop_at front (octets ++ t) 54 h) (take_at octets t (length octets) refl)

tlv_management : (b octets : List ℕ) (id n : ℕ) → number_at 48 2 b ≡ 1 → number_at 52 2 b ≡ id → number_at 2 2 b ≡ n → drop 54 (take n b) ≡ octets
    → tlv_at b ≡ Management id octets
tlv_management b octets id n kind first whole rest =
    let all : drop 54 (take (number_at 2 2 b) b) ≡ octets = ap (λ (k : ℕ). drop 54 (take k b)) whole ∙ rest in
    λ i. cond (kind i == 1) (Management (first i) (all i)) (Error (number_at 52 2 b) (number_at 54 2 b))

tlv_error : (b : List ℕ) (error id : ℕ) → number_at 48 2 b ≡ 2 → number_at 52 2 b ≡ error → number_at 54 2 b ≡ id → tlv_at b ≡ Error error id
tlv_error b error id kind first second =
    λ i. cond (kind i == 1) (Management (number_at 52 2 b) (drop 54 (take (number_at 2 2 b) b))) (Error (first i) (second i))

management_reads : (h : Head) (target : PortId) (action id : ℕ) (octets t : List ℕ) → id < 2 ^ 16 → length octets ≤ 65481 → TlvReads h target action (Management id octets) t
unfolding number_at
management_reads h target action id octets t fits short =
    let kind : number_at 48 2 (behind h target action (Management id octets) t) ≡ 1 = big_number-reads_back 2 1 [] (lit< tt) in
    let long : number_at 50 2 (behind h target action (Management id octets) t) ≡ 2 + length octets = big_number-reads_back 2 (2 + length octets) [] (omega arith) in
    let first : number_at 52 2 (behind h target action (Management id octets) t) ≡ id = big_number-reads_back 2 id [] fits in
    record {
      known = inl (kind, omega (arith, long));
      end = omega (arith, long);
      back = λ whole. tlv_management (behind h target action (Management id octets) t) octets id (48 + (6 + length octets)) kind first whole
          (data_back (header_octets h ++ (port_octets target ++ 0 ∷ 0 ∷ action ∷ 0 ∷ [] ++ big_bytes 2 1 ++ big_bytes 2 (2 + length octets) ++ big_bytes 2 id))
          octets t (48 + (6 + length octets)) refl (omega arith));
    }

error_reads : (h : Head) (target : PortId) (action error id : ℕ) (t : List ℕ) → error < 2 ^ 16 → id < 2 ^ 16 → TlvReads h target action (Error error id) t
unfolding number_at
error_reads h target action error id t fits fits_id =
    let kind : number_at 48 2 (behind h target action (Error error id) t) ≡ 2 = big_number-reads_back 2 2 [] (lit< tt) in
    let long : number_at 50 2 (behind h target action (Error error id) t) ≡ 8 = big_number-reads_back 2 8 [] (lit< tt) in
    let first : number_at 52 2 (behind h target action (Error error id) t) ≡ error = big_number-reads_back 2 error [] fits in
    let second : number_at 54 2 (behind h target action (Error error id) t) ≡ id = big_number-reads_back 2 id [] fits_id in
    record {
      known = inr (kind, long);
      end = omega (arith, long);
      back = λ whole. tlv_error (behind h target action (Error error id) t) error id kind first second;
    }

tlv_reads : (h : Head) (target : PortId) (action : ℕ) (tlv : Tlv) (t : List ℕ) → FitsTlv tlv → TlvReads h target action tlv t
tlv_reads h target action (Management id octets) t fits = management_reads h target action id octets t fits.0 fits.1
tlv_reads h target action (Error error id) t fits = error_reads h target action error id t fits.0 fits.1

length_fits : (tlv : Tlv) → FitsTlv tlv → 48 + tlv_length tlv < 2 ^ 16
length_fits (Management id octets) fits = omega (arith, fits.1)
length_fits (Error error id) fits = lit< tt

length_tlv : (tlv : Tlv) → length (tlv_octets tlv) ≡ tlv_length tlv
length_tlv (Management id octets) = omega arith
length_tlv (Error error id) = refl

enough_of : (tlv : Tlv) → FitsTlv tlv → 54 ≤ 48 + tlv_length tlv
enough_of (Management id octets) fits = omega arith
enough_of (Error error id) fits = lit≤ tt

pub managed_again : (domain : ℕ) (m : Managed) (t : List ℕ) → FitsManaged m → ReadsManaged (managed_octets domain m ++ t) domain m
unfolding managed_octets
managed_again domain m t fits =
    let h : Head = managed_head domain m in
    let b : List ℕ = behind h m.target (action_number m.action) m.tlv t in
    let r : HeadReads h ((port_octets m.target ++ 0 ∷ 0 ∷ action_number m.action ∷ 0 ∷ [] ++ tlv_octets m.tlv) ++ t) =
    head_reads h ((port_octets m.target ++ 0 ∷ 0 ∷ action_number m.action ∷ 0 ∷ [] ++ tlv_octets m.tlv) ++ t) (length_fits m.tlv fits.tlv_fits) (lit< tt) (search rules) fits.sender fits.seq (search rules) in
    let v : TlvReads h m.target (action_number m.action) m.tlv t = tlv_reads h m.target (action_number m.action) m.tlv t fits.tlv_fits in
    let long : length b ≡ 48 + (tlv_length m.tlv + length t) =
    omega (arith, length-append (tlv_octets m.tlv) t, length_tlv m.tlv) in
    let target : port_at 34 b ≡ m.target = target_is h m.target (0 ∷ 0 ∷ action_number m.action ∷ 0 ∷ [] ++ tlv_octets m.tlv ++ t) fits.target in
    record {
      managed = record {
        version = refl;
        domain_is = refl;
        standard = refl;
        kind = refl;
        enough = rw r.length_is (enough_of m.tlv fits.tlv_fits);
        whole = omega (arith, long, r.length_is);
        action = action_known m.action;
        tlv = v.known;
        end = v.end ∙ sym r.length_is;
      };
      fields = sym (λ i. record {
        sender = r.sender i;
        target = target i;
        seq = r.seq i;
        action = action_back m.action i;
        tlv = v.back r.length_is i;
      });
    }

-- different messages have different spellings
pub one_spelling : (domain : ℕ) (m n : Managed) → FitsManaged m → FitsManaged n → managed_octets domain m ≡ managed_octets domain n → m ≡ n
one_spelling domain m n fm fn e =
    (managed_again domain m [] fm).fields ∙ ap (λ (l : List ℕ). managed_at (l ++ [])) e ∙ sym (managed_again domain n [] fn).fields
