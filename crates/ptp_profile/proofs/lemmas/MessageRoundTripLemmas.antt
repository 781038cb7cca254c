-- What was written is read again.
use Rattle.std.proofs.Common.{◌≡◌, ◌≢◌, ℕ, ℤ, pos, negsuc, ◌+◌, ◌*◌, ◌/◌, ◌%◌, ◌^◌, ◌<◌, ◌≤◌, ◌≤ℤ◌, List, [], ◌++◌, length, refl, sym, ap, ◌∙◌, arith, rules, lit<}
use Rattle.std.proofs.lemmas.Int.{to_z-of_z, ints}
use Rattle.std.proofs.lemmas.List.{length-append}
use Rattle.std.specs.Prelude.{FitsSigned, slice_index, bit_and, unsigned_abs}
use Rattle.std.specs.Int.{w8, w16, w64, cast_signed, cast_unsigned}
use Rattle.byteorder.specs.Numbers.{big_number-reads_back}
use Rattle.ptp_base.specs.declared.identity.PortId.{PortId}
use Rattle.ptp_base.specs.declared.header.Head.{Head}
use Rattle.ptp_base.specs.Header.{header_octets, port_octets}
use Rattle.ptp_profile.specs.declared.message.Message.{Message}
use Rattle.ptp_profile.specs.declared.message.Said.{Said}
use Rattle.ptp_profile.specs.declared.message.Body.{Body}
use Rattle.ptp_profile.specs.declared.message.Body.TheVariants.{Sync, DelayReq, FollowUp, DelayResp, Announce}
use Rattle.ptp_profile.specs.Wire.MessageFormat.{number_at, port_at, time_at, said_at, length_of, body_at, message_at, Reads, time_octets, said_octets, body_octets, kind_number, time_in, head_of, message_octets}
use Rattle.ptp_profile.specs.Wire.MessageRanges.{FitsPort, FitsSaid, FitsBody, IsMessage}

-- ---- signed numbers

below64 : (z : ℤ) → FitsSigned w64 z → cast_unsigned w64 z < 2 ^ 64
below64 (pos n) f = search rules
below64 (negsuc n) f = omega arith

below16 : (z : ℤ) → FitsSigned w16 z → cast_unsigned w16 z < 2 ^ 16
below16 (pos n) f = search rules
below16 (negsuc n) f = omega arith

-- ---- the header, whatever follows

pub record HeadReads (h : Head) (t : List ℕ) : Type 0 where
  pub length_is : number_at 2 2 (header_octets h ++ t) ≡ h.length
  pub flags : number_at 6 2 (header_octets h ++ t) ≡ h.flags
  pub correction : cast_signed w64 (number_at 8 8 (header_octets h ++ t)) ≡ h.correction
  pub sender : port_at 20 (header_octets h ++ t) ≡ h.sender
  pub seq : number_at 30 2 (header_octets h ++ t) ≡ h.seq
  pub log_interval : cast_signed w8 (slice_index (header_octets h ++ t) 33) ≡ h.log_interval

pub head_reads : (h : Head) (t : List ℕ) → h.length < 2 ^ 16 → h.flags < 2 ^ 16 → FitsSigned w64 h.correction → FitsPort h.sender
    → h.seq < 2 ^ 16 → FitsSigned w8 h.log_interval → HeadReads h t
unfolding number_at
head_reads h t len flags correction sender seq log = record {
  length_is = big_number-reads_back 2 h.length [] len;
  flags = big_number-reads_back 2 h.flags [] flags;
  correction = ap (cast_signed w64) (big_number-reads_back 8 (cast_unsigned w64 h.correction) [] (below64 h.correction correction))
      ∙ to_z-of_z w64 h.correction correction;
  sender = λ i. record {
    clock = record { id = big_number-reads_back 8 h.sender.clock.id [] sender.clock i };
    port = big_number-reads_back 2 h.sender.port [] sender.port i;
  };
  seq = big_number-reads_back 2 h.seq [] seq;
  log_interval = to_z-of_z w8 h.log_interval log;
}

-- ---- the body, behind a header

pub record TimeReads (h : Head) (ns : ℕ) (t : List ℕ) : Type 0 where
  pub seconds : number_at 34 6 (header_octets h ++ (time_octets ns ++ t)) ≡ ns / 1000000000
  pub nanos : number_at 40 4 (header_octets h ++ (time_octets ns ++ t)) ≡ ns % 1000000000

pub time_reads : (h : Head) (ns : ℕ) (t : List ℕ) → ns ≤ 8589934591999999999 → TimeReads h ns t
unfolding number_at
time_reads h ns t late = record {
  seconds = big_number-reads_back 6 (ns / 1000000000) [] (omega arith);
  nanos = big_number-reads_back 4 (ns % 1000000000) [] (omega arith);
}

late_nat : (z : ℤ) → pos 0 ≤ℤ z → z ≤ℤ pos 8589934591999999999 → unsigned_abs z ≤ 8589934591999999999
late_nat (pos n) early late = omega (arith, ints)
late_nat (negsuc n) early late = absurd (omega (arith, ints))

pos_abs : (z : ℤ) → pos 0 ≤ℤ z → pos (unsigned_abs z) ≡ z
pos_abs (pos n) early = refl
pos_abs (negsuc n) early = absurd (omega (arith, ints))

time_is : (h : Head) (z : ℤ) (t : List ℕ) → pos 0 ≤ℤ z → z ≤ℤ pos 8589934591999999999
    → time_at (header_octets h ++ (time_octets (unsigned_abs z) ++ t)) ≡ z
time_is h z t early late =
    let r = time_reads h (unsigned_abs z) t (late_nat z early late) in
    let whole : number_at 34 6 (header_octets h ++ (time_octets (unsigned_abs z) ++ t)) * 1000000000 + number_at 40 4
    (header_octets h ++ (time_octets (unsigned_abs z) ++ t)) ≡ unsigned_abs z = omega (arith, r.seconds, r.nanos) in
    ap pos whole ∙ pos_abs z early

port_is : (h : Head) (ns : ℕ) (p : PortId) (t : List ℕ) → FitsPort p → port_at 44 (header_octets h ++ ((time_octets ns ++ port_octets p) ++ t)) ≡ p
unfolding number_at
port_is h ns p t fits =
    λ i. record { clock = record { id = big_number-reads_back 8 p.clock.id [] fits.clock i }; port = big_number-reads_back 2 p.port [] fits.port i }

said_is : (h : Head) (ns : ℕ) (s : Said) (t : List ℕ) → FitsSaid s → said_at (header_octets h ++ ((time_octets ns ++ said_octets s) ++ t)) ≡ s
unfolding number_at
said_is h ns s t fits =
    let offset : cast_signed w16 (number_at 44 2 (header_octets h ++ ((time_octets ns ++ said_octets s) ++ t))) ≡ s.utc_offset =
    ap (cast_signed w16) (big_number-reads_back 2 (cast_unsigned w16 s.utc_offset) [] (below16 s.utc_offset fits.utc_offset))
    ∙ to_z-of_z w16 s.utc_offset fits.utc_offset in
    λ i. record {
      grandmaster = record { id = big_number-reads_back 8 s.grandmaster.id [] fits.grandmaster i };
      quality = record {
        priority1 = s.quality.priority1;
        class = s.quality.class;
        accuracy = s.quality.accuracy;
        variance =
            big_number-reads_back 2 s.quality.variance [] fits.variance i;
        priority2 = s.quality.priority2;
      };
      steps = big_number-reads_back 2 s.steps [] fits.steps i;
      utc_offset = offset i;
      source = s.source;
    }

body_is : (h : Head) (body : Body) (t : List ℕ) → FitsBody body → pos 0 ≤ℤ time_in body → time_in body ≤ℤ pos 8589934591999999999
    → body_at (kind_number body % 16) (header_octets h ++ (body_octets body ++ t)) ≡ body
body_is h (Sync origin) t fits early late = ap Sync (time_is h origin t early late)
body_is h (DelayReq origin) t fits early late = ap DelayReq (time_is h origin t early late)
body_is h (FollowUp precise) t fits early late = ap FollowUp (time_is h precise t early late)
body_is h (DelayResp receive requesting) t fits early late =
    λ i. DelayResp (time_is h receive (port_octets requesting ++ t) early late i) (port_is h (unsigned_abs receive) requesting t fits i)
body_is h (Announce origin said) t fits early late =
    λ i. Announce (time_is h origin (said_octets said ++ t) early late i) (said_is h (unsigned_abs origin) said t fits i)

-- ---- the tests

pub record BodyPasses (h : Head) (body : Body) (t : List ℕ) : Type 0 where
  pub kind : length_of (kind_number body % 16) ≢ 0
  pub long : length_of (kind_number body % 16) ≡ 34 + length (body_octets body)
  pub same : length_of (kind_number body) ≡ length_of (kind_number body % 16)
  pub below : length_of (kind_number body) < 2 ^ 16
  pub nanos : number_at 40 4 (header_octets h ++ (body_octets body ++ t)) < 1000000000
  pub seconds : number_at 34 6 (header_octets h ++ (body_octets body ++ t)) < 2 ^ 33

-- a body passes that begins with its time, where its kind has the length that it has
passes : (h : Head) (body : Body) (t tail : List ℕ) (l : ℕ) → length_of (kind_number body) ≡ l → length_of (kind_number body % 16) ≡ l
    → l ≡ 34 + length (body_octets body) → l < 2 ^ 16 → body_octets body ++ t ≡ time_octets (unsigned_abs (time_in body)) ++ tail
    → pos 0 ≤ℤ time_in body → time_in body ≤ℤ pos 8589934591999999999 → BodyPasses h body t
passes h body t tail l same kind long below begins early late =
    let late_n = late_nat (time_in body) early late in
    let r = time_reads h (unsigned_abs (time_in body)) tail late_n in
    record {
      kind = λ e. absurd (omega (arith, kind, long, e));
      long = kind ∙ long;
      same = same ∙ sym kind;
      below = rw same below;
      nanos = rw (begins, r.nanos) (omega arith);
      seconds = rw (begins, r.seconds) (omega (arith, late_n));
    }

body_passes : (h : Head) (body : Body) (t : List ℕ) → pos 0 ≤ℤ time_in body → time_in body ≤ℤ pos 8589934591999999999 → BodyPasses h body t
body_passes h (Sync origin) t early late = passes h (Sync origin) t t 44 refl refl refl (lit< tt) refl early late
body_passes h (DelayReq origin) t early late = passes h (DelayReq origin) t t 44 refl refl refl (lit< tt) refl early late
body_passes h (FollowUp precise) t early late = passes h (FollowUp precise) t t 44 refl refl refl (lit< tt) refl early late
body_passes h (DelayResp receive requesting) t early late =
    passes h (DelayResp receive requesting) t (port_octets requesting ++ t) 54 refl refl refl (lit< tt) refl early late
body_passes h (Announce origin said) t early late =
    passes h (Announce origin said) t (said_octets said ++ t) 64 refl refl refl (lit< tt) refl early late

-- ---- the whole message

pub reads_again : (m : Message) (t : List ℕ) → IsMessage m → Reads (message_octets m ++ t) m.domain m
unfolding message_octets
reads_again m t fits =
    let h : Head = head_of m in
    let early = fits.spelled.early in
    let late = fits.spelled.late in
    let p = body_passes h m.body t early late in
    let r = head_reads h (body_octets m.body ++ t) p.below fits.flags fits.correction fits.sender fits.seq fits.log_interval in
    let flags : bit_and (number_at 6 2 (header_octets h ++ (body_octets m.body ++ t))) 0x073F ≡ m.flags = ap (λ n. bit_and n 0x073F) r.flags
    ∙ fits.spelled.flags in
    let body : body_at (kind_number m.body % 16) (header_octets h ++ (body_octets m.body ++ t)) ≡ m.body =
    body_is h m.body t fits.body_fits early late in
    let long : length (header_octets h ++ (body_octets m.body ++ t)) ≡ 34 + (length (body_octets m.body) + length t) =
    length-append (header_octets h) (body_octets m.body ++ t) ∙ ap (λ n. 34 + n) (length-append (body_octets m.body) t) in
    record {
      faultless = record {
        long = omega (arith, long);
        version = refl;
        domain_is = refl;
        standard = standard_of m.body;
        kind = p.kind;
        whole = omega (arith, long, r.length_is, p.same, p.long);
        enough = omega (arith, r.length_is, p.same);
        nanos = p.nanos;
        seconds = p.seconds;
      };
      fields = sym (λ i. record {
        domain = m.domain;
        flags = flags i;
        correction = r.correction i;
        sender = r.sender i;
        seq =
            r.seq i;
        log_interval = r.log_interval i;
        body = body i;
      });
    }
  where
    standard_of : (body : Body) → kind_number body / 16 ≡ 0
    standard_of (Sync origin) = refl
    standard_of (DelayReq origin) = refl
    standard_of (FollowUp precise) = refl
    standard_of (DelayResp receive requesting) = refl
    standard_of (Announce origin said) = refl

-- different messages have different spellings
pub one_spelling : (m n : Message) → IsMessage m → IsMessage n → message_octets m ≡ message_octets n → m ≡ n
one_spelling m n fm fn e = (reads_again m [] fm).fields ∙ ap (λ (l : List ℕ). message_at (l ++ [])) e ∙ sym (reads_again n [] fn).fields
