-- The senders of the kept Announces, and their records.
use Rattle.std.proofs.Common.{◌≡◌, ℕ, Bool, true, false, cond, eqb, leb, List, [], ◌∷◌, map, subst, Option, Some, None, refl, sym, ap, ◌∙◌, inl, inr, ⊎_elim}
use Rattle.std.specs.Prelude.{◌⊎◌}
use Rattle.std.specs.Option.{option_map}
use Rattle.std.specs.Ordering.{ordering_reverse}
use Rattle.std.specs.declared.cmp.Ordering.TheVariants.{Less, Equal, Greater}
use Rattle.std.specs.List.{find, filter_map, cons_option, AllByRecursion}
use Rattle.std.specs.List.Sorted.{IsStrictlySortedBy}
use Rattle.std.proofs.lemmas.Bool.{cases_Bool, and_parts, eqb-true}
use Rattle.std.proofs.lemmas.Option.{same_Some}
use Rattle.ptp_base.specs.declared.announcement.Announcement.{Announcement}
use Rattle.ptp_base.specs.declared.identity.PortId.{PortId}
use Rattle.ptp_profile.specs.declared.foreign_master.KeptAnnounce.{KeptAnnounce}
use Rattle.ptp_profile.specs.Best.PortIdentity.{is_same_port, port_cmp}
use Rattle.ptp_profile.specs.Best.ForeignMasters.{is_from, count_from, with_sender_by, with_sender, senders, record_of, qualified}
use Rattle.ptp_profile.specs.Best.BestLaws.{SendersRise, SendersAreThose, QualifiedRise, QualifiedAreRecords}
use Rattle.ptp_profile.proofs.lemmas.BestLemmas.{port_cmp_total, port_from_parts, same_port}
use Rattle.ptp_profile.proofs.lemmas.MemberLemmas.{Has, has_from_contains, contains_from_has, has_filter_map, filter_map_has}

-- ---- the senders rise
all_below : (s t : PortId) (ts : List PortId) →
    port_cmp s t ≡ Less → AllByRecursion (λ y. port_cmp t y ≡ Less) ts → AllByRecursion (λ y. port_cmp s y ≡ Less) ts
all_below s t [] lt all = tt
all_below s t (x ∷ ts) lt all = (port_cmp_total.trans s t x lt all.0, all_below s t ts lt all.1)

below_with : (t s : PortId) (ts : List PortId) →
    port_cmp t s ≡ Less → AllByRecursion (λ y. port_cmp t y ≡ Less) ts → AllByRecursion (λ y. port_cmp t y ≡ Less) (with_sender s ts)
below_with t s [] lt all = (lt, tt)
below_with t s (x ∷ ts) lt all =
    elim (port_cmp s x) as (λ o. AllByRecursion (λ y. port_cmp t y ≡ Less) (with_sender_by s x ts (with_sender s ts) o)) [
      | Less ↦ (lt, all)
      | Equal ↦ all
      | Greater ↦ (all.0, below_with t s ts lt all.1)
    ]

rise_with : (s : PortId) (ts : List PortId) → IsStrictlySortedBy port_cmp ts → IsStrictlySortedBy port_cmp (with_sender s ts)
unfolding IsStrictlySortedBy
rise_with s [] up = (tt, tt)
rise_with s (t ∷ ts) up =
    elim (port_cmp s t) as (λ o. port_cmp s t ≡ o → IsStrictlySortedBy port_cmp (with_sender_by s t ts (with_sender s ts) o)) [
      | Less ↦ λ e. ((e, all_below s t ts e up.0), up)
      | Equal ↦ λ e. up
      | Greater ↦ λ e. (below_with t s ts (port_cmp_total.antisymm t s ∙ ap ordering_reverse e) up.0, rise_with s ts up.1)
    ] refl

pub senders_rise : SendersRise
unfolding IsStrictlySortedBy
senders_rise [] = tt
senders_rise (h ∷ kept) = rise_with h.said.sender (senders kept) (senders_rise kept)

-- ---- and are those of the kept Announces
has_with : (s : PortId) (ts : List PortId) (q : PortId) → Has (with_sender s ts) q → (s ≡ q) ⊎ Has ts q
has_with s [] q h = h
has_with s (t ∷ ts) q h =
    elim (port_cmp s t) as (λ o. Has (with_sender_by s t ts (with_sender s ts) o) q → (s ≡ q) ⊎ Has (t ∷ ts) q) [
      | Less ↦ λ found. found
      | Equal ↦ λ found. inr found
      | Greater ↦ λ found. ⊎_elim
          (λ (same : t ≡ q). inr (inl same))
          (λ rest. ⊎_elim (λ (same : s ≡ q). inl same) (λ later. inr (inr later)) (has_with s ts q rest))
          found
    ] h

with_has : (s : PortId) (ts : List PortId) (q : PortId) → (s ≡ q) ⊎ Has ts q → Has (with_sender s ts) q
with_has s [] q h = h
with_has s (t ∷ ts) q h =
    elim (port_cmp s t) as (λ o. port_cmp s t ≡ o → Has (with_sender_by s t ts (with_sender s ts) o) q) [
      | Less ↦ λ e. h
      | Equal ↦ λ e. ⊎_elim (λ (same : s ≡ q). inl (sym (same_port s t e) ∙ same)) (λ rest. rest) h
      | Greater ↦ λ e. ⊎_elim
          (λ (same : s ≡ q). inr (with_has s ts q (inl same)))
          (λ rest. ⊎_elim (λ (same : t ≡ q). inl same) (λ later. inr (with_has s ts q (inr later))) rest)
          h
    ] refl

abbrev sender_of : KeptAnnounce → PortId
sender_of h = h.said.sender

senders_have : (kept : List KeptAnnounce) (q : PortId) → Has (senders kept) q → Has (map sender_of kept) q
senders_have [] q h = h
senders_have (k ∷ kept) q h =
    ⊎_elim (λ (same : k.said.sender ≡ q). inl same)
    (λ rest. inr (senders_have kept q rest)) (has_with k.said.sender (senders kept) q h)

have_senders : (kept : List KeptAnnounce) (q : PortId) → Has (map sender_of kept) q → Has (senders kept) q
have_senders [] q h = h
have_senders (k ∷ kept) q h =
    with_has k.said.sender (senders kept) q (⊎_elim (λ (same : k.said.sender ≡ q). inl same) (λ rest. inr (have_senders kept q rest)) h)

pub senders_are_those : SendersAreThose
senders_are_those kept s = (
  (λ h. contains_from_has (map sender_of kept) s (senders_have kept s (has_from_contains (senders kept) s h))),
  (λ h. contains_from_has (senders kept) s (have_senders kept s (has_from_contains (map sender_of kept) s h))),
)

-- ---- records
from_is_same : (p q : PortId) → is_same_port p q ≡ true → p ≡ q
from_is_same p q e =
    let parts = and_parts (eqb p.clock.id q.clock.id) (eqb p.port q.port) e in
    let clocks = eqb-true p.clock.id q.clock.id parts.0 in
    let ports = eqb-true p.port q.port parts.1 in
    port_from_parts p q clocks ports

latest_from : (kept : List KeptAnnounce) (s : PortId) (a : Announcement) →
    option_map (λ (h : KeptAnnounce). h.said) (find (is_from s) kept) ≡ Some a → (a.sender ≡ s) × Has (map sender_of kept) s
latest_from [] s a e = absurd cc
latest_from (k ∷ kept) s a e =
    ⊎_elim
    (λ (yes : is_from s k ≡ true).
    let said : k.said ≡ a =
    same_Some k.said a (ap (λ t. option_map (λ (h : KeptAnnounce). h.said) (cond t (Some k) (find (is_from s) kept))) (sym yes) ∙ e) in
    let from = from_is_same k.said.sender s yes in
    (sym (ap (λ (x : Announcement). x.sender) said) ∙ from, inl from))
    (λ (no : is_from s k ≡ false).
    let rest = latest_from kept s a (ap (λ t. option_map (λ (h : KeptAnnounce). h.said) (cond t (Some k) (find (is_from s) kept))) (sym no) ∙ e) in
    (rest.0, inr rest.1))
    (cases_Bool (is_from s k))

pub latest_of_record : (b : Bool) (o : Option Announcement) (a : Announcement) → cond b o None ≡ Some a → o ≡ Some a
latest_of_record true o a e = e
latest_of_record false o a e = absurd cc

pub record_from : (w m : ℕ) (kept : List KeptAnnounce) (s : PortId) (a : Announcement) →
    record_of w m kept s ≡ Some a → (a.sender ≡ s) × Has (map sender_of kept) s
record_from w m kept s a e = latest_from kept s a (latest_of_record (leb 2 (count_from w m s kept)) _ a e)

pub qualified_are_records : QualifiedAreRecords
qualified_are_records w m kept a = (
  (λ h.
      let found = has_filter_map (record_of w m kept) (senders kept) a (has_from_contains (qualified w m kept) a h) in
      let from = record_from w m kept found.0 a found.2 in
      ap (record_of w m kept) from.0 ∙ found.2),
  (λ e.
      let from = record_from w m kept a.sender a e in
      contains_from_has (qualified w m kept) a (filter_map_has (record_of w m kept) (senders kept) a.sender a (have_senders kept a.sender from.1) e)),
)

-- ---- what rising senders give rises
abbrev senders_of : List Announcement → List PortId
senders_of all = map (λ (a : Announcement). a.sender) all

above_given : (f : PortId → Option Announcement) (s : PortId) (ts : List PortId) →
    ((t : PortId) (a : Announcement) → f t ≡ Some a → a.sender ≡ t) →
    AllByRecursion (λ y. port_cmp s y ≡ Less) ts → AllByRecursion (λ y. port_cmp s y ≡ Less) (senders_of (filter_map f ts))
above_given f s [] from all = tt
above_given f s (t ∷ ts) from all =
    elim (f t) as (λ o. f t ≡ o → AllByRecursion (λ y. port_cmp s y ≡ Less) (senders_of (cons_option o (filter_map f ts)))) [
      | None ↦ λ e. above_given f s ts from all.1
      | Some a ↦ λ e. (subst (λ y. port_cmp s y ≡ Less) (sym (from t a e)) all.0, above_given f s ts from all.1)
    ] refl

given_rise : (f : PortId → Option Announcement) (ts : List PortId) →
    ((t : PortId) (a : Announcement) → f t ≡ Some a → a.sender ≡ t) →
    IsStrictlySortedBy port_cmp ts → IsStrictlySortedBy port_cmp (senders_of (filter_map f ts))
unfolding IsStrictlySortedBy
given_rise f [] from up = tt
given_rise f (t ∷ ts) from up =
    elim (f t) as (λ o. f t ≡ o → IsStrictlySortedBy port_cmp (senders_of (cons_option o (filter_map f ts)))) [
      | None ↦ λ e. given_rise f ts from up.1
      | Some a ↦ λ e. (
        subst (λ s. AllByRecursion (λ y. port_cmp s y ≡ Less) (senders_of (filter_map f ts))) (sym (from t a e)) (above_given f t ts from up.0),
        given_rise f ts from up.1,
      )
    ] refl

pub qualified_rise : QualifiedRise
qualified_rise w m kept = given_rise (record_of w m kept) (senders kept) (λ t a e. (record_from w m kept t a e).0) (senders_rise kept)
