-- Which sets are coherent.
use Rattle.std.proofs.Common.{◌≡◌, ℕ, ◌+◌, true, false, cond, leb, List, [], ◌∷◌, get_or, map, Option, Some, sym, ap, ◌∙◌, arith, inl, inr, ⊎_elim}
use Rattle.std.specs.Option.{option_map}
use Rattle.std.specs.List.{All, Contains, find, slice_get}
use Rattle.std.proofs.lemmas.Bool.{cases_Bool}
use Rattle.std.proofs.lemmas.Option.{same_Some}
use Rattle.std.proofs.lemmas.List.Elements.{All-contains, All-map, Contains-get_or}
use Rattle.ptp_base.specs.declared.announcement.Announcement.{Announcement}
use Rattle.ptp_base.specs.declared.identity.ClockId.{ClockId}
use Rattle.ptp_base.specs.declared.identity.PortId.{PortId}
use Rattle.ptp_profile.specs.declared.foreign_master.KeptAnnounce.{KeptAnnounce}
use Rattle.ptp_profile.specs.declared.port_best.PortBest.{PortBest}
use Rattle.ptp_profile.specs.Best.ForeignMasters.{is_from, count_from, senders, record_of, qualified}
use Rattle.ptp_profile.specs.Best.StateDecision.{bests_of}
use Rattle.ptp_profile.specs.Best.BestLaws.{AgreeOnQuality, IsCoherent, IsOfClock, AreHeardThere, heard_by, QualifiedAreCoherent, BestsAreCoherent}
use Rattle.ptp_profile.proofs.lemmas.MemberLemmas.{Has, has_from_contains, contains_from_has, has_filter_map, place_of_has}
use Rattle.ptp_profile.proofs.lemmas.SenderLemmas.{latest_of_record, qualified_are_records}

-- members of one clock, no two of which agree in sender and receiver
coherent_of_clock : (all : List Announcement) (clock : ClockId) →
    All (IsOfClock clock) all → AgreeOnQuality all →
    ((a b : Announcement) → Contains all a → Contains all b → a.sender ≡ b.sender → a.receiver ≡ b.receiver → a ≡ b) → IsCoherent all
coherent_of_clock all clock each agree apart =
    let of : (a : Announcement) → Contains all a → IsOfClock clock a = λ a in_a. All-contains (IsOfClock clock) all a each in_a in
    record {
      one_quality = agree;
      one_receiver = λ a b in_a in_b. (of a in_a).received ∙ sym (of b in_b).received;
      from_others = λ a b in_a in_b e. (of a in_a).from_other (e ∙ (of b in_b).received);
      told_apart = apart;
    }

abbrev said_of : KeptAnnounce → Announcement
said_of h = h.said

latest_is_kept : (kept : List KeptAnnounce) (s : PortId) (a : Announcement) →
    option_map said_of (find (is_from s) kept) ≡ Some a → Has (map said_of kept) a
latest_is_kept [] s a e = absurd cc
latest_is_kept (k ∷ kept) s a e =
    ⊎_elim
    (λ (yes : is_from s k ≡ true). inl (same_Some k.said a (ap (λ t. option_map said_of (cond t (Some k) (find (is_from s) kept))) (sym yes) ∙ e)))
    (λ (no : is_from s k ≡ false). inr (latest_is_kept kept s a (ap (λ t. option_map said_of (cond t (Some k) (find (is_from s) kept))) (sym no) ∙ e)))
    (cases_Bool (is_from s k))

-- a member of the qualified set was kept
qualified_is_kept : (w m : ℕ) (kept : List KeptAnnounce) (a : Announcement) → Contains (qualified w m kept) a → Contains (map said_of kept) a
qualified_is_kept w m kept a h =
    let found = has_filter_map (record_of w m kept) (senders kept) a (has_from_contains (qualified w m kept) a h) in
    contains_from_has (map said_of kept) a (latest_is_kept kept found.0 a (latest_of_record (leb 2 (count_from w m found.0 kept)) _ a found.2))

all_from_contains : {X : Type 0} (P : X → Type 0) (xs : List X) → ((x : X) → Contains xs x → P x) → All P xs
all_from_contains P xs each k d l = each (get_or xs k d) (Contains-get_or xs k d l)

pub qualified_are_coherent : QualifiedAreCoherent
qualified_are_coherent w m kept clock each agree =
    let of_kept : All (IsOfClock clock) (map said_of kept) = All-map (IsOfClock clock) said_of kept each in
    let of_all : All (IsOfClock clock) (qualified w m kept) = all_from_contains (IsOfClock clock) (qualified w m kept) (λ a in_a.
    All-contains (IsOfClock clock) (map said_of kept) a of_kept (qualified_is_kept w m kept a in_a)) in
    coherent_of_clock (qualified w m kept) clock of_all agree (λ a b in_a in_b senders_same receivers_same.
    same_Some a b (sym ((qualified_are_records w m kept a).0 in_a) ∙ ap (record_of w m kept) senders_same ∙ (qualified_are_records w m kept b).0 in_b))

-- a best of the ports stands at the port that received it
place_of_best : (ports : List PortBest) (a : Announcement) →
    AreHeardThere ports → Contains (heard_by ports) a → (i : ℕ) × (slice_get (bests_of ports) i ≡ Some (Some a)) × (a.receiver.port ≡ i + 1)
place_of_best ports a there in_a =
    let found = has_filter_map (λ (x : Option Announcement). x) (bests_of ports) a (has_from_contains (heard_by ports) a in_a) in
    let place = place_of_has (bests_of ports) found.0 found.1 in
    let here : slice_get (bests_of ports) place.0 ≡ Some (Some a) = place.1 ∙ ap (λ (x : Option Announcement). Some x) found.2 in
    (place.0, here, there place.0 a here)

pub bests_are_coherent : BestsAreCoherent
bests_are_coherent ports clock there each agree =
    coherent_of_clock (heard_by ports) clock each agree (λ a b in_a in_b senders_same receivers_same.
    let at_a = place_of_best ports a there in_a in
    let at_b = place_of_best ports b there in_b in
    let numbers : a.receiver.port ≡ b.receiver.port = ap (λ (p : PortId). p.port) receivers_same in
    let number_a = at_a.2 in
    let number_b = at_b.2 in
    let same : at_a.0 ≡ at_b.0 = omega arith in
    let both : Some (Some a) ≡ Some (Some b) = sym at_a.1 ∙ ap (slice_get (bests_of ports)) same ∙ at_b.1 in
    same_Some a b (same_Some (Some a) (Some b) both))
