-- The ways in which an Announce is taken, or crowded out. A search of the masters gives Some n or None.
use Rattle.std.proofs.Common.{◌≡◌, ℕ, ◌<◌, ◌≤◌, Bool, true, false, not, cond, eqb, leb, List, [], ◌∷◌, length, get_or, set, Some, None, refl, sym, ap, subst, ◌∙◌, arith, suc}
use Rattle.std.specs.List.Sorted.{IsStrictlySortedBy}
use Rattle.std.specs.List.{insert, remove, position, position_or_len, find, AllByRecursion}
use Rattle.std.proofs.lemmas.List.Sums.{count_by-le-length, prefix_len-le-length}
use Rattle.std.proofs.lemmas.List.{length-set}
use Rattle.std.proofs.lemmas.List.Edits.{length-insert, length-remove}
use Rattle.std.proofs.lemmas.List.Elements.{All-nil, All-set, All-append, All-take, All-drop, All-cons}
use Rattle.std.proofs.lemmas.Bool.{not-true, not-false}
use Rattle.ptp_base.specs.declared.limits.TheConstants.{SENDERS_MAX, STEPS_END}
use Rattle.ptp_base.specs.declared.announcement.Announcement.{Announcement}
use Rattle.ptp_profile.specs.declared.foreign_master.Heard.TheVariants.{Kept, Own, Far, Alternate, Crowded}
use Rattle.ptp_base.specs.declared.identity.PortId.{PortId}
use Rattle.ptp_profile.specs.declared.foreign_master.KeptAnnounce.{KeptAnnounce}
use Rattle.ptp_profile.specs.Best.ForeignMasters.{is_crowded, hearing_of}
use Rattle.foreign_master.specs.declared.foreign_master.ForeignMaster.{ForeignMaster}
use Rattle.foreign_master.specs.ForeignMasterTable.{is_of, is_above, is_present, next_master, IsReached, IsTable, MastersRepresent}
use Rattle.foreign_master.proofs.lemmas.PortOrderLemmas.{same_from_is_same_port}
use Rattle.foreign_master.proofs.lemmas.RisingLemmas.{apart_from_rising, rising-set, rising-remove, rising-insert}
use Rattle.foreign_master.proofs.lemmas.FirstFoundLemmas.{first_of, passes_there, found_there, found_none, fails_all}
use Rattle.foreign_master.proofs.lemmas.SearchAfterWriteLemmas.{none_found, find_removed_past}
use Rattle.foreign_master.proofs.lemmas.RecordsViewLemmas.{Keeps, TellFrom, MastersRepresent-put, MastersRepresent-insert, TellFrom-remove}
use Rattle.foreign_master.proofs.lemmas.SenderLemmas.{not_crowded_own, not_crowded_few, crowded_full, count_lt}

-- a table that stands for the kept Announces: what contracts see of it are its items, xs
pub keeps_from : (w capacity : ℕ) (xs ys : List ForeignMaster) (kept : List KeptAnnounce) → IsTable xs capacity → xs ≡ ys → MastersRepresent w ys kept → Keeps w xs kept
keeps_from w capacity xs ys kept table same tells = record {
  few = table.few;
  apart = apart_from_rising xs table.rising;
  tells = subst (λ (l : List ForeignMaster). MastersRepresent w l kept) (sym same) tells;
}

-- ---- crowded or not
pub own_not_crowded : (w at : ℕ) (kept : List KeptAnnounce) (s : PortId) (ys : List ForeignMaster) (n : ℕ) →
    Some n ≡ position (is_of s) ys → Keeps w ys kept → IsReached at kept → true ≡ not (is_crowded w at kept s)
own_not_crowded w at kept s [] n first keeps reached = absurd cc
own_not_crowded w at kept s (x ∷ ys) n first keeps reached =
    let l = (first_of (is_of s) (x ∷ ys) n first).1 in
    sym (ap not (not_crowded_own w at kept (x ∷ ys) s n x keeps reached l (found_there (is_of s) (x ∷ ys) n x first)))

pub room_not_crowded : (w at : ℕ) (kept : List KeptAnnounce) (s : PortId) (ys : List ForeignMaster) →
    length ys < SENDERS_MAX → Keeps w ys kept → IsReached at kept → true ≡ not (is_crowded w at kept s)
room_not_crowded w at kept s ys few keeps reached =
    sym (ap not (not_crowded_few w at kept ys s keeps reached (omega (arith, count_by-le-length (is_present w at) ys))))

left_at : (w at : ℕ) (ys : List ForeignMaster) (n : ℕ) (d : ForeignMaster) →
    Some n ≡ position (λ (p : ForeignMaster). not (is_present w at p)) ys → is_present w at (get_or ys n d) ≡ false
left_at w at ys n d first = not-true _ (passes_there (λ (p : ForeignMaster). not (is_present w at p)) ys n d first)

pub left_not_crowded : (w at : ℕ) (kept : List KeptAnnounce) (s : PortId) (ys : List ForeignMaster) (n : ℕ) →
    Some n ≡ position (λ (p : ForeignMaster). not (is_present w at p)) ys → Keeps w ys kept → IsReached at kept → true ≡ not (is_crowded w at kept s)
left_not_crowded w at kept s [] n first keeps reached = absurd cc
left_not_crowded w at kept s (x ∷ ys) n first keeps reached =
    let l = (first_of (λ (p : ForeignMaster). not (is_present w at p)) (x ∷ ys) n first).1 in
    let lt = count_lt (is_present w at) (x ∷ ys) n x l (left_at w at (x ∷ ys) n x first) in
    let few = keeps.few in
    sym (ap not (not_crowded_few w at kept (x ∷ ys) s keeps reached (omega (arith, lt, few))))

pub full_crowded : (w at : ℕ) (kept : List KeptAnnounce) (s : PortId) (ys : List ForeignMaster) →
    None ≡ position (λ (p : ForeignMaster). not (is_present w at p)) ys → SENDERS_MAX ≤ length ys → None ≡ position (is_of s) ys →
    Keeps w ys kept → IsReached at kept → false ≡ not (is_crowded w at kept s)
full_crowded w at kept s ys left many absent keeps reached =
    sym (ap not (crowded_full w at kept ys s keeps reached (found_none (is_of s) ys absent) many
    (λ k d l. not-false _ (fails_all (λ (p : ForeignMaster). not (is_present w at p)) ys left k d l))))

-- ---- what the writes leave
pub put_taken : (w : ℕ) (xs ys : List ForeignMaster) (kept : List KeptAnnounce) (h : KeptAnnounce) (n : ℕ) (d : ForeignMaster) →
    ys ≡ xs → Some n ≡ position (is_of h.said.sender) xs → Keeps w xs kept → IsReached h.at kept →
    MastersRepresent w (set xs n (record { said = h.said; last = h.at; before = Some (get_or ys n d).last })) (h ∷ kept)
put_taken w xs ys kept h n d same first keeps reached =
    let there = first_of (is_of h.said.sender) xs n first in
    subst (λ (zs : List ForeignMaster). MastersRepresent w (set xs n (record { said = h.said; last = h.at; before = Some (get_or zs n d).last })) (h ∷ kept)) (sym same)
    (MastersRepresent-put w xs kept h n d keeps reached there.0 there.1)

pub new_taken : (w : ℕ) (ys new : List ForeignMaster) (kept : List KeptAnnounce) (h : KeptAnnounce) →
    None ≡ position (is_of h.said.sender) ys → Keeps w ys kept → IsReached h.at kept →
    new ≡ insert ys (position_or_len (is_above h.said.sender) ys) (next_master h None) → MastersRepresent w new (h ∷ kept)
new_taken w ys new kept h absent keeps reached is =
    subst (λ (z : List ForeignMaster). MastersRepresent w z (h ∷ kept)) (sym is)
    (MastersRepresent-insert w ys kept h _ (λ s m later before. keeps.tells s m before) reached (found_none (is_of h.said.sender) ys absent))

-- the one that left is not of the new sender
none_removed : (s : PortId) (w at : ℕ) (ys zs : List ForeignMaster) (n : ℕ) (d : ForeignMaster) →
    Some n ≡ position (λ (p : ForeignMaster). not (is_present w at p)) ys → None ≡ position (is_of s) ys → zs ≡ remove ys n → find (is_of s) zs ≡ None
none_removed s w at ys zs n d first absent is =
    let l = (first_of (λ (p : ForeignMaster). not (is_present w at p)) ys n first).1 in
    let none = found_none (is_of s) ys absent in
    subst (λ (z : List ForeignMaster). find (is_of s) z ≡ None) (sym is)
    (find_removed_past (is_of s) ys n d l (none_found (is_of s) ys none n d l) ∙ none)

pub left_taken : (w : ℕ) (ys zs new : List ForeignMaster) (kept : List KeptAnnounce) (h : KeptAnnounce) (n : ℕ) →
    Some n ≡ position (λ (p : ForeignMaster). not (is_present w h.at p)) ys → None ≡ position (is_of h.said.sender) ys →
    Keeps w ys kept → IsReached h.at kept → zs ≡ remove ys n →
    new ≡ insert zs (position_or_len (is_above h.said.sender) zs) (next_master h None) → MastersRepresent w new (h ∷ kept)
left_taken w ys zs new kept h n first absent keeps reached without is =
    let d = next_master h None in
    let l = (first_of (λ (p : ForeignMaster). not (is_present w h.at p)) ys n first).1 in
    subst (λ (z : List ForeignMaster). MastersRepresent w z (h ∷ kept)) (sym is)
    (MastersRepresent-insert w zs kept h _
    (subst (λ (z : List ForeignMaster). TellFrom h.at w z kept) (sym without) (TellFrom-remove w h.at ys kept n d keeps l (left_at w h.at ys n d first)))
    reached (none_removed h.said.sender w h.at ys zs n d first absent without))

-- ---- and they leave a table
pub put_table : (xs : List ForeignMaster) (capacity n : ℕ) (y d : ForeignMaster) →
    IsTable xs capacity → Some n ≡ position (is_of y.said.sender) xs → y.said.steps < STEPS_END → IsTable (set xs n y) capacity
put_table xs capacity n y d table first near = record {
  reserved = table.reserved;
  few = subst (λ k. k ≤ SENDERS_MAX) (sym (length-set xs n y)) table.few;
  rising = rising-set xs n y d (sym (same_from_is_same_port _ _ (passes_there (is_of y.said.sender) xs n d first))) table.rising;
  near = All-set (λ (p : ForeignMaster). p.said.steps < STEPS_END) xs n y near table.near;
}

others_from : (s : PortId) (xs : List ForeignMaster) → find (is_of s) xs ≡ None → AllByRecursion (λ (p : ForeignMaster). is_of s p ≡ false) xs
others_from s [] none = tt
others_from s (x ∷ xs) none =
    elim (is_of s x) as (λ b. cond b (Some x) (find (is_of s) xs) ≡ None → (b ≡ false) × AllByRecursion (λ (p : ForeignMaster). is_of s p ≡ false) xs) [
      | true ↦ λ e. absurd cc
      | false ↦ λ e. (refl, others_from s xs e)
    ] none

insert_table : (xs new : List ForeignMaster) (capacity more : ℕ) (y : ForeignMaster) →
    IsTable xs capacity → length xs < SENDERS_MAX → find (is_of y.said.sender) xs ≡ None → y.said.steps < STEPS_END →
    new ≡ insert xs (position_or_len (is_above y.said.sender) xs) y → capacity ≤ more → IsTable new more
insert_table xs new capacity more y table few none near is at_least =
    let n = position_or_len (is_above y.said.sender) xs in
    let reserved = table.reserved in
    subst (λ (z : List ForeignMaster). IsTable z more) (sym is) (record {
      reserved = omega arith;
      few = omega (arith, length-insert xs n y (prefix_len-le-length (λ (p : ForeignMaster). not (is_above y.said.sender p)) xs), few);
      rising = rising-insert xs y (others_from y.said.sender xs none) table.rising;
      near = All-append (λ (p : ForeignMaster). p.said.steps < STEPS_END) _ _ (All-take (λ (p : ForeignMaster). p.said.steps < STEPS_END) n xs table.near)
          (All-cons (λ (p : ForeignMaster). p.said.steps < STEPS_END) y _ near (All-drop (λ (p : ForeignMaster). p.said.steps < STEPS_END) n xs table.near));
    })

pub new_table : (xs new : List ForeignMaster) (capacity more : ℕ) (y : ForeignMaster) →
    IsTable xs capacity → length xs < SENDERS_MAX → None ≡ position (is_of y.said.sender) xs → y.said.steps < STEPS_END →
    new ≡ insert xs (position_or_len (is_above y.said.sender) xs) y → capacity ≤ more → IsTable new more
new_table xs new capacity more y table few absent near is at_least =
    insert_table xs new capacity more y table few (found_none (is_of y.said.sender) xs absent) near is at_least

pub left_table : (w at : ℕ) (xs zs new : List ForeignMaster) (capacity between more n : ℕ) (y : ForeignMaster) →
    IsTable xs capacity → Some n ≡ position (λ (p : ForeignMaster). not (is_present w at p)) xs → None ≡ position (is_of y.said.sender) xs → y.said.steps < STEPS_END →
    zs ≡ remove xs n → between ≡ capacity → new ≡ insert zs (position_or_len (is_above y.said.sender) zs) y → between ≤ more → IsTable new more
left_table w at xs zs new capacity between more n y table first absent near without same is at_least =
    let l = (first_of (λ (p : ForeignMaster). not (is_present w at p)) xs n first).1 in
    let few = table.few in
    let less = length-remove xs n l in
    let long : length zs ≡ length (remove xs n) = ap length without in
    let reserved = table.reserved in
    insert_table zs new between more y
    (subst (λ (z : List ForeignMaster). IsTable z between) (sym without) (record {
      reserved = omega arith;
      few = omega (arith, less, few);
      rising = rising-remove xs n table.rising;
      near = All-append (λ (p : ForeignMaster). p.said.steps < STEPS_END) _ _ (All-take (λ (p : ForeignMaster). p.said.steps < STEPS_END) n xs table.near) (All-drop (λ (p : ForeignMaster). p.said.steps < STEPS_END) (suc n) xs table.near);
    }))
    (omega (arith, less, few, long)) (none_removed y.said.sender w at xs zs n y first absent without) near is at_least

pub no_table : (xs : List ForeignMaster) (capacity : ℕ) → xs ≡ [] → SENDERS_MAX ≤ capacity → IsTable xs capacity
unfolding IsStrictlySortedBy
no_table xs capacity none reserved = subst (λ (z : List ForeignMaster). IsTable z capacity) (sym none) (record {
  reserved = reserved;
  few = omega arith;
  rising = tt;
  near = All-nil (λ (p : ForeignMaster). p.said.steps < STEPS_END);
})

chosen : (b : Bool) → cond (not b) Kept Crowded ≡ cond b Crowded Kept
chosen true = refl
chosen false = refl

-- what becomes of an Announce that is not its own clock's, near and no alternate
pub heard_as : (w at : ℕ) (kept : List KeptAnnounce) (a : Announcement) (taken : Bool) →
    eqb a.sender.clock.id a.receiver.clock.id ≡ false → leb STEPS_END a.steps ≡ false → a.alternate ≡ false →
    taken ≡ not (is_crowded w at kept a.sender) → cond taken Kept Crowded ≡ hearing_of w at kept a
heard_as w at kept a taken other near plain crowded =
    ap (λ b. cond b Kept Crowded) crowded ∙ chosen (is_crowded w at kept a.sender)
    ∙ sym (ap (λ b. cond b Alternate (cond (is_crowded w at kept a.sender) Crowded Kept)) plain)
    ∙ sym (ap (λ b. cond b Far (cond a.alternate Alternate (cond (is_crowded w at kept a.sender) Crowded Kept))) near)
    ∙ sym (ap (λ b. cond b Own (cond (leb STEPS_END a.steps) Far (cond a.alternate Alternate (cond (is_crowded w at kept a.sender) Crowded Kept)))) other)
