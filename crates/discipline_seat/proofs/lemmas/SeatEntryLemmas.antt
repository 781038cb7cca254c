-- The entries that a seat keeps stay those that it made.
use Rattle.std.proofs.Common.{Bool, true, false, eqb, ◌≡◌, ◌≢◌, ℕ, ℤ, suc, ◌<◌, inr, ⊎_elim, List, [], ◌∷◌, ◌++◌, length, reverse, refl, sym, ap, ◌∙◌, subst}
use native.Mathlib.Decide.{ℕ_discrete}
use mathlib.Core.Logic.{dite}
use Rattle.std.proofs.lemmas.Bool.{eq-eqb}
use Rattle.std.proofs.lemmas.Bool.Decides.{eqb_tells}
use Rattle.ptp_profile.specs.declared.seats.LogEntry.{LogEntry}
use Rattle.ptp_profile.specs.declared.seats.LogEntry.TheVariants.{Order, Change}
use Rattle.discipline_seat.specs.declared.entries.Numbered.{Numbered}
use Rattle.discipline_seat.specs.declared.view.Owner.{Owner}
use Rattle.discipline_seat.specs.declared.view.Owner.TheVariants.{Hub}
use Rattle.discipline_seat.specs.declared.view.StoryItem.TheVariants.{GaveReceipt}
use Rattle.discipline_seat.specs.declared.view.View.{View}
use Rattle.discipline_seat.specs.Rule.SeatLog.{GrewByOthers, SeatLog}
use Rattle.discipline_seat.specs.Rule.SeatView.{after_look, seen_log}
use Rattle.discipline_seat.specs.Rule.Story.{AreEntriesOf, HasNoReceipts, Story, receipts_of, with_entry_if}
use Rattle.discipline_seat.specs.SeatEntries.{KeepsOrders, KeepsReceipts, entries_at}
use Rattle.discipline_seat.proofs.lemmas.ReversalLemmas.{reverse_push}
use Rattle.discipline_seat.proofs.lemmas.RuleLemmas.{seen_here, seen_else}
use Rattle.discipline_seat.proofs.lemmas.StoryTruthLemmas.{no_receipts, own_more}

-- the story grew without a receipt
pub keeps_on : (es : List Numbered) (v z : View) (xs : Story) → HasNoReceipts xs → z.stories.story ≡ xs ++ v.stories.story → KeepsReceipts es v → KeepsReceipts es z
keeps_on es v z xs plain story keeps = λ d. keeps d ∙ sym (ap (receipts_of d) story ∙ no_receipts d xs v.stories.story plain)

-- the story has a receipt more, whose change was kept
pub keeps_receipt : (es : List Numbered) (v z : View) (c n g k t : ℕ) (s f : ℤ) → z.stories.story ≡ GaveReceipt c g k t s f n ∷ v.stories.story → KeepsReceipts es v → KeepsReceipts (es ++ record { clock = c; number = n; entry = Change g k t s f } ∷ []) z
keeps_receipt es v z c n g k t s f story keeps = λ d.
    ap (entries_at d) (reverse_push es record { clock = c; number = n; entry = Change g k t s f })
    ∙ ap (with_entry_if (eqb c d) (n, Change g k t s f)) (keeps d)
    ∙ sym (ap (receipts_of d) story)

-- the logs grew without an order
pub keeps_orders : (es : List Numbered) (v z : View) → v.owner ≡ Hub → ((c : ℕ) → GrewByOthers c v.owner (seen_log v c) (seen_log z c)) → KeepsOrders es v → KeepsOrders es z
keeps_orders es v z is grew keeps = λ d. own_more d Hub (seen_log v d) (seen_log z d) (entries_at d (reverse es)) (subst (λ (o : Owner). GrewByOthers d o (seen_log v d) (seen_log z d)) is (grew d)) (keeps d)

not_eq : (a b : ℕ) → a ≢ b → eqb a b ≡ false
not_eq a b n = ⊎_elim (λ (h : (eqb a b ≡ true) × (a ≡ b)). absurd (n h.1)) (λ (h : (eqb a b ≡ false) × (a ≢ b)). h.0) (eqb_tells a b)

-- a log has an order more, which was kept
pub keeps_order : (es : List Numbered) (v z : View) (c n g k : ℕ) (log : SeatLog) → c < length v.seen → z ≡ after_look v c (Order g k ∷ log) → v.owner ≡ Hub → GrewByOthers c v.owner (seen_log v c) log → n ≡ suc (length log) → KeepsOrders es v → KeepsOrders (es ++ record { clock = c; number = n; entry = Order g k } ∷ []) z
keeps_order es v z c n g k log wide is hub grew number keeps = λ d.
    let e : LogEntry = Order g k in
    let w : View = after_look v c (e ∷ log) in
    let rest : List (ℕ × LogEntry) = entries_at c (reverse es) in
    let older : AreEntriesOf c Hub log rest = own_more c Hub (seen_log v c) log rest (subst (λ (o : Owner). GrewByOthers c o (seen_log v c) log) hub grew) (keeps c) in
    let here : AreEntriesOf c Hub (e ∷ log) (with_entry_if true (n, e) rest) = inr (refl, (rest, (λ i. (number i, e) ∷ rest), older)) in
    subst (λ (q : List (ℕ × LogEntry) × View). AreEntriesOf d Hub (seen_log q.1 d) q.0) (λ i. (sym (ap (entries_at d) (reverse_push es record { clock = c; number = n; entry = e })) i, sym is i))
    (dite (ℕ_discrete d c)
    (λ same. subst (λ (x : ℕ). AreEntriesOf x Hub (seen_log w x) (with_entry_if (eqb c x) (n, e) (entries_at x (reverse es)))) (sym same)
    (subst (λ (p : Bool × SeatLog). AreEntriesOf c Hub p.1 (with_entry_if p.0 (n, e) rest)) (λ i. (sym (eq-eqb c c refl) i, sym (seen_here v c (e ∷ log) wide) i)) here))
    (λ other. subst (λ (p : Bool × SeatLog). AreEntriesOf d Hub p.1 (with_entry_if p.0 (n, e) (entries_at d (reverse es)))) (λ i. (sym (not_eq c d (λ q. other (sym q))) i, sym (seen_else v c (e ∷ log) d other) i)) (keeps d)))
