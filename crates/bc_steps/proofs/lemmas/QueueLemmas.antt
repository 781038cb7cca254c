-- The queue of a port's records: the next record is at its end.
use Rattle.std.proofs.Common.{◌≡◌, ℕ, zero, suc, Bool, cond, sym, ap, ◌∙◌, List, [], ◌∷◌, ◌++◌, reverse, drop, filter, Some, slice_get, eq-eqb}
use Rattle.std.specs.Prelude.{◌==◌}
use Rattle.std.proofs.lemmas.List.{reverse-append}
use Rattle.bc_history.specs.declared.scenario.Record.{Record}
use Rattle.bc_steps.specs.RecordQueue.{QueueRepresents}

-- the rest from an element on begins with it
drop-cons : {X : Type 0} (xs : List X) (i : ℕ) (x : X) → slice_get xs i ≡ Some x → drop i xs ≡ x ∷ drop (suc i) xs
drop-cons [] i x there = cc
drop-cons (y ∷ xs) zero x there = cc
drop-cons (y ∷ xs) (suc i) x there = drop-cons xs i x there

-- a list turned round has its first element last
reverse-cons : {X : Type 0} (x : X) (xs : List X) → reverse (x ∷ xs) ≡ reverse xs ++ x ∷ []
reverse-cons x xs = reverse-append (x ∷ []) xs

-- the filter takes an element that passes, and leaves out one that doesn't
filter-taken : (p : ℕ) (r : Record) (rest : List Record) → r.port ≡ p
    → filter (λ (x : Record). x.port == p) (r ∷ rest) ≡ r ∷ filter (λ (x : Record). x.port == p) rest
filter-taken p r rest same = ap (λ (b : Bool). cond b (r ∷ filter (λ (x : Record). x.port == p) rest) (filter (λ (x : Record). x.port == p) rest)) (eq-eqb r.port p same)

-- one record more of the port
pub queued-more : (p : ℕ) (records : List Record) (i : ℕ) (r copy : Record) (queue : List Record) → slice_get records i ≡ Some r
    → r.port ≡ p → copy ≡ r → QueueRepresents queue (filter (λ (x : Record). x.port == p) (drop (suc i) records))
    → QueueRepresents (queue ++ copy ∷ []) (filter (λ (x : Record). x.port == p) (drop i records))
queued-more p records i r copy queue there same copied queued =
    let own : Record → Bool = λ x. x.port == p in
    let from = ap (λ (xs : List Record). filter own xs) (drop-cons records i r there) ∙ filter-taken p r (drop (suc i) records) same in
    ap (λ (q : List Record). q ++ copy ∷ []) queued
    ∙ ap (λ (x : Record). reverse (filter own (drop (suc i) records)) ++ x ∷ []) copied
    ∙ sym (reverse-cons r (filter own (drop (suc i) records)))
    ∙ ap (λ (xs : List Record). reverse xs) (sym from)
