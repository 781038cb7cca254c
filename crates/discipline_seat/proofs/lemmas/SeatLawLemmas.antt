-- Logs that come by orders and changes, and what a holder is answered.
use Rattle.std.proofs.Common.{◌≡◌, ◌≢◌, ℕ, zero, suc, ◌+◌, ◌-◌, ◌<◌, ◌≤◌, ◌⊎◌, Bool, true, false, cond, eqb, leb, inl, inr, refl, sym, ap, ◌∙◌, List, [], ◌∷◌, length, get_or, arith, ℤ}
use Rattle.std.specs.Prelude.{not, ◌&&◌, Contains, IfErr, Result, Ok, Err}
use Rattle.std.proofs.lemmas.Bool.{false≢true, eqb-true, leb-true}
use Rattle.std.proofs.lemmas.Bool.Decides.{eqb_tells}
use Rattle.ptp_base.specs.declared.limits.TheConstants.{ORDERS_MAX, ROWS_MAX}
use Rattle.ptp_profile.specs.declared.seats.Held.{Held}
use Rattle.ptp_profile.specs.declared.seats.LogEntry.{LogEntry}
use Rattle.ptp_profile.specs.declared.seats.LogEntry.TheVariants.{Order, Change}
use Rattle.ptp_profile.specs.declared.seats.Receipt.{Receipt}
use Rattle.ptp_profile.specs.declared.seats.Refused.{Refused}
use Rattle.ptp_profile.specs.declared.seats.Refused.TheVariants.{Superseded, Spent}
use Rattle.ptp_profile.specs.Roles.SeatLogs.{HasOrder, IsSuperseded, log_after, stamp_after, exchange_answer, order_count, MayFollow, IsRefusal}
use Rattle.discipline_seat.specs.SeatInvariants.{HasCome, Rises}

pub HasCome-none : (rows : ℕ) → HasCome rows []
HasCome-none rows = record { rises = tt; orders = omega arith; long = omega arith }

pub HasCome-ordered : (rows gener ctrl : ℕ) (log : List LogEntry) → HasCome rows log → MayFollow (stamp_after log) gener → order_count log < ORDERS_MAX
    → HasCome rows (Order gener ctrl ∷ log)
HasCome-ordered rows gener ctrl log come follows few =
    let long : length log ≤ rows + order_count log = come.long in
    record { rises = (follows, come.rises); orders = omega arith; long = omega arith }

pub HasCome-changed : (rows gener ctrl tick : ℕ) (step freq : ℤ) (log : List LogEntry) → HasCome rows log → length log < rows
    → HasCome rows (Change gener ctrl tick step freq ∷ log)
HasCome-changed rows gener ctrl tick step freq log come below = record { rises = come.rises; orders = come.orders; long = omega arith }

-- a log's numbers fit
pub length-come : (rows : ℕ) (log : List LogEntry) → HasCome rows log → rows ≤ ROWS_MAX → length log < 4294967295
length-come rows log come few = let long = come.long in let orders = come.orders in omega arith

-- what an order of the log says of the stamp in force: it is that order's, or a newer one
abbrev IsNewer : ℕ → ℕ → List LogEntry → Type 0
IsNewer gener ctrl log = (gener < (stamp_after log).gener) ⊎ (((stamp_after log).gener ≡ gener) × ((stamp_after log).ctrl ≡ ctrl))

contains_cases : (entry x : LogEntry) (log : List LogEntry) (k : ℕ) → k < length (entry ∷ log) → get_or (entry ∷ log) k x ≡ x → (entry ≡ x) ⊎ Contains log x
contains_cases entry x log zero lt is = inl is
contains_cases entry x log (suc k) lt is = inr (k, omega arith, is)

newer_step : (gener ctrl g c : ℕ) (log : List LogEntry) → ctrl ≢ 0 → MayFollow (stamp_after log) g → IsNewer gener ctrl log → gener < g
newer_step gener ctrl g c log some follows (inl newer) = let after : (stamp_after log).gener ≤ g = follows.0 in omega arith
newer_step gener ctrl g c log some follows (inr same) =
    let after : (stamp_after log).gener < g = follows.1 (λ none. some (sym same.1 ∙ none)) in let gener_is : (stamp_after log).gener ≡ gener = same.0 in omega arith

pub newer-from_order : (gener ctrl : ℕ) (log : List LogEntry) → ctrl ≢ 0 → Rises log → HasOrder log gener ctrl → IsNewer gener ctrl log
newer-from_order gener ctrl [] some rises has = absurd (let none : has.0 < 0 = has.1 in omega arith)
newer-from_order gener ctrl (Order g c ∷ log) some rises has =
    elim (contains_cases (Order g c) (Order gener ctrl) log has.0 has.1 has.2) [
      | inl here ↦ inr (cc, cc)
      | inr behind ↦ inl (newer_step gener ctrl g c log some rises.0 (newer-from_order gener ctrl log some rises.1 behind))
    ]
newer-from_order gener ctrl (Change g c tick step freq ∷ log) some rises has =
    elim (contains_cases (Change g c tick step freq) (Order gener ctrl) log has.0 has.1 has.2) [
      | inl here ↦ absurd (cc)
      | inr behind ↦ newer-from_order gener ctrl log some rises behind
    ]

log_after-all : (log : List LogEntry) → log_after (length log) log ≡ log
log_after-all log = let none : length log - length log ≡ 0 = omega arith in rw none refl

other_numbers : (m n : ℕ) → eqb m n ≡ false → m ≡ n → ⊥
other_numbers m n h e = elim (eqb_tells m n) [ inl t ↦ false≢true (sym h ∙ t.0) | inr f ↦ f.1 e ]

superseded : (log : List LogEntry) (held : Held) → held.gener < (stamp_after log).gener → IsSuperseded log held (stamp_after log).gener (length log)
superseded log held newer =
    record { is_newer = newer; within = omega arith; in_force = ap (λ (l : List LogEntry). (stamp_after l).gener) (log_after-all log) }

abbrev answer : ℕ → Held → List LogEntry → (a b c : Bool) → Result Receipt Refused
answer rows held log a b c =
    cond (not (a && b)) (Err (Superseded (stamp_after log).gener (length log))) (cond c (Err (Spent (length log))) (Ok (record { number = length log + 1 })))

refusal_by : (rows : ℕ) (held : Held) (log : List LogEntry) → IsNewer held.gener held.ctrl log
    → (a b c : Bool) → eqb (stamp_after log).gener held.gener ≡ a → eqb (stamp_after log).ctrl held.ctrl ≡ b → leb rows (length log) ≡ c
    → IfErr (answer rows held log a b c) (IsRefusal log held rows)
refusal_by rows held log (inl newer) false b c ea eb ec = superseded log held newer
refusal_by rows held log (inl newer) true b c ea eb ec =
    absurd (let same : (stamp_after log).gener ≡ held.gener = eqb-true (stamp_after log).gener held.gener ea in omega arith)
refusal_by rows held log (inr same) false b c ea eb ec = absurd (other_numbers (stamp_after log).gener held.gener ea same.0)
refusal_by rows held log (inr same) true false c ea eb ec = absurd (other_numbers (stamp_after log).ctrl held.ctrl eb same.1)
refusal_by rows held log (inr same) true true true ea eb ec = record {
  within = omega arith;
  gener = ap (λ (l : List LogEntry). (stamp_after l).gener) (log_after-all log) ∙ same.0;
  ctrl = ap (λ (l : List LogEntry). (stamp_after l).ctrl) (log_after-all log) ∙ same.1;
  full = leb-true rows (length log) ec;
}
refusal_by rows held log (inr same) true true false ea eb ec = tt

-- a refusal says why
pub refusal-of : (rows : ℕ) (held : Held) (log : List LogEntry) → held.ctrl ≢ 0 → Rises log → HasOrder log held.gener held.ctrl
    → IfErr (exchange_answer rows held log) (IsRefusal log held rows)
refusal-of rows held log some rises has =
    refusal_by rows held log (newer-from_order held.gener held.ctrl log some rises has)
    (eqb (stamp_after log).gener held.gener) (eqb (stamp_after log).ctrl held.ctrl) (leb rows (length log)) refl refl refl
