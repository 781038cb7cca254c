-- What an exchange gives agrees with the log that it leaves.
use Rattle.std.proofs.Common.{◌≡◌, ◌≢◌, ℕ, suc, ◌+◌, ◌-◌, Bool, true, false, cond, eqb, leb, refl, sym, ap, ◌∙◌, List, ◌∷◌, length, arith, Some, pos, Result, Ok, Err}
use Rattle.std.specs.Prelude.{not, ◌&&◌}
use Rattle.std.proofs.lemmas.Bool.{eqb-true, eqb-false, eq-eqb, leb-true}
use Rattle.ptp_profile.specs.declared.timing.Action.{Action}
use Rattle.ptp_profile.specs.declared.timing.Action.TheVariants.{Unlocked as Unlocked_action, Jump, Locked}
use Rattle.ptp_profile.specs.declared.seats.Held.{Held}
use Rattle.ptp_profile.specs.declared.seats.LogEntry.{LogEntry}
use Rattle.ptp_profile.specs.declared.seats.Receipt.{Receipt}
use Rattle.ptp_profile.specs.declared.seats.Refused.{Refused}
use Rattle.ptp_profile.specs.declared.seats.Refused.TheVariants.{Superseded, Spent}
use Rattle.ptp_profile.specs.Roles.SeatLogs.{IsRefusal, stamp_after, log_after, entry_at, change_of, exchange_answer}
use Rattle.bc_history.specs.Run.ExchangeOutcomes.{Agrees, IsHolder, answer_outcome, after_exchange, exchange_result}

-- a log after all its entries is itself
log_after-all : (log : List LogEntry) → log_after (length log) log ≡ log
log_after-all log = let none : length log - length log ≡ 0 = omega arith in rw none refl

-- the newest entry has the number of all
newest_entry : (n : ℕ) (entry : LogEntry) (log : List LogEntry) → n ≡ length log + 1 → entry_at n (entry ∷ log) ≡ Some entry
newest_entry n entry log is = rw (eq-eqb n (suc (length log)) (omega (arith, is))) refl

-- an answer says what is so of the log before the change
abbrev Says : ℕ → Held → List LogEntry → Result Receipt Refused → Type 0
Says rows held log (Ok receipt) = receipt.number ≡ length log + 1
Says rows held log (Err refused) = IsRefusal log held rows refused

-- by what an answer depends on: the two parts of the stamp in force, and the room
says_by : (rows : ℕ) (held : Held) (log : List LogEntry) → IsHolder log held → (a b c : Bool)
    → eqb (stamp_after log).gener held.gener ≡ a → eqb (stamp_after log).ctrl held.ctrl ≡ b → leb rows (length log) ≡ c
    → Says rows held log (cond (not (a && b)) (Err (Superseded (stamp_after log).gener (length log)))
    (cond c (Err (Spent (length log))) (Ok (record { number = length log + 1 }))))
says_by rows held log holder false b c gener ctrl full =
    let other = eqb-false (stamp_after log).gener held.gener gener in
    let granted = holder.granted in
    record { is_newer = omega arith; within = omega arith; in_force = ap (λ l. (stamp_after l).gener) (log_after-all log) }
says_by rows held log holder true false c gener ctrl full =
    let same = holder.one (sym (eqb-true (stamp_after log).gener held.gener gener)) in
    absurd (eqb-false (stamp_after log).ctrl held.ctrl ctrl (sym same))
says_by rows held log holder true true true gener ctrl full = record {
  within = omega arith;
  gener = ap (λ l. (stamp_after l).gener) (log_after-all log) ∙ eqb-true (stamp_after log).gener held.gener gener;
  ctrl = ap (λ l. (stamp_after l).ctrl) (log_after-all log) ∙ eqb-true (stamp_after log).ctrl held.ctrl ctrl;
  full = leb-true rows (length log) full;
}
says_by rows held log holder true true false gener ctrl full = refl

-- the answer to a holder says what is so
answer_says : (rows : ℕ) (held : Held) (log : List LogEntry) → IsHolder log held
    → Says rows held log (exchange_answer rows held log)
answer_says rows held log holder =
    let stamp = stamp_after log in
    says_by rows held log holder (eqb stamp.gener held.gener) (eqb stamp.ctrl held.ctrl) (leb rows (length log)) refl refl refl

-- so the outcome agrees with the log that the exchange leaves
answer_agrees : (rows : ℕ) (held : Held) (tick : ℕ) (action : Action) (log : List LogEntry) → action ≢ Unlocked_action
    → (answer : Result Receipt Refused) → Says rows held log answer
    → Agrees rows (after_exchange answer held tick action log) held tick action (answer_outcome answer)
answer_agrees rows held tick Unlocked_action log asks answer says = absurd (asks refl)
answer_agrees rows held tick (Jump step freq) log asks (Ok receipt) says =
    newest_entry receipt.number (change_of held tick step freq) log says
answer_agrees rows held tick (Locked freq) log asks (Ok receipt) says =
    newest_entry receipt.number (change_of held tick (pos 0) freq) log says
answer_agrees rows held tick (Jump step freq) log asks (Err (Superseded newer at)) says = (asks, says)
answer_agrees rows held tick (Locked freq) log asks (Err (Superseded newer at)) says = (asks, says)
answer_agrees rows held tick (Jump step freq) log asks (Err (Spent at)) says = (asks, says)
answer_agrees rows held tick (Locked freq) log asks (Err (Spent at)) says = (asks, says)

-- what an exchange gives agrees with the log that it leaves
pub exchange_agrees : (rows : ℕ) (held : Held) (tick : ℕ) (action : Action) (log : List LogEntry) → action ≢ Unlocked_action
    → IsHolder log held
    → Agrees rows (exchange_result rows held tick action log).1 held tick action (exchange_result rows held tick action log).0
exchange_agrees rows held tick action log asks holder =
    answer_agrees rows held tick action log asks (exchange_answer rows held log) (answer_says rows held log holder)
