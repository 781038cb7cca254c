-- The state of a clock after a log.
use Rattle.std.proofs.Common.{zero, refl, ◌∙◌, get_or, ◌^◌, ℕ, ℤ, pos, negsuc, ◌≡◌, suc, ◌<◌, List, [], ◌∷◌, length, arith, SFits, w64, ◌+ℤ◌, ap, max}
use Rattle.std.specs.Prelude.{All}
use Rattle.std.proofs.lemmas.Int.{ints}
use Rattle.std.proofs.lemmas.List.Elements.{All-get_or}
use Rattle.ptp_base.specs.Floor.{IsWithin}
use Rattle.model_clock.specs.declared.state.ClockState.{ClockState}
use Rattle.model_clock.specs.Clock.{IsClock, clock_at, plain_clock, held_time, reading}
use Rattle.ptp_profile.specs.Roles.SeatLogs.{clock_after}
use Rattle.ptp_profile.specs.declared.seats.LogEntry.TheVariants.{Order, Change}
use Rattle.discipline_seat.specs.Rule.SeatLog.{IsSeatLog, SeatLog, last_change}

fits : (n : ℕ) (z : ℤ) → n < 2 ^ 63 → IsWithin (pos n) z → SFits w64 z
fits n (pos k) few h = record { sfits = omega (arith, ints, h) }
fits n (negsuc k) few h = record { sfits = omega (arith, ints, h) }

held_within : (z : ℤ) → IsWithin (pos 8589934591999999999) (held_time z)
held_within z = grind (arith, ints)

-- a clock stays one
pub clock_stays : (rows : ℕ) (o : ClockState) (l : SeatLog) → IsSeatLog rows l → IsClock o → IsClock (clock_after o l)
clock_stays rows o [] law is = is
clock_stays rows o (Order g k ∷ es) law is = clock_stays rows o es law.1 is
clock_stays rows o (Change g k t s f ∷ es) law is =
    let old = clock_stays rows o es law.1 is in
    let asked = law.0.4 in
    let before = old.tick in
    record { tick = grind (arith, asked, before); freq = law.0.6 }

-- once it was changed, its time and frequency are small enough for a word
pub changed_fits : (rows r : ℕ) (o : ClockState) (l : SeatLog) → IsSeatLog rows l → last_change l ≡ suc r → SFits w64 (clock_after o l).time × SFits w64 (clock_after o l).freq
changed_fits rows r o [] law is = absurd (omega (arith, is))
changed_fits rows r o (Order g k ∷ es) law is = changed_fits rows r o es law.1 is
changed_fits rows r o (Change g k t s f ∷ es) law is = (fits 8589934591999999999 (clock_after o (Change g k t s f ∷ es)).time (omega arith) (held_within (reading (clock_after o es) (max t (clock_after o es).tick) +ℤ s)), fits 58982400000000 f (omega arith) law.0.6)

pub opening_is : (os : List ClockState) (clock c : ℕ) (found : ClockState) → c ≡ clock → clock < length os → found ≡ get_or os c found → found ≡ clock_at os clock
opening_is os clock c found is near at = at ∙ any os c found plain_clock (omega (arith, is, near)) ∙ ap (clock_at os) is
  where
    any : (l : List ClockState) (i : ℕ) (a b : ClockState) → i < length l → get_or l i a ≡ get_or l i b
    any [] i a b h = absurd (omega (arith, h))
    any (x ∷ xs) zero a b h = refl
    any (x ∷ xs) (suc i) a b h = any xs i a b (omega (arith, h))

pub opening_clock : (os : List ClockState) (clock : ℕ) → All IsClock os → clock < length os → IsClock (clock_at os clock)
opening_clock os clock all near = All-get_or IsClock os clock plain_clock near all
