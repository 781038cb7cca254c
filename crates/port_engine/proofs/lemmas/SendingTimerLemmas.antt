-- What two frames leave.
use Rattle.std.proofs.Common.{◌≡◌, ◌∙◌, ap, ℕ, List, [], ◌∷◌, ◌++◌, append_assoc, Option, Some}
use Rattle.ptp_base.specs.Room.{Reserved}
use Rattle.ptp_profile.specs.declared.message.Message.{Message}
use Rattle.ptp_profile.specs.declared.port_event.Timer.{Timer}
use Rattle.ptp_profile.specs.Port.PortTimers.{Timers, timer_at}
use Rattle.ptp_profile.specs.Wire.MessageFormat.{message_octets}

abbrev items_of : Reserved (List ℕ) → List (List ℕ)
items_of frames = frames.items

-- two messages, one after another
pub two_put : (before first second : Reserved (List ℕ)) (m n k l : Message) (s t : ℕ) → first ≡ record { items = before.items ++ message_octets m ∷ []; spare = s }
    → second ≡ record { items = first.items ++ message_octets n ∷ []; spare = t } → m ≡ k → n ≡ l → second.items ≡ before.items ++ message_octets k ∷ message_octets l ∷ []
two_put before first second m n k l s t one two mk nl =
    ap items_of two ∙ ap (λ (xs : List (List ℕ)). xs ++ message_octets n ∷ []) (ap items_of one) ∙ append_assoc before.items (message_octets m ∷ []) (message_octets n ∷ [])
    ∙ ap (λ (x : Message). before.items ++ message_octets x ∷ message_octets n ∷ []) mk ∙ ap (λ (y : Message). before.items ++ message_octets k ∷ message_octets y ∷ []) nl

-- a timer is set for one moment
pub one_moment : (timer : Timer) (q r : Timers) (a b : ℕ) (at : Option ℕ) → at ≡ timer_at q timer → at ≡ Some a → q ≡ r → timer_at r timer ≡ Some b → a ≡ b
one_moment timer q r a b at is found same set = let e : timer_at q timer ≡ timer_at r timer = ap (λ (t : Timers). timer_at t timer) same in cc
