-- The log of a clock as the word of its seat shows it, and who made its entries (project)
use Rattle.std.specs.Prelude.{◌≡◌, ◌≢◌, ℕ, zero, suc, ◌+◌, ◌-◌, ◌*◌, ◌<◌, ◌≤◌, ◌⊎◌, ltb, List, [], ◌∷◌, ◌++◌, length, Bool, true, false}
use Rattle.ptp_base.specs.Floor.{IsWithin}
use Rattle.ptp_base.specs.declared.time.TheConstants.{FREQ_MAX, TICK_MAX, TIME_MAX}
use Rattle.seat_word.specs.PackedWord.{packed}
use Rattle.ptp_profile.specs.Roles.SeatLogs.{stamp_after, order_count}
use Rattle.ptp_profile.specs.declared.seats.LogEntry.{LogEntry}
use Rattle.ptp_profile.specs.declared.seats.LogEntry.TheVariants.{Order, Change}
use Rattle.discipline_seat.specs.declared.view.Owner.{Owner}
use Rattle.discipline_seat.specs.declared.view.Owner.TheVariants.{Hub, Port, Follower}

-- the entries of a clock, the newest first
abbrev pub SeatLog : Type 0
SeatLog = List LogEntry

-- ---- what the word shows

-- the generation in force
abbrev pub gener_after : SeatLog → ℕ
gener_after log = (stamp_after log).gener

-- the controller in force
abbrev pub ctrl_after : SeatLog → ℕ
ctrl_after log = (stamp_after log).ctrl

-- the stamp in force as one number, as it stands in the word
abbrev pub stamp_number : SeatLog → ℕ
stamp_number log = gener_after log * 256 + ctrl_after log

-- the number of the last change, 0 where there is none
abbrev pub last_change : SeatLog → ℕ
last_change [] = 0
last_change (Order gener ctrl ∷ log) = last_change log
last_change (Change gener ctrl tick step freq ∷ log) = suc (length log)

-- a word of these fields
abbrev pub packed_word : ℕ → ℕ → ℕ → ℕ → ℕ
packed_word gener ctrl number row =
    packed (record { gener = gener; ctrl = ctrl; number = number; row = row })

-- the word of the log
abbrev pub word_after : SeatLog → ℕ
word_after log = packed_word (gener_after log) (ctrl_after log) (length log) (last_change log)

-- ---- what may stand in a log

-- the entry may come next, where no change has a number above `rows`: an order is no older than the
-- generation in force, and newer where somebody holds the clock; a change bears the stamp in force
abbrev pub MayComeNext : ℕ → SeatLog → LogEntry → Type 0
MayComeNext rows log (Order gener ctrl) =
    (gener_after log ≤ gener) × (ctrl_after log ≢ 0 → gener_after log < gener)
    × (gener < 262144) × (ctrl < 256) × (order_count log < 262142)
MayComeNext rows log (Change gener ctrl tick step freq) =
    (gener ≡ gener_after log) × (ctrl ≡ ctrl_after log) × (ctrl ≢ 0) × (length log < rows)
    × (tick ≤ TICK_MAX) × IsWithin TIME_MAX step × IsWithin FREQ_MAX freq

-- each entry came so
abbrev pub IsSeatLog : ℕ → SeatLog → Type 0
IsSeatLog rows [] = Unit {0}
IsSeatLog rows (entry ∷ log) = MayComeNext rows log entry × IsSeatLog rows log

-- k + 1 steps from a clock to the clock that it copies, and on, lead from the one to the other
abbrev pub LeadsTo : (ℕ → ℕ) → ℕ → ℕ → ℕ → Type 0
LeadsTo ctrls zero a b = ctrls a ≡ 128 + b
LeadsTo ctrls (suc k) a b = (m : ℕ) × (ctrls a ≡ 128 + m) × LeadsTo ctrls k m b

-- no walk comes back to the clock that it has left
abbrev pub HasNoCircle : (ℕ → ℕ) → Type 0
HasNoCircle ctrls = (k clock : ℕ) → ¬ (LeadsTo ctrls k clock clock)

-- ---- who made an entry

-- the first where the test holds, else the second
abbrev pub one_owner : Bool → Owner → Owner → Owner
one_owner true a b = a
one_owner false a b = b

-- whom a controller of the clock names
abbrev pub owner_named : ℕ → ℕ → Owner
owner_named clock ctrl = one_owner (ltb ctrl 128) (Port ctrl) (Follower clock)

-- whose pass has the number m, where the first passes are those of so many ports
abbrev pub pass_owner : ℕ → ℕ → Owner
pass_owner ports m = one_owner (ltb m ports) (Port (suc m)) (Follower (m - ports))

-- the hub made each order, and whom its controller names each change
abbrev pub maker_of : ℕ → LogEntry → Owner
maker_of clock (Order gener ctrl) = Hub
maker_of clock (Change gener ctrl tick step freq) = owner_named clock ctrl

-- none of the entries was made by the owner
abbrev pub HasNoneBy : ℕ → Owner → SeatLog → Type 0
HasNoneBy clock owner [] = Unit {0}
HasNoneBy clock owner (entry ∷ log) =
    (maker_of clock entry ≢ owner) × HasNoneBy clock owner log

-- the later log ends with the earlier one
pub record Extends (old new : SeatLog) : Type 0 where
  pub newer : SeatLog
  pub is : new ≡ newer ++ old

-- the log grew by entries that this owner did not make
pub record GrewByOthers (clock : ℕ) (owner : Owner) (old new : SeatLog) : Type 0 where
  pub newer : SeatLog
  pub is : new ≡ newer ++ old
  pub none_mine : HasNoneBy clock owner newer

-- the hub or one of the first n passes made each entry
abbrev pub AreMadeBy : ℕ → ℕ → ℕ → SeatLog → Type 0
AreMadeBy clock ports n [] = Unit {0}
AreMadeBy clock ports n (entry ∷ log) =
    ((maker_of clock entry ≡ Hub)
    ⊎ ((m : ℕ) × (m < n) × (maker_of clock entry ≡ pass_owner ports m)))
    × AreMadeBy clock ports n log
