-- A crew of 32 ports and 16 followers, who have 16 clocks in turn, and what the hub's seat has
-- ordered of them (project)
use Rattle.std.specs.Prelude.{◌≡◌, ◌≢◌, ℕ, zero, suc, ◌+◌, ◌*◌, ◌<◌, ◌≤◌}
use Rattle.ptp_profile.specs.declared.seats.Held.{Held}
use Rattle.ptp_profile.specs.Roles.SeatLogs.{HasOrder, order_count}
use Rattle.discipline_seat.specs.declared.table.Seats.{Seats}
use Rattle.discipline_seat.specs.declared.view.Owner.TheVariants.{Hub}
use Rattle.discipline_seat.specs.declared.view.View.{View}
use Rattle.discipline_seat.specs.SeatValue.{IsSeatOf, SeatValue}
use Rattle.discipline_seat.specs.Rule.SeatLog.{ctrl_after, gener_after, owner_named}
use Rattle.discipline_seat.specs.Rule.SeatView.{seen_log}

-- who has the clock in a generation: first ports 1 to 16; then the follower of clock 0, which copies
-- clock 1, and ports 17 to 31; then port 32, and the followers of the others, which copy clock 0
abbrev pub crew_ctrl : ℕ → ℕ → ℕ
crew_ctrl zero clock = 0
crew_ctrl (suc zero) clock = clock + 1
crew_ctrl (suc (suc zero)) zero = 129
crew_ctrl (suc (suc zero)) (suc clock) = clock + 17
crew_ctrl (suc (suc (suc gener))) zero = 32
crew_ctrl (suc (suc (suc gener))) (suc clock) = 128

-- a controller of the clock where none but clock 0 copies, and not itself
pub record IsOneCopy (clock ctrl : ℕ) : Type 0 where
  pub below : ctrl < 130
  pub other : ctrl ≢ 128
  pub low : clock ≢ 0 → ctrl < 128

-- a controller of the clock where none but others than clock 0 copy, and all that do copy clock 0
pub record IsStar (clock ctrl : ℕ) : Type 0 where
  pub below : ctrl ≤ 128
  pub first : clock ≡ 0 → ctrl < 128

-- each clock was taken back and given once in each generation before this one, and the first so
-- many clocks in this one
pub record IsCrewHub (view : View) (gener clocks : ℕ) : Type 0 where
  pub owner : view.owner ≡ Hub
  pub given : (g clock : ℕ) → 1 ≤ g → g < gener → clock < 16 →
      HasOrder (seen_log view clock) g (crew_ctrl g clock)
  pub now : (clock : ℕ) → clock < clocks →
      HasOrder (seen_log view clock) gener (crew_ctrl gener clock)
  pub upto : (clock : ℕ) → gener_after (seen_log view clock) ≤ gener
  pub behind : (clock : ℕ) → clocks ≤ clock → gener_after (seen_log view clock) < gener
  pub few : (clock : ℕ) → order_count (seen_log view clock) ≤ 2 * gener
  pub fewer : (clock : ℕ) → clocks ≤ clock → order_count (seen_log view clock) + 2 ≤ 2 * gener
  pub copy : 16 * gener + clocks ≤ 48 → (clock : ℕ) →
      IsOneCopy clock (ctrl_after (seen_log view clock))
  pub star : 48 < 16 * gener + clocks → (clock : ℕ) →
      IsStar clock (ctrl_after (seen_log view clock))

-- the pass of whom the stamp names, and the stamp is one that the hub's seat orders
pub record IsMember (seats : Seats) (held : Held) (pass : SeatValue) : Type 0 where
  pub table : IsSeatOf seats pass
  pub there : held.clock < 16
  pub some : 1 ≤ held.gener
  pub last : held.gener ≤ 3
  pub ctrl_is : held.ctrl ≡ crew_ctrl held.gener held.clock
  pub somebody : held.ctrl ≢ 0
  pub named : owner_named held.clock held.ctrl ≡ pass.view.owner

-- the pass has seen the stamp's order, where it is of a generation up to this one, and has places
-- for 1,000 changes
pub record IsReady (seats : Seats) (gener : ℕ) (held : Held) (pass : SeatValue) : Type 0 where
  pub member : IsMember seats held pass
  pub given : held.gener ≤ gener → HasOrder (seen_log pass.view held.clock) held.gener held.ctrl
  pub spare : 1000 ≤ pass.spare
