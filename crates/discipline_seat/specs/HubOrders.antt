-- What the hub's seat has ordered (project)
use Rattle.std.specs.Prelude.{◌≡◌, ◌≢◌, ℕ, ◌≤◌, ◌<◌}
use Rattle.ptp_profile.specs.Roles.SeatLogs.{order_count, stamp_after}
use Rattle.discipline_seat.specs.declared.view.Owner.TheVariants.{Hub}
use Rattle.discipline_seat.specs.declared.view.View.{View}
use Rattle.discipline_seat.specs.Rule.SeatLog.{ctrl_after}
use Rattle.discipline_seat.specs.Rule.SeatView.{seen_log}

-- of clock 0 at most so many orders were made, the last with this stamp, and no other clock has a
-- follower
pub record IsOrderedBy (view : View) (gener ctrl count : ℕ) : Type 0 where
  pub owner : view.owner ≡ Hub
  pub gener_is : (stamp_after (seen_log view 0)).gener ≡ gener
  pub ctrl_is : (stamp_after (seen_log view 0)).ctrl ≡ ctrl
  pub few : order_count (seen_log view 0) ≤ count
  pub others : (clock : ℕ) → clock ≢ 0 → ctrl_after (seen_log view clock) < 128
