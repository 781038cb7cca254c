-- What a history gives: each port, the data sets, the roles, and what the followers were told.
use Rattle.std.specs.Prelude.{ℕ, List, Option}
use Rattle.ptp_profile.specs.declared.timing.Measure.{Measure}
use Rattle.ptp_profile.specs.declared.roles.Edge.{Edge}
use Rattle.ptp_profile.specs.declared.roles.RoleOrder.{RoleOrder}
use Rattle.ptp_profile.specs.declared.roles.Notice.{Notice}
use Rattle.ptp_profile.specs.declared.roles.Lead.{Lead}
use Rattle.ptp_profile.specs.Best.MasterData.{Master}
use Rattle.bc_history.specs.declared.entry.Input.{Input}
use Rattle.bc_history.specs.declared.entry.Seen.{Seen}
use Rattle.bc_history.specs.Phases.HubPort.{HubPort}

-- what an entry adds by itself: its input and its reading; all else follows from the history
pub record Event : Type 0 where
  pub input : Input
  pub seen : Option Seen

-- when a follower subscribed: the tick and the moment of its turn
pub record Subscription : Type 0 where
  pub tick : ℕ
  pub moment : ℕ

-- what a follower was told to copy by an entry of a tick
pub record TickLead : Type 0 where
  pub tick : ℕ
  pub lead : Lead

-- the follower of one clock
pub record Follower : Type 0 where
  -- how many turns it took
  pub turns : ℕ
  -- the last subscription
  pub subscribed : Option Subscription
  -- the last notice that was ever put, and how many were put since the last turn
  pub last : Option Notice
  pub put : ℕ
  -- what the follower's last entry told it to copy
  pub leading : Option TickLead

-- the moment, the ports, and whom the clock takes its time from
pub record Core : Type 0 where
  pub moment : ℕ
  pub ports : List HubPort
  pub master : Master

-- what drives each clock, the present generation, and the orders of all generations, the newest
-- first
pub record Roles : Type 0 where
  pub edges : List (Option Edge)
  pub gener : ℕ
  pub orders : List RoleOrder

-- all that a history gives
pub record State : Type 0 where
  pub core : Core
  pub roles : Roles
  -- the last measure of any port
  pub measured : Option Measure
  pub followers : List Follower
  -- how many queries came, and how many of them made a request
  pub queries : ℕ
  pub requests : ℕ
