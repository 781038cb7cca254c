-- Which changes of the World's logs are named: by the outcome of an entry, or by that of an actor
-- that is to enter it (project).
use Rattle.std.specs.Prelude.{ℕ, ◌≡◌, ◌⊎◌, true, Option, Some, None, option_and_then, slice_get, Contains}
use Rattle.bc_history.specs.declared.entry.Input.{Input}
use Rattle.bc_history.specs.declared.entry.Input.TheVariants.{Report, Sampled}
use Rattle.bc_history.specs.declared.entry.Who.{Who}
use Rattle.bc_history.specs.declared.entry.Who.TheVariants.{Port as A_port, Follower as A_follower, Queries as The_queries}
use Rattle.bc_history.specs.declared.place.FollowerPlace.{FollowerPlace}
use Rattle.bc_history.specs.declared.place.FollowerPlace.TheVariants.{Turns as Turns_next, ReadsTheirs as Reads_theirs, ReadsOwn as Reads_own, Exchanges as Exchanges_own, Samples}
use Rattle.bc_history.specs.declared.place.PortPlace.{PortPlace}
use Rattle.bc_history.specs.declared.place.PortPlace.TheVariants.{Waits, Exchanges, Reports}
use Rattle.bc_history.specs.declared.scenario.Scenario.{Scenario}
use Rattle.bc_history.specs.Phases.Inputs.{port_at}
use Rattle.bc_history.specs.Run.World.{World}
use Rattle.ptp_profile.specs.Roles.SeatLogs.{log_at}
use Rattle.run_legal.specs.Numbers.Marks.{Mark, changes_in, exchange_marks}
use Rattle.run_legal.specs.Runs.LegalRuns.{IsChangeAt}

-- what port p is to report, where it has made its exchange
abbrev pub report_at : ℕ → PortPlace → Option Input
report_at p Waits = None
report_at p (Exchanges tick held action) = None
report_at p (Reports tick gener action outcome) = Some (Report p tick gener action outcome)

-- what the follower of clock c is to sample, where it has made its exchange
abbrev pub sample_at : ℕ → FollowerPlace → Option Input
sample_at c Turns_next = None
sample_at c (Reads_theirs tick lead) = None
sample_at c (Reads_own tick lead theirs) = None
sample_at c (Exchanges_own tick lead theirs own action) = None
sample_at c (Samples tick lead theirs own action outcome) =
    Some (Sampled c tick lead theirs own action outcome)

-- what an actor that has made its exchange is to enter
abbrev pub input_to_enter : World → Who → Option Input
input_to_enter w (A_port p) = option_and_then (report_at p) (port_at w.ports p)
input_to_enter w (A_follower c) = option_and_then (sample_at c) (slice_get w.followers c)
input_to_enter w The_queries = None

-- an actor is to enter an outcome that names a change
pub record IsToName (s : Scenario) (w : World) (change : Mark) : Type 0 where
  pub who : Who
  pub input : Input
  pub next : input_to_enter w who ≡ Some input
  pub names : Contains (exchange_marks s input) change

-- the change of a clock with a number
abbrev pub change_mark : (clock number : ℕ) → Mark
change_mark clock number = record { clock = clock; number = number; is_change = true }

-- the outcome of an entry names a change, or an actor is to enter one that does
abbrev pub IsNamedSoFar : Scenario → World → Mark → Type 0
IsNamedSoFar s w change = Contains (changes_in s w.entries) change ⊎ IsToName s w change

-- so it is with each change of the World's logs
abbrev pub AreNamedSoFar : Scenario → World → Type 0
AreNamedSoFar s w =
    (clock number : ℕ) → IsChangeAt (log_at w.logs clock) number
    → IsNamedSoFar s w (change_mark clock number)
