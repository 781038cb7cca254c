-- The summary of a run: one line with what it comes to (project).
use Rattle.std.specs.Prelude.{◌≡◌, ℕ, Bool, true, false, not, List, length, reverse, codes, count_by}
use Rattle.std.specs.Fmt.{decimal}
use Rattle.std.specs.List.{sum_by}
use Rattle.ptp_profile.specs.declared.seats.Log.{Log}
use Rattle.ptp_profile.specs.Port.PrintedNames.{◌<>◌}
use Rattle.ptp_profile.specs.Roles.SeatLogs.{is_order}
use Rattle.bc_history.specs.declared.entry.Entry.{Entry}
use Rattle.bc_history.specs.declared.entry.Input.{Input}
use Rattle.bc_history.specs.declared.entry.Input.TheVariants.{Frame, Timed, Down, Up, Report, Turn, Sampled, Query}
use Rattle.bc_history.specs.declared.entry.Outcome.{Outcome}
use Rattle.bc_history.specs.declared.entry.Outcome.TheVariants.{Unlocked, Changed, Superseded, Spent}
use Rattle.bc_history.specs.declared.entry.Run.{Run}
use Rattle.bc_history.specs.declared.scenario.Scenario.{Scenario}
use Rattle.bc_history.specs.Phases.Step.{state_of}
use Rattle.bc_history.specs.Run.World.{IsWorld}
use Rattle.bc_gen.specs.MadeScenario.{made_scenario}

-- ---- four counts

-- how many entries a run has
abbrev pub entry_count : Run → ℕ
entry_count run = length run.entries

-- the last generation of roles: that of the state which the whole history gives
abbrev pub last_generation : Scenario → Run → ℕ
last_generation s run = (state_of s (reverse run.entries)).roles.gener

-- how many changes a clock's log has: all its entries that are no orders
abbrev pub changes_of : Log → ℕ
changes_of log = count_by (λ entry. not (is_order entry)) log.entries

-- how many the logs of all clocks have
abbrev pub change_count : Run → ℕ
change_count run = sum_by changes_of run.logs

-- an exchange was refused, since a newer generation was in force
abbrev pub is_superseded : Outcome → Bool
is_superseded Unlocked = false
is_superseded (Changed number) = false
is_superseded (Superseded newer at) = true
is_superseded (Spent at) = false

-- a port's report or a follower's sample says so
abbrev pub tells_superseded : Input → Bool
tells_superseded (Frame port tick octets) = false
tells_superseded (Timed port tick timer) = false
tells_superseded (Down port tick) = false
tells_superseded (Up port tick) = false
tells_superseded (Report port tick gener action outcome) = is_superseded outcome
tells_superseded (Turn clock tick) = false
tells_superseded (Sampled clock tick lead theirs own action outcome) = is_superseded outcome
tells_superseded (Query tick text) = false

-- how many reports and samples of a run say so
abbrev pub refused_count : Run → ℕ
refused_count run = count_by (λ (e : Entry). tells_superseded e.input) run.entries

-- ---- the line

-- the line of these counts of scenario n
unfoldable pub counts_line : ℕ → (events generations changes refused : ℕ) → List ℕ
counts_line n events generations changes refused =
    codes "gen " <> decimal n <> codes " events " <> decimal events <> codes " generations "
    <> decimal generations <> codes " changes " <> decimal changes <> codes " refused "
    <> decimal refused <> codes "\n"

-- the summary of a run of scenario n, which is s
abbrev pub summary_line : ℕ → Scenario → Run → List ℕ
summary_line n s run =
    counts_line n (entry_count run) (last_generation s run) (change_count run) (refused_count run)

-- the summary of the World's run of scenario n
pub record IsSummaryOf (n : ℕ) (out : List ℕ) : Type 0 where
  pub run : Run
  pub world : IsWorld (made_scenario n) run
  pub spelled : out ≡ summary_line n (made_scenario n) run
