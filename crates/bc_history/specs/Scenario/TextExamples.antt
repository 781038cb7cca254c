-- Texts that are judged as worked examples.
use Rattle.std.specs.Prelude.{ℕ, zero, suc, negsuc, ◌+◌, List, [], ◌∷◌, ◌++◌, true, Option}
use Rattle.text_io.specs.declared.reason.Reason.{Reason}
use Rattle.text_io.specs.TextLines.{lines_of_text}
use Rattle.bc_history.specs.declared.scenario.Scenario.{Scenario}
use Rattle.bc_history.specs.declared.scenario.Happening.TheVariants.{Frame, Down}
use Rattle.bc_history.specs.declared.scenario.Turner.TheVariants.{Clock}
use Rattle.bc_history.specs.Scenario.Defaults.{default_options, plain_port, silent}
use Rattle.model_clock.specs.Clock.{plain_clock}
use Rattle.bc_history.specs.Scenario.Draft.{scenario_of}
use Rattle.bc_history.specs.Scenario.LineFaults.{draft_of, fault_at, line_count}

-- what is wrong with the first n lines, each judged by those before it
abbrev pub faults_below : List (List ℕ) → ℕ → List (Option Reason)
faults_below lines zero = []
faults_below lines (suc n) = faults_below lines n ++ fault_at lines n ∷ []

-- what is wrong with each line, and with the end
abbrev pub faults : List ℕ → List (Option Reason)
faults text = faults_below (lines_of_text text) (line_count text + 1)

-- what the lines say, faulty or not
abbrev pub said_by : List ℕ → Scenario
said_by text = scenario_of (draft_of (lines_of_text text))

-- one port that hears nothing for 20 seconds
abbrev pub one_port : Scenario
one_port = silent 20 1

-- two ports on two clocks, of which the second drifts
abbrev pub two_clocks : Scenario
two_clocks = record {
  options = record default_options { duration = 1500000000; boundary_clock_jbod = true };
  clocks = plain_clock ∷ record plain_clock { drift = negsuc 131071 } ∷ [];
  ports = plain_port ∷ record plain_port { clock = 1; receipt = 4 } ∷ [];
  records =
      record { port = 2; tick = 7; what = Frame (10 ∷ 240 ∷ []) }
      ∷ record { port = 1; tick = 7; what = Down } ∷ [];
  queries = record { tick = 3; text = 71 ∷ 69 ∷ 84 ∷ 32 ∷ 48 ∷ [] } ∷ [];
  turns = record { who = Clock 1; count = 2 } ∷ [];
}
