-- What is said of a line that is taken, and of one that is not.
use Rattle.std.specs.Prelude.{◌≡◌, ℕ, List, Option, Some, None}
use Rattle.text_io.specs.declared.reason.Reason.{Reason}
use Rattle.text_io.specs.TextLines.{words_of, is_printable}
use Rattle.bc_history.specs.declared.section.Role.{Role}
use Rattle.bc_history.specs.Scenario.Draft.{Draft}
use Rattle.bc_history.specs.Scenario.LineFaults.{first_of, tests_of, with_role}
use Rattle.bc_config.specs.declared.refusal.LineError.{LineError}
use Rattle.bc_config.specs.declared.refusal.LineError.TheVariants.{Fault, NoMemory}

-- what is wrong first with a line in its role
abbrev pub role_fault : Draft → List ℕ → Role → Option Reason
role_fault d line role = first_of (tests_of d (is_printable line) (words_of line) role)

-- nothing is wrong with the line in its role, and the second draft has what it says
abbrev pub IsTaken : Draft → List ℕ → Role → Draft → Type 0
IsTaken d line role e = (role_fault d line role ≡ None) × (e ≡ with_role d (words_of line) role)

-- the fault is the one that is told; want of memory is free
abbrev pub Tells : LineError → Option Reason → Type 0
Tells (Fault reason) fault = fault ≡ Some reason
Tells NoMemory fault = Unit {0}
