-- What an event of a port tells, one of a follower, and a query.
use Rattle.std.specs.Prelude.{ℕ, List, [], Option, None}
use Rattle.ptp_profile.specs.declared.roles.RoleOrder.{RoleOrder}
use Rattle.ptp_management.specs.declared.query.AskError.{AskError}
use Rattle.bc_history.specs.declared.entry.Effects.{Effects}
use Rattle.bc_history.specs.declared.entry.Entry.{Entry}
use Rattle.bc_history.specs.declared.entry.Input.{Input}
use Rattle.bc_history.specs.declared.entry.Sent.{Sent}
use Rattle.bc_history.specs.declared.entry.Told.{Told}
use Rattle.bc_ports.specs.declared.event.EventOutcome.{EventOutcome}

-- a frame of a port
abbrev pub sent_by : ℕ → List ℕ → Sent
sent_by port octets = record { port = port; octets = octets }

-- followers are told nothing, and nobody asks
abbrev pub effects_with : EventOutcome → List RoleOrder → List Sent → Effects
effects_with outcome orders frames = record {
  fate = outcome.fate;
  states = outcome.states;
  parent = outcome.parent;
  orders = orders;
  measure = outcome.measure;
  frames = frames;
  told = None;
  asked = None;
  answers = [];
}

-- an input of no port tells what a follower is told, why a query makes no request, and what
-- answers it
abbrev pub portless_effects : Option Told → Option AskError → List (List ℕ) → Effects
portless_effects told asked answers = record {
  fate = None;
  states = [];
  parent = None;
  orders = [];
  measure = None;
  frames = [];
  told = told;
  asked = asked;
  answers = answers;
}

-- its entry comes with no reading
abbrev pub portless_entry :
    Input → ℕ → Option Told → Option AskError → List (List ℕ) → Entry
portless_entry input moment told asked answers = record {
  input = input;
  moment = moment;
  seen = None;
  effects = portless_effects told asked answers;
}

-- that of a follower: nobody asks
abbrev pub follower_entry : Input → ℕ → Option Told → Entry
follower_entry input moment told = portless_entry input moment told None []

-- that of a query: no follower is told anything
abbrev pub query_entry : Input → ℕ → Option AskError → List (List ℕ) → Entry
query_entry input moment asked answers = portless_entry input moment None asked answers
