-- Records and queries as their lines have them.
use Rattle.std.specs.Prelude.{ℕ, List, ◌∷◌, Option, Some, None}
use Rattle.text_io.specs.Numerals.{number_of}
use Rattle.bc_history.specs.declared.scenario.Record.{Record}
use Rattle.bc_history.specs.declared.scenario.Asked.{Asked}
use Rattle.bc_config.specs.declared.draft.record.LineRecord.{LineRecord}
use Rattle.bc_config.specs.declared.draft.query.LineQuery.{LineQuery}

-- a record that the code found in a line, as one of the scenario
abbrev pub record_found : LineRecord → Record
record_found found = record { port = found.port; tick = found.tick; what = found.what }

-- a query that the code found in a line, as one of the scenario
abbrev pub query_found : LineQuery → Asked
query_found query = record { tick = query.tick; text = query.text }

-- two numbers, if both are there
abbrev pub numbers_in : Option ℕ → Option ℕ → Option (ℕ × ℕ)
numbers_in (Some tick) (Some port) = Some (tick, port)
numbers_in (Some tick) None = None
numbers_in None port = None

-- the tick and the port of a record's line: its first two words, where both are numbers
abbrev pub tick_and_port : List (List ℕ) → Option (ℕ × ℕ)
tick_and_port (tick ∷ port ∷ rest) = numbers_in (number_of tick) (number_of port)
tick_and_port _ = None
