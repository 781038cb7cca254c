-- What a query asks and what answers it (IEEE 1588-2019, 15.4 and 15.5; which answer a request has
-- is the project's own).
use Rattle.std.specs.Prelude.{ℕ, ℤ, pos, ◌+◌, ◌%◌, List, [], map, Option, Some, None, Result, Ok, Err}
use Rattle.std.specs.Int.{w64, saturate_signed}
use Rattle.ptp_management.specs.declared.query.AskError.{AskError}
use Rattle.ptp_management.specs.declared.query.Request.{Request}
use Rattle.ptp_profile.specs.declared.timing.Measure.{Measure}
use Rattle.ptp_management.specs.ManagementQueries.{AnsweringPort, AnsweringSets, asked_by, request_of, answers_octets}
use Rattle.bc_history.specs.declared.entry.Input.{Input}
use Rattle.bc_history.specs.declared.entry.Input.TheVariants.{Query}
use Rattle.bc_history.specs.declared.scenario.Options.{Options}
use Rattle.bc_history.specs.Phases.OpeningState.{local_announcement}
use Rattle.bc_history.specs.Phases.State.{State}
use Rattle.bc_history.specs.Phases.HubPort.{HubPort}

-- ---- the data sets

-- portDS of a port (8.2.15)
abbrev pub answering_port : HubPort → AnsweringPort
answering_port h = record {
  id = h.port.id;
  state = h.port.state;
  log_announce = h.port.conf.log_announce;
  log_sync = h.port.conf.log_sync;
  log_delay = h.port.conf.log_delay;
  receipt = h.port.conf.receipt;
}

-- offsetFromMaster of the last measure, in ns times 65,536, held within 64 bits; 0 before the first
-- (8.2.2)
abbrev pub offset_within : Option Measure → ℤ
offset_within None = pos 0
offset_within (Some m) = saturate_signed w64 m.offset

-- meanDelay of the last measure, in ns times 65,536, held within 64 bits; 0 before the first
-- (8.2.2)
abbrev pub delay_within : Option Measure → ℤ
delay_within None = pos 0
delay_within (Some m) = saturate_signed w64 m.delay

-- the data sets that a history gives
abbrev pub answering_sets : Options → State → AnsweringSets
answering_sets o h = record {
  own = local_announcement o;
  domain = o.domain_number;
  master = h.core.master;
  offset = offset_within h.measured;
  delay = delay_within h.measured;
  ports = map answering_port h.core.ports;
}

-- ---- a query

-- why a query makes no request
abbrev pub refusal_of : Result Request AskError → Option AskError
refusal_of (Ok request) = None
refusal_of (Err error) = Some error

-- what answers a query, after so many requests: a request's sequence is the number of those before
-- it (7.3.7)
abbrev pub answers_of : AnsweringSets → ℕ → Result Request AskError → List (List ℕ)
answers_of sets requests (Ok request) = answers_octets sets (request_of request (requests % 65536))
answers_of sets requests (Err error) = []

-- the number of requests after a query: one that makes no request is not counted
abbrev pub counted_by : Result Request AskError → ℕ → ℕ
counted_by (Ok request) requests = requests + 1
counted_by (Err error) requests = requests

-- how many requests were made, after an input
abbrev pub requests_after : Input → ℕ → ℕ
requests_after (Query tick text) requests = counted_by (asked_by text) requests
requests_after _ requests = requests

-- why the query of an entry makes no request, where it makes none
abbrev pub asked_at : Input → Option AskError
asked_at (Query tick text) = refusal_of (asked_by text)
asked_at _ = None

-- the answers that an entry gives, each as octets; only a query is answered
abbrev pub answers_at : Options → State → Input → List (List ℕ)
answers_at o h (Query tick text) = answers_of (answering_sets o h) h.requests (asked_by text)
answers_at o h _ = []
