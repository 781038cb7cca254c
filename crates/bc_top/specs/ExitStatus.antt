-- The status of each end, and the end of a call that has nothing to write.
use Rattle.std.specs.Prelude.{ℕ}
use Rattle.bc_top.specs.declared.outcome.End.{End}
use Rattle.bc_top.specs.declared.outcome.End.TheVariants.{Done, Usage, Refused, ReadFault, WriteFault, Events, NoMemory, NotDue, TooLong}
use Rattle.bc_top.specs.declared.outcome.NoTranscript.{NoTranscript}
use Rattle.bc_top.specs.declared.outcome.NoTranscript.TheVariants.{Refused as Is_refused, Events as Has_events, NotDue as Has_no_step, NoMemory as Has_no_memory}

abbrev pub status_of : End → ℕ
status_of Done = 0
status_of Usage = 1
status_of (Refused line reason) = 2
status_of ReadFault = 3
status_of WriteFault = 4
status_of Events = 5
status_of NoMemory = 6
status_of (NotDue turn) = 7
status_of TooLong = 8

abbrev pub end_without : NoTranscript → End
end_without (Is_refused line reason) = Refused line reason
end_without Has_events = Events
end_without (Has_no_step turn) = NotDue turn
end_without Has_no_memory = NoMemory
