use Rattle.std.proofs.Common.{◌≡◌, ◌+◌, ◌*◌, ◌≤◌, List}
use Rattle.ptp_profile.specs.declared.foreign_master.KeptAnnounce.{KeptAnnounce}
use Rattle.foreign_master.specs.RecordsView.{RecordsRepresent}
use Rattle.foreign_master.specs.RecordCalls.{AreInTime}
use Rattle.foreign_master.proofs.lemmas.RecordCallLemmas.{HasRun}
use Rattle.foreign_master.proofs.records.Records.run.Given as goal

abbrev pub invariant-loop-i : goal.invariant-loop-i
invariant-loop-i g l = record {
  runs : (kept : List KeptAnnounce) → RecordsRepresent l.initial.self kept → AreInTime l.initial.self.window kept l.calls → HasRun l.initial.self.window kept l.calls l.i l.answers l.self;
  window : l.self.window ≡ l.initial.self.window;
  counted : l.steps ≤ l.initial.steps + 15 * l.i;
  receiver : l.self.receiver ≡ l.initial.self.receiver;
}
