use Rattle.std.proofs.Common.{◌≡◌, ap, sym, subst}
use Rattle.foreign_master.specs.declared.calls.Call.{Call}
use Rattle.foreign_master.specs.declared.calls.Answer.TheVariants.{Became}
use Rattle.foreign_master.specs.RecordsView.{RecordsRepresent}
use Rattle.foreign_master.specs.RecordCalls.{IsReachedBy, kept_after, answer_of}
use Rattle.foreign_master.proofs.lemmas.RecordCallLemmas.{after_hearing}
use Rattle.foreign_master.proofs.records.Records.call.Goals as goal

pub returns-in-Hear-clause-answer : goal.returns-in-Hear-clause-answer
returns-in-Hear-clause-answer g c = λ kept keeps reached.
    let in_time = subst (λ (call : Call). IsReachedBy call kept) c.in-Hear.is reached in
    subst (λ (call : Call). Became c.hear.result ≡ answer_of c.args.self.now.window kept call) (sym c.in-Hear.is)
    (ap (λ h. Became h) (c.hear.ensures.answer kept keeps in_time))

pub returns-in-Hear-clause-kept : goal.returns-in-Hear-clause-kept
returns-in-Hear-clause-kept g c = λ kept keeps reached.
    let in_time = subst (λ (call : Call). IsReachedBy call kept) c.in-Hear.is reached in
    subst (λ (call : Call). RecordsRepresent c.hear.new.self (kept_after c.args.self.now.window kept call)) (sym c.in-Hear.is)
    (after_hearing c.args.self.now.window c.in-Hear.at c.in-Hear.a kept c.args.self.now c.hear.new.self c.hear.result (c.hear.ensures.answer kept keeps in_time) (c.hear.ensures.kept kept keeps in_time) c.hear.ensures.same keeps)
