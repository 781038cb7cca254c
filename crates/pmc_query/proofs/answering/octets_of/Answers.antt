use Rattle.std.proofs.Common.{◌≡◌, ℕ, List, [], sym, subst, rules}
use Rattle.std.specs.Prelude.{IsTrue}
use Rattle.ptp_management.specs.ManagementMessages.{managed_octets}
use Rattle.ptp_management.specs.ManagementQueries.{shows}
use Rattle.pmc_query.proofs.lemmas.AnswerLemmas.{answer_shows}
use Rattle.pmc_query.proofs.answering.octets_of.Goals as goal

pub returns-clause-shown : goal.returns-clause-shown
returns-clause-shown c =
    let is : c.write.new.out ≡ managed_octets c.args.domain c.args.m.now = search rules in
    let P : List ℕ → Type 0 = λ l. IsTrue (shows l) in
    subst P (sym is) (answer_shows c.args.domain c.args.m.now (c.in_ok-write.ensures.again []) c.requires.shown)
