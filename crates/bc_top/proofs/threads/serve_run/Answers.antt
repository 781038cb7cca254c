use Rattle.std.proofs.Common.{rules}
use Rattle.bc_top.specs.declared.words.Command.TheVariants.{Run as By_threads}
use Rattle.bc_top.proofs.lemmas.CallLemmas.{excused-source, owed-source}
use Rattle.bc_top.proofs.lemmas.EndCompletenessLemmas.{complete}
use Rattle.bc_top.proofs.threads.serve_run.Goals as goal

pub returns-in-Ok-clause-caused : goal.returns-in-Ok-clause-caused
returns-in-Ok-clause-caused g c =
    let text = c.in-Ok.text.items in
    let whole = c.in-Ok.ensures.whole in
    c.conclude.ensures By_threads _ (owed-source By_threads _ text _ whole c.transcript_by_threads.ensures.transcript) (excused-source By_threads _ text _ whole c.transcript_by_threads.ensures.without)

pub returns-in-Ok-clause-complete : goal.returns-in-Ok-clause-complete
returns-in-Ok-clause-complete g c =
    let text = c.in-Ok.text.items in
    let whole = c.in-Ok.ensures.whole in
    complete _ _ (c.conclude.ensures By_threads _ (owed-source By_threads _ text _ whole c.transcript_by_threads.ensures.transcript) (excused-source By_threads _ text _ whole c.transcript_by_threads.ensures.without))

pub returns-in-Err-clause-caused : goal.returns-in-Err-clause-caused
returns-in-Err-clause-caused g c = c.in-Err.ensures.caused By_threads _ tt (search rules)

pub returns-in-Err-clause-complete : goal.returns-in-Err-clause-complete
returns-in-Err-clause-complete g c = complete _ _ (c.in-Err.ensures.caused By_threads _ tt (search rules))
