use Rattle.std.proofs.Common.{◌∙◌, rules, tests}
use Rattle.std.proofs.lemmas.Iterator.{YieldsList-from_slice}
use Rattle.std.proofs.lemmas.Iterator.Search.{find_from_yields_List}
use Rattle.bc_history.specs.Run.Transcript.{timer_name}
use Rattle.bc_history.specs.Scenario.SectionHeaders.{is_word}
use Rattle.transcript.specs.declared.names.TheConstants.{TIMERS}
use Rattle.transcript.proofs.names.timer_named.Goals as goal

pub returns : goal.returns
returns c = c.copied.ensures ∙ find_from_yields_List (λ value. is_word (timer_name value) c.args.word.now) _ _ _ c.find.ensures.ran (YieldsList-from_slice TIMERS cc) (λ x r q k. search (rules, tests))
