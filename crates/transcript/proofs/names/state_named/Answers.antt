use Rattle.std.proofs.Common.{◌∙◌, rules, tests}
use Rattle.std.proofs.lemmas.Iterator.{YieldsList-from_slice}
use Rattle.std.proofs.lemmas.Iterator.Search.{find_from_yields_List}
use Rattle.ptp_profile.specs.Port.PrintedNames.{state_name}
use Rattle.bc_history.specs.Scenario.SectionHeaders.{is_word}
use Rattle.transcript.specs.declared.names.TheConstants.{STATES}
use Rattle.transcript.proofs.names.state_named.Goals as goal

pub returns : goal.returns
returns c = c.copied.ensures ∙ find_from_yields_List (λ value. is_word (state_name value) c.args.word.now) _ _ _ c.find.ensures.ran (YieldsList-from_slice STATES cc) (λ x r q k. search (rules, tests))
