use Rattle.std.proofs.Common.{◌==◌, rules, tests}
use Rattle.std.proofs.lemmas.Iterator.Search.{all_from_yields_List}
use Rattle.std.proofs.lemmas.Iterator.Splits.{YieldsList-from_slice_split}
use Rattle.transcript.specs.FormedTests.{is_shown_word}
use Rattle.transcript.proofs.formed.is_query_text.Goals as goal

pub returns : goal.returns
returns c =
    all_from_yields_List is_shown_word _ _ _ c.all.ensures.ran
    (YieldsList-from_slice_split _ (λ octet. octet == 32) c.args.text.now c.split.ensures.rest c.split.ensures.done c.split.ensures.closure (λ x r q k. search (rules, tests)))
    (λ x b q k. search (rules, tests))
