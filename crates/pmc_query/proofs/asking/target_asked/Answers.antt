use Rattle.std.proofs.Common.{ℕ, List, Bor, sym, ap, ◌∙◌}
use Rattle.std.specs.Prelude.{Option}
use Rattle.std.specs.Option.{option_copied}
use Rattle.ptp_management.specs.ManagementQueries.{target_asked}
use Rattle.pmc_query.specs.QueryWords.{words_behind}
use Rattle.pmc_query.proofs.lemmas.QueryWordLemmas.{target_from}
use Rattle.pmc_query.proofs.asking.target_asked.Goals as goal

pub returns : goal.returns
returns c =
    target_from c.in-Some.rest.now _ _ _ c.first_word.ensures c.last_target.ensures
    ∙ ap (λ (o : Option (Bor (List ℕ))). target_asked (words_behind (option_copied o))) (sym c.in-Some.is)
