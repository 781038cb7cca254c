use Rattle.std.proofs.Common.{ℕ, List, Bor, sym, ap, ◌∙◌}
use Rattle.std.specs.Prelude.{Option}
use Rattle.std.specs.Option.{option_copied}
use Rattle.ptp_management.specs.ManagementQueries.{name_asked}
use Rattle.pmc_query.specs.QueryWords.{words_behind}
use Rattle.pmc_query.proofs.lemmas.QueryWordLemmas.{name_from}
use Rattle.pmc_query.proofs.asking.name_asked.Goals as goal

pub returns : goal.returns
returns c =
    name_from c.in-Some.rest.now _ _ _ _ _ c.first_word.ensures c.named.ensures c.named_asked.ensures
    ∙ ap (λ (o : Option (Bor (List ℕ))). name_asked c.args.action (words_behind (option_copied o))) (sym c.in-Some.is)
