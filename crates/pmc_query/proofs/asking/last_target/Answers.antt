use Rattle.std.proofs.Common.{ℕ, List, ◌∷◌, Bor, sym, ap, ◌∙◌}
use Rattle.std.specs.Prelude.{Option}
use Rattle.std.specs.Option.{option_copied}
use Rattle.ptp_management.specs.ManagementQueries.{target_asked}
use Rattle.pmc_query.specs.QueryWords.{words_behind}
use Rattle.pmc_query.proofs.lemmas.QueryWordLemmas.{one_too_many}
use Rattle.pmc_query.proofs.asking.last_target.Goals as goal

pub returns-in-Some : goal.returns-in-Some
returns-in-Some c =
    one_too_many c.args.word.now c.in-Some.field-0.now
    ∙ ap (λ (o : Option (Bor (List ℕ))). target_asked (c.args.word.now ∷ words_behind (option_copied o))) (sym c.in-Some.is)
