use Rattle.std.proofs.Common.{ℕ, ◌+◌, List, ◌∷◌, take, sym, ap, ◌∙◌}
use Rattle.std.proofs.lemmas.List.{take_rest}
use Rattle.ptp_management.specs.ManagementQueries.{words_of}
use Rattle.pmc_query.proofs.lemmas.QueryWordLemmas.{one_word, word_before}
use Rattle.pmc_query.proofs.asking.first_word.Goals as goal

pub returns-in-None : goal.returns-in-None
returns-in-None c = one_word c.args.text.now (sym c.in-None.ensures.place)

pub returns-in-Some : goal.returns-in-Some
returns-in-Some c =
    word_before c.args.text.now c.in-Some.at (sym c.in-Some.ensures.place)
    ∙ ap (λ (l : List ℕ). take c.in-Some.at c.args.text.now ∷ words_of l) (sym (take_rest c.args.text.now (c.in-Some.at + 1)))
