use Rattle.std.proofs.Common.{sym, ◌∙◌}
use Rattle.std.proofs.lemmas.List.{take_rest}
use Rattle.bstr.proofs.lemmas.MatchListLemmas.{goes-ref}
use Rattle.text_io.specs.TextLines.{is_blank}
use Rattle.text_io.proofs.lemmas.WordLemmas.{no_more, one_part}
use Rattle.text_io.proofs.lines.WordsIterator.next.Goals as goal

pub returns-in-None-clause-steps : goal.returns-in-None-clause-steps
returns-in-None-clause-steps c =
    let none = sym c.self.view_is ∙ no_more is_blank c.self.inside.rest.now c.in-None.ensures.value in
    (none, none)

pub returns-in-Some-clause-steps : goal.returns-in-Some-clause-steps
returns-in-Some-clause-steps c =
    sym c.self.view_is ∙ one_part is_blank c.self.inside.rest.now _ _ _ c.in-Some.start c.in-Some.ensures.value (take_rest c.self.inside.rest.now c.in-Some.start) c.split_word.ensures.word c.split_word.ensures.rest

pub returns-in-Some-clause-goes : goal.returns-in-Some-clause-goes
returns-in-Some-clause-goes c =
    goes-ref _ (λ _. tt) _ _ _ (sym c.self.view_is ∙ one_part is_blank c.self.inside.rest.now _ _ _ c.in-Some.start c.in-Some.ensures.value (take_rest c.self.inside.rest.now c.in-Some.start) c.split_word.ensures.word c.split_word.ensures.rest)
