use Rattle.std.proofs.Common.{◌++◌, List, ℕ, ap, sym, ◌∙◌}
use Rattle.bstr.specs.Text.{lines_of}
use Rattle.transcript.specs.PrintedLines.{margined}
use Rattle.transcript.proofs.lemmas.MarginLemmas.{indented-shown}
use Rattle.transcript.proofs.answers.push_printed.Goals as goal

pub returns : goal.returns
returns c =
    c.in_ok-push_margined.ensures
    ∙ ap (λ (ys : List ℕ). c.args.out.now ++ ys)
    (ap (λ (xs : List ℕ). margined (lines_of xs)) (c.items.ensures ∙ c.in_ok-text.ensures)
    ∙ indented-shown c.args.answer.now (sym c.shows.ensures ∙ c.if-not-shows.false))
