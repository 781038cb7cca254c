use Rattle.std.proofs.Common.{ap, ◌∙◌, ℕ, List, leb}
use Rattle.transcript.specs.NextLines.{is_empty}
use Rattle.transcript.proofs.lemmas.ListEndLemmas.{drop-empty}
use Rattle.transcript.proofs.shown.Shown.is_done.Goals as goal

pub returns : goal.returns
returns c =
    ap (λ (n : ℕ). leb n c.self.inside.passed) c.len.ensures
    ∙ drop-empty c.self.inside.lines c.self.inside.passed
    ∙ ap (λ (lines : List (List ℕ)). is_empty lines) c.self.view_is
