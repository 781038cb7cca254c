use Rattle.std.proofs.Common.{ℕ, List, ◌++◌, sym, ap, ◌∙◌}
use Rattle.ptp_management.specs.ManagementQueries.{lines_text, printed_lines, shows}
use Rattle.transcript.proofs.lemmas.MarginLemmas.{shown_by}
use Rattle.transcript.proofs.lemmas.SplitLemmas.{printed_are_lines}
use Rattle.transcript.proofs.shown.Shown.of.Goals as goal

pub returns : goal.returns
returns c =
    let answer = c.args.answer.now in
    c.in_ok-lines.ensures (printed_lines answer) (printed_are_lines answer)
    (c.items.ensures ∙ c.in_ok-print.ensures.ok ∙ ap (λ (text : List ℕ). text ++ lines_text (printed_lines answer)) c.new-text.ensures)
    ∙ shown_by answer (shows answer) (sym c.shows.ensures ∙ c.if-not-shows.false)
