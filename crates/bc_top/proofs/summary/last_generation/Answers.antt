use Rattle.std.proofs.Common.{◌≡◌, ◌∙◌, arith, length, reverse, take, ap}
use Rattle.std.proofs.lemmas.List.{take_all}
use Rattle.bc_top.proofs.lemmas.GenerationLemmas.{generation_by, generation-state_of}
use Rattle.bc_top.proofs.summary.last_generation.Goals as goal

pub returns : goal.returns
returns c = λ s continues.
    let entries = c.args.run.now.entries in
    let all : take c.loop-entry.entry-index entries ≡ entries = take_all c.loop-entry.entry-index entries (omega (arith, ap length c.items-entry-items.ensures)) in
    c.loop-entry.invariant ∙ (ap (λ l. generation_by (reverse l)) all ∙ generation-state_of s (reverse entries) continues)
