use Rattle.std.proofs.Common.{◌≡◌, ◌∷◌, length}
use Rattle.std.specs.List.{join_with_byte}
use Rattle.bc_config.proofs.draft.query.joined.Given as goal

abbrev pub invariant-loop-word : goal.invariant-loop-word
invariant-loop-word l = join_with_byte 32 (l.text ∷ l.words) ≡ join_with_byte 32 (l.first ∷ l.fn.words)

abbrev pub decreases-loop-word : goal.decreases-loop-word
decreases-loop-word l = length l.words
