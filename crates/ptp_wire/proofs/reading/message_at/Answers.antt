use Rattle.std.proofs.Common.{◌≡◌, ℕ, sym, ap, ◌∙◌}
use Rattle.std.proofs.lemmas.Nat.{and_assoc}
use Rattle.std.specs.Prelude.{bit_and}
use Rattle.ptp_wire.proofs.reading.message_at.Goals as goal

-- flags that were masked stay as they are
masked_twice : (n : ℕ) → bit_and (bit_and n 0x073F) 0x073F ≡ bit_and n 0x073F
masked_twice n = and_assoc 0x073F n 0x073F

pub returns-clause-spelled : goal.returns-clause-spelled
returns-clause-spelled c = record {
  early = c.body_at.ensures.early;
  late = c.body_at.ensures.late;
  flags = ap (λ n. bit_and n 0x073F) c.known_flags.ensures ∙ masked_twice _ ∙ sym c.known_flags.ensures;
}
