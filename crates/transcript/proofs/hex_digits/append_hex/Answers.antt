use Rattle.std.proofs.Common.{◌∙◌}
use Rattle.transcript.proofs.lemmas.HexDigitLemmas.{all_written, piece_written}
use Rattle.transcript.proofs.hex_digits.append_hex.Goals as goal

pub loop-piece-preserved : goal.loop-piece-preserved
loop-piece-preserved c = record {
  size = c.in-Some.ensures.steps.0 ∙ c.loop-piece.invariant.size;
  text = piece_written _ _ _ _ _ _ c.in-Some.ensures.steps.1.0 c.in_ok-append_piece.ensures c.loop-piece.invariant.text;
}

pub returns : goal.returns
returns c = all_written _ _ _ c.in-None.ensures.steps.1.0 c.loop-piece.invariant.text
