use Rattle.std.proofs.Common.{◌≡◌, ◌++◌}
use Rattle.hex.specs.Hex.{encode_lower}
use Rattle.transcript.specs.declared.hex_digits.TheConstants.{PIECE}
use Rattle.transcript.proofs.hex_digits.append_hex.Given as goal

abbrev pub invariant-loop-piece : goal.invariant-loop-piece
invariant-loop-piece l = record {
  size : l.piece-iterator.size ≡ PIECE;
  text : l.text ++ encode_lower l.piece-iterator.rest.now ≡ l.fn.text ++ encode_lower l.fn.octets;
}
