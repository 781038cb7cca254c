-- Sources and sinks in memory, and what one call of each does.
use Rattle.std.specs.Prelude.{ℕ, ◌+◌, ◌-◌, ◌^◌, min, List, ◌++◌, length, drop}

-- what is left, the most octets that one call moves, how many calls there were, the numbers of the
-- calls that fail, and how many failed
pub record SourceView : Type 0 where
  pub left : List ℕ
  pub most : ℕ
  pub calls : ℕ
  pub failing : List ℕ
  pub faults : ℕ

-- what was written, and the rest as for a source
pub record SinkView : Type 0 where
  pub written : List ℕ
  pub most : ℕ
  pub calls : ℕ
  pub failing : List ℕ
  pub faults : ℕ

-- what is left in a source that never fails, and the most octets that one call moves
pub record SureSourceView : Type 0 where
  pub left : List ℕ
  pub most : ℕ

-- one more, up to the end of the range
abbrev pub with_one_more : ℕ → ℕ
with_one_more n = min (n + 1) (2 ^ 64 - 1)

-- a read that doesn't fail gives as much as it may: the most, what is left, or what the buffer
-- holds
abbrev pub read_length : ℕ → List ℕ → List ℕ → ℕ
read_length most left buffer = min (min most (length left)) (length buffer)

-- the source after a read of n octets, and after one that failed
abbrev pub after_read : SourceView → ℕ → SourceView
after_read s n = record s { left = drop n s.left; calls = with_one_more s.calls }

abbrev pub after_failed_read : SourceView → SourceView
after_failed_read s = record s { calls = with_one_more s.calls; faults = with_one_more s.faults }

-- the sink after a write, and after one that failed
abbrev pub after_write : SinkView → List ℕ → SinkView
after_write s piece = record s { written = s.written ++ piece; calls = with_one_more s.calls }

abbrev pub after_failed_write : SinkView → SinkView
after_failed_write s = record s { calls = with_one_more s.calls; faults = with_one_more s.faults }
