-- What writing a text does to a sink.
use Rattle.std.specs.Prelude.{◌≡◌, ℕ, ◌<◌, List, Option, length, take}
use Rattle.std.specs.Io.KnownBytes.{Appends, Keeps}
use Rattle.text_io.specs.SourceAndSink.{Counted}

-- a sink before a call and after it: what was written, where it tells that, and the count of its
-- faults
pub record Writes : Type 0 where
  pub written : Option (List ℕ)
  pub written_after : Option (List ℕ)
  pub faults : ℕ
  pub faults_after : ℕ

-- what was written before and after, and the counts of faults
abbrev pub writes_of : Option (List ℕ) → Option (List ℕ) → ℕ → ℕ → Writes
writes_of written written_after faults faults_after =
    record {
      written = written;
      written_after = written_after;
      faults = faults;
      faults_after = faults_after;
    }

-- nothing was written
pub record IsUnwritten (w : Writes) : Type 0 where
  pub kept : Keeps w.written w.written_after
  pub faults : w.faults_after ≡ w.faults

-- the whole text was written, and no write failed
pub record IsWritten (w : Writes) (text : List ℕ) : Type 0 where
  pub appended : Appends w.written w.written_after text
  pub faults : w.faults_after ≡ w.faults

-- a write failed, after a part of the text
pub record IsWriteFault (w : Writes) (text : List ℕ) : Type 0 where
  pub count : ℕ
  pub part : count < length text
  pub appended : Appends w.written w.written_after (take count text)
  pub counted : Counted w.faults w.faults_after
