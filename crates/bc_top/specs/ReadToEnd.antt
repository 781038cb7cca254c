-- What reading a source to its end does to it.
use Rattle.std.specs.Prelude.{◌≡◌, ℕ, ◌+◌, ◌≤◌, List, length, Option}
use Rattle.std.specs.Io.KnownBytes.{Consumes, Keeps, IsAtEnd}
use Rattle.ptp_base.specs.declared.limits.TheConstants.{TEXT_MAX}
use Rattle.text_io.specs.SourceAndSink.{Counted}
use Rattle.bc_top.specs.declared.read.ReadError.{ReadError}
use Rattle.bc_top.specs.declared.read.ReadError.TheVariants.{Fault, TooLong, NoMemory}

-- a source before a call and after it: what is left, where it tells that, and the count of its
-- faults
pub record Reads : Type 0 where
  pub left : Option (List ℕ)
  pub left_after : Option (List ℕ)
  pub faults : ℕ
  pub faults_after : ℕ

-- what was left before and after, and the counts of faults
abbrev pub reads_of : Option (List ℕ) → Option (List ℕ) → ℕ → ℕ → Reads
reads_of left left_after faults faults_after =
    record { left = left; left_after = left_after; faults = faults; faults_after = faults_after }

-- nothing was read
pub record IsUnread (r : Reads) : Type 0 where
  pub kept : Keeps r.left r.left_after
  pub faults : r.faults_after ≡ r.faults

-- these octets were read, and no read failed
pub record AreRead (r : Reads) (octets : List ℕ) : Type 0 where
  pub given : Consumes r.left r.left_after octets
  pub faults : r.faults_after ≡ r.faults

-- some octets were read
pub record IsReadPart (r : Reads) : Type 0 where
  pub octets : List ℕ
  pub read : AreRead r octets

-- the text is all that was left
pub record IsReadWhole (r : Reads) (text : List ℕ) : Type 0 where
  pub read : AreRead r text
  pub end : IsAtEnd r.left_after
  pub short : length text ≤ TEXT_MAX

-- one octet more was read than a text may have, and none after it
pub record IsReadTooFar (r : Reads) : Type 0 where
  pub octets : List ℕ
  pub read : AreRead r octets
  pub long : length octets ≡ TEXT_MAX + 1

-- a read failed, after some octets
pub record IsReadFault (r : Reads) : Type 0 where
  pub octets : List ℕ
  pub given : Consumes r.left r.left_after octets
  pub short : length octets ≤ TEXT_MAX
  pub counted : Counted r.faults r.faults_after

-- why a source was not read to its end
abbrev pub IsReadError : Reads → ReadError → Type 0
IsReadError r Fault = IsReadFault r
IsReadError r TooLong = IsReadTooFar r
IsReadError r NoMemory = IsReadPart r
