-- Frames that are still to be written.
use Rattle.std.specs.Prelude.{◌≡◌, ℕ, ⊤, []}
use Rattle.ptp_base.specs.Room.{Reserved}
use Rattle.ptp_base.specs.declared.limits.TheConstants.{SENT_MAX}
use Rattle.port_engine.specs.declared.blank_frames.Blanks.{Blanks}
use Rattle.port_engine.specs.declared.blank_frames.Blanks.TheVariants.{Empty, One, Two}

-- how many frames are blank
abbrev pub count_of : Blanks → ℕ
count_of Empty = 0
count_of (One frame) = 1
count_of (Two frame next) = 2

-- nothing is written, and the longest message has a place
abbrev pub IsBlank : Reserved ℕ → Type 0
IsBlank frame = frame ≡ record { items = []; spare = SENT_MAX }

-- all of them are blank
abbrev pub AreBlank : Blanks → Type 0
AreBlank Empty = ⊤
AreBlank (One frame) = IsBlank frame
AreBlank (Two frame next) = IsBlank frame × IsBlank next
