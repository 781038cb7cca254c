-- The word of a seat as one number (project)
use Rattle.std.specs.Prelude.{ℕ, ◌+◌, ◌*◌, ◌≤◌}
use Rattle.ptp_base.specs.declared.limits.TheConstants.{GENERATION_MAX}
use Rattle.seat_word.specs.declared.word.TheConstants.{NUMBER_MAX}
use Rattle.seat_word.specs.declared.word.Word.{Word}

-- each field fits its bits: 18 of the generation, 8 of the controller, 19 of the number and of the row
pub record IsWord (w : Word) : Type 0 where
  pub gener : w.gener ≤ GENERATION_MAX
  pub ctrl : w.ctrl ≤ 255
  pub number : w.number ≤ NUMBER_MAX
  pub row : w.row ≤ NUMBER_MAX

-- the fields one after another, the generation in the highest bits: a controller has 2^8 values, and
-- a number and a row 2^19 each
abbrev pub packed : Word → ℕ
packed w = ((w.gener * 256 + w.ctrl) * 524288 + w.number) * 524288 + w.row
