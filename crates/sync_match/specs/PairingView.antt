-- What a Pairing keeps, and the whole list of pieces since it was last cleared, the newest first.
use Rattle.std.specs.Prelude.{◌≡◌, ℕ, ℤ, Bool, if◌then◌else◌, List, [], ◌∷◌, Option, Some, None, option_map, is_none}
use Rattle.ptp_profile.specs.Timing.OffsetAndDelay.{Piece, One_step, Sync, Follow_up, triple_after}
use Rattle.sync_match.specs.declared.piece.Piece as code
use Rattle.sync_match.specs.declared.piece.Piece.TheVariants as code_piece

-- a Sync bears its own origin, or one comes in a Follow_Up
abbrev pub sync_of : ℕ → Bool → ℤ → ℤ → ℤ → Piece
sync_of seq two_step origin arrived correction =
    if two_step then Sync seq arrived correction else One_step origin arrived correction

-- the piece that the code keeps
abbrev pub piece_of : code.Piece → Piece
piece_of (code_piece.Sync seq arrived correction) = Sync seq arrived correction
piece_of (code_piece.FollowUp seq precise correction) = Follow_up seq precise correction

-- the piece that waits for a partner: the newest, if it gave nothing
abbrev pub waiting : List Piece → Option Piece
waiting [] = None
waiting (piece ∷ before) = if is_none (triple_after piece before) then Some piece else None

-- what is kept is the piece that waits
abbrev pub PairingRepresents : Option code.Piece → List Piece → Type 0
PairingRepresents kept pieces = option_map piece_of kept ≡ waiting pieces
