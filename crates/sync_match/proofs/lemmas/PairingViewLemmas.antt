-- What a piece gives depends on the piece that waits alone.
use Rattle.std.proofs.Common.{◌≡◌, ℕ, ℤ, ◌+ℤ◌, arith, Bool, true, false, cond, List, [], ◌∷◌, Option, Some, None, refl, sym, ap, ◌∙◌}
use Rattle.std.specs.Prelude.{is_none, option_map}
use Rattle.ptp_base.specs.declared.triple.Triple.{Triple}
use Rattle.ptp_profile.specs.Timing.OffsetAndDelay.{Piece, Sync, Follow_up, triple_after, triple_of_pieces, triple_from}
use Rattle.sync_match.specs.declared.piece.Piece as code
use Rattle.sync_match.specs.declared.piece.Piece.TheVariants as code_piece
use Rattle.sync_match.specs.PairingView.{piece_of, waiting, PairingRepresents}

-- what a piece gives with the one that waits
abbrev pub triple_with : Option Piece → Piece → Option Triple
triple_with None piece = None
triple_with (Some former) piece = triple_of_pieces former piece

met : (b : Bool) (former piece : Piece) → cond b (triple_of_pieces former piece) None ≡ triple_with (cond b (Some former) None) piece
met true former piece = refl
met false former piece = refl

pub Sync-waiting : (seq : ℕ) (arrived c : ℤ) (before : List Piece) → triple_after (Sync seq arrived c) before ≡ triple_with (waiting before) (Sync seq arrived c)
Sync-waiting seq arrived c [] = refl
Sync-waiting seq arrived c (former ∷ before) = met (is_none (triple_after former before)) former (Sync seq arrived c)

pub Follow_up-waiting : (seq : ℕ) (precise c : ℤ) (before : List Piece) → triple_after (Follow_up seq precise c) before ≡ triple_with (waiting before) (Follow_up seq precise c)
Follow_up-waiting seq precise c [] = refl
Follow_up-waiting seq precise c (former ∷ before) = met (is_none (triple_after former before)) former (Follow_up seq precise c)

pub follow_up_paired : (kept : Option code.Piece) (seq other : ℕ) (precise arrived c d : ℤ) (before : List Piece) →
    PairingRepresents kept before → kept ≡ Some (code_piece.Sync other arrived c) → other ≡ seq →
    Some (triple_from precise arrived (c +ℤ d)) ≡ triple_after (Follow_up seq precise d) before
follow_up_paired kept seq other precise arrived c d before remembers is same = grind (arith, Follow_up-waiting)

pub sync_paired : (kept : Option code.Piece) (seq other : ℕ) (precise arrived c d : ℤ) (before : List Piece) →
    PairingRepresents kept before → kept ≡ Some (code_piece.FollowUp other precise d) → other ≡ seq →
    Some (triple_from precise arrived (c +ℤ d)) ≡ triple_after (Sync seq arrived c) before
sync_paired kept seq other precise arrived c d before remembers is same =
    met_sync (waiting before) (sym remembers ∙ ap (option_map piece_of) is) ∙ sym (Sync-waiting seq arrived c before)
  where
    met_sync : (w : Option Piece) → w ≡ Some (Follow_up other precise d) → Some (triple_from precise arrived (c +ℤ d)) ≡ triple_with w (Sync seq arrived c)
    met_sync w at = grind arith
