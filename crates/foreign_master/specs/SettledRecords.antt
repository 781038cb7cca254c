-- When the best of the kept Announces is known without a comparison (project).
use Rattle.std.specs.Prelude.{ℕ, Bool, true, ◌==◌, ◌||◌, List, [], ◌∷◌, length}
use Rattle.ptp_profile.specs.declared.foreign_master.KeptAnnounce.{KeptAnnounce}
use Rattle.ptp_profile.specs.Best.ForeignMasters.{qualified}

-- the qualified set at m is empty, or it is that of the moment of the last kept Announce: from that
-- on nothing joins the set, so it is the same exactly where it has as many members
abbrev pub is_settled : ℕ → ℕ → List KeptAnnounce → Bool
is_settled w m [] = true
is_settled w m (h ∷ kept) =
    (length (qualified w m (h ∷ kept)) == 0)
    || (length (qualified w m (h ∷ kept)) == length (qualified w h.at (h ∷ kept)))
