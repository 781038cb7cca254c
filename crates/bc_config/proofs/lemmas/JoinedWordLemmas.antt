-- Words joined by one space, one after the other.
use Rattle.std.proofs.Common.{◌≡◌, ℕ, List, [], ◌∷◌, ◌++◌, append_assoc}
use Rattle.std.specs.List.{join_with_byte}

-- the next word goes behind the text so far
pub join_next : (text word : List ℕ) (words : List (List ℕ)) → join_with_byte 32 (((text ++ 32 ∷ []) ++ word) ∷ words) ≡ join_with_byte 32 (text ∷ word ∷ words)
join_next text word [] = simp append_assoc
join_next text word (next ∷ words) = simp append_assoc
