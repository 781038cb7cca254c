-- The words of a line, as the code keeps them.
use Rattle.std.specs.Prelude.{◌≡◌, ℕ, Bool, List, [], ◌∷◌, Option, Some, None}
use Rattle.std.specs.Borrow.{Bor}
use Rattle.text_io.specs.TextLines.{words_of, is_printable}

-- a word of the code, or none
abbrev pub Slot : Type 0
Slot = Option (Bor (List ℕ))

-- the first of the words, if there is one
abbrev pub IsFirst : Slot → List (List ℕ) → Type 0
IsFirst None words = words ≡ []
IsFirst (Some a) words = (rest : List (List ℕ)) × (words ≡ a.now ∷ rest)

-- five words, or so many as there are, are the first of these
abbrev pub AreFirst : (a b c d e : Slot) → List (List ℕ) → Type 0
AreFirst None b c d e words = words ≡ []
AreFirst (Some a) None c d e words = words ≡ a.now ∷ []
AreFirst (Some a) (Some b) None d e words = words ≡ a.now ∷ b.now ∷ []
AreFirst (Some a) (Some b) (Some c) None e words = words ≡ a.now ∷ b.now ∷ c.now ∷ []
AreFirst (Some a) (Some b) (Some c) (Some d) None words =
    words ≡ a.now ∷ b.now ∷ c.now ∷ d.now ∷ []
AreFirst (Some a) (Some b) (Some c) (Some d) (Some e) words =
    (rest : List (List ℕ)) × (words ≡ a.now ∷ b.now ∷ c.now ∷ d.now ∷ e.now ∷ rest)

-- what the code keeps of a line's words stands for them
abbrev pub WordsRepresent : Slot × Slot × Slot × Slot × Slot → List (List ℕ) → Type 0
WordsRepresent (a, b, c, d, e) words = AreFirst a b c d e words

-- what the code keeps of a line beside its octets: its first words, and whether all octets may
-- stand in a text
pub record LineRepresents
    (first : Slot × Slot × Slot × Slot × Slot) (printable : Bool) (octets : List ℕ) : Type 0 where
  pub words : WordsRepresent first (words_of octets)
  pub all_printable : printable ≡ is_printable octets
