-- The lines that print an answer, as the text has them (project).
use Rattle.std.specs.Prelude.{ℕ, ◌≢◌, ◌≡◌, if◌then◌else◌, List, [], ◌∷◌, ◌++◌, All, Option, Some, None}
use Rattle.std.specs.Str.{bytes_eq}

-- no newline
abbrev pub IsLine : List ℕ → Type 0
IsLine octets = All (λ (octet : ℕ). octet ≢ 10) octets

abbrev pub AreLines : List (List ℕ) → Type 0
AreLines lines = All IsLine lines

-- a text begins with a line and its newline, and goes on behind it
pub record BeginsWith (text line rest : List ℕ) : Type 0 where
  pub first : IsLine line
  pub whole : text ≡ line ++ 10 ∷ rest

-- the lines behind the first, where that is this one
abbrev pub without_first : List (List ℕ) → List ℕ → Option (List (List ℕ))
without_first [] text = None
without_first (line ∷ lines) text = if bytes_eq line text then Some lines else None
