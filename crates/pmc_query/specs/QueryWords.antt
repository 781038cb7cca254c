-- The words of a text that follow another word.
use Rattle.std.specs.Prelude.{ℕ, List, [], Option, Some, None}
use Rattle.ptp_management.specs.ManagementQueries.{words_of}

-- the words behind a space, where there is one
abbrev pub words_behind : Option (List ℕ) → List (List ℕ)
words_behind None = []
words_behind (Some rest) = words_of rest
