-- The first of the least elements of a list, by a key.
use Rattle.std.specs.Prelude.{ℕ, nat_lt, if◌then◌else◌, List, fold, Option, Some, None}

-- the first of the least so far, and one element more: that takes its place only where its key is
-- less
abbrev pub lesser : {X : Type 0} → (X → ℕ) → Option X → X → Option X
lesser key None x = Some x
lesser key (Some first) x = if nat_lt (key x) (key first) then Some x else Some first

-- the first of the elements with the least key, where there is an element
abbrev pub first_least : {X : Type 0} → (X → ℕ) → List X → Option X
first_least key xs = fold (lesser key) None xs
