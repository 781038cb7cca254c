-- Lines of words with a space between any two: such a line may be shown, and falls into its words.
use Rattle.std.proofs.Common.{◌≡◌, ℕ, Bool, true, false, ◌&&◌, nat_le, List, [], ◌∷◌, ◌++◌, refl, ap, ◌∙◌, arith}
use Rattle.std.specs.List.{filter, list_all, onto_first, slice_split}
use Rattle.std.proofs.lemmas.Bool.{and_parts, and_from}
use Rattle.std.proofs.lemmas.List.Folds.{list_all-append}
use Rattle.std.proofs.lemmas.List.Splits.{slice_split-cons_no}
use Rattle.text_io.specs.TextLines.{words_of, is_blank, is_filled, is_shown, is_printable}

-- an octet of a word: a character that shows, and no blank
abbrev pub is_solid : ℕ → Bool
is_solid octet = nat_le 33 octet && nat_le octet 126

-- all octets are such
abbrev pub are_solid : List ℕ → Bool
are_solid word = list_all is_solid word

-- one or more of them
abbrev pub is_whole : List ℕ → Bool
is_whole word = is_filled word && are_solid word

-- words
abbrev pub are_whole : List (List ℕ) → Bool
are_whole words = list_all is_whole words

-- words with a space between any two
abbrev pub joined : List (List ℕ) → List ℕ
joined [] = []
joined (word ∷ []) = word
joined (word ∷ next ∷ rest) = word ++ (32 ∷ joined (next ∷ rest))

solid_shown : (c : ℕ) → is_solid c ≡ true → is_shown c ≡ true
solid_shown c is = grind arith

solid_filled : (c : ℕ) → is_solid c ≡ true → is_blank c ≡ false
solid_filled c is = grind arith

-- ---- a line falls into its words

one_word : (word : List ℕ) → are_solid word ≡ true → slice_split is_blank word ≡ word ∷ []
one_word [] solid = refl
one_word (c ∷ cs) solid =
    let both = and_parts (is_solid c) (are_solid cs) solid in
    slice_split-cons_no is_blank c cs (solid_filled c both.0) ∙ ap (onto_first c) (one_word cs both.1)

first_word : (word rest : List ℕ) → are_solid word ≡ true → slice_split is_blank (word ++ (32 ∷ rest)) ≡ word ∷ slice_split is_blank rest
first_word [] rest solid = refl
first_word (c ∷ cs) rest solid =
    let both = and_parts (is_solid c) (are_solid cs) solid in
    slice_split-cons_no is_blank c (cs ++ (32 ∷ rest)) (solid_filled c both.0) ∙ ap (onto_first c) (first_word cs rest both.1)

split-joined : (word : List ℕ) (words : List (List ℕ)) → are_whole (word ∷ words) ≡ true → slice_split is_blank (joined (word ∷ words)) ≡ word ∷ words
split-joined word [] whole =
    let both = and_parts (is_whole word) true whole in
    one_word word ((and_parts (is_filled word) (are_solid word) both.0).1)
split-joined word (next ∷ rest) whole =
    let both = and_parts (is_whole word) (are_whole (next ∷ rest)) whole in
    first_word word (joined (next ∷ rest)) ((and_parts (is_filled word) (are_solid word) both.0).1)
    ∙ ap (λ ws. word ∷ ws) (split-joined next rest both.1)

all_filled : (words : List (List ℕ)) → are_whole words ≡ true → filter is_filled words ≡ words
all_filled [] whole = refl
all_filled (word ∷ words) whole =
    let both = and_parts (is_whole word) (are_whole words) whole in
    rw ((and_parts (is_filled word) (are_solid word) both.0).0) (ap (λ ws. word ∷ ws) (all_filled words both.1))

pub words_of-joined : (words : List (List ℕ)) → are_whole words ≡ true → words_of (joined words) ≡ words
words_of-joined [] whole = refl
words_of-joined (word ∷ words) whole = ap (filter is_filled) (split-joined word words whole) ∙ all_filled (word ∷ words) whole

-- ---- it may be shown

solid_printable : (word : List ℕ) → are_solid word ≡ true → is_printable word ≡ true
solid_printable [] solid = refl
solid_printable (c ∷ cs) solid =
    let both = and_parts (is_solid c) (are_solid cs) solid in
    and_from (is_shown c) (is_printable cs) (solid_shown c both.0) (solid_printable cs both.1)

pub printable-joined : (words : List (List ℕ)) → are_whole words ≡ true → is_printable (joined words) ≡ true
printable-joined [] whole = refl
printable-joined (word ∷ []) whole =
    let both = and_parts (is_whole word) true whole in
    solid_printable word ((and_parts (is_filled word) (are_solid word) both.0).1)
printable-joined (word ∷ next ∷ rest) whole =
    let both = and_parts (is_whole word) (are_whole (next ∷ rest)) whole in
    let first = solid_printable word ((and_parts (is_filled word) (are_solid word) both.0).1) in
    list_all-append is_shown word (32 ∷ joined (next ∷ rest)) ∙ and_from (is_printable word) (is_printable (joined (next ∷ rest))) first (printable-joined (next ∷ rest) both.1)

-- ---- parts of words

pub solid-append : (xs ys : List ℕ) → are_solid xs ≡ true → are_solid ys ≡ true → are_solid (xs ++ ys) ≡ true
solid-append xs ys first second = list_all-append is_solid xs ys ∙ and_from (are_solid xs) (are_solid ys) first second

filled-append : (xs ys : List ℕ) → is_filled xs ≡ true → is_filled (xs ++ ys) ≡ true
filled-append [] ys filled = cc
filled-append (x ∷ xs) ys filled = grind arith

-- a word with more behind it
pub whole-append : (xs ys : List ℕ) → is_whole xs ≡ true → are_solid ys ≡ true → is_whole (xs ++ ys) ≡ true
whole-append xs ys whole solid =
    let both = and_parts (is_filled xs) (are_solid xs) whole in
    and_from (is_filled (xs ++ ys)) (are_solid (xs ++ ys)) (filled-append xs ys both.0) (solid-append xs ys both.1 solid)
