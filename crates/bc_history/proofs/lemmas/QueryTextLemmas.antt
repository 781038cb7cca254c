-- The texts of queries: cutting undoes joining, and the words of a printable line are words.
use Rattle.std.proofs.Common.{◌≡◌, ℕ, Bool, true, false, cond, ◌&&◌, List, [], ◌∷◌, length, refl, sym, ap, ◌∙◌, subst, arith, inl, inr, ne_eqb}
use Rattle.std.specs.Prelude.{nat_le, ◌==◌}
use Rattle.std.specs.List.{All, slice_split, onto_first, join_with_byte}
use Rattle.std.proofs.lemmas.Bool.{or_parts, or_cases, and_parts, ltb-true, leb-true, eqb-true, eqb-false}
use Rattle.std.proofs.lemmas.List.Elements.{All-nil, All-cons, All-head, All-tail, All-weaker, All-filter, filter_passes}
use Rattle.std.proofs.lemmas.List.Splits.{slice_split_none, slice_split_at}
use Rattle.std.proofs.lemmas.List.Sums.{AllPass-from_list_all}
use Rattle.text_io.specs.TextLines.{words_of, is_printable, is_shown, is_filled, is_blank}
use Rattle.bc_history.specs.Scenario.OptionTable.{IsFrom}
use Rattle.bc_history.specs.Scenario.QueryTexts.{IsWord, IsQueryText}

-- ---- the pieces of a list

-- one more element before the pieces: it opens a piece, or stands in the first one
piece_more : {X : Type 0} (Q : X → Type 0) (x : X) (cut : Bool) (parts : List (List X)) → (cut ≡ false → Q x) → All (All Q) parts
    → All (All Q) (cond cut ([] ∷ parts) (onto_first x parts))
piece_more Q x true parts one each = All-cons (All Q) [] parts (All-nil Q) each
piece_more Q x false [] one each = All-cons (All Q) (x ∷ []) [] (All-cons Q x [] (one refl) (All-nil Q)) (All-nil (All Q))
piece_more Q x false (part ∷ parts) one each =
    All-cons (All Q) (x ∷ part) parts (All-cons Q x part (one refl) (All-head (All Q) part parts each)) (All-tail (All Q) part parts each)

-- what is so of each element is so in each piece, and no element of a piece is one at which the list is cut
pub pieces : {X : Type 0} (p : X → Bool) (P : X → Type 0) (xs : List X) → All P xs → All (All (λ (x : X). P x × (p x ≡ false))) (slice_split p xs)
pieces {X} p P [] each = All-cons (All (λ (x : X). P x × (p x ≡ false))) [] [] (All-nil (λ (x : X). P x × (p x ≡ false))) (All-nil (All (λ (x : X). P x × (p x ≡ false))))
pieces {X} p P (x ∷ xs) each =
    piece_more (λ (x : X). P x × (p x ≡ false)) x (p x) (slice_split p xs) (λ other. (All-head P x xs each, other)) (pieces p P xs (All-tail P x xs each))

-- ---- words

-- an octet that is shown and no blank may stand in a word
in_word : (octet : ℕ) → is_shown octet ≡ true → is_blank octet ≡ false → IsFrom 0x21 0x7E octet
in_word octet shown solid =
    let other : ((octet == 32) ≡ false) × ((octet == 9) ≡ false) = or_parts (octet == 32) (octet == 9) solid in
    elim (or_cases (octet == 9) (nat_le 32 octet && nat_le octet 126) shown) [
      | inl tab ↦ absurd (eqb-false octet 9 other.1 (eqb-true octet 9 tab))
      | inr ascii ↦
          let parts : (nat_le 32 octet ≡ true) × (nat_le octet 126 ≡ true) = and_parts (nat_le 32 octet) (nat_le octet 126) ascii in
          let low = leb-true 32 octet parts.0 in
          let high = leb-true octet 126 parts.1 in
          (omega (arith, low, eqb-false octet 32 other.0), high)
    ]

-- a filled piece of a printable line is a word
is_word_of_line : (word : List ℕ) → is_filled word ≡ true → All (λ (octet : ℕ). (is_shown octet ≡ true) × (is_blank octet ≡ false)) word → IsWord word
is_word_of_line word filled each = record {
  length = omega (arith, ltb-true 0 (length word) filled);
  printable = All-weaker (λ (octet : ℕ). (is_shown octet ≡ true) × (is_blank octet ≡ false)) (λ (octet : ℕ). IsFrom 0x21 0x7E octet)
      (λ octet both. in_word octet both.0 both.1) word each;
}

-- the words of a printable line are words
pub printable_words : (line : List ℕ) → is_printable line ≡ true → All IsWord (words_of line)
printable_words line printable =
    let parts = slice_split is_blank line in
    let shown = pieces is_blank (λ (octet : ℕ). is_shown octet ≡ true) line (AllPass-from_list_all is_shown line printable) in
    let each = All-filter is_filled (All (λ (octet : ℕ). (is_shown octet ≡ true) × (is_blank octet ≡ false))) parts shown in
    λ k d below. is_word_of_line _ (filter_passes is_filled parts k d below) (each k d below)

-- ---- joined words

-- no octet of a word is a space
solid : (word : List ℕ) → IsWord word → All (λ (octet : ℕ). (octet == 32) ≡ false) word
solid word is = All-weaker (λ (octet : ℕ). IsFrom 0x21 0x7E octet) (λ (octet : ℕ). (octet == 32) ≡ false)
    (λ octet range. ne_eqb octet 32 (λ e. omega (arith, range.0, e))) word is.printable

-- words that were joined by spaces are cut at spaces again
split_joined : (word : List ℕ) (words : List (List ℕ)) → All IsWord (word ∷ words)
    → slice_split (λ (octet : ℕ). octet == 32) (join_with_byte 32 (word ∷ words)) ≡ word ∷ words
split_joined word [] each = slice_split_none (λ (octet : ℕ). octet == 32) word (solid word (All-head IsWord word [] each))
split_joined word (next ∷ words) each =
    slice_split_at (λ (octet : ℕ). octet == 32) word 32 (join_with_byte 32 (next ∷ words)) (solid word (All-head IsWord word (next ∷ words) each)) refl
    ∙ ap (λ (rest : List (List ℕ)). word ∷ rest) (split_joined next words (All-tail IsWord word (next ∷ words) each))

-- words that were joined by spaces are the text of a query
pub joined_words : (word : List ℕ) (words : List (List ℕ)) → All IsWord (word ∷ words) → IsQueryText (join_with_byte 32 (word ∷ words))
joined_words word words each = subst (All IsWord) (sym (split_joined word words each)) each
