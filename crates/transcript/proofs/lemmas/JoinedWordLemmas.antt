-- Words that are parted by one space each: a text of such words splits into them again.
use Rattle.std.proofs.Common.{◌≡◌, ℕ, zero, suc, ◌/◌, ◌%◌, Bool, true, false, not, nat_eq, List, [], ◌∷◌, ◌++◌, refl, ap, ◌∙◌, arith}
use Rattle.std.specs.List.{list_all, onto_first, slice_index}
use Rattle.std.proofs.lemmas.List.Splits.{slice_split-cons_no}
use Rattle.hex.specs.Hex.{encode_lower, encode_with, lower_digits}
use Rattle.ptp_management.specs.ManagementQueries.{words_of}
use Rattle.transcript.proofs.lemmas.ReadNumberLemmas.{is_plain}

-- words with a space between any two
abbrev pub joined : List (List ℕ) → List ℕ
joined [] = []
joined (word ∷ []) = word
joined (word ∷ next ∷ rest) = word ++ (32 ∷ joined (next ∷ rest))

-- no space in any of them
abbrev pub are_plain : List (List ℕ) → Bool
are_plain words = list_all is_plain words

-- a text without a space is one word
pub one_word : (word : List ℕ) → is_plain word ≡ true → words_of word ≡ word ∷ []
one_word [] plain = refl
one_word (c ∷ cs) plain =
    let no : nat_eq c 32 ≡ false = grind arith in
    let rest : words_of cs ≡ cs ∷ [] = one_word cs (grind arith) in
    slice_split-cons_no (λ c. nat_eq c 32) c cs no ∙ ap (onto_first c) rest

-- a word at the front
pub first_word : (word rest : List ℕ) → is_plain word ≡ true → words_of (word ++ (32 ∷ rest)) ≡ word ∷ words_of rest
first_word [] rest plain = refl
first_word (c ∷ cs) rest plain =
    let no : nat_eq c 32 ≡ false = grind arith in
    let more : words_of (cs ++ (32 ∷ rest)) ≡ cs ∷ words_of rest = first_word cs rest (grind arith) in
    slice_split-cons_no (λ c. nat_eq c 32) c (cs ++ (32 ∷ rest)) no ∙ ap (onto_first c) more

pub words_of-joined : (word : List ℕ) (words : List (List ℕ)) → are_plain (word ∷ words) ≡ true → words_of (joined (word ∷ words)) ≡ word ∷ words
words_of-joined word [] plain = one_word word (grind arith)
words_of-joined word (next ∷ rest) plain =
    first_word word (joined (next ∷ rest)) (grind arith) ∙ ap (λ ws. word ∷ ws) (words_of-joined next rest (grind arith))

-- words, each with a space behind it, and then a text
abbrev pub joined_before : List (List ℕ) → List ℕ → List ℕ
joined_before [] text = text
joined_before (word ∷ words) text = word ++ (32 ∷ joined_before words text)

-- words before a text whose words are not known
pub words_before : (words : List (List ℕ)) (text : List ℕ) → are_plain words ≡ true → words_of (joined_before words text) ≡ words ++ words_of text
words_before [] text plain = refl
words_before (word ∷ words) text plain =
    first_word word (joined_before words text) (grind arith) ∙ ap (λ ws. word ∷ ws) (words_before words text (grind arith))

-- ---- hex digits

index_plain : (t : List ℕ) → is_plain t ≡ true → (k : ℕ) → not (nat_eq (slice_index t k) 32) ≡ true
index_plain [] plain k = refl
index_plain (c ∷ cs) plain zero = grind arith
index_plain (c ∷ cs) plain (suc k) = index_plain cs (grind arith) k

encoded_plain : (octets : List ℕ) → is_plain (encode_with lower_digits octets) ≡ true
unfolding encode_with
encoded_plain [] = refl
encoded_plain (octet ∷ octets) =
    rw (index_plain lower_digits refl (octet / 16), index_plain lower_digits refl (octet % 16)) (encoded_plain octets)

pub plain-hex : (octets : List ℕ) → is_plain (encode_lower octets) ≡ true
plain-hex octets = encoded_plain octets
