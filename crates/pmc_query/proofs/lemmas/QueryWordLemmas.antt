-- The first word of a text, and its number.
use Rattle.std.proofs.Common.{◌≡◌, ℕ, zero, suc, ◌+◌, ◌-◌, ◌*◌, ◌^◌, ◌<◌, ◌≤◌, List, [], ◌∷◌, length, take, drop, get_or, refl, sym, ap, ◌∙◌, arith, Bool, true, false, cond, lit<, add-one, drop-cons}
use Rattle.std.proofs.lemmas.Bool.Decides.{nat_tests}
use Rattle.std.proofs.lemmas.List.Splits.{slice_split_first}
use Rattle.std.proofs.lemmas.List.Sums.{fold_more}
use Rattle.std.proofs.Math.Nat.{pow-suc, pow-le-pow_right}
use Rattle.std.specs.List.{position, position_or_len, slice_split, onto_first, list_all}
use Rattle.std.specs.Prelude.{Option, Some, None, IsTrue, not, nat_lt, ◌==◌, ◌&&◌}
use Rattle.std.specs.Char.{is_ascii_digit}
use Rattle.ptp_management.specs.ManagementQueries.{action_asked, action_named, asked_by, id_named, name_asked, named_asked, number_of_digits, target_asked, words_asked, words_of}
use Rattle.ptp_management.specs.declared.managed.Action.{Action}
use Rattle.ptp_management.specs.declared.query.AskError.{AskError}
use Rattle.ptp_management.specs.declared.table.ManagementId.{ManagementId}
use Rattle.ptp_management.specs.declared.query.Request.{Request}
use Rattle.std.specs.Prelude.{Result}

abbrev space : ℕ → Bool
space c = c == 32

alone : (c : ℕ) (cs : List ℕ) (t : Bool) → (length cs ≤ position_or_len space cs → slice_split space cs ≡ cs ∷ [])
    → suc (length cs) ≤ cond (not t) (1 + position_or_len space cs) 0
    → cond t ([] ∷ slice_split space cs) (onto_first c (slice_split space cs)) ≡ (c ∷ cs) ∷ []
alone c cs true rest h = absurd (omega arith)
alone c cs false rest h = let short : length cs ≤ position_or_len space cs = omega arith in ap (onto_first c) (rest short)

no_space : (text : List ℕ) → length text ≤ position_or_len space text → slice_split space text ≡ text ∷ []
no_space [] h = refl
no_space (c ∷ cs) h = alone c cs (space c) (no_space cs) h

none_found : (n k : ℕ) (t : Bool) → nat_lt n k ≡ t → cond t (Some n) None ≡ None → k ≤ n
none_found n k true t e = cc
none_found n k false t e = grind (arith, nat_tests)

some_found : (n k i : ℕ) (t : Bool) → nat_lt n k ≡ t → cond t (Some n) None ≡ Some i → (n < k) × (n ≡ i)
some_found n k i true t e = (grind (arith, nat_tests), cc)
some_found n k i false t e = cc

-- without a space the text is one word
pub one_word : (text : List ℕ) → position (λ c. c == 32) text ≡ None → words_of text ≡ text ∷ []
one_word text e = no_space text (none_found (position_or_len space text) (length text) (nat_lt (position_or_len space text) (length text)) refl e)

-- the first word ends at the first space
pub word_before : (text : List ℕ) (i : ℕ) → position (λ c. c == 32) text ≡ Some i → words_of text ≡ take i text ∷ words_of (drop (i + 1) text)
word_before text i e =
    let at = some_found (position_or_len space text) (length text) i (nat_lt (position_or_len space text) (length text)) refl e in
    let split : slice_split space text ≡ take (position_or_len space text) text ∷ slice_split space (drop (position_or_len space text + 1) text) =
    slice_split_first space text 0 at.0 in
    split ∙ ap (λ (n : ℕ). take n text ∷ slice_split space (drop (n + 1) text)) at.1

-- ---- a number, digit by digit

-- twenty digits are below 10 ^ 20
pub grows : (n i d : ℕ) → n < 10 ^ i → d < 10 → 10 * n + d < 10 ^ (i + 1)
grows n i d h k = let power : 10 ^ (i + 1) ≡ 10 ^ i * 10 = rw add-one (pow-suc 10 i) in omega arith

pub small : (n i : ℕ) → n < 10 ^ i → i ≤ 20 → n < 10 ^ 20
small n i h k = let most : 10 ^ i ≤ 10 ^ 20 = pow-le-pow_right (lit< tt) k in omega (arith, most)

-- ---- digits

pub digits_more : (word : List ℕ) (i d : ℕ) (whole : Bool) → i < length word → list_all is_ascii_digit (drop i word) ≡ whole
    → is_ascii_digit (get_or word i d) ≡ true → list_all is_ascii_digit (drop (i + 1) word) ≡ whole
digits_more word i d whole lt so e =
    let split : drop i word ≡ get_or word i d ∷ drop (i + 1) word = rw add-one (drop-cons word i d lt) in
    ap (λ (b : Bool). b && list_all is_ascii_digit (drop (i + 1) word)) (sym e) ∙ sym (ap (list_all is_ascii_digit) split) ∙ so

pub digits_stop : (word : List ℕ) (i d : ℕ) (whole : Bool) → i < length word → list_all is_ascii_digit (drop i word) ≡ whole
    → is_ascii_digit (get_or word i d) ≡ false → false ≡ whole
digits_stop word i d whole lt so e =
    let split : drop i word ≡ get_or word i d ∷ drop (i + 1) word = rw add-one (drop-cons word i d lt) in
    ap (λ (b : Bool). b && list_all is_ascii_digit (drop (i + 1) word)) (sym e) ∙ sym (ap (list_all is_ascii_digit) split) ∙ so

-- each of digits is one
pub digit_at : (word : List ℕ) (i d : ℕ) → IsTrue (list_all is_ascii_digit word) → i < length word → IsTrue (is_ascii_digit (get_or word i d))
digit_at [] i d h lt = absurd (omega arith)
digit_at (c ∷ cs) zero d h lt = first (is_ascii_digit c) (list_all is_ascii_digit cs) h
  where
    first : (a b : Bool) → (a && b) ≡ true → a ≡ true
    first true b e = refl
    first false b e = cc
digit_at (c ∷ cs) (suc i) d h lt = let less : i < length cs = omega arith in digit_at cs i d (second (is_ascii_digit c) (list_all is_ascii_digit cs) h) less
  where
    second : (a b : Bool) → (a && b) ≡ true → b ≡ true
    second true b e = e
    second false b e = cc

digit_value : (d : ℕ) → IsTrue (is_ascii_digit d) → d - 48 < 10
digit_value d h = grind (arith, nat_tests)

-- one digit further
pub number_more : (word : List ℕ) (i d n new : ℕ) → IsTrue (list_all is_ascii_digit word) → i < length word → n ≡ number_of_digits (take i word)
    → n < 10 ^ i → new ≡ 10 * n + (get_or word i d - 48) → (new ≡ number_of_digits (take (i + 1) word)) × (new < 10 ^ (i + 1))
number_more word i d n new h lt so small_n is =
    let value = digit_value (get_or word i d) (digit_at word i d h lt) in
    let more : number_of_digits (take (i + 1) word) ≡ 10 * number_of_digits (take i word) + (get_or word i d - 48) =
    fold_more (λ n c. 10 * n + (c - 48)) 0 word i d lt in
    let below : 10 * n + (get_or word i d - 48) < 10 ^ (i + 1) = grows n i (get_or word i d - 48) small_n value in
    (is ∙ ap (λ (m : ℕ). 10 * m + (get_or word i d - 48)) so ∙ sym more, omega (arith, below, is))

-- ---- the words of a text

no_target : (word : List ℕ) (c : ℕ) (t : Bool) (parts : List (List ℕ)) → target_asked (word ∷ cond t ([] ∷ parts) (onto_first c parts)) ≡ None
no_target word c true parts = refl
no_target word c false [] = refl
no_target word c false (part ∷ parts) = refl

-- a word more than there may be
pub one_too_many : (word text : List ℕ) → None ≡ target_asked (word ∷ words_of text)
one_too_many word [] = refl
one_too_many word (c ∷ cs) = sym (no_target word c (space c) (slice_split space cs))

pub target_from : (text word : List ℕ) (behind : List (List ℕ)) (r : Option ℕ) → words_of text ≡ word ∷ behind → r ≡ target_asked (word ∷ behind)
    → r ≡ target_asked (words_of text)
target_from text word behind r split is = is ∙ sym (ap target_asked split)

pub name_from : (text word : List ℕ) (behind : List (List ℕ)) (a : Action) (id : Option ManagementId) (r : Result Request AskError)
    → words_of text ≡ word ∷ behind → id ≡ id_named word → r ≡ named_asked a behind id → r ≡ name_asked a (words_of text)
name_from text word behind a id r split named is = is ∙ ap (named_asked a behind) named ∙ sym (ap (name_asked a) split)

pub asked_from : (text word : List ℕ) (behind : List (List ℕ)) (a : Option Action) (r : Result Request AskError) → words_of text ≡ word ∷ behind
    → a ≡ action_named word → r ≡ action_asked a behind → r ≡ asked_by text
unfolding asked_by
asked_from text word behind a r split named is = is ∙ ap (λ (x : Option Action). action_asked x behind) named ∙ sym (ap words_asked split)
