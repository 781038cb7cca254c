-- Texts of numbers one behind another: a loop that adds the text of each number adds that of all.
use Rattle.std.proofs.Common.{◌≡◌, ℕ, zero, suc, ◌+◌, List, [], ◌++◌, refl, sym, ap, ◌∙◌, arith, append_assoc}
use Rattle.std.specs.List.{flat_map, range_with_len}
use Rattle.std.proofs.lemmas.List.{append-nil}
use Rattle.std.proofs.lemmas.Grind.{flat_map-append}
use Rattle.bc_gen.specs.declared.records.MadeRecord.{MadeRecord}
use Rattle.bc_gen.specs.MadeText.{record_line, record_lines}

-- what a range gives with one number more
pub one_more : {A : Type 0} (f : ℕ → List A) (a n m : ℕ) → a + n ≡ m → flat_map f (range_with_len a (suc n)) ≡ flat_map f (range_with_len a n) ++ f m
one_more f a zero m is =
    let same : a ≡ m = omega (arith, is) in
    append-nil (f a) ∙ ap f same
one_more f a (suc n) m is =
    let next : a + 1 + n ≡ m = omega (arith, is) in
    ap (λ rest. f a ++ rest) (one_more f (a + 1) n m next) ∙ sym (append_assoc (f a) (flat_map f (range_with_len (a + 1) n)) (f m))

-- the same of a count that grows by one
pub grown : {A : Type 0} (f : ℕ → List A) (a n m : ℕ) → a + n ≡ m → flat_map f (range_with_len a (n + 1)) ≡ flat_map f (range_with_len a n) ++ f m
grown f a n m is =
    let same : n + 1 ≡ suc n = omega arith in
    rw same (one_more f a n m is)

-- a loop's text with the text of one number more
pub added : (f : ℕ → List ℕ) (a n m : ℕ) (front out new : List ℕ) → a + n ≡ m → out ≡ front ++ flat_map f (range_with_len a n) → new ≡ out ++ f m → new ≡ front ++ flat_map f (range_with_len a (n + 1))
added f a n m front out new is all one = rw (one, all, grown f a n m is) (append_assoc front (flat_map f (range_with_len a n)) (f m))

-- the lines of records, with three more lists of records behind them
pub three_added : (f : ℕ → List MadeRecord) (n : ℕ) (first second third : List MadeRecord) (front out one two three : List ℕ) → f n ≡ first ++ second ++ third → out ≡ front ++ record_lines (flat_map f (range_with_len 0 n)) → one ≡ out ++ record_lines first → two ≡ one ++ record_lines second → three ≡ two ++ record_lines third
    → three ≡ front ++ record_lines (flat_map f (range_with_len 0 (n + 1)))
three_added f n first second third front out one two three is all a b c =
    let lines = record_lines (flat_map f (range_with_len 0 n)) in
    let number : 0 + n ≡ n = omega arith in
    let parts : record_lines (f n) ≡ record_lines first ++ record_lines second ++ record_lines third = ap record_lines is ∙ flat_map-append record_line (first ++ second) third ∙ ap (λ front. front ++ record_lines third) (flat_map-append record_line first second) in
    let whole : record_lines (flat_map f (range_with_len 0 (n + 1))) ≡ lines ++ record_lines (f n) = ap record_lines (grown f 0 n n number) ∙ flat_map-append record_line (flat_map f (range_with_len 0 n)) (f n) in
    rw (c, b, a, all, whole, parts) (rw (append_assoc (front ++ lines ++ record_lines first) (record_lines second) (record_lines third), append_assoc (front ++ lines) (record_lines first) (record_lines second ++ record_lines third), append_assoc front lines (record_lines first ++ (record_lines second ++ record_lines third)), append_assoc (record_lines first) (record_lines second) (record_lines third)) refl)

-- five texts one behind another
pub five_texts : (a b c d e one two three four five : List ℕ) → one ≡ [] ++ a → two ≡ one ++ b → three ≡ two ++ c → four ≡ three ++ d → five ≡ four ++ e → five ≡ a ++ (b ++ (c ++ (d ++ e)))
five_texts a b c d e one two three four five is_one is_two is_three is_four is_five = rw (is_five, is_four, is_three, is_two, is_one, append_assoc (((a ++ b) ++ c)) d e, append_assoc (a ++ b) c (d ++ e), append_assoc a b (c ++ (d ++ e))) refl

-- what is appended, by names for both pieces
pub joined : (old piece new front back : List ℕ) → old ≡ front → piece ≡ back → new ≡ old ++ piece → new ≡ front ++ back
joined old piece new front back old_is piece_is is = rw (is, old_is, piece_is) refl
